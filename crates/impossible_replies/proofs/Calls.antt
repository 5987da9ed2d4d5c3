-- What the proofs of calls rest on: how a call's own step isn't answered where the history afterwards conforms.
use Rattle.std.proofs.Common.{◌≡◌, ◌⊎◌, inl, inr, ℕ, Bool, true, false, not, ◌&&◌, ◌||◌, ◌==◌, cond, bytes_eq, Some, List, [], ◌∷◌, ◌++◌, refl, sym, ap, subst, ◌∙◌}
use Rattle.std.proofs.lemmas.Bool.{or_left, and_parts}
use Rattle.plain_laws.proofs.Booleans.{clash}
use Rattle.plain_laws.proofs.Texts.{same_text}
use Rattle.dir_model.specs.declared.area.Area.{Area}
use Rattle.dir_model.specs.declared.area.Area.TheVariants as area
use Rattle.dir_model.specs.declared.event.Event.{Event}
use Rattle.dir_model.specs.declared.spot.Spot.{Spot}
use Rattle.dir_model.specs.declared.spot.Which.TheVariants as which
use Rattle.dir_model.specs.declared.request.DirError.{DirError}
use Rattle.dir_model.specs.declared.request.DirError.TheVariants.{Missing, Exists, NotEmpty, Locked, Failed, NoMemory}
use Rattle.dir_model.specs.declared.request.Request.{Request}
use Rattle.dir_model.specs.declared.request.Request.TheVariants.{MakeFolder, MoveFolder, Open, TryLock, MakeDirIn, MakeFileIn, AppendIn, SyncIn, RemoveFileIn, RemoveDirIn, RemoveFolder}
use Rattle.dir_model.specs.declared.request.Reply.{Reply}
use Rattle.dir_model.specs.declared.request.Reply.TheVariants.{Refused}
use Rattle.dir_model.specs.Areas.{is_stage}
use Rattle.dir_model.specs.State.{spot_eq}
use Rattle.dir_model.specs.Trace.{state_after}
use Rattle.dir_model.specs.Replies.{is_reply, is_any_reply, is_state_reply, is_apps_request, is_late_reply, is_fault, may_refuse}
use Rattle.dir_model.specs.Calls.{is_begin, is_kill, event, TookPlace, LeftNothing, CallStep}
use Rattle.dir_model.proofs.Lists.{and_left, and_right, and_both, and_false, or_last}
use Rattle.dir_model.proofs.Spots.{spot_self}
use Rattle.dir_rules.specs.declared.seen.Seen.{Seen}
use Rattle.dir_rules.specs.Seen.{makes_at}
use Rattle.dir_rules.specs.Standing.{is_in, is_garbage, is_own_held, holds_own, last_move_of}
use Rattle.dir_rules.specs.LockRules.{on_spot}
use Rattle.dir_rules.specs.Rules.{runs}
use Rattle.dir_rules.specs.Anomalies.{folder_of, is_its_folder, is_brought, is_opened_at, owns_at, is_removal, is_import_again, is_place_error, is_gone_error, loses_embryo, loses_own, meets_another, is_foreign_write}
use Rattle.dir_rules.specs.Conforms.{seen_of}
use Rattle.dir_rules.proofs.Tied.{meanwhile_unseen}
use Rattle.lifecycle.specs.Executions.{IsConforming}
use Rattle.lifecycle.proofs.Lists.{any_in, in_any}
use Rattle.folder_contents.proofs.Spots.{in_area}
use Rattle.impossible_replies.proofs.Alongside.{Steps, steps}
use Rattle.impossible_replies.proofs.Deletions.{all_told}
use Rattle.impossible_replies.proofs.Removals.{is_removal_request, removal_fine}
use Rattle.impossible_replies.proofs.Citing.{is_lost, too_late, late_refused}
use Rattle.impossible_replies.proofs.MakersReplies.{embryo_stays, none_met}
use Rattle.impossible_replies.proofs.Impossible.{possible, foreign_is_apps}
use Rattle.impossible_replies.proofs.Origins.{at}
use Rattle.impossible_replies.proofs.Runners.{last_run}

-- the folder that a process makes, and the pod that it runs, are its own
pub makes_its : (s : Seen) (spot : Spot) → makes_at s.making spot ≡ true → is_its_folder s (Some spot) ≡ true
makes_its s spot makes = or_left (makes_at s.making spot) _ makes

pub runs_its : (s : Seen) (spot : Spot) → spot.area ≡ area.Run → runs s spot.name ≡ true → is_its_folder s (Some spot) ≡ true
runs_its s spot run r =
    or_last (makes_at s.making spot) _ (or_left (not (is_garbage spot.area) && owns_at s.standing spot) _
    (and_both (not (is_garbage spot.area)) (owns_at s.standing spot) (ap (λ (a : Area). not (is_garbage a)) run) owns))
  where
    x : (holds_own spot.name s.standing ≡ true) × (on_spot (λ here. is_in area.Run here.area) (last_move_of spot.name s.standing.moves) ≡ true)
    x = and_parts (holds_own spot.name s.standing) (on_spot (λ here. is_in area.Run here.area) (last_move_of spot.name s.standing.moves)) r

    brought : is_brought s.standing spot ≡ true
    brought =
        let z = last_run s spot.name x.1 in
        let same : z.0 ≡ spot = ap (λ (a : Area). at a z.0.name) (sym (in_area area.Run z.0.area z.1.1.0) ∙ sym run)
        ∙ ap (λ (l : List ℕ). at spot.area l) (same_text z.0.name spot.name (and_right (is_stage z.0.area) (bytes_eq z.0.name spot.name) z.1.1.1.1)) in
        and_both (is_in area.Prepare spot.area || is_in area.Run spot.area) (on_spot (spot_eq spot) (last_move_of spot.name s.standing.moves))
        (ap (λ (a : Area). is_in area.Prepare a || is_in area.Run a) run)
        (ap (on_spot (spot_eq spot)) z.1.0 ∙ (ap (spot_eq spot) same ∙ spot_self spot))

    owns : owns_at s.standing spot ≡ true
    owns =
        let y = any_in (is_own_held spot.name) s.standing.holdings x.0 in
        in_any (λ h. is_own_held spot.name h && (is_brought s.standing spot || is_opened_at spot h.target)) y.0 s.standing.holdings y.1.0
        (and_both (is_own_held spot.name y.0) (is_brought s.standing spot || is_opened_at spot y.0.target) y.1.1
        (or_left (is_brought s.standing spot) (is_opened_at spot y.0.target) brought))

-- the call's own step, in the history
record Step (me : ℕ) (old : List Event) (request : Request) (reply : Reply) (new : List Event) : Type 0 where
  pub before : List Event
  pub grown : new ≡ before ++ event me request reply ∷ []
  pub knew : seen_of me before ≡ seen_of me old

stepped : {me : ℕ} {old new : List Event} (request : Request) (reply : Reply) → CallStep me old request reply new → (is_late_reply request reply ≡ true → ⊥) →
    Step me old request reply new
stepped {me} {old} {new} request reply call told = by call.own
  where
    by : TookPlace call.before me request reply new ⊎ LeftNothing call.before me request reply new → Step me old request reply new
    by (inl took) = record { before = call.before; grown = took.grown; knew = meanwhile_unseen call.meanwhile }
    by (inr left) = absurd (told left.late)

no_late : (request : Request) (error : DirError) (left : ℕ) → is_fault error ≡ false → is_late_reply request (Refused error left) ≡ true → ⊥
no_late request error left told late =
    clash (is_fault error) (and_left (is_fault error) (may_refuse request error) (and_right (left == 0) (is_fault error && may_refuse request error) (late_refused request error left late))) told

meeting_told : (request : Request) (reply : Reply) → meets_another request reply ≡ true → is_late_reply request reply ≡ true → ⊥
meeting_told (MoveFolder from to) (Refused Exists left) meets late = no_late (MoveFolder from to) Exists left refl late
meeting_told (MoveFolder from to) (Refused Missing left) meets late = cc
meeting_told (MoveFolder from to) (Refused NotEmpty left) meets late = cc
meeting_told (MoveFolder from to) (Refused Locked left) meets late = cc
meeting_told (MoveFolder from to) (Refused Failed left) meets late = cc
meeting_told (MoveFolder from to) (Refused NoMemory left) meets late = cc
meeting_told (MoveFolder from to) reply meets late = cc
meeting_told (MakeFolder spot) (Refused Exists left) meets late = no_late (MakeFolder spot) Exists left refl late
meeting_told (MakeFolder spot) (Refused Missing left) meets late = cc
meeting_told (MakeFolder spot) (Refused NotEmpty left) meets late = cc
meeting_told (MakeFolder spot) (Refused Locked left) meets late = cc
meeting_told (MakeFolder spot) (Refused Failed left) meets late = cc
meeting_told (MakeFolder spot) (Refused NoMemory left) meets late = cc
meeting_told (MakeFolder spot) reply meets late = cc
meeting_told request reply meets late = cc

embryo_told : (s : Seen) (request : Request) (reply : Reply) → loses_embryo s.standing request reply ≡ true → is_late_reply request reply ≡ true → ⊥
embryo_told s (TryLock handle mode) (Refused Locked left) loses late = no_late (TryLock handle mode) Locked left refl late
embryo_told s (TryLock handle mode) (Refused Missing left) loses late = cc
embryo_told s (TryLock handle mode) (Refused Exists left) loses late = cc
embryo_told s (TryLock handle mode) (Refused NotEmpty left) loses late = cc
embryo_told s (TryLock handle mode) (Refused Failed left) loses late = cc
embryo_told s (TryLock handle mode) (Refused NoMemory left) loses late = cc
embryo_told s (TryLock handle mode) reply loses late = cc
embryo_told s (Open spot which.Own) (Refused Missing left) loses late = no_late (Open spot which.Own) Missing left refl late
embryo_told s (Open spot which.Own) (Refused Exists left) loses late = cc
embryo_told s (Open spot which.Own) (Refused NotEmpty left) loses late = cc
embryo_told s (Open spot which.Own) (Refused Locked left) loses late = cc
embryo_told s (Open spot which.Own) (Refused Failed left) loses late = cc
embryo_told s (Open spot which.Own) (Refused NoMemory left) loses late = cc
embryo_told s (Open spot which.Own) reply loses late = cc
embryo_told s (Open spot which.Claim) reply loses late = cc
embryo_told s request reply loses late = cc

-- no pod, no import and nothing that is put away meets another folder
pub never_meets : {me : ℕ} {old new : List Event} (request : Request) (reply : Reply) → CallStep me old request reply new → IsConforming new →
    meets_another request reply ≡ true → ⊥
never_meets {me} {old} {new} request reply call conforming meets =
    let x = stepped request reply call (meeting_told request reply meets) in
    clash (meets_another request reply) meets (none_met x.before (event me request reply) (subst IsConforming x.grown conforming))

-- no maker finds its embryo gone or locked
pub never_loses_embryo : {me : ℕ} {old new : List Event} (request : Request) (reply : Reply) → CallStep me old request reply new → IsConforming new →
    loses_embryo (seen_of me old).standing request reply ≡ true → ⊥
never_loses_embryo {me} {old} {new} request reply call conforming loses =
    let x = stepped request reply call (embryo_told (seen_of me old) request reply loses) in
    clash (loses_embryo (seen_of me old).standing request reply) loses
    (subst (λ (s : Seen). loses_embryo s.standing request reply ≡ false) x.knew
    (embryo_stays x.before (event me request reply) (subst IsConforming x.grown conforming)))

-- the step was at a started app's root, and its answer shows that the app writes there
pub record LostToApp (me : ℕ) (request : Request) (reply : Reply) (new : List Event) : Type 0 where
  pub before : List Event
  pub grown : new ≡ before ++ event me request reply ∷ []
  pub foreign : is_foreign_write (state_after before) (seen_of me before) request reply ≡ true
  pub apps : is_apps_request (state_after before) request ≡ true

losing_its : (s : Seen) (request : Request) (reply : Reply) → is_lost request reply ≡ true → is_its_folder s (folder_of request) ≡ true → loses_own s request reply ≡ true
losing_its s request (Refused error left) lost its = two (is_place_error error) (is_import_again request error) (is_its_folder s (folder_of request)) lost its
  where
    two : (a b c : Bool) → (a && not b) ≡ true → c ≡ true → (a && (c && not b)) ≡ true
    two true false true x y = refl
    two a b c x y = cc
losing_its s request reply lost its = cc

-- what is the process's own isn't lost but to a started app
pub lost_to_app : {me : ℕ} {old new : List Event} (request : Request) (reply : Reply) → CallStep me old request reply new → IsConforming new →
    is_its_folder (seen_of me old) (folder_of request) ≡ true → is_lost request reply ≡ true → LostToApp me request reply new
lost_to_app {me} {old} {new} request reply call conforming its lost =
    let x = stepped request reply call (too_late request reply lost) in
    let own = losing_its (seen_of me x.before) request reply lost (subst (λ (s : Seen). is_its_folder s (folder_of request) ≡ true) (sym x.knew) its) in
    let foreign = shown (is_foreign_write (state_after x.before) (seen_of me x.before) request reply)
    (loses_embryo (seen_of me x.before).standing request reply) (meets_another request reply) (loses_own (seen_of me x.before) request reply) own
    (possible x.before (event me request reply) (subst IsConforming x.grown conforming)) in
    record {
      before = x.before;
      grown = x.grown;
      foreign = foreign;
      apps = foreign_is_apps x.before (event me request reply) (subst IsConforming x.grown conforming) foreign;
    }
  where
    shown : (f a b c : Bool) → c ≡ true → (not f && (a || (b || c))) ≡ false → f ≡ true
    shown true a b c e n = refl
    shown false true b true e n = cc
    shown false false true true e n = cc
    shown false false false true e n = cc
    shown false a b false e n = cc

-- so what isn't a removal isn't lost at all
pub never_lost_own : {me : ℕ} {old new : List Event} (request : Request) (reply : Reply) → CallStep me old request reply new → IsConforming new →
    is_removal request ≡ false → is_its_folder (seen_of me old) (folder_of request) ≡ true → is_lost request reply ≡ true → ⊥
never_lost_own {me} {old} {new} request reply call conforming keeps its lost =
    let x = lost_to_app request reply call conforming its lost in
    clash (is_foreign_write (state_after x.before) (seen_of me x.before) request reply) x.foreign (none x.before request reply keeps its lost)
  where
    none : (h : List Event) (request : Request) (reply : Reply) → is_removal request ≡ false → is_its_folder (seen_of me old) (folder_of request) ≡ true → is_lost request reply ≡ true →
        is_foreign_write (state_after h) (seen_of me h) request reply ≡ false
    none h (MoveFolder from to) (Refused error left) keeps its lost = ap (λ b. b || (false || false)) (and_false (is_gone_error error))
    none h (MakeDirIn i) (Refused error left) keeps its lost = ap (λ b. b || (false || false)) (and_false (is_gone_error error))
    none h (MakeFileIn i) (Refused error left) keeps its lost = ap (λ b. b || (false || false)) (and_false (is_gone_error error))
    none h (AppendIn i piece) (Refused error left) keeps its lost = ap (λ b. b || (false || false)) (and_false (is_gone_error error))
    none h (SyncIn i) (Refused error left) keeps its lost = ap (λ b. b || (false || false)) (and_false (is_gone_error error))
    none h (RemoveFolder spot) (Refused error left) keeps its lost = ap (λ b. b || (false || false)) (and_false (is_gone_error error))
    none h (RemoveFileIn i) (Refused error left) keeps its lost = cc
    none h (RemoveDirIn i) (Refused error left) keeps its lost = cc
    none h request (Refused error left) keeps its lost = cc
    none h request reply keeps its lost = cc

on_removal : (request : Request) → is_removal_request request ≡ true → (is_kill request ≡ false) × (is_begin request ≡ false)
on_removal (RemoveFileIn i) on = (refl, refl)
on_removal (RemoveDirIn i) on = (refl, refl)
on_removal (RemoveFolder spot) on = (refl, refl)
on_removal request on = cc

-- at a started app's root a removal is answered so, or that it was done, or by a fault
meets_root : (h : List Event) (p : ℕ) (request : Request) (error : DirError) (left : ℕ) → is_removal_request request ≡ true → is_apps_request (state_after h) request ≡ true →
    is_place_error error ≡ true → is_reply (state_after h) p request (Refused error left) ≡ true → is_foreign_write (state_after h) (seen_of p h) request (Refused error left) ≡ true
meets_root h p (RemoveFileIn i) error left on apps place is = by error place
    (and_left (may_refuse (RemoveFileIn i) error) _ (sym (ap (λ b. cond b (is_any_reply (state_after h) p (RemoveFileIn i) (Refused error left))
    (is_state_reply (state_after h) p (RemoveFileIn i) (Refused error left))) apps) ∙ is))
  where
    by : (error : DirError) → is_place_error error ≡ true → may_refuse (RemoveFileIn i) error ≡ true → is_foreign_write (state_after h) (seen_of p h) (RemoveFileIn i) (Refused error left) ≡ true
    by Missing place may = or_left (is_apps_request (state_after h) (RemoveFileIn i)) _ apps
    by error place may = cc
meets_root h p (RemoveDirIn i) error left on apps place is = by error place
    (and_left (may_refuse (RemoveDirIn i) error) _ (sym (ap (λ b. cond b (is_any_reply (state_after h) p (RemoveDirIn i) (Refused error left))
    (is_state_reply (state_after h) p (RemoveDirIn i) (Refused error left))) apps) ∙ is))
  where
    by : (error : DirError) → is_place_error error ≡ true → may_refuse (RemoveDirIn i) error ≡ true → is_foreign_write (state_after h) (seen_of p h) (RemoveDirIn i) (Refused error left) ≡ true
    by Missing place may = or_left (is_apps_request (state_after h) (RemoveDirIn i)) _ apps
    by NotEmpty place may = or_left (is_apps_request (state_after h) (RemoveDirIn i)) _ apps
    by error place may = cc
meets_root h p (RemoveFolder spot) error left on apps place is = cc
meets_root h p request error left on apps place is = cc

-- a removal, of whatever folder, is lost to a started app alone
pub removal_lost : {me : ℕ} {old new : List Event} (request : Request) (reply : Reply) → CallStep me old request reply new → IsConforming new →
    is_removal_request request ≡ true → is_lost request reply ≡ true → LostToApp me request reply new
removal_lost {me} {old} {new} request reply call conforming removes lost = by call.own
  where
    by : TookPlace call.before me request reply new ⊎ LeftNothing call.before me request reply new → LostToApp me request reply new
    by (inr left) = absurd (too_late request reply lost left.late)
    by (inl took) = own request reply (steps call.before (event me request reply) (subst IsConforming took.grown conforming) (on_removal request removes).0 (on_removal request removes).1) removes lost took.grown
      where
        own : (request : Request) (reply : Reply) → Steps call.before me request reply → is_removal_request request ≡ true → is_lost request reply ≡ true →
            new ≡ call.before ++ event me request reply ∷ [] → LostToApp me request reply new
        own request (Refused error left) x removes lost grown = at_root (is_apps_request (state_after call.before) request) refl
          where
            place : is_place_error error ≡ true
            place = and_left (is_place_error error) (not (is_import_again request error)) lost

            at_root : (b : Bool) → is_apps_request (state_after call.before) request ≡ b → LostToApp me request (Refused error left) new
            at_root false plain = absurd (removal_fine call.before me (all_told call.before x.conforming me x.living) x.conforming request error left removes plain x.may x.is place)
            at_root true apps = record {
              before = call.before;
              grown = grown;
              foreign = meets_root call.before me request error left removes apps place x.is;
              apps = apps;
            }
        own request reply x removes lost grown = cc
