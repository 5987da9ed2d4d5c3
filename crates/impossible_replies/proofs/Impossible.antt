-- No impossible reply comes, and a started app's writes show at and below its root alone.
use Rattle.std.proofs.Common.{◌≡◌, ◌⊎◌, inl, inr, ℕ, Bool, true, false, not, ◌&&◌, ◌||◌, cond, Some, None, List, [], ◌∷◌, ◌++◌, refl, sym, ap, subst, ◌∙◌}
use Rattle.plain_laws.proofs.Booleans.{clash}
use Rattle.dir_model.specs.declared.area.Area.{Area}
use Rattle.dir_model.specs.declared.area.Area.TheVariants as area
use Rattle.dir_model.specs.declared.spot.Spot.{Spot}
use Rattle.dir_model.specs.declared.event.Event.{Event}
use Rattle.dir_model.specs.declared.request.DirError.{DirError}
use Rattle.dir_model.specs.declared.request.DirError.TheVariants.{Missing, Exists, NotEmpty, Locked, Failed, NoMemory}
use Rattle.dir_model.specs.declared.request.Request.{Request}
use Rattle.dir_model.specs.declared.request.Request.TheVariants.{Begin, Kill, MoveFolder, ListIn, ReadIn, MakeDirIn, MakeFileIn, AppendIn, SyncIn, RemoveFileIn, RemoveDirIn, RemoveFolder}
use Rattle.dir_model.specs.declared.request.Reply.{Reply}
use Rattle.dir_model.specs.declared.request.Reply.TheVariants.{Refused}
use Rattle.dir_model.specs.Areas.{is_stage}
use Rattle.dir_model.specs.Paths.{is_well_formed}
use Rattle.dir_model.specs.State.{DirState, stands}
use Rattle.dir_model.specs.Trace.{state_after}
use Rattle.dir_model.specs.Replies.{is_reply, is_any_reply, is_state_reply, is_apps_request, is_error, may_refuse}
use Rattle.dir_model.specs.Calls.{is_begin, is_kill}
use Rattle.dir_model.proofs.Lists.{and_left, and_right, and_false as and_none, or_last}
use Rattle.dir_rules.specs.declared.seen.Seen.{Seen}
use Rattle.dir_rules.specs.Seen.{makes_at}
use Rattle.dir_rules.specs.Standing.{is_in, is_garbage, intends, began_as, is_maker, is_remover, excludes_area}
use Rattle.dir_rules.specs.LockRules.{locks_allow_move}
use Rattle.dir_rules.specs.Rules.{allows, contents_allow_move, has_done, is_whole_pod, is_all_done, of_making, is_item_shown, is_file_item}
use Rattle.dir_rules.specs.Anomalies.{folder_of, is_its_own, is_its_folder, owns_at, knows_folder, is_store, is_import_again, is_place_error, is_gone_error, is_removal, meets_app, loses_embryo, loses_own, loses_directory, meets_another, shows_long, is_foreign_write, is_impossible_reply}
use Rattle.dir_rules.specs.Conforms.{seen_of}
use Rattle.lifecycle.specs.Executions.{IsConforming}
use Rattle.folder_contents.proofs.Along.{conforming_to}
use Rattle.folder_contents.proofs.Handed.{brought, asked}
use Rattle.folder_contents.proofs.Guards.{kinds_apart, no_remover}
use Rattle.impossible_replies.specs.Replies.{NoneIsImpossible, ForeignWritesAreApps, is_of_making}
use Rattle.impossible_replies.proofs.Alongside.{Steps}
use Rattle.impossible_replies.proofs.Apps.{making_plain}
use Rattle.impossible_replies.proofs.Refusals.{told, missed}
use Rattle.impossible_replies.proofs.Meetings.{no_meeting}
use Rattle.impossible_replies.proofs.Makers.{its_own}
use Rattle.impossible_replies.proofs.MakersReplies.{formed, each_step, embryo_stays, none_met}
use Rattle.impossible_replies.proofs.LongItems.{none_long}
use Rattle.impossible_replies.proofs.Told.{Told}
use Rattle.impossible_replies.proofs.Deletions.{all_told}
use Rattle.impossible_replies.proofs.Removals.{removal_fine, directory_found}
use Rattle.impossible_replies.proofs.Incoming.{Known, all_known, deleted_stands}
use Rattle.impossible_replies.proofs.Citing.{is_building, building_its}
use Rattle.impossible_replies.proofs.Movers.{starts}
use Rattle.impossible_replies.proofs.Brought.{no_starter, brought_as, owned_at}
use Rattle.impossible_replies.proofs.Noting.{is_noting, noting_plain, noting_fine}

module _ (h : List Event) (p : ℕ) (conforming : IsConforming h) (known : Known (state_after h) p (seen_of p h)) (knows : Told (state_after h) p (seen_of p h)) where
  abbrev s : Seen
  s = seen_of p h

  abbrev st : DirState
  st = state_after h

  -- a move of what it owns or deletes, and doesn't make
  no_move : (from to : Spot) (error : DirError) (left : ℕ) → makes_at s.making from ≡ false → is_its_own s from ≡ true → allows s (MoveFolder from to) ≡ true →
      is_reply st p (MoveFolder from to) (Refused error left) ≡ true → is_place_error error ≡ true → ⊥
  no_move from to error left stranger its may is place =
      by from.area to.area refl refl (brought s from to may) (asked s from to may)
    where
      owns : is_garbage from.area ≡ false → is_store from.area ≡ false → owns_at s.standing from ≡ true
      owns a b = owned_at s from its stranger a b

      remover : is_garbage from.area ≡ false → is_store from.area ≡ false → began_as is_remover s.standing ≡ true → ⊥
      remover a b began = kinds (brought_as h p conforming from (owns a b) a)
        where
          kinds : ((is_in area.Run from.area ≡ true) × (intends (λ i. starts i.kind) s.standing.intent ≡ true)) ⊎
              ((is_in area.Prepare from.area ≡ true) × (intends (λ i. is_maker i.kind) s.standing.intent ≡ true)) → ⊥
          kinds (inl k) = kinds_apart starts is_remover no_starter s.standing.intent k.1 began
          kinds (inr k) = kinds_apart is_maker is_remover no_remover s.standing.intent k.1 began

      elsewhere : (x y : Area) → from.area ≡ x → is_garbage x ≡ false → is_store x ≡ false → is_in area.Run x ≡ false → is_in area.Prepare x ≡ false → ⊥
      elsewhere x y e a b c d = kinds (brought_as h p conforming from (owns (ap is_garbage e ∙ a) (ap is_store e ∙ b)) (ap is_garbage e ∙ a))
        where
          kinds : ((is_in area.Run from.area ≡ true) × (intends (λ i. starts i.kind) s.standing.intent ≡ true)) ⊎
              ((is_in area.Prepare from.area ≡ true) × (intends (λ i. is_maker i.kind) s.standing.intent ≡ true)) → ⊥
          kinds (inl k) = clash (is_in area.Run from.area) k.0 (ap (is_in area.Run) e ∙ c)
          kinds (inr k) = clash (is_in area.Prepare from.area) k.0 (ap (is_in area.Prepare) e ∙ d)

      deleted : from.area ≡ area.Incoming → knows_folder s from ≡ true
      deleted e = pick (makes_at s.making from) (is_garbage from.area) (owns_at s.standing from) (knows_folder s from) (is_store from.area) (excludes_area from.area s.standing)
          stranger (owned (owns_at s.standing from) refl) its
        where
          pick : (m g o k t c : Bool) → m ≡ false → o ≡ false → (m || ((not g && o) || (k && ((g && o) || (t && c))))) ≡ true → k ≡ true
          pick false g false true t c e f h = refl
          pick false true false false t c e f h = cc
          pick false false false false t c e f h = cc
          pick true g o k t c e f h = cc
          pick m g true k t c e f h = cc

          owned : (o : Bool) → owns_at s.standing from ≡ o → o ≡ false
          owned false f = refl
          owned true f = absurd (kinds (brought_as h p conforming from f (ap is_garbage e)))
            where
              kinds : ((is_in area.Run from.area ≡ true) × (intends (λ i. starts i.kind) s.standing.intent ≡ true)) ⊎
                  ((is_in area.Prepare from.area ≡ true) × (intends (λ i. is_maker i.kind) s.standing.intent ≡ true)) → ⊥
              kinds (inl k) = clash (is_in area.Run from.area) k.0 (ap (is_in area.Run) e)
              kinds (inr k) = clash (is_in area.Prepare from.area) k.0 (ap (is_in area.Prepare) e)

      put_away : from.area ≡ area.Incoming → to.area ≡ area.Removed → (x : DirError) → x ≡ error → ⊥
      put_away e f Missing g = clash (stands st.namespace from) (deleted_stands h conforming p known from e (deleted e))
          (missed st p from to left (subst (λ (x : DirError). is_reply st p (MoveFolder from to) (Refused x left) ≡ true) (sym g) is))
      put_away e f Exists g = clash (is_stage from.area || is_in area.Removed to.area)
          (or_last (is_stage from.area) (is_in area.Removed to.area) (ap (is_in area.Removed) f))
          (no_meeting h conforming p (MoveFolder from to) (Refused Exists left) may (subst (λ (x : DirError). is_reply st p (MoveFolder from to) (Refused x left) ≡ true) (sym g) is))
      put_away e f NotEmpty g = by (stands st.namespace from) (stands st.namespace to)
          (told st p (MoveFolder from to) NotEmpty left refl refl refl (subst (λ (x : DirError). is_reply st p (MoveFolder from to) (Refused x left) ≡ true) (sym g) is))
        where
          by : (a b : Bool) → is_error NotEmpty (cond a (cond b (Some Exists) None) (Some Missing)) ≡ true → ⊥
          by true true h = cc
          by true false h = cc
          by false b h = cc
      put_away e f Locked g = clash (is_place_error error) place (ap is_place_error (sym g))
      put_away e f Failed g = clash (is_place_error error) place (ap is_place_error (sym g))
      put_away e f NoMemory g = clash (is_place_error error) place (ap is_place_error (sym g))

      by : (a b : Area) → from.area ≡ a → to.area ≡ b → contents_allow_move s from to a b ≡ true → (is_stage a ≡ true → locks_allow_move s.standing from.name a b ≡ true) → ⊥
      by area.Embryo b e f bring ask = elsewhere area.Embryo b e refl refl refl refl
      by area.Prepare area.Prepared e f bring ask = clash (makes_at s.making from) (and_left (makes_at s.making from) (of_making is_whole_pod s.making) bring) stranger
      by area.Prepare area.Run e f bring ask = clash (makes_at s.making from) (and_left (makes_at s.making from) (of_making is_whole_pod s.making) bring) stranger
      by area.Prepare area.Garbage e f bring ask = remover (ap is_garbage e) (ap is_store e) (and_left (began_as is_remover s.standing) _ (ask refl))
      by area.Prepare b e f bring ask = cc
      by area.Prepared b e f bring ask = elsewhere area.Prepared b e refl refl refl refl
      by area.Run area.ExitedGarbage e f bring ask = remover (ap is_garbage e) (ap is_store e) (and_left (began_as is_remover s.standing) _ (ask refl))
      by area.Run b e f bring ask = cc
      by area.Incoming area.Images e f bring ask =
          clash (makes_at s.making from) (and_left (makes_at s.making from) (of_making is_all_done s.making) (and_left (has_done is_all_done s from) s.image_under_lock bring)) stranger
      by area.Incoming area.Removed e f bring ask = put_away e f error refl
      by area.Incoming b e f bring ask = cc
      by area.Images b e f bring ask = elsewhere area.Images b e refl refl refl refl
      by a b e f bring ask = cc

  no_loss : (request : Request) (reply : Reply) → Steps h p request reply → is_well_formed request ≡ true → is_apps_request st request ≡ false →
      loses_own s request reply ≡ false
  no_loss request reply x formed plain = by (is_of_making s (folder_of request)) refl
    where
      change : (request : Request) (error : DirError) (left : ℕ) → Steps h p request (Refused error left) → is_well_formed request ≡ true →
          is_apps_request st request ≡ false → is_of_making s (folder_of request) ≡ false → is_place_error error ≡ true →
          is_its_folder s (folder_of request) ≡ true → (is_noting request ≡ false → is_building request ≡ true) → ⊥
      change request error left x formed plain off place its builds = on (is_noting request) refl
        where
          on : (b : Bool) → is_noting request ≡ b → ⊥
          on true e = noting_fine h p x.conforming x.living request error left e plain formed x.may x.is place its
          on false e = clash (is_of_making s (folder_of request)) (building_its s request (builds e) x.may) off

      refused : (request : Request) (error : DirError) (left : ℕ) → Steps h p request (Refused error left) → is_well_formed request ≡ true →
          is_apps_request st request ≡ false → is_of_making s (folder_of request) ≡ false → is_place_error error ≡ true →
          is_its_folder s (folder_of request) ≡ true → ⊥
      refused (MoveFolder from to) error left x formed plain off place its = no_move from to error left off its x.may x.is place
      refused (RemoveFileIn i) error left x formed plain off place its = removal_fine h p knows conforming (RemoveFileIn i) error left refl plain x.may x.is place
      refused (RemoveDirIn i) error left x formed plain off place its = removal_fine h p knows conforming (RemoveDirIn i) error left refl plain x.may x.is place
      refused (RemoveFolder spot) error left x formed plain off place its = removal_fine h p knows conforming (RemoveFolder spot) error left refl plain x.may x.is place
      refused (MakeDirIn i) error left x formed plain off place its = change (MakeDirIn i) error left x formed plain off place its (λ e. refl)
      refused (MakeFileIn i) error left x formed plain off place its = change (MakeFileIn i) error left x formed plain off place its (λ e. ap not e)
      refused (AppendIn i piece) error left x formed plain off place its = change (AppendIn i piece) error left x formed plain off place its (λ e. ap not e)
      refused (SyncIn i) error left x formed plain off place its = change (SyncIn i) error left x formed plain off place its (λ e. ap not e)
      refused request error left x formed plain off place its = cc

      other : (reply : Reply) → Steps h p request reply → is_of_making s (folder_of request) ≡ false → loses_own s request reply ≡ false
      other (Refused error left) x off = at (is_place_error error) (is_its_folder s (folder_of request)) refl refl
        where
          at : (a b : Bool) → is_place_error error ≡ a → is_its_folder s (folder_of request) ≡ b → (a && (b && not (is_import_again request error))) ≡ false
          at false b e f = refl
          at true false e f = refl
          at true true e f = absurd (refused request error left x formed plain off e f)
      other reply x off = refl

      by : (b : Bool) → is_of_making s (folder_of request) ≡ b → loses_own s request reply ≡ false
      by true e = its_own h p conforming x.living request reply e plain formed x.may x.is
      by false e = other reply x e

-- a removal at or below a started app's root
app_removal : (st : DirState) (p : ℕ) (s : Seen) (request : Request) (reply : Reply) → is_removal request ≡ true → is_apps_request st request ≡ true →
    is_reply st p request reply ≡ true → is_impossible_reply st s request reply ≡ false
app_removal st p s (RemoveFileIn i) (Refused error left) on own is = by error is
  where
    replied : (error : DirError) → is_reply st p (RemoveFileIn i) (Refused error left) ≡ true → may_refuse (RemoveFileIn i) error ≡ true
    replied error is = and_left (may_refuse (RemoveFileIn i) error) _
        (sym (ap (λ b. cond b (is_any_reply st p (RemoveFileIn i) (Refused error left)) (is_state_reply st p (RemoveFileIn i) (Refused error left))) own) ∙ is)

    by : (error : DirError) → is_reply st p (RemoveFileIn i) (Refused error left) ≡ true → is_impossible_reply st s (RemoveFileIn i) (Refused error left) ≡ false
    by Missing is = ap (λ b. not ((true && b) || (false || false)) && (false || (false || loses_own s (RemoveFileIn i) (Refused Missing left)))) own
    by Exists is = clash false (replied Exists is) refl
    by NotEmpty is = clash false (replied NotEmpty is) refl
    by Locked is = clash false (replied Locked is) refl
    by Failed is = and_none (not (is_foreign_write st s (RemoveFileIn i) (Refused Failed left)))
    by NoMemory is = and_none (not (is_foreign_write st s (RemoveFileIn i) (Refused NoMemory left)))
app_removal st p s (RemoveDirIn i) (Refused error left) on own is = by error is
  where
    replied : (error : DirError) → is_reply st p (RemoveDirIn i) (Refused error left) ≡ true → may_refuse (RemoveDirIn i) error ≡ true
    replied error is = and_left (may_refuse (RemoveDirIn i) error) _
        (sym (ap (λ b. cond b (is_any_reply st p (RemoveDirIn i) (Refused error left)) (is_state_reply st p (RemoveDirIn i) (Refused error left))) own) ∙ is)

    by : (error : DirError) → is_reply st p (RemoveDirIn i) (Refused error left) ≡ true → is_impossible_reply st s (RemoveDirIn i) (Refused error left) ≡ false
    by Missing is = ap (λ b. not ((true && b) || (false || false)) && (false || (false || loses_own s (RemoveDirIn i) (Refused Missing left)))) own
    by Exists is = clash false (replied Exists is) refl
    by NotEmpty is = ap (λ b. not ((true && b) || (false || false)) && (false || (false || loses_own s (RemoveDirIn i) (Refused NotEmpty left)))) own
    by Locked is = clash false (replied Locked is) refl
    by Failed is = and_none (not (is_foreign_write st s (RemoveDirIn i) (Refused Failed left)))
    by NoMemory is = and_none (not (is_foreign_write st s (RemoveDirIn i) (Refused NoMemory left)))
app_removal st p s (RemoveFileIn i) reply on own is = and_none (not (is_foreign_write st s (RemoveFileIn i) reply))
app_removal st p s (RemoveDirIn i) reply on own is = and_none (not (is_foreign_write st s (RemoveDirIn i) reply))
app_removal st p s request reply on own is = cc

-- at and below a started app's root nothing is asked for but looks and removals
app_reply : (h : List Event) (p : ℕ) (request : Request) (reply : Reply) → Steps h p request reply → is_apps_request (state_after h) request ≡ true →
    is_impossible_reply (state_after h) (seen_of p h) request reply ≡ false
app_reply h p request reply x own = by request reply x own
  where
    s : Seen
    s = seen_of p h

    changed : (request : Request) (reply : Reply) → Steps h p request reply → is_apps_request (state_after h) request ≡ true →
        (is_noting request ≡ false → is_building request ≡ true) → is_impossible_reply (state_after h) s request reply ≡ false
    changed request reply x own builds = on (is_noting request) refl
      where
        on : (b : Bool) → is_noting request ≡ b → is_impossible_reply (state_after h) s request reply ≡ false
        on true e = clash (is_apps_request (state_after h) request) own (noting_plain h p x.conforming request e x.may)
        on false e = clash (is_apps_request (state_after h) request) own (making_plain h x.conforming s request (building_its s request (builds e) x.may))

    looked : (f a : Bool) → (not f && (false || (false || (a && false)))) ≡ false
    looked true a = refl
    looked false true = refl
    looked false false = refl

    by : (request : Request) (reply : Reply) → Steps h p request reply → is_apps_request (state_after h) request ≡ true →
        is_impossible_reply (state_after h) s request reply ≡ false
    by (RemoveFileIn i) reply x own = app_removal (state_after h) p s (RemoveFileIn i) reply refl own x.is
    by (RemoveDirIn i) reply x own = app_removal (state_after h) p s (RemoveDirIn i) reply refl own x.is
    by (MakeDirIn i) reply x own = changed (MakeDirIn i) reply x own (λ e. refl)
    by (MakeFileIn i) reply x own = changed (MakeFileIn i) reply x own (λ e. ap not e)
    by (AppendIn i piece) reply x own = changed (AppendIn i piece) reply x own (λ e. ap not e)
    by (SyncIn i) reply x own = changed (SyncIn i) reply x own (λ e. ap not e)
    by (ListIn i) (Refused error left) x own = looked (is_foreign_write (state_after h) s (ListIn i) (Refused error left)) (is_place_error error)
    by (ListIn i) reply x own = and_none (not (is_foreign_write (state_after h) s (ListIn i) reply))
    by (ReadIn i at room) (Refused error left) x own = looked (is_foreign_write (state_after h) s (ReadIn i at room) (Refused error left)) (is_place_error error)
    by (ReadIn i at room) reply x own = and_none (not (is_foreign_write (state_after h) s (ReadIn i at room) reply))
    by request reply x own = cc

all_false : (f a b c : Bool) → a ≡ false → b ≡ false → c ≡ false → (not f && (a || (b || c))) ≡ false
all_false f false false false e g h = and_none (not f)
all_false f true b c e g h = cc
all_false f false true c e g h = cc
all_false f false false true e g h = cc

-- a begin and a kill are never answered so
idle_lost : (s : Seen) (request : Request) (reply : Reply) → (is_begin request || is_kill request) ≡ true → (loses_embryo s.standing request reply ≡ false) ×
    ((meets_another request reply ≡ false) × (loses_own s request reply ≡ false))
idle_lost s (Begin intent) (Refused error left) idle = (refl, (refl, and_none (is_place_error error)))
idle_lost s (Begin intent) reply idle = (refl, (refl, refl))
idle_lost s Kill (Refused error left) idle = (refl, (refl, and_none (is_place_error error)))
idle_lost s Kill reply idle = (refl, (refl, refl))
idle_lost s request reply idle = cc

pub possible : (h : List Event) (e : Event) → IsConforming (h ++ e ∷ []) → is_impossible_reply (state_after h) (seen_of e.process h) e.request e.reply ≡ false
possible h e c =
    each_step h e c (is_impossible_reply (state_after h) (seen_of e.process h) e.request e.reply ≡ false)
    idle (λ x. at (is_apps_request (state_after h) e.request) refl x)
  where
    all : loses_embryo (seen_of e.process h).standing e.request e.reply ≡ false → meets_another e.request e.reply ≡ false → loses_own (seen_of e.process h) e.request e.reply ≡ false →
        is_impossible_reply (state_after h) (seen_of e.process h) e.request e.reply ≡ false
    all a b d = all_false (is_foreign_write (state_after h) (seen_of e.process h) e.request e.reply)
        (loses_embryo (seen_of e.process h).standing e.request e.reply) (meets_another e.request e.reply) (loses_own (seen_of e.process h) e.request e.reply) a b d

    at : (b : Bool) → is_apps_request (state_after h) e.request ≡ b → Steps h e.process e.request e.reply →
        is_impossible_reply (state_after h) (seen_of e.process h) e.request e.reply ≡ false
    at true own x = app_reply h e.process e.request e.reply x own
    at false plain x =
        all (embryo_stays h e c) (none_met h e c)
        (no_loss h e.process x.conforming (all_known h x.conforming e.process x.living) (all_told h x.conforming e.process x.living) e.request e.reply x (formed h e c) plain)

    idle : (is_begin e.request || is_kill e.request) ≡ true → is_impossible_reply (state_after h) (seen_of e.process h) e.request e.reply ≡ false
    idle on = let l = idle_lost (seen_of e.process h) e.request e.reply on in all l.0 l.1.0 l.1.1

pub none_impossible : (trace : List Event) → IsConforming trace → NoneIsImpossible trace
none_impossible trace conforming before e later is alive = possible before e (conforming_to trace before e later conforming is)

-- a started app's writes
foreign_app : (h : List Event) (p : ℕ) (request : Request) (reply : Reply) → Steps h p request reply → Told (state_after h) p (seen_of p h) →
    is_foreign_write (state_after h) (seen_of p h) request reply ≡ true → is_apps_request (state_after h) request ≡ true
foreign_app h p request reply x knows foreign = by (is_apps_request (state_after h) request) refl
  where
    meets : (request : Request) (reply : Reply) → meets_app (state_after h) request reply ≡ true → is_apps_request (state_after h) request ≡ true
    meets request (Refused error left) m = and_right (is_removal request) (is_apps_request (state_after h) request) (and_right (is_gone_error error) (is_removal request && is_apps_request (state_after h) request) m)
    meets request reply m = cc

    lost : (request : Request) (reply : Reply) → is_apps_request (state_after h) request ≡ false → is_reply (state_after h) p request reply ≡ true →
        loses_directory (seen_of p h) request reply ≡ true → ⊥
    lost (ListIn inner) (Refused Missing left) plain is l =
        directory_found h p knows x.conforming inner left plain is (and_right _ (is_item_shown (λ k. not (is_file_item k)) inner (seen_of p h).items) l)
    lost (ListIn inner) (Refused Exists left) plain is l = cc
    lost (ListIn inner) (Refused NotEmpty left) plain is l = cc
    lost (ListIn inner) (Refused Locked left) plain is l = cc
    lost (ListIn inner) (Refused Failed left) plain is l = cc
    lost (ListIn inner) (Refused NoMemory left) plain is l = cc
    lost (ListIn inner) reply plain is l = cc
    lost request reply plain is l = cc

    by : (b : Bool) → is_apps_request (state_after h) request ≡ b → b ≡ true
    by true e = refl
    by false e = three (meets_app (state_after h) request reply) (loses_directory (seen_of p h) request reply) refl refl foreign
      where
        three : (m d : Bool) → meets_app (state_after h) request reply ≡ m → loses_directory (seen_of p h) request reply ≡ d → (m || (d || shows_long request reply)) ≡ true → false ≡ true
        three true d f g k = clash (is_apps_request (state_after h) request) (meets request reply f) e
        three false true f g k = absurd (lost request reply e x.is g)
        three false false f g k = clash (shows_long request reply) k (none_long h p request reply x.conforming e x.is)

idle_foreign : (st : DirState) (s : Seen) (request : Request) (reply : Reply) → (is_begin request || is_kill request) ≡ true → is_foreign_write st s request reply ≡ false
idle_foreign st s (Begin intent) (Refused error left) idle = ap (λ b. b || (false || false)) (and_none (is_gone_error error))
idle_foreign st s (Begin intent) reply idle = refl
idle_foreign st s Kill (Refused error left) idle = ap (λ b. b || (false || false)) (and_none (is_gone_error error))
idle_foreign st s Kill reply idle = refl
idle_foreign st s request reply idle = cc

pub foreign_is_apps : (h : List Event) (e : Event) → IsConforming (h ++ e ∷ []) → is_foreign_write (state_after h) (seen_of e.process h) e.request e.reply ≡ true →
    is_apps_request (state_after h) e.request ≡ true
foreign_is_apps h e c foreign =
    each_step h e c (is_apps_request (state_after h) e.request ≡ true)
    (λ idle. clash (is_foreign_write (state_after h) (seen_of e.process h) e.request e.reply) foreign
    (idle_foreign (state_after h) (seen_of e.process h) e.request e.reply idle))
    (λ x. foreign_app h e.process e.request e.reply x (all_told h x.conforming e.process x.living) foreign)

pub foreign_are_apps : (trace : List Event) → IsConforming trace → ForeignWritesAreApps trace
foreign_are_apps trace conforming before e later is alive foreign = foreign_is_apps before e (conforming_to trace before e later conforming is) foreign
