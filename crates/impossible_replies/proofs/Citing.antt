-- What the calls of a maker rest on: between two times at which it only changes folders, no answer that loses its folder.
use Rattle.std.proofs.Common.{◌≡◌, ◌⊎◌, inl, inr, ℕ, Bool, true, false, not, ◌&&◌, ◌||◌, ◌==◌, cond, Option, Some, None, List, [], ◌∷◌, refl, sym, ap, subst, ◌∙◌}
use Rattle.std.specs.List.{AllByRecursion}
use Rattle.dir_model.specs.declared.area.Area.{Area}
use Rattle.dir_model.specs.declared.area.Area.TheVariants.{Run}
use Rattle.dir_model.specs.declared.event.Event.{Event}
use Rattle.dir_model.specs.declared.item.Inner.{Inner}
use Rattle.dir_model.specs.declared.spot.Spot.{Spot}
use Rattle.dir_model.specs.declared.request.DirError.{DirError}
use Rattle.dir_model.specs.declared.request.DirError.TheVariants.{Missing, Exists, NotEmpty}
use Rattle.dir_model.specs.declared.request.Request.{Request}
use Rattle.dir_model.specs.declared.request.Request.TheVariants.{MakeDirIn, MakeFileIn, AppendIn, SyncIn, Close, Finish}
use Rattle.dir_model.specs.declared.request.Reply.{Reply}
use Rattle.dir_model.specs.declared.request.Reply.TheVariants.{Done, Refused}
use Rattle.dir_model.specs.State.{spot_eq}
use Rattle.dir_model.specs.Replies.{is_late_reply, is_fault, may_refuse}
use Rattle.dir_model.specs.Calls.{is_foreign, is_kill, is_begin, event, Interference, TookPlace, LeftNothing, CallStep, Extends}
use Rattle.dir_model.proofs.Lists.{and_left, and_right}
use Rattle.dir_rules.specs.declared.seen.Making.{Making}
use Rattle.dir_rules.specs.declared.seen.Seen.{Seen}
use Rattle.dir_rules.specs.Seen.{makes_at, is_making_area, making_changed, spoilt, learned}
use Rattle.dir_rules.specs.Anomalies.{folder_of, is_place_error, is_import_again, is_its_folder, loses_own}
use Rattle.dir_rules.specs.Standing.{is_in}
use Rattle.dir_rules.specs.LockRules.{lock_rules_allow}
use Rattle.dir_rules.specs.Rules.{allows, content_rules_allow, makes_here, may_make_dir, may_make_file_in, may_append_in, may_sync_in, may_make_entry, may_sync_entry, of_making, has_file_among, spares_deleted_pod}
use Rattle.dir_rules.specs.Conforms.{seen_of, seen_after, seen_replied, seen_after_event, nothing_seen}
use Rattle.dir_rules.proofs.Tied.{seen_after-append}
use Rattle.lifecycle.specs.Executions.{IsConforming}
use Rattle.folder_contents.proofs.Untouched.{here_site}
use Rattle.impossible_replies.specs.Replies.{is_of_making}
use Rattle.impossible_replies.proofs.Alongside.{steps}
use Rattle.impossible_replies.proofs.MakersReplies.{none_lost}

-- a change inside a folder
abbrev pub is_change : Request → Bool
is_change (MakeDirIn inner) = true
is_change (MakeFileIn inner) = true
is_change (AppendIn inner piece) = true
is_change (SyncIn inner) = true
is_change request = false

-- an answer that a folder of one's own doesn't explain
abbrev pub is_lost : Request → Reply → Bool
is_lost request (Refused error left) = is_place_error error && not (is_import_again request error)
is_lost request reply = false

-- a change of a folder leaves which folder it makes
changed_keeps : (m : Option Making) (spot here : Spot) (change : Making → Making) → ((x : Making) → (change x).spot ≡ x.spot) →
    makes_at (making_changed here change m) spot ≡ makes_at m spot
changed_keeps None spot here change keeps = refl
changed_keeps (Some m) spot here change keeps = by (makes_at (Some m) here)
  where
    by : (b : Bool) → makes_at (cond b (Some (change m)) (Some m)) spot ≡ makes_at (Some m) spot
    by true = ap (λ (s : Spot). spot_eq s spot && is_making_area spot.area) (keeps m)
    by false = refl

learned_keeps : (s : Seen) (request : Request) (reply : Reply) (spot : Spot) → is_change request ≡ true →
    makes_at (learned s request reply).making spot ≡ makes_at s.making spot
learned_keeps s (MakeDirIn i) Done spot on = changed_keeps s.making spot i.spot _ (λ x. refl)
learned_keeps s (MakeDirIn i) (Refused error left) spot on = changed_keeps s.making spot i.spot spoilt (λ x. refl)
learned_keeps s (MakeDirIn i) reply spot on = refl
learned_keeps s (MakeFileIn i) Done spot on = changed_keeps s.making spot i.spot _ (λ x. refl)
learned_keeps s (MakeFileIn i) (Refused error left) spot on = changed_keeps s.making spot i.spot spoilt (λ x. refl)
learned_keeps s (MakeFileIn i) reply spot on = refl
learned_keeps s (AppendIn i piece) Done spot on = changed_keeps s.making spot i.spot _ (λ x. refl)
learned_keeps s (AppendIn i piece) (Refused error left) spot on = changed_keeps s.making spot i.spot spoilt (λ x. refl)
learned_keeps s (AppendIn i piece) reply spot on = refl
learned_keeps s (SyncIn i) Done spot on = changed_keeps s.making spot i.spot _ (λ x. refl)
learned_keeps s (SyncIn i) (Refused error left) spot on = changed_keeps s.making spot i.spot spoilt (λ x. refl)
learned_keeps s (SyncIn i) reply spot on = refl
learned_keeps s request reply spot on = cc

-- what is lost is told by the trace
no_fault : (error : DirError) (left : ℕ) (request : Request) → (is_place_error error && not (is_import_again request error)) ≡ true →
    ((left == 0) && (is_fault error && may_refuse request error)) ≡ true → ⊥
no_fault Missing left request lost late = false_fault (left == 0) late
  where
    false_fault : (b : Bool) → (b && false) ≡ true → ⊥
    false_fault true x = cc
    false_fault false x = cc
no_fault Exists left request lost late = false_fault (left == 0) late
  where
    false_fault : (b : Bool) → (b && false) ≡ true → ⊥
    false_fault true x = cc
    false_fault false x = cc
no_fault NotEmpty left request lost late = false_fault (left == 0) late
  where
    false_fault : (b : Bool) → (b && false) ≡ true → ⊥
    false_fault true x = cc
    false_fault false x = cc
no_fault error left request lost late = cc

losing : (s : Seen) (request : Request) (reply : Reply) → is_lost request reply ≡ true → is_of_making s (folder_of request) ≡ true → loses_own s request reply ≡ true
losing s request (Refused error left) lost makes = by (folder_of request) makes
  where
    two : (a b c : Bool) → (a && not b) ≡ true → c ≡ true → (a && (c && not b)) ≡ true
    two true false true x y = refl
    two a b c x y = cc

    its : (o : Option Spot) → is_of_making s o ≡ true → is_its_folder s o ≡ true
    its None x = cc
    its (Some here) x = cc

    by : (o : Option Spot) → is_of_making s o ≡ true → (is_place_error error && (is_its_folder s o && not (is_import_again request error))) ≡ true
    by o x = two (is_place_error error) (is_import_again request error) (is_its_folder s o) lost (its o x)
losing s request reply lost makes = cc

pub late_refused : (request : Request) (error : DirError) (left : ℕ) → is_late_reply request (Refused error left) ≡ true →
    ((left == 0) && (is_fault error && may_refuse request error)) ≡ true
late_refused (Close handle) error left l = l
late_refused Finish error left l = l
late_refused request error left l = l

pub too_late : (request : Request) (reply : Reply) → is_lost request reply ≡ true → is_late_reply request reply ≡ true → ⊥
too_late request (Refused error left) lost l = no_fault error left request lost (late_refused request error left l)
too_late request reply lost l = cc

module _ (me : ℕ) (spot : Spot) where
  kept : (s : Seen) (more : List Event) → AllByRecursion (λ e. (is_foreign me e || is_change e.request) ≡ true) more → makes_at s.making spot ≡ true →
      makes_at (seen_after me s more).making spot ≡ true
  kept s [] all makes = makes
  kept s (e ∷ es) all makes = kept (seen_after_event me s e) es all.1 (by (is_foreign me e) all.0)
    where
      by : (b : Bool) → (b || is_change e.request) ≡ true → makes_at (cond b s (seen_replied s e.request e.reply)).making spot ≡ true
      by true x = makes
      by false x = learned_keeps s e.request e.reply spot x ∙ makes

  foreign_change : (more : List Event) → AllByRecursion (λ e. is_foreign me e ≡ true) more → AllByRecursion (λ e. (is_foreign me e || is_change e.request) ≡ true) more
  foreign_change [] all = all
  foreign_change (e ∷ es) all = (by (is_foreign me e) all.0, foreign_change es all.1)
    where
      by : (b : Bool) → b ≡ true → (b || is_change e.request) ≡ true
      by true x = refl
      by false x = cc

  -- through calls that only change
  pub makes_still : {old new : List Event} → Extends is_change me old new → makes_at (seen_of me old).making spot ≡ true → makes_at (seen_of me new).making spot ≡ true
  makes_still {old} {new} x makes =
      subst (λ (h : List Event). makes_at (seen_of me h).making spot ≡ true) (sym x.grown)
      (subst (λ (s : Seen). makes_at s.making spot ≡ true) (sym (seen_after-append me nothing_seen old x.more)) (kept (seen_of me old) x.more x.asked makes))

  makes_meanwhile : {old new : List Event} → Interference me old new → makes_at (seen_of me old).making spot ≡ true → makes_at (seen_of me new).making spot ≡ true
  makes_meanwhile {old} {new} x makes =
      subst (λ (h : List Event). makes_at (seen_of me h).making spot ≡ true) (sym x.grown)
      (subst (λ (s : Seen). makes_at s.making spot ≡ true) (sym (seen_after-append me nothing_seen old x.others)) (kept (seen_of me old) x.others (foreign_change x.others x.foreign) makes))

  -- the call's own step isn't answered as if the folder that it makes weren't its own
  pub never_lost : {old new : List Event} (request : Request) (reply : Reply) → CallStep me old request reply new → IsConforming new →
      makes_at (seen_of me old).making spot ≡ true → folder_of request ≡ Some spot → is_lost request reply ≡ true → ⊥
  never_lost {old} {new} request reply call conforming makes about lost = by call.own
    where
      here : is_of_making (seen_of me call.before) (folder_of request) ≡ true
      here = ap (is_of_making (seen_of me call.before)) about ∙ makes_meanwhile call.meanwhile makes

      by : TookPlace call.before me request reply new ⊎ LeftNothing call.before me request reply new → ⊥
      by (inl took) =
          let own = none_lost call.before (event me request reply) (subst IsConforming took.grown conforming) here in
          apart (loses_own (seen_of me call.before) request reply) (losing (seen_of me call.before) request reply lost here) own
        where
          apart : (b : Bool) → b ≡ true → b ≡ false → ⊥
          apart b x y = cc
      by (inr left) = too_late request reply lost left.late

-- a change that only a folder's maker may ask for: anywhere but in run
abbrev pub is_building : Request → Bool
is_building (MakeDirIn inner) = true
is_building (MakeFileIn inner) = not (is_in Run inner.spot.area)
is_building (AppendIn inner piece) = not (is_in Run inner.spot.area)
is_building (SyncIn inner) = not (is_in Run inner.spot.area)
is_building request = false

file_area : (s : Seen) (i : Inner) (a : Area) → not (is_in Run a) ≡ true → may_make_file_in s i a ≡ true → makes_at s.making i.spot ≡ true
file_area s i Run off may = cc
file_area s i a off may = here_site s i.spot a (and_left (makes_here s i.spot a) (of_making (may_make_entry s true i) s.making) may)

append_area : (s : Seen) (i : Inner) (a : Area) → not (is_in Run a) ≡ true → may_append_in s i a ≡ true → makes_at s.making i.spot ≡ true
append_area s i Run off may = cc
append_area s i a off may = here_site s i.spot a (and_left (makes_here s i.spot a) (of_making (λ m. has_file_among i.path m.entries) s.making) may)

sync_area : (s : Seen) (i : Inner) (a : Area) → not (is_in Run a) ≡ true → may_sync_in s i a ≡ true → makes_at s.making i.spot ≡ true
sync_area s i Run off may = cc
sync_area s i a off may = here_site s i.spot a (and_left (makes_here s i.spot a) (of_making (may_sync_entry i) s.making) may)

-- what the rules allow of these is about the folder that the process makes
pub building_its : (s : Seen) (request : Request) → is_building request ≡ true → allows s request ≡ true → is_of_making s (folder_of request) ≡ true
building_its s (MakeDirIn i) on may =
    here_site s i.spot i.spot.area (and_left (makes_here s i.spot i.spot.area) _ (and_left (may_make_dir s i) (spares_deleted_pod s i)
    (and_right (lock_rules_allow s.standing (MakeDirIn i)) (content_rules_allow s (MakeDirIn i)) may)))
building_its s (MakeFileIn i) on may =
    file_area s i i.spot.area on (and_left (may_make_file_in s i i.spot.area) (spares_deleted_pod s i) (and_right (lock_rules_allow s.standing (MakeFileIn i)) (content_rules_allow s (MakeFileIn i)) may))
building_its s (AppendIn i piece) on may =
    append_area s i i.spot.area on (and_left (may_append_in s i i.spot.area) (spares_deleted_pod s i)
    (and_right (lock_rules_allow s.standing (AppendIn i piece)) (content_rules_allow s (AppendIn i piece)) may))
building_its s (SyncIn i) on may =
    sync_area s i i.spot.area on (and_left (may_sync_in s i i.spot.area) (spares_deleted_pod s i) (and_right (lock_rules_allow s.standing (SyncIn i)) (content_rules_allow s (SyncIn i)) may))
building_its s request on may = cc

on_change : (request : Request) → is_building request ≡ true → (is_kill request ≡ false) × (is_begin request ≡ false)
on_change (MakeDirIn i) on = (refl, refl)
on_change (MakeFileIn i) on = (refl, refl)
on_change (AppendIn i piece) on = (refl, refl)
on_change (SyncIn i) on = (refl, refl)
on_change request on = cc

-- so where the history conforms, no such call is answered as if the folder weren't its own
pub never_lost_change : {me : ℕ} {old new : List Event} (request : Request) (reply : Reply) → CallStep me old request reply new → IsConforming new →
    is_building request ≡ true → is_lost request reply ≡ true → ⊥
never_lost_change {me} {old} {new} request reply call conforming on lost = by call.own
  where
    by : TookPlace call.before me request reply new ⊎ LeftNothing call.before me request reply new → ⊥
    by (inl took) =
        let c = subst IsConforming took.grown conforming in
        let x = steps call.before (event me request reply) c (on_change request on).0 (on_change request on).1 in
        let its = building_its (seen_of me call.before) request on x.may in
        apart (loses_own (seen_of me call.before) request reply) (losing (seen_of me call.before) request reply lost its)
        (none_lost call.before (event me request reply) c its)
      where
        apart : (b : Bool) → b ≡ true → b ≡ false → ⊥
        apart b x y = cc
    by (inr left) = too_late request reply lost left.late
