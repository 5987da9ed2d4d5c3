-- Where nobody else steps, the folder whose lock was busy stood before where it may have been moved from, and the lock was held.
use Rattle.std.proofs.Common.{◌≡◌, ℕ, Bool, true, false, ◌&&◌, ◌||◌, cond, Option, Some, None, option_map, slice_get, get_or, List, refl, sym, ap, subst, ◌∙◌}
use Rattle.std.proofs.lemmas.List.Quantifiers.{position-Some}
use Rattle.std.proofs.lemmas.Option.{slice_get-map, slice_get-get_or}
use Rattle.plain_laws.proofs.Booleans.{or_nothing}
use Rattle.dir_model.specs.declared.area.Area.{Area}
use Rattle.dir_model.specs.declared.event.Event.{Event}
use Rattle.dir_model.specs.declared.pod.PodId.{PodId}
use Rattle.dir_model.specs.declared.spot.Spot.{Spot}
use Rattle.dir_model.specs.declared.spot.Which.{Which}
use Rattle.dir_model.specs.declared.request.Request.{Request}
use Rattle.dir_model.specs.declared.request.Request.TheVariants.{MakeFolder, MoveFolder, RemoveFolder}
use Rattle.dir_model.specs.declared.request.Reply.{Reply}
use Rattle.dir_model.specs.declared.request.Reply.TheVariants.{Done}
use Rattle.dir_model.specs.Areas.{is_stage}
use Rattle.dir_model.specs.Calls.{is_kill, Extends, AtOwnStep}
use Rattle.dir_model.specs.Locks.{is_folder, opposes}
use Rattle.dir_model.specs.Quiet.{Quiet}
use Rattle.dir_model.specs.State.{Namespace, DirState, is_at, spot_eq, folder_at}
use Rattle.dir_model.specs.Trace.{state_after, namespace_replied, moved, removed}
use Rattle.dir_model.proofs.Moments.{at_grown, at_weaker}
use Rattle.dir_model.specs.Spots.{pod_spot}
use Rattle.pod_locks.specs.ClaimCauses.{is_lock}
use Rattle.pod_locks.specs.Work.{Grew}
use Rattle.pod_locks.proofs.Times.{at_part}
use Rattle.pod_locks.proofs.Traces.{grown_more}
use Rattle.pod_gc.specs.RemovalCauses.{IsBusyAt}
use Rattle.commands.specs.RemovalQuiet.{IsHeldNow}
use Rattle.commands.proofs.OwnSteps.{in_process, back_at, same_folders, held_before}
use Rattle.commands.proofs.LateTurns.{Late}

-- folders are moved to such places from such alone
module _ (its_place : Spot → Bool) (alike : (a b : Spot) → spot_eq a b ≡ true → its_place a ≡ its_place b) (asks : Request → Bool) (l : Late asks) (moves : (from to : Spot) → asks (MoveFolder from to) ≡ true → its_place to ≡ true → its_place from ≡ true) (me : ℕ) where
  abbrev ItsFolder : ℕ → DirState → Type 0
  ItsFolder k s = (place : Spot) × (slice_get s.namespace.folders k ≡ Some (Some place)) × (its_place place ≡ true)

  moved_from : (from to place : Spot) (o : Option (Option Spot)) → (its_place to ≡ true → its_place from ≡ true) → option_map (moved from to) o ≡ Some (Some place) → its_place place ≡ true → (p : Spot) × (o ≡ Some (Some p)) × (its_place p ≡ true)
  moved_from from to place None source is here = cc
  moved_from from to place (Some None) source is here = cc
  moved_from from to place (Some (Some p)) source is here = by (spot_eq p from) refl is
    where
      by : (b : Bool) → spot_eq p from ≡ b → Some (cond b (Some to) (Some p)) ≡ Some (Some place) → (q : Spot) × (Some (Some p) ≡ Some (Some q)) × (its_place q ≡ true)
      by true same is = let arrived : to ≡ place = cc in (p, refl, alike p from same ∙ source (subst (λ (q : Spot). its_place q ≡ true) (sym arrived) here))
      by false apart is = let same : p ≡ place = cc in (p, refl, subst (λ (q : Spot). its_place q ≡ true) (sym same) here)

  removed_from : (gone place : Spot) (o : Option (Option Spot)) → option_map (removed gone) o ≡ Some (Some place) → o ≡ Some (Some place)
  removed_from gone place None is = cc
  removed_from gone place (Some None) is = cc
  removed_from gone place (Some (Some p)) is = by (spot_eq p gone) is
    where
      by : (b : Bool) → Some (cond b None (Some p)) ≡ Some (Some place) → Some (Some p) ≡ Some (Some place)
      by true is = cc
      by false is = is

  its_back : (k : ℕ) (s : DirState) (request : Request) (reply : Reply) → (is_kill request || in_process asks request) ≡ true → (place : Spot) × (slice_get (namespace_replied s.namespace me request reply).folders k ≡ Some (Some place)) × (its_place place ≡ true) → ItsFolder k s
  its_back k s (MakeFolder here) reply h x = absurd (l.makes here (or_nothing (asks (MakeFolder here)) h))
  its_back k s (MoveFolder from to) Done h x = moved_from from to x.0 (slice_get s.namespace.folders k) (moves from to (or_nothing (asks (MoveFolder from to)) h)) (sym (slice_get-map (moved from to) s.namespace.folders k) ∙ x.1) x.2
  its_back k s (MoveFolder from to) reply h x = x
  its_back k s (RemoveFolder gone) Done h x = (x.0, removed_from gone x.0 (slice_get s.namespace.folders k) (sym (slice_get-map (removed gone) s.namespace.folders k) ∙ x.1), x.2)
  its_back k s (RemoveFolder gone) reply h x = x
  its_back k s request reply h x = (x.0, ap (λ (fs : List (Option Spot)). slice_get fs k) (sym (same_folders me s.namespace request reply refl (λ handle. refl))) ∙ x.1, x.2)

  module _ (pod : PodId) (its : (a : Area) → is_stage a ≡ true → its_place (pod_spot pod a) ≡ true) where
    found_its : (n : Namespace) (a : Area) (k : ℕ) → is_stage a ≡ true → folder_at n (pod_spot pod a) ≡ Some k → (place : Spot) × (slice_get n.folders k ≡ Some (Some place)) × (its_place place ≡ true)
    found_its n a k stage at =
        let x = position-Some (is_at (pod_spot pod a)) n.folders k None at in
        by (get_or n.folders k None) (slice_get-get_or n.folders k None x.0) x.1
      where
        by : (o : Option Spot) → slice_get n.folders k ≡ Some o → is_at (pod_spot pod a) o ≡ true → (place : Spot) × (slice_get n.folders k ≡ Some (Some place)) × (its_place place ≡ true)
        by None at is = cc
        by (Some here) at is = (here, at, alike here (pod_spot pod a) is ∙ its a stage)

    pub was_held : (which : Which) (old begun ended new : List Event) → Grew old begun → Grew ended new → Extends (in_process asks) me old new → Quiet me old new → IsBusyAt pod which me begun ended → IsHeldNow its_place which me (state_after old)
    was_held which old begun ended new first after ext quiet b =
        let last = at_grown b.held.held in
        let front = at_grown b.held.found in
        let k = b.held.folder in
        let found : AtOwnStep me old new (ItsFolder k) =
        at_part first refl (grown_more (record { more = last.0; grown = last.1 }) after) (at_weaker (ItsFolder k) (λ s at. found_its s.namespace b.area k b.stage at.0) b.held.found) in
        let held = at_part (grown_more first (record { more = front.0; grown = front.1 })) refl after b.held.held in
        let x = back_at (ItsFolder k) (in_process asks) me (λ s request reply h y. its_back k s request reply h y) found ext quiet in
        record {
          folder = k;
          place = x.0;
          there = x.1;
          its = x.2;
          mode = b.mode;
          held = held_before (λ o. is_folder k o.folder && (is_lock which o.target && opposes b.mode o.lock)) held ext quiet;
        }
