-- Where nobody else steps, what a sweep says of a pod that stood at its line's place before is what the state before asks for.
use Rattle.std.proofs.Common.{◌≡◌, ℕ, Bool, true, false, cond, codes, Option, Some, List, [], ◌∷◌, refl, sym, ap, subst, ◌∙◌}
use Rattle.std.specs.List.{AllByRecursion}
use Rattle.dir_model.specs.declared.area.Area.{Area}
use Rattle.dir_model.specs.declared.area.Area.TheVariants as area
use Rattle.dir_model.specs.declared.area.Phase.TheVariants as kind
use Rattle.dir_model.specs.declared.event.Event.{Event}
use Rattle.dir_model.specs.declared.pod.PodId.{PodId}
use Rattle.dir_model.specs.declared.spot.Mode.{Mode}
use Rattle.dir_model.specs.declared.spot.Mode.TheVariants.{Shared, Exclusive}
use Rattle.dir_model.specs.declared.spot.Which.{Which}
use Rattle.dir_model.specs.declared.spot.Which.TheVariants.{Own, Claim}
use Rattle.dir_model.specs.Calls.{Extends}
use Rattle.dir_model.specs.Quiet.{Quiet}
use Rattle.dir_model.specs.State.{DirState, folder_at, stands}
use Rattle.dir_model.specs.Trace.{state_after}
use Rattle.dir_model.specs.Trees.{has_file}
use Rattle.dir_model.proofs.Moments.{some_number}
use Rattle.dir_rules.specs.Standing.{is_in}
use Rattle.lifecycle.specs.Executions.{IsConforming}
use Rattle.dir_model.specs.Spots.{pod_spot}
use Rattle.pod_locks.specs.Work.{Grew}
use Rattle.pod_gc.specs.RemovalRequests.{is_garbage_place}
use Rattle.pod_gc.specs.declared.ages.Times.{Times}
use Rattle.pod_gc.specs.declared.line.Deed.{Deed}
use Rattle.pod_gc.specs.declared.line.Deed.TheVariants.{Moved, Deleted, Kept, Busy, BusyGate, Left}
use Rattle.pod_gc.specs.declared.line.GcLine.{GcLine}
use Rattle.pod_gc.specs.Deeds.{WaitsBy, RestsBy}
use Rattle.pod_gc.specs.Ages.{is_young, is_ripe}
use Rattle.pod_gc.specs.Requests.{sweeps}
use Rattle.command_outcomes.specs.Meanwhile.{Meanwhile}
use Rattle.commands.specs.Gc.{SweepsByPasses}
use Rattle.commands.specs.RemovalQuiet.{may_say, SaysFitting, LeftAsBefore}
use Rattle.commands.specs.RemovalTable.{mark_moment_at, is_held_in, is_held_at, has_manifest, deletes_pod, discards_pod, deed_at, ByTable}
use Rattle.commands.proofs.OwnSteps.{in_process}
use Rattle.commands.proofs.GcFits.{BusyByOwn, gc_own, gc_fits}
use Rattle.commands.proofs.GcLeft.{gc_left}
use Rattle.commands.proofs.GcWaited.{WaitsBefore, gc_waits}
use Rattle.commands.proofs.GcAged.{RestsBefore, gc_rests}
use Rattle.commands.proofs.GcLocks.{LocksWere, LocksBefore, opens_claim, ManifestBefore, gc_locks, gc_manifest}

garbage_only : (to : Area) → is_in to area.Garbage ≡ true → to ≡ area.Garbage
garbage_only area.Garbage is = refl
garbage_only to is = cc

exited_only : (to : Area) → is_in to area.ExitedGarbage ≡ true → to ≡ area.ExitedGarbage
exited_only area.ExitedGarbage is = refl
exited_only to is = cc

pub never : {X : Type 0} → false ≡ true → X
never h = cc

module _ (me : ℕ) (pod : PodId) (place : Area) (s : DirState) (k : ℕ) (at : folder_at s.namespace (pod_spot pod place) ≡ Some k) where
  pub held_at : (which : Which) (mode : Mode) → is_held_at me which mode pod place s ≡ is_held_in me which mode (Some k) s
  held_at which mode = ap (λ (o : Option ℕ). is_held_in me which mode o s) at

  pub busy_there : is_held_in me Own Exclusive (Some k) s ≡ true → deletes_pod me pod place s ≡ Busy Own
  busy_there held = ap (λ (b : Bool). cond b (Busy Own) Deleted) (held_at Own Exclusive ∙ held)

  pub deleted_there : is_held_in me Own Exclusive (Some k) s ≡ false → deletes_pod me pod place s ≡ Deleted
  deleted_there free = ap (λ (b : Bool). cond b (Busy Own) Deleted) (held_at Own Exclusive ∙ free)

-- what a deed tells of one state
module _ (times : Times) (me : ℕ) (pod : PodId) (s : DirState) where
  abbrev ripe : Bool
  ripe = is_ripe times.now times.expire (mark_moment_at (codes "created-") pod area.Prepared s)

  abbrev young : Bool
  young = is_young times.now times.grace (mark_moment_at (codes "marked-") pod area.ExitedGarbage s)

  record TellsOf (place : Area) (deed : Deed) (k : ℕ) : Type 0 where
    own : (which : Which) → deed ≡ Busy which → is_garbage_place place ≡ true → which ≡ Own
    locks : LocksWere place deed k me s
    manifest : place ≡ area.Prepared → opens_claim deed ≡ true → has_file s.entries k (codes "pod") ≡ true
    lacks : deed ≡ Left → has_file s.entries k (codes "pod") ≡ false
    waits : place ≡ area.Prepared → WaitsBy ripe deed
    rests : place ≡ area.ExitedGarbage → RestsBy young deed

  abbrev At : Area → ℕ → Type 0
  At place k = folder_at s.namespace (pod_spot pod place) ≡ Some k

  -- in prepared

  abbrev under_claim : Deed
  under_claim = cond (is_held_at me Own Shared pod area.Prepared s) (Busy Own) (Moved area.Garbage)

  abbrev with_manifest : Deed
  with_manifest = cond (is_held_at me Claim Exclusive pod area.Prepared s) (Busy Claim) under_claim

  discarded : ripe ≡ true → deed_at times me pod area.Prepared s ≡ discards_pod me pod s
  discarded is = ap (λ (b : Bool). cond b (discards_pod me pod s) (Kept kind.Prepared)) is

  by_manifest : (b : Bool) (k : ℕ) → At area.Prepared k → has_file s.entries k (codes "pod") ≡ b → discards_pod me pod s ≡ cond b with_manifest Left
  by_manifest b k at is = ap (λ (c : Bool). cond c with_manifest Left) (ap (λ (o : Option ℕ). has_manifest o s) at ∙ is)

  by_claim : (b : Bool) (k : ℕ) → At area.Prepared k → is_held_in me Claim Exclusive (Some k) s ≡ b → with_manifest ≡ cond b (Busy Claim) under_claim
  by_claim b k at is = ap (λ (c : Bool). cond c (Busy Claim) under_claim) (held_at me pod area.Prepared s k at Claim Exclusive ∙ is)

  by_own : (b : Bool) (k : ℕ) → At area.Prepared k → is_held_in me Own Shared (Some k) s ≡ b → under_claim ≡ cond b (Busy Own) (Moved area.Garbage)
  by_own b k at is = ap (λ (c : Bool). cond c (Busy Own) (Moved area.Garbage)) (held_at me pod area.Prepared s k at Own Shared ∙ is)

  prepared_is : (deed : Deed) → may_say area.Prepared deed ≡ true → (k : ℕ) → At area.Prepared k → TellsOf area.Prepared deed k → deed ≡ deed_at times me pod area.Prepared s
  prepared_is (Kept kind.Prepared) fits k at g = sym (ap (λ (b : Bool). cond b (discards_pod me pod s) (Kept kind.Prepared)) ((g.waits refl).waits kind.Prepared refl))
  prepared_is (Moved to) fits k at g =
      ap (λ (a : Area). Moved a) (garbage_only to fits)
      ∙ sym (discarded ((g.waits refl).goes refl) ∙ (by_manifest true k at (g.manifest refl refl) ∙ (by_claim false k at (g.locks.unclaimed refl refl) ∙ by_own false k at (g.locks.unowned refl))))
  prepared_is (Busy Claim) fits k at g = sym (discarded ((g.waits refl).goes refl) ∙ (by_manifest true k at (g.manifest refl refl) ∙ by_claim true k at (g.locks.held Claim refl)))
  prepared_is (Busy Own) fits k at g =
      sym (discarded ((g.waits refl).goes refl) ∙ (by_manifest true k at (g.manifest refl refl) ∙ (by_claim false k at (g.locks.unclaimed refl refl) ∙ by_own true k at (g.locks.held Own refl))))
  prepared_is Left fits k at g = sym (discarded ((g.waits refl).left refl) ∙ by_manifest false k at (g.lacks refl))
  prepared_is deed fits k at g = never fits

  -- in exited-garbage

  by_age : (b : Bool) → young ≡ b → deed_at times me pod area.ExitedGarbage s ≡ cond b (cond (is_held_at me Own Shared pod area.ExitedGarbage s) (Kept kind.Deleting) (Kept kind.ExitedGarbage)) (deletes_pod me pod area.ExitedGarbage s)
  by_age b is = ap (λ (c : Bool). cond c (cond (is_held_at me Own Shared pod area.ExitedGarbage s) (Kept kind.Deleting) (Kept kind.ExitedGarbage)) (deletes_pod me pod area.ExitedGarbage s)) is

  by_rest : (b : Bool) (k : ℕ) → At area.ExitedGarbage k → is_held_in me Own Shared (Some k) s ≡ b → cond (is_held_at me Own Shared pod area.ExitedGarbage s) (Kept kind.Deleting) (Kept kind.ExitedGarbage) ≡ cond b (Kept kind.Deleting) (Kept kind.ExitedGarbage)
  by_rest b k at is = ap (λ (c : Bool). cond c (Kept kind.Deleting) (Kept kind.ExitedGarbage)) (held_at me pod area.ExitedGarbage s k at Own Shared ∙ is)

  exited_is : (deed : Deed) → may_say area.ExitedGarbage deed ≡ true → (k : ℕ) → At area.ExitedGarbage k → TellsOf area.ExitedGarbage deed k → deed ≡ deed_at times me pod area.ExitedGarbage s
  exited_is (Kept kind.ExitedGarbage) fits k at g = sym (by_age true ((g.rests refl).rests kind.ExitedGarbage refl) ∙ by_rest false k at (g.locks.unowned refl))
  exited_is (Kept kind.Deleting) fits k at g = sym (by_age true ((g.rests refl).rests kind.Deleting refl) ∙ by_rest true k at (g.locks.held Own refl))
  exited_is Deleted fits k at g = sym (by_age false ((g.rests refl).over refl) ∙ deleted_there me pod area.ExitedGarbage s k at (g.locks.alone refl))
  exited_is (Busy Own) fits k at g = sym (by_age false ((g.rests refl).over refl) ∙ busy_there me pod area.ExitedGarbage s k at (g.locks.held Own refl))
  exited_is (Busy Claim) fits k at g = let clash : Claim ≡ Own = g.own Claim refl refl in cc
  exited_is deed fits k at g = never fits

  deed_is : (place : Area) (deed : Deed) → may_say place deed ≡ true → (k : ℕ) → At place k → TellsOf place deed k → deed ≡ deed_at times me pod place s
  deed_is area.Embryo (Moved to) fits k at g = ap (λ (a : Area). Moved a) (garbage_only to fits)
  deed_is area.Prepare (Moved to) fits k at g =
      ap (λ (a : Area). Moved a) (garbage_only to fits) ∙ sym (ap (λ (b : Bool). cond b (Kept kind.Preparing) (Moved area.Garbage)) (held_at me pod area.Prepare s k at Own Shared ∙ g.locks.unowned refl))
  deed_is area.Prepare (Kept kind.Preparing) fits k at g = sym (ap (λ (b : Bool). cond b (Kept kind.Preparing) (Moved area.Garbage)) (held_at me pod area.Prepare s k at Own Shared ∙ g.locks.held Own refl))
  deed_is area.Prepared deed fits k at g = prepared_is deed fits k at g
  deed_is area.Run (Moved to) fits k at g =
      ap (λ (a : Area). Moved a) (exited_only to fits) ∙ sym (ap (λ (b : Bool). cond b (Kept kind.Running) (Moved area.ExitedGarbage)) (held_at me pod area.Run s k at Own Shared ∙ g.locks.unowned refl))
  deed_is area.Run (Kept kind.Running) fits k at g = sym (ap (λ (b : Bool). cond b (Kept kind.Running) (Moved area.ExitedGarbage)) (held_at me pod area.Run s k at Own Shared ∙ g.locks.held Own refl))
  deed_is area.ExitedGarbage deed fits k at g = exited_is deed fits k at g
  deed_is area.Garbage Deleted fits k at g = sym (deleted_there me pod area.Garbage s k at (g.locks.alone refl))
  deed_is area.Garbage (Busy Own) fits k at g = sym (busy_there me pod area.Garbage s k at (g.locks.held Own refl))
  deed_is area.Garbage (Busy Claim) fits k at g = let clash : Claim ≡ Own = g.own Claim refl refl in cc
  deed_is place (Moved to) fits k at g = never fits
  deed_is place Deleted fits k at g = never fits
  deed_is place (Kept phase) fits k at g = never fits
  deed_is place (Busy which) fits k at g = never fits
  deed_is place BusyGate fits k at g = never fits
  deed_is place Left fits k at g = never fits

module _ (times : Times) (me : ℕ) (old new : List Event) (to_new : Grew old new) where
  line_is : (line : GcLine) → SaysFitting line → BusyByOwn line → LocksBefore me old new line → ManifestBefore old line → LeftAsBefore old line → WaitsBefore times old line → RestsBefore times old line → ByTable times me old line
  line_is line fits own locks manifest left waits rests pod is there =
      let k = some_number (folder_at (state_after old).namespace (pod_spot pod line.place)) there in
      deed_is times me pod (state_after old) line.place line.deed (fits pod is) k.0 k.1 (record {
        own = own;
        locks = locks pod k.0 old is to_new k.1;
        manifest = λ place opens. manifest pod k.0 is place opens (subst (λ (p : Area). folder_at (state_after old).namespace (pod_spot pod p) ≡ Some k.0) place k.1);
        lacks = λ deed. lacks_it k.0 k.1 deed;
        waits = λ place. waits pod is place;
        rests = λ place. rests pod is place (subst (λ (p : Area). stands (state_after old).namespace (pod_spot pod p) ≡ true) place there);
      })
    where
      lacks_it : (k : ℕ) → folder_at (state_after old).namespace (pod_spot pod line.place) ≡ Some k → line.deed ≡ Left → has_file (state_after old).entries k (codes "pod") ≡ false
      lacks_it k at deed =
          let x = left pod is deed in
          let here = subst (λ (p : Area). folder_at (state_after old).namespace (pod_spot pod p) ≡ Some k) x.0 at in
          let one : x.1.folder ≡ k = let e : Some x.1.folder ≡ Some k = sym x.1.there ∙ here in cc in
          subst (λ (f : ℕ). has_file (state_after old).entries f (codes "pod") ≡ false) one x.1.without

  lines_are : (ls : List GcLine) → AllByRecursion SaysFitting ls → AllByRecursion BusyByOwn ls → AllByRecursion (LocksBefore me old new) ls → AllByRecursion (ManifestBefore old) ls → AllByRecursion (LeftAsBefore old) ls → AllByRecursion (WaitsBefore times old) ls
      → AllByRecursion (RestsBefore times old) ls → AllByRecursion (ByTable times me old) ls
  lines_are [] fits own locks manifest left waits rests = tt
  lines_are (l ∷ ls) fits own locks manifest left waits rests = (line_is l fits.0 own.0 locks.0 manifest.0 left.0 waits.0 rests.0, lines_are ls fits.1 own.1 locks.1 manifest.1 left.1 waits.1 rests.1)

module _ (times : Times) (lines : List GcLine) {me : ℕ} {old new : List Event} (ext : Extends (in_process (sweeps times.now)) me old new) (quiet : Quiet me old new) (m : Meanwhile (SweepsByPasses times lines) me old new) (conforming : IsConforming new) where
  pub gc_table : AllByRecursion (ByTable times me old) lines
  gc_table =
      lines_are times me old new (record { more = quiet.more; grown = quiet.grown }) lines (gc_fits times lines ext quiet m) (gc_own times lines ext quiet m) (gc_locks times lines ext quiet m conforming) (gc_manifest times lines ext quiet m conforming)
      (gc_left times lines ext quiet m) (gc_waits times lines ext quiet m) (gc_rests times lines ext quiet m conforming)
