-- What a sweep does with a pod, and why one isn't removed, by one state of the directory.
use Rattle.std.specs.Prelude.{◌≡◌, ℕ, Bool, true, false, ◌&&◌, cond, nat_lt, codes, Option, Some, None, List, []}
use Rattle.std.specs.List.{list_any}
use Rattle.dir_model.specs.declared.area.Area.{Area}
use Rattle.dir_model.specs.declared.area.Area.TheVariants as area
use Rattle.dir_model.specs.declared.area.Phase.TheVariants as kind
use Rattle.dir_model.specs.declared.event.Event.{Event}
use Rattle.dir_model.specs.declared.pod.PodId.{PodId}
use Rattle.dir_model.specs.declared.spot.Mode.{Mode}
use Rattle.dir_model.specs.declared.spot.Mode.TheVariants.{Shared, Exclusive}
use Rattle.dir_model.specs.declared.spot.Which.{Which}
use Rattle.dir_model.specs.declared.spot.Which.TheVariants.{Own, Claim}
use Rattle.dir_trait.specs.State.{DirState, stands, folder_at}
use Rattle.dir_trait.specs.Trace.{state_after}
use Rattle.dir_model.specs.Trees.{items_in, has_file}
use Rattle.dir_rules.specs.Standing.{is_in}
use Rattle.phase_read.specs.declared.found.Found.{Found}
use Rattle.phase_read.specs.declared.found.Found.TheVariants.{At, Gone}
use Rattle.dir_model.specs.Spots.{pod_spot}
use Rattle.phase_read.specs.Sequential.{sequential_read}
use Rattle.pod_locks.specs.Causes.{is_held_against}
use Rattle.pod_gc.specs.RemovalRequests.{is_removable}
use Rattle.pod_gc.specs.declared.ages.Times.{Times}
use Rattle.pod_gc.specs.declared.line.Deed.{Deed}
use Rattle.pod_gc.specs.declared.line.Deed.TheVariants.{Moved, Deleted, Kept, Busy, Left}
use Rattle.pod_gc.specs.declared.line.GcLine.{GcLine}
use Rattle.pod_gc.specs.Ages.{moment_among, is_young, is_ripe}
use Rattle.command_outcomes.specs.declared.refusal.Refusal.{Refusal}
use Rattle.command_outcomes.specs.declared.refusal.Refusal.TheVariants.{NoPod, WrongPhase, NoManifest, PodBusy}

-- the greatest moment of such marks that stand directly in a folder
abbrev pub moment_in : List ℕ → Option ℕ → DirState → Option ℕ
moment_in text None s = None
moment_in text (Some folder) s = moment_among text (items_in folder [] s.entries)

-- in the pod's folder at this place
abbrev pub mark_moment_at : List ℕ → PodId → Area → DirState → Option ℕ
mark_moment_at text pod place s = moment_in text (folder_at s.namespace (pod_spot pod place)) s

-- another process holds this lock of the folder, in a mode that conflicts
abbrev pub is_held_in : ℕ → Which → Mode → Option ℕ → DirState → Bool
is_held_in me which mode None s = false
is_held_in me which mode (Some folder) s = list_any (is_held_against me which mode folder) s.namespace.openings

-- of the pod's folder at this place
abbrev pub is_held_at : ℕ → Which → Mode → PodId → Area → DirState → Bool
is_held_at me which mode pod place s = is_held_in me which mode (folder_at s.namespace (pod_spot pod place)) s

-- the folder has the file `pod`
abbrev pub has_manifest : Option ℕ → DirState → Bool
has_manifest None s = false
has_manifest (Some folder) s = has_file s.entries folder (codes "pod")

-- in a garbage place, once its time is over, the pod is deleted, unless another process holds its own lock in any mode
abbrev pub deletes_pod : ℕ → PodId → Area → DirState → Deed
deletes_pod me pod place s = cond (is_held_at me Own Exclusive pod place s) (Busy Own) Deleted

-- a prepared pod whose time is over goes to garbage, unless it has no manifest, its activation lock is held, or its own exclusively
abbrev pub discards_pod : ℕ → PodId → DirState → Deed
discards_pod me pod s =
    cond (has_manifest (folder_at s.namespace (pod_spot pod area.Prepared)) s)
    (cond (is_held_at me Claim Exclusive pod area.Prepared s) (Busy Claim) (cond (is_held_at me Own Shared pod area.Prepared s) (Busy Own) (Moved area.Garbage)))
    Left

-- what is done with a pod that stands at this place
abbrev pub deed_at : Times → ℕ → PodId → Area → DirState → Deed
deed_at times me pod area.Embryo s = Moved area.Garbage
deed_at times me pod area.Prepare s = cond (is_held_at me Own Shared pod area.Prepare s) (Kept kind.Preparing) (Moved area.Garbage)
deed_at times me pod area.Prepared s = cond (is_ripe times.now times.expire (mark_moment_at (codes "created-") pod area.Prepared s)) (discards_pod me pod s) (Kept kind.Prepared)
deed_at times me pod area.Run s = cond (is_held_at me Own Shared pod area.Run s) (Kept kind.Running) (Moved area.ExitedGarbage)
deed_at times me pod area.ExitedGarbage s =
    cond (is_young times.now times.grace (mark_moment_at (codes "marked-") pod area.ExitedGarbage s))
    (cond (is_held_at me Own Shared pod area.ExitedGarbage s) (Kept kind.Deleting) (Kept kind.ExitedGarbage)) (deletes_pod me pod area.ExitedGarbage s)
deed_at times me pod place s = deletes_pod me pod place s

-- with one that was moved there from this place, in exited-garbage with a mark of this moment
abbrev pub deed_when_moved : Times → ℕ → PodId → Area → Area → DirState → Deed
deed_when_moved times me pod from to s = cond (is_in area.ExitedGarbage to && nat_lt 0 times.grace) (Kept kind.ExitedGarbage) (deletes_pod me pod from s)

-- of a pod that stood at its line's place before, the line says what the state before asks for
abbrev pub ByTable : Times → ℕ → List Event → GcLine → Type 0
ByTable times me old line = (pod : PodId) → line.pod ≡ Some pod → stands (state_after old).namespace (pod_spot pod line.place) ≡ true → line.deed ≡ deed_at times me pod line.place (state_after old)

-- a pod isn't deleted while another process holds its own lock in any mode
abbrev pub own_refusal : ℕ → PodId → Area → DirState → Option Refusal
own_refusal me pod place s = cond (is_held_at me Own Exclusive pod place s) (Some (PodBusy pod Own)) None

-- nor is a prepared one put aside without its file `pod`, or while another process holds its activation lock
abbrev pub waiting_refusal : ℕ → PodId → DirState → Option Refusal
waiting_refusal me pod s =
    cond (has_manifest (folder_at s.namespace (pod_spot pod area.Prepared)) s)
    (cond (is_held_at me Claim Exclusive pod area.Prepared s) (Some (PodBusy pod Claim)) (own_refusal me pod area.Prepared s))
    (Some (NoManifest pod))

abbrev pub place_refusal : ℕ → PodId → Area → DirState → Option Refusal
place_refusal me pod area.Prepared s = waiting_refusal me pod s
place_refusal me pod place s = own_refusal me pod place s

abbrev pub found_refusal : ℕ → PodId → DirState → Found → Option Refusal
found_refusal me pod s Gone = Some NoPod
found_refusal me pod s (At phase place) = cond (is_removable phase) (place_refusal me pod place s) (Some (WrongPhase phase))

-- why `rm` refuses, if it does
abbrev pub removal_refusal : ℕ → PodId → DirState → Option Refusal
removal_refusal me pod s = found_refusal me pod s (sequential_read s pod)
