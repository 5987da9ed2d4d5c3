-- What `rm` and `gc` tell of the histories of pods, whatever others do, where every process keeps the local rules.
use Rattle.std.specs.Prelude.{◌≡◌, true, Some, List, ℕ}
use Rattle.std.specs.List.{AllByRecursion}
use Rattle.dir_model.specs.declared.event.Event.{Event}
use Rattle.dir_model.specs.declared.pod.PodId.{PodId}
use Rattle.dir_model.specs.Pods.{pod_text}
use Rattle.dir_trait.specs.DirCalls.{DirAt}
use Rattle.lifecycle.specs.PodMachine.{pod_state, exists}
use Rattle.pod_locks.specs.Work.{Grew}
use Rattle.pod_gc.specs.declared.ages.Times.{Times}
use Rattle.pod_gc.specs.declared.line.Deed.TheVariants.{Deleted}
use Rattle.pod_gc.specs.declared.line.GcLine.{GcLine}
use Rattle.commands.specs.Gc.{HasSweptPods}
use Rattle.commands.specs.RemovalQuiet.{IsGoneForGood}

-- by its history the pod existed at a moment between these two
pub record ExistedBetween (pod : PodId) (old new : List Event) : Type 0 where
  pub then : List Event
  pub first : Grew old then
  pub last : Grew then new
  pub was : exists (pod_state (pod_text pod.bytes) then) ≡ true

-- and at the later one it is gone, for good
pub record ExistedThenGone (pod : PodId) (old new : List Event) : Type 0 where
  pub existed : ExistedBetween pod old new
  pub gone : IsGoneForGood pod new

-- so is a pod that a line calls deleted
abbrev pub IsDeletedForGood : List Event → List Event → GcLine → Type 0
IsDeletedForGood old new line = (pod : PodId) → line.pod ≡ Some pod → line.deed ≡ Deleted → ExistedThenGone pod old new

-- a sweep printed the lines of what it did, and so are the pods that they call deleted
pub record SweepsForGood (times : Times) (old new : DirAt) (text : List ℕ) : Type 0 where
  pub swept : HasSweptPods times old new text
  pub deleted : AllByRecursion (IsDeletedForGood old.trace new.trace) swept.lines
