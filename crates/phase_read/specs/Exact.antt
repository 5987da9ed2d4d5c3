-- What a read says in an execution in which every process keeps the local rules.
use Rattle.std.specs.Prelude.{◌≡◌, ℕ, true, false, Some, None, List, [], ◌∷◌, ◌++◌}
use Rattle.dir_model.specs.declared.area.Area.{Area}
use Rattle.dir_model.specs.declared.area.Phase.{Phase}
use Rattle.dir_model.specs.declared.event.Event.{Event}
use Rattle.dir_model.specs.declared.pod.PodId.{PodId}
use Rattle.dir_model.specs.Pods.{pod_text}
use Rattle.dir_model.specs.State.{stands}
use Rattle.dir_model.specs.Trace.{state_after}
use Rattle.dir_model.specs.Calls.{is_foreign}
use Rattle.dir_trait.specs.DirCalls.{DirAt}
use Rattle.lifecycle.specs.PodMachine.{pod_phase}
use Rattle.lifecycle.specs.Executions.{IsConforming}
use Rattle.phase_read.specs.declared.found.Found.{Found}
use Rattle.phase_read.specs.declared.found.Found.TheVariants.{At, Gone}
use Rattle.dir_model.specs.Spots.{pod_spot}

-- P held of the trace that ends with an own event between these two
pub record AtOwnEvent (me : ℕ) (old new : List Event) (P : List Event → Type 0) : Type 0 where
  pub before : List Event
  pub step : Event
  pub later : List Event
  pub rest : List Event
  pub begins : before ≡ old ++ later
  pub ends : new ≡ (before ++ step ∷ []) ++ rest
  pub own : is_foreign me step ≡ false
  pub holds : P (before ++ step ∷ [])

-- the pod stands in the area, and this is its phase by its history
pub record IsInPhase (pod : PodId) (phase : Phase) (area : Area) (trace : List Event) : Type 0 where
  pub there : stands (state_after trace).namespace (pod_spot pod area) ≡ true
  pub is : pod_phase (pod_text pod.bytes) trace ≡ Some phase

-- by its history the pod doesn't exist
abbrev pub IsNowhere : PodId → List Event → Type 0
IsNowhere pod trace = pod_phase (pod_text pod.bytes) trace ≡ None

-- what was found was so at one own event
abbrev pub WasAsFound : ℕ → List Event → List Event → PodId → Found → Type 0
WasAsFound me old new pod (At phase area) = AtOwnEvent me old new (IsInPhase pod phase area)
WasAsFound me old new pod Gone = AtOwnEvent me old new (IsNowhere pod)

-- where the execution conforms up to the end of the read
abbrev pub IsExactly : DirAt → DirAt → PodId → Found → Type 0
IsExactly old new pod found = IsConforming new.trace → WasAsFound old.process old.trace new.trace pod found
