-- A pod that another process owns.
use Rattle.std.specs.Prelude.{◌≡◌, ◌==◌, ℕ, Bool, true, false, Some, List}
use Rattle.dir_model.specs.declared.area.Area.{Area}
use Rattle.dir_model.specs.declared.area.Phase.{Phase}
use Rattle.dir_model.specs.declared.area.Phase.TheVariants as phase
use Rattle.dir_model.specs.declared.event.Event.{Event}
use Rattle.dir_model.specs.declared.pod.PodId.{PodId}
use Rattle.dir_model.specs.Pods.{pod_text}
use Rattle.dir_trait.specs.DirCalls.{DirAt}
use Rattle.lifecycle.specs.PodMachine.{pod_owner}
use Rattle.lifecycle.specs.Executions.{IsConforming}
use Rattle.phase_read.specs.Exact.{AtOwnEvent, IsInPhase}
use Rattle.pod_locks.specs.declared.claim_error.ClaimError.{ClaimError}
use Rattle.pod_locks.specs.declared.claim_error.ClaimError.TheVariants.{WrongPhase}
use Rattle.pod_locks.specs.declared.claim_setback.Setback.{Setback}
use Rattle.pod_locks.specs.declared.claim_setback.Setback.TheVariants.{Refused}

-- a pod in this phase has an owner
abbrev pub is_owned_phase : Phase → Bool
is_owned_phase phase.Preparing = true
is_owned_phase phase.Running = true
is_owned_phase phase.Deleting = true
is_owned_phase _ = false

-- the pod stands in the area in this phase, and another process is its owner
pub record IsOwnedElsewhere (me : ℕ) (pod : PodId) (phase : Phase) (area : Area) (trace : List Event) : Type 0 where
  pub was : IsInPhase pod phase area trace
  pub owner : ℕ
  pub is : pod_owner (pod_text pod.bytes) trace ≡ Some owner
  pub other : (owner == me) ≡ false

-- a claim that is refused for such a phase met the pod so at an own event
abbrev pub MetOwner : PodId → ClaimError → DirAt → DirAt → Type 0
MetOwner pod error old new = IsConforming new.trace → (phase : Phase) → error ≡ WrongPhase phase → is_owned_phase phase ≡ true
    → (area : Area) × AtOwnEvent old.process old.trace new.trace (IsOwnedElsewhere old.process pod phase area)

-- and so did an attempt
abbrev pub MetOwnerThen : PodId → Setback → DirAt → DirAt → Type 0
MetOwnerThen pod stop old new = (error : ClaimError) → stop ≡ Refused error → MetOwner pod error old new
