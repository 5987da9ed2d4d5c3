-- What a process that looks for a pod finds, and what the pod's phase was then.
use Rattle.std.specs.Prelude.{◌≡◌, ℕ, Bool, true, false, Option, None, List, [], ◌∷◌, ◌++◌}
use Rattle.dir_model.specs.declared.area.Area.{Area}
use Rattle.dir_model.specs.declared.area.Area.TheVariants.{Embryo, Prepare, Prepared, Run, ExitedGarbage, Garbage}
use Rattle.dir_model.specs.declared.area.Phase.{Phase}
use Rattle.dir_model.specs.declared.spot.Spot.{Spot}
use Rattle.dir_model.specs.declared.event.Event.{Event}
use Rattle.dir_model.specs.Areas.{is_stage, phase_in}
use Rattle.dir_model.specs.State.{stands}
use Rattle.dir_model.specs.Calls.{is_foreign, AtOwnStep}
use Rattle.dir_model.specs.Between.{IsOwnedAt}
use Rattle.lifecycle.specs.PodMachine.{pod_phase}
use Rattle.lifecycle.specs.Ownership.{place_in}

-- just after an own step between the two traces, this was the pod's phase
pub record WasPhase (me : ℕ) (old new : List Event) (name : List ℕ) (phase : Option Phase) : Type 0 where
  pub before : List Event
  pub step : Event
  pub later : List Event
  pub rest : List Event
  pub begins : before ≡ old ++ later
  pub ends : new ≡ (before ++ step ∷ []) ++ rest
  pub own : is_foreign me step ≡ false
  pub is : pod_phase name (before ++ step ∷ []) ≡ phase

-- where the pod stands at an own step, and whether its lock is held then, tell its phase at that step
abbrev pub LocksTellPhases : List Event → Type 0
LocksTellPhases trace =
    (me : ℕ) (old : List Event) (spot : Spot) (owned : Bool) → is_stage spot.area ≡ true →
    AtOwnStep me old trace (λ s. IsOwnedAt s.namespace spot owned) →
    WasPhase me old trace spot.name (phase_in spot.area owned)

-- the pod stood in none of these areas at own steps, one after the other, the first listed at the latest
abbrev pub IsMissedIn : ℕ → List Event → List Event → List ℕ → List Area → Type 0
IsMissedIn me old new name [] = (more : List Event) × (new ≡ old ++ more)
IsMissedIn me old new name (area ∷ earlier) =
    (between : List Event) × IsMissedIn me old between name earlier × AtOwnStep me between new (λ s. stands s.namespace (place_in name area) ≡ false)

-- the stages of a pod's life, the last first
abbrev pub stages_back : List Area
stages_back = Garbage ∷ ExitedGarbage ∷ Run ∷ Prepared ∷ Prepare ∷ Embryo ∷ []

-- a pod that was missed at all six stages, in their order, didn't exist at one of these steps
abbrev pub MissesTellGone : List Event → Type 0
MissesTellGone trace =
    (me : ℕ) (old : List Event) (name : List ℕ) → IsMissedIn me old trace name stages_back →
    WasPhase me old trace name None
