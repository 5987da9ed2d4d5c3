-- What pods there are at the moments between two traces.
use Rattle.std.specs.Prelude.{◌≡◌, ℕ, true, List, ◌++◌}
use Rattle.dir_model.specs.declared.event.Event.{Event}
use Rattle.lifecycle.specs.PodMachine.{exists, pod_state}

-- P holds at the first of two moments, and after each event up to the second
abbrev pub AtEachMoment : List Event → List Event → (List Event → Type 0) → Type 0
AtEachMoment old new P = (later rest : List Event) → new ≡ (old ++ later) ++ rest → P (old ++ later)

-- P holds at the first of two moments, or after some event up to the second
pub record AtSomeMoment (old new : List Event) (P : List Event → Type 0) : Type 0 where
  pub later : List Event
  pub rest : List Event
  pub ends : new ≡ (old ++ later) ++ rest
  pub holds : P (old ++ later)

-- by its history the pod of this name exists
abbrev pub Exists : List ℕ → List Event → Type 0
Exists name trace = exists (pod_state name trace) ≡ true
