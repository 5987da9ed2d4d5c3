-- The phases that a command's answer names.
use Rattle.std.specs.Prelude.{ℕ, List, Err}
use Rattle.dir_model.specs.declared.area.Phase.{Phase}
use Rattle.dir_model.specs.declared.event.Event.{Event}
use Rattle.dir_model.specs.declared.pod.PodId.{PodId}
use Rattle.phase_read.specs.Exact.{AtOwnEvent}
use Rattle.pod_report.specs.Visits.{IsPhase}
use Rattle.command_outcomes.specs.declared.refusal.Refusal.TheVariants.{WrongPhase}
use Rattle.command_outcomes.specs.Moments.{CommandOutcome}

-- by its history the pod had this phase at an own event of the process between the two traces
abbrev pub HadPhase : ℕ → List Event → List Event → PodId → Phase → Type 0
HadPhase me old new pod phase = AtOwnEvent me old new (IsPhase pod phase)

-- a command that names none
abbrev pub names_none : CommandOutcome → (PodId → Phase → Type 0) → Type 0
names_none o Had = Unit {0}

-- one that is refused for the phase of its pod names it
abbrev pub names_refused : PodId → CommandOutcome → (PodId → Phase → Type 0) → Type 0
names_refused pod (Err (WrongPhase phase)) Had = Had pod phase
names_refused pod o Had = Unit {0}
