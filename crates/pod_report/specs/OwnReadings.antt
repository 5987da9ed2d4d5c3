-- What a process saw of a pod itself, whatever other processes do.
use Rattle.std.specs.Prelude.{◌≡◌, ◌⊎◌, ℕ, false, List, Result, Ok, Err}
use Rattle.dir_model.specs.declared.area.Area.{Area}
use Rattle.dir_model.specs.declared.area.Area.TheVariants.{Garbage}
use Rattle.dir_model.specs.declared.area.Phase.{Phase}
use Rattle.dir_model.specs.declared.event.Event.{Event}
use Rattle.dir_model.specs.declared.pod.PodId.{PodId}
use Rattle.dir_model.specs.Calls.{AtOwnStep}
use Rattle.dir_model.specs.State.{stands}
use Rattle.dir_trait.specs.DirCalls.{DirAt}
use Rattle.phase_read.specs.declared.found.Found.TheVariants.{At, Gone}
use Rattle.dir_model.specs.Spots.{pod_spot}
use Rattle.phase_read.specs.Read.{IsPhaseReading}
use Rattle.pod_report.specs.declared.error.ReportError.{ReportError}
use Rattle.pod_report.specs.declared.error.ReportError.TheVariants.{NoPod}
use Rattle.pod_report.specs.declared.inspect.Inspection.{Inspection}
use Rattle.pod_report.specs.declared.inspect.Inspection.TheVariants as inspection
use Rattle.pod_report.specs.declared.status.PodStatus.{PodStatus}
use Rattle.pod_report.specs.Inspections.{SeesStatus}
use Rattle.pod_report.specs.Moments.{IsMoment}

-- an own reading found the pod in the area in this phase, and more events followed
pub record FindsPod (pod : PodId) (phase : Phase) (area : Area) (me : ℕ) (old found new : List Event) : Type 0 where
  pub moment : IsMoment old found new
  pub reading : IsPhaseReading me old found pod (At phase area)

-- an own reading found the pod in the phase that is told, and then its folder there showed the rest
pub record IsSeen (pod : PodId) (status : PodStatus) (me : ℕ) (old new : List Event) : Type 0 where
  pub area : Area
  pub found : List Event
  pub finds : FindsPod pod status.phase area me old found new
  pub sees : SeesStatus pod area status me found new

-- an own reading found it at its last place, and later it wasn't there
pub record HasGone (pod : PodId) (me : ℕ) (old new : List Event) : Type 0 where
  pub phase : Phase
  pub found : List Event
  pub finds : FindsPod pod phase Garbage me old found new
  pub off : AtOwnStep me found new (λ s. stands s.namespace (pod_spot pod Garbage) ≡ false)

-- or an own reading found it nowhere
abbrev pub IsMissed : PodId → ℕ → List Event → List Event → Type 0
IsMissed pod me old new = IsPhaseReading me old new pod Gone ⊎ HasGone pod me old new

-- of a round of a status: it missed the pod, or saw its status
abbrev pub InspectionSees : PodId → Inspection → DirAt → DirAt → Type 0
InspectionSees pod inspection.Gone old new = IsMissed pod old.process old.trace new.trace
InspectionSees pod inspection.Missed old new = Unit {0}
InspectionSees pod (inspection.Met status) old new = IsSeen pod status old.process old.trace new.trace

-- the status that is told was seen, and a pod that is said not to exist was missed
abbrev pub AnswersSeen : PodId → Result PodStatus ReportError → DirAt → DirAt → Type 0
AnswersSeen pod (Ok status) old new = IsSeen pod status old.process old.trace new.trace
AnswersSeen pod (Err NoPod) old new = IsMissed pod old.process old.trace new.trace
AnswersSeen pod (Err error) old new = Unit {0}
