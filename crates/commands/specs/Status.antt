-- The command `status`.
use Rattle.std.specs.Prelude.{◌≡◌, ℕ, Bool, true, Option, Some, None, List, [], ◌++◌, codes, Result, Ok, Err}
use Rattle.std.specs.Fmt.{decimal}
use Rattle.std.specs.List.{flat_map}
use Rattle.dir_model.specs.declared.area.Phase.{Phase}
use Rattle.dir_model.specs.declared.event.Event.{Event}
use Rattle.dir_model.specs.declared.pod.PodId.{PodId}
use Rattle.dir_trait.specs.State.{DirState}
use Rattle.phase_read.specs.Exact.{AtOwnEvent, IsNowhere}
use Rattle.pod_report.specs.declared.ends.AppEndText.{AppEndText}
use Rattle.pod_report.specs.declared.error.ReportError.{ReportError}
use Rattle.pod_report.specs.declared.error.ReportError.TheVariants as report
use Rattle.pod_report.specs.declared.status.PodStatus.{PodStatus}
use Rattle.pod_report.specs.Requests.{inspects}
use Rattle.pod_report.specs.OwnReadings.{IsMissed, IsSeen}
use Rattle.pod_report.specs.Sequential.{sequential_status}
use Rattle.pod_report.specs.Status.{IsPodStatus}
use Rattle.command_outcomes.specs.declared.refusal.Refusal.{Refusal}
use Rattle.command_outcomes.specs.declared.refusal.Refusal.TheVariants.{DirFault, NoMemory, NoPod, Stray}
use Rattle.command_outcomes.specs.Ends.{is_common}
use Rattle.command_outcomes.specs.Moments.{CommandOutcome}
use Rattle.commands.specs.AppEnds.{end_line}
use Rattle.commands.specs.Report.{Report}
use Rattle.commands.specs.Texts.{state_text}

-- the lines that it prints: the phase, the moment of the latest created- mark, and a line for each end
abbrev pub created_line : Option ℕ → List ℕ
created_line None = []
created_line (Some moment) = (codes "created=" ++ decimal moment) ++ codes "\n"

abbrev pub ended_line : AppEndText → List ℕ
ended_line end = end_line end.app end.status

abbrev pub status_lines : PodStatus → List ℕ
status_lines status = (state_text status.phase ++ created_line status.created) ++ flat_map ended_line status.ends

-- the refusals that it may have
abbrev pub status_refusal : Refusal → Bool
status_refusal NoPod = true
status_refusal Stray = true
status_refusal refusal = is_common refusal

-- what is said where no status was told
abbrev pub unknown_refusal : ReportError → Refusal
unknown_refusal report.NoPod = NoPod
unknown_refusal report.DirFault = DirFault
unknown_refusal report.NoMemory = NoMemory
unknown_refusal error = Stray

-- it printed a status of which this is so
pub record PrintsStatus (P : PodStatus → Type 0) (text : List ℕ) : Type 0 where
  pub status : PodStatus
  pub so : P status
  pub is : text ≡ status_lines status

-- an own reading found the pod in that phase, and then its folder there showed the rest; or own readings missed it
abbrev pub SeesStatusOutcome : PodId → ℕ → List Event → List Event → CommandOutcome → Type 0
SeesStatusOutcome pod me old new (Ok text) = PrintsStatus (λ status. IsSeen pod status me old new) text
SeesStatusOutcome pod me old new (Err NoPod) = IsMissed pod me old new
SeesStatusOutcome pod me old new (Err refusal) = Unit {0}

-- it names its pod's
abbrev pub names_status : PodId → CommandOutcome → (PodId → Phase → Type 0) → Type 0
names_status pod (Ok text) Had = PrintsStatus (λ status. Had pod status.phase) text
names_status pod (Err refusal) Had = Unit {0}

-- the phase is the pod's at an own event, and so on; or it didn't exist at one. Contradictory answers don't come
abbrev pub TellsStatus : PodId → ℕ → List Event → List Event → CommandOutcome → Type 0
TellsStatus pod me old new (Ok text) = PrintsStatus (λ status. IsPodStatus pod status me old new) text
TellsStatus pod me old new (Err NoPod) = AtOwnEvent me old new (IsNowhere pod)
TellsStatus pod me old new (Err refusal) = ⊥

-- where nobody else steps: the status that the state before gives the pod, or that there is none
abbrev pub status_said : Result PodStatus ReportError → CommandOutcome
status_said (Ok status) = Ok (status_lines status)
status_said (Err error) = Err (unknown_refusal error)

abbrev pub IsStatusIn : PodId → DirState → CommandOutcome → Type 0
IsStatusIn pod s o = o ≡ status_said (sequential_status s pod)

-- it looks at the pod's locations, lists its folder and its statuses, and reads these
abbrev pub status_report : PodId → Report
status_report pod = record {
  asks = inspects pod;
  prints = λ text. (status : PodStatus) × (text ≡ status_lines status);
  refusals = status_refusal;
  names = names_status pod;
  sees = SeesStatusOutcome pod;
  tells = TellsStatus pod;
  quiet = IsStatusIn pod;
}
