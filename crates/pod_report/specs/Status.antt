-- The whole status of a pod, while others step, and where nobody else does.
use Rattle.std.specs.Prelude.{◌≡◌, ◌≤◌, ℕ, true, Some, IsSomeAnd, List, Result, Err}
use Rattle.std.specs.List.{AllByRecursion}
use Rattle.std.specs.List.Sorted.{IsStrictlySortedBy}
use Rattle.std.specs.Ordering.{nat_cmp}
use Rattle.std.specs.Cmp.Lexicographic.{slice_cmp}
use Rattle.dir_model.specs.declared.area.Area.{Area}
use Rattle.dir_model.specs.declared.event.Event.{Event}
use Rattle.dir_model.specs.declared.pod.PodId.{PodId}
use Rattle.dir_model.specs.Areas.{is_stage}
use Rattle.dir_model.specs.Listings.{has_name}
use Rattle.dir_model.specs.Paths.{is_file_name}
use Rattle.dir_model.specs.Quiet.{Quiet, OwnsNothing}
use Rattle.dir_model.specs.Trace.{state_after}
use Rattle.dir_trait.specs.DirCalls.{DirAt}
use Rattle.phase_read.specs.Exact.{AtOwnEvent, IsInPhase}
use Rattle.pod_report.specs.declared.ends.AppEndText.{AppEndText}
use Rattle.pod_report.specs.declared.error.ReportError.{ReportError}
use Rattle.pod_report.specs.declared.error.ReportError.TheVariants.{DirFault, NoMemory}
use Rattle.pod_report.specs.declared.status.PodStatus.{PodStatus}
use Rattle.pod_report.specs.Created.{HasCreatedMark}
use Rattle.pod_report.specs.Ends.{HasEndedAnywhere, ended_apps}
use Rattle.pod_report.specs.Moments.{AtSomeState, AtEachState}
use Rattle.pod_report.specs.Sequential.{sequential_status}

-- what is told of the pod is so between the two traces
pub record IsPodStatus (pod : PodId) (status : PodStatus) (me : ℕ) (old new : List Event) : Type 0 where
  pub area : Area
  pub stage : is_stage area ≡ true
  -- the phase is the pod's at an own event, at which it stood in this area
  pub phase : AtOwnEvent me old new (IsInPhase pod status.phase area)
  -- a created- mark of the moment stood at some moment
  pub created : (moment : ℕ) → status.created ≡ Some moment → AtSomeState old new (HasCreatedMark pod moment)
  -- and where one stood at each, the moment that is told isn't before it
  pub latest : (moment : ℕ) → AtEachState old new (HasCreatedMark pod moment) → IsSomeAnd status.created (λ c. moment ≤ c)
  -- each end was so at some moment
  pub ends : AllByRecursion (λ (e : AppEndText). AtSomeState old new (HasEndedAnywhere pod e.app e.status)) status.ends
  -- they come by name, one for each app
  pub rise : IsStrictlySortedBy (slice_cmp nat_cmp) (ended_apps status.ends)
  -- each of a file's name
  pub named : AllByRecursion (λ (e : AppEndText). is_file_name e.app ≡ true) status.ends
  -- and none is left out that was so at each
  pub whole : (app : List ℕ) (n : ℕ) → is_file_name app ≡ true → AtEachState old new (HasEndedAnywhere pod app n) → has_name (ended_apps status.ends) app ≡ true

abbrev pub IsStatusBetween : PodId → PodStatus → DirAt → DirAt → Type 0
IsStatusBetween pod status old new = IsPodStatus pod status old.process old.trace new.trace

-- it isn't a fault of the directory, nor want of memory
abbrev pub IsStatusAnswer : Result PodStatus ReportError → Type 0
IsStatusAnswer (Err DirFault) = ⊥
IsStatusAnswer (Err NoMemory) = ⊥
IsStatusAnswer result = Unit {0}

-- where nobody else steps, and this process holds no lock exclusively, the answer is that of the state before
abbrev pub TellsQuietly : PodId → Result PodStatus ReportError → DirAt → DirAt → Type 0
TellsQuietly pod result old new =
    Quiet old.process old.trace new.trace → OwnsNothing old.process (state_after old.trace).namespace → IsStatusAnswer result → result ≡ sequential_status (state_after old.trace) pod
