-- What one round of a status comes to: the pod is looked for, and its folder inspected where it is found.
use Rattle.std.specs.Prelude.{◌≡◌, ◌⊎◌, ℕ, true, false, Option, Some, None, List, [], ◌∷◌, ◌++◌}
use Rattle.std.specs.List.{AllByRecursion}
use Rattle.std.specs.List.Sorted.{IsStrictlySortedBy}
use Rattle.std.specs.Ordering.{nat_cmp}
use Rattle.std.specs.Cmp.Lexicographic.{slice_cmp}
use Rattle.dir_model.specs.declared.area.Area.{Area}
use Rattle.dir_model.specs.declared.area.Area.TheVariants.{Garbage}
use Rattle.dir_model.specs.declared.area.Phase.{Phase}
use Rattle.dir_model.specs.declared.event.Event.{Event}
use Rattle.dir_model.specs.declared.item.Item.{Item}
use Rattle.dir_model.specs.declared.pod.PodId.{PodId}
use Rattle.dir_model.specs.Calls.{AtOwnStep}
use Rattle.dir_model.specs.Listings.{has_name, item_names}
use Rattle.dir_model.specs.State.{DirState, stands, folder_at}
use Rattle.dir_model.specs.Trees.{has_dir}
use Rattle.dir_rules.specs.Marks.{status_directory}
use Rattle.dir_trait.specs.DirCalls.{DirAt}
use Rattle.dir_files.specs.Listed.{ShowsDirectory}
use Rattle.dir_files.specs.Reads.{inner_at}
use Rattle.phase_read.specs.Exact.{AtOwnEvent, IsNowhere}
use Rattle.dir_model.specs.Spots.{pod_spot}
use Rattle.pod_report.specs.declared.ends.AppEndText.{AppEndText}
use Rattle.pod_report.specs.declared.inspect.Inspection.{Inspection}
use Rattle.pod_report.specs.declared.inspect.Inspection.TheVariants.{Gone, Missed, Met}
use Rattle.pod_report.specs.declared.status.PodStatus.{PodStatus}
use Rattle.pod_report.specs.Created.{IsLatestCreation}
use Rattle.pod_report.specs.Ends.{HasEndedIn, HasNoEndIn, ended_apps}
use Rattle.pod_report.specs.Moments.{IsMoment}
use Rattle.pod_report.specs.Rounds.{HasLeft, LeavesOneMore}
use Rattle.pod_report.specs.Snapshot.{IsSublist}
use Rattle.pod_report.specs.Status.{IsPodStatus}

-- a listing of the pod's folder showed this as the greatest created- mark
pub record ShowsCreationMark (pod : PodId) (area : Area) (created : Option ℕ) (me : ℕ) (old new : List Event) : Type 0 where
  pub items : List Item
  pub shows : ShowsDirectory me old new (inner_at (pod_spot pod area) []) items
  pub greatest : IsLatestCreation items created

-- or no folder stood there when it began
abbrev pub TellsMarks : PodId → Area → Option ℕ → ℕ → List Event → List Event → Type 0
TellsMarks pod area created me old new = ShowsCreationMark pod area created me old new ⊎ AtOwnStep me old new (λ s. folder_at s.namespace (pod_spot pod area) ≡ None)

-- what the status file of this name told: the app's end, or that it is none
abbrev pub TellsEnd : PodId → Area → List ℕ → Option ℕ → ℕ → List Event → List Event → Type 0
TellsEnd pod area app (Some status) me old new = AtOwnStep me old new (HasEndedIn pod area app status)
TellsEnd pod area app None me old new = AtOwnStep me old new (HasNoEndIn pod area app)

-- of the files of these names, in their order, each that isn't told of was no end
pub record TellsEachEnd (pod : PodId) (area : Area) (names : List (List ℕ)) (ends : List AppEndText) (me : ℕ) (old new : List Event) : Type 0 where
  pub part : IsSublist (ended_apps ends) names
  pub each : AllByRecursion (λ (e : AppEndText). AtOwnStep me old new (HasEndedIn pod area e.app e.status)) ends
  pub left : (name : List ℕ) → has_name names name ≡ true → has_name (ended_apps ends) name ≡ false → AtOwnStep me old new (HasNoEndIn pod area name)

-- the app's end was added, or its file told none
abbrev pub AddsAppEnd : PodId → Area → List ℕ → List AppEndText → List AppEndText → ℕ → List Event → List Event → Type 0
AddsAppEnd pod area app before after me old new =
    ((after ≡ before) × AtOwnStep me old new (HasNoEndIn pod area app))
    ⊎ ((status : ℕ) × (after ≡ before ++ record { app = app; status = status } ∷ []) × AtOwnStep me old new (HasEndedIn pod area app status))

-- the directory of statuses was listed, and then each file read that was shown
pub record ShowsEnds (pod : PodId) (area : Area) (ends : List AppEndText) (me : ℕ) (old new : List Event) : Type 0 where
  pub between : List Event
  pub moment : IsMoment old between new
  pub items : List Item
  pub rise : IsStrictlySortedBy (slice_cmp nat_cmp) (item_names items)
  pub shows : ShowsDirectory me old between (inner_at (pod_spot pod area) status_directory) items
  pub each : TellsEachEnd pod area (item_names items) ends me between new

-- the folder there, if one stands there, has no directory of statuses
abbrev pub LacksStatuses : PodId → Area → DirState → Type 0
LacksStatuses pod area s = (folder : ℕ) → folder_at s.namespace (pod_spot pod area) ≡ Some folder → has_dir s.entries folder status_directory ≡ false

-- or the directory was missing, and there are none
abbrev pub TellsEnds : PodId → Area → List AppEndText → ℕ → List Event → List Event → Type 0
TellsEnds pod area ends me old new = ShowsEnds pod area ends me old new ⊎ ((ends ≡ []) × AtOwnStep me old new (LacksStatuses pod area))

-- the marks were told, then the ends, and then the pod was still there
pub record SeesStatus (pod : PodId) (area : Area) (status : PodStatus) (me : ℕ) (old new : List Event) : Type 0 where
  pub marked : List Event
  pub ended : List Event
  pub after_marks : IsMoment old marked new
  pub after_ends : IsMoment marked ended new
  pub marks : TellsMarks pod area status.created me old marked
  pub ends : TellsEnds pod area status.ends me marked ended
  pub there : AtOwnStep me ended new (λ s. stands s.namespace (pod_spot pod area) ≡ true)

-- of a place: the status that was seen there, or that the pod wasn't there any more
abbrev pub SeesAt : PodId → Area → Phase → Option PodStatus → ℕ → List Event → List Event → Type 0
SeesAt pod area phase None me old new = AtOwnStep me old new (λ s. stands s.namespace (pod_spot pod area) ≡ false)
SeesAt pod area phase (Some status) me old new = (status.phase ≡ phase) × SeesStatus pod area status me old new

-- who isn't where it was found has moved on, and is gone if that was the last place
abbrev pub moved_on : Area → Inspection
moved_on Garbage = Gone
moved_on _ = Missed

-- of a round: the pod didn't exist, or it left one area more behind, or this is its status
abbrev pub InspectionTells : PodId → Inspection → DirAt → DirAt → Type 0
InspectionTells pod Gone old new = AtOwnEvent old.process old.trace new.trace (IsNowhere pod)
InspectionTells pod Missed old new = (n : ℕ) → HasLeft pod n old → LeavesOneMore pod n new
InspectionTells pod (Met status) old new = IsPodStatus pod status old.process old.trace new.trace
