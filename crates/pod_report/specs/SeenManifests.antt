-- What a process saw of a pod's manifest itself, whatever other processes do.
use Rattle.std.specs.Prelude.{◌⊎◌, ℕ, Option, Some, None, MatchOption, List, Result, Ok, Err}
use Rattle.manifests.specs.declared.pod_manifest.PodManifest.{PodManifest}
use Rattle.manifests.specs.PodData.{pod_data}
use Rattle.dir_model.specs.declared.area.Area.{Area}
use Rattle.dir_model.specs.declared.area.Phase.{Phase}
use Rattle.dir_model.specs.declared.event.Event.{Event}
use Rattle.dir_model.specs.declared.pod.PodId.{PodId}
use Rattle.dir_model.specs.Calls.{AtOwnStep}
use Rattle.dir_trait.specs.DirCalls.{DirAt}
use Rattle.pod_report.specs.declared.attempt.Round.{Round}
use Rattle.pod_report.specs.declared.attempt.Round.TheVariants.{Gone, Missed, Met}
use Rattle.pod_report.specs.declared.error.ReportError.{ReportError}
use Rattle.pod_report.specs.declared.error.ReportError.TheVariants.{NoPod, NoManifest}
use Rattle.pod_report.specs.declared.visit.Visit.{Visit}
use Rattle.pod_report.specs.Manifests.{HasManifestIn, HasUnreadable}
use Rattle.pod_report.specs.OwnReadings.{FindsPod, IsMissed}
use Rattle.pod_report.specs.Sights.{WasMissingThere}

-- of the file `pod` in an area: the manifest that it was, or that it was missing or unreadable
abbrev pub SeesManifest : PodId → Area → Option PodManifest → ℕ → List Event → List Event → Type 0
SeesManifest pod area (Some manifest) me old new = AtOwnStep me old new (HasManifestIn pod area (pod_data manifest))
SeesManifest pod area None me old new = AtOwnStep me old new (HasUnreadable pod area) ⊎ WasMissingThere pod area me old new

-- an own reading found the pod in this phase, and then the file `pod` there was this manifest, if any
pub record IsVisited (pod : PodId) (phase : Phase) (manifest : Option PodManifest) (me : ℕ) (old new : List Event) : Type 0 where
  pub area : Area
  pub found : List Event
  pub finds : FindsPod pod phase area me old found new
  pub sees : SeesManifest pod area manifest me found new

-- of a round of a visit
abbrev pub RoundSees : PodId → Round → DirAt → DirAt → Type 0
RoundSees pod Gone old new = IsMissed pod old.process old.trace new.trace
RoundSees pod Missed old new = Unit {0}
RoundSees pod (Met visit) old new = IsVisited pod visit.phase visit.manifest old.process old.trace new.trace

-- and of the whole visit
abbrev pub VisitSees : PodId → Option Visit → DirAt → DirAt → Type 0
VisitSees pod found old new = MatchOption found (IsMissed pod old.process old.trace new.trace) (λ visit. IsVisited pod visit.phase visit.manifest old.process old.trace new.trace)

-- in whatever phase it was found
abbrev pub WasVisited : PodId → Option PodManifest → DirAt → DirAt → Type 0
WasVisited pod manifest old new = (phase : Phase) × IsVisited pod phase manifest old.process old.trace new.trace

-- the manifest that is answered was read, or missed, or the pod was
abbrev pub AnswersRead : PodId → Result PodManifest ReportError → DirAt → DirAt → Type 0
AnswersRead pod (Ok manifest) old new = WasVisited pod (Some manifest) old new
AnswersRead pod (Err NoManifest) old new = WasVisited pod None old new
AnswersRead pod (Err NoPod) old new = IsMissed pod old.process old.trace new.trace
AnswersRead pod (Err error) old new = Unit {0}
