-- The command `cat-manifest`.
use Rattle.std.specs.Prelude.{◌≡◌, ℕ, Bool, true, Option, Some, None, List, ◌++◌, codes, Ok, Err}
use Rattle.dir_model.specs.declared.area.Phase.{Phase}
use Rattle.dir_model.specs.declared.event.Event.{Event}
use Rattle.dir_model.specs.declared.pod.PodId.{PodId}
use Rattle.dir_model.specs.Calls.{AtOwnStep}
use Rattle.dir_trait.specs.State.{DirState}
use Rattle.dir_files.specs.Reads.{file_at}
use Rattle.ac_types.specs.Outcomes.{reads, fails}
use Rattle.ac_types.specs.Outcomes as reading
use Rattle.manifests.specs.declared.pod_manifest.PodManifest.{PodManifest}
use Rattle.manifests.specs.PodData.{PodData, pod_data}
use Rattle.manifests.specs.PodForm.{pod_manifest}
use Rattle.phase_read.specs.Exact.{AtOwnEvent, IsNowhere}
use Rattle.phase_read.specs.declared.found.Found.{Found}
use Rattle.phase_read.specs.declared.found.Found.TheVariants.{At, Gone}
use Rattle.phase_read.specs.Sequential.{sequential_read}
use Rattle.pod_report.specs.declared.error.ReportError.{ReportError}
use Rattle.pod_report.specs.declared.error.ReportError.TheVariants as report
use Rattle.pod_report.specs.Manifests.{PodHasManifest, PodLacksManifest, manifest_in_area}
use Rattle.pod_report.specs.ManifestText.{manifest_text}
use Rattle.pod_report.specs.OwnReadings.{IsMissed}
use Rattle.pod_report.specs.Requests.{visits}
use Rattle.pod_report.specs.SeenManifests.{IsVisited}
use Rattle.command_outcomes.specs.declared.refusal.Refusal.{Refusal}
use Rattle.command_outcomes.specs.declared.refusal.Refusal.TheVariants.{DirFault, NoManifest, NoMemory, NoPod, Stray}
use Rattle.command_outcomes.specs.Ends.{is_common}
use Rattle.command_outcomes.specs.Moments.{CommandOutcome}
use Rattle.commands.specs.Phases.{names_none}
use Rattle.commands.specs.Report.{Report}

-- the line that it prints: the manifest's JSON without spaces
abbrev pub manifest_line : PodData → List ℕ
manifest_line manifest = manifest_text manifest ++ codes "\n"

-- the text is of a manifest of which this is so
pub record PrintsManifest (P : PodData → Type 0) (text : List ℕ) : Type 0 where
  pub manifest : PodData
  pub so : P manifest
  pub is : text ≡ manifest_line manifest

-- the refusals that it may have
abbrev pub cat_manifest_refusal : Refusal → Bool
cat_manifest_refusal NoPod = true
cat_manifest_refusal (NoManifest pod) = true
cat_manifest_refusal Stray = true
cat_manifest_refusal refusal = is_common refusal

-- what is said where no manifest of the pod was read
abbrev pub unread_refusal : PodId → ReportError → Refusal
unread_refusal pod report.NoPod = NoPod
unread_refusal pod report.NoManifest = NoManifest pod
unread_refusal pod report.DirFault = DirFault
unread_refusal pod report.Stray = Stray
unread_refusal pod report.NoMemory = NoMemory

-- an own reading found the pod, and then its file `pod` there was this manifest
pub record FindsThenSeesManifest (pod : PodId) (me : ℕ) (old new : List Event) (manifest : PodData) : Type 0 where
  pub read : PodManifest
  pub is : manifest ≡ pod_data read
  pub phase : Phase
  pub visited : IsVisited pod phase (Some read) me old new

-- or it was missing or had no reading; or own readings missed the pod
abbrev pub SeesPod : PodId → ℕ → List Event → List Event → CommandOutcome → Type 0
SeesPod pod me old new (Ok text) = PrintsManifest (FindsThenSeesManifest pod me old new) text
SeesPod pod me old new (Err NoPod) = IsMissed pod me old new
SeesPod pod me old new (Err (NoManifest other)) = (other ≡ pod) × (phase : Phase) × IsVisited pod phase None me old new
SeesPod pod me old new (Err refusal) = Unit {0}

-- at an own step the pod's file `pod` was this manifest, or it was missing or had no reading; or the pod didn't exist. Contradictory
-- answers don't come
abbrev pub TellsManifest : PodId → ℕ → List Event → List Event → CommandOutcome → Type 0
TellsManifest pod me old new (Ok text) = PrintsManifest (λ manifest. AtOwnStep me old new (PodHasManifest pod manifest)) text
TellsManifest pod me old new (Err NoPod) = AtOwnEvent me old new (IsNowhere pod)
TellsManifest pod me old new (Err (NoManifest other)) = (other ≡ pod) × AtOwnStep me old new (PodLacksManifest pod)
TellsManifest pod me old new (Err refusal) = ⊥

-- where nobody else steps: by the file `pod` in the first area in lifecycle order in which the pod stands in the state before
abbrev pub manifest_said : PodId → reading.Outcome PodData → CommandOutcome
manifest_said pod (reads manifest) = Ok (manifest_line manifest)
manifest_said pod (fails path kind) = Err (NoManifest pod)

abbrev pub file_said : PodId → Option (List ℕ) → CommandOutcome
file_said pod None = Err (NoManifest pod)
file_said pod (Some bytes) = manifest_said pod (pod_manifest bytes)

abbrev pub manifest_in : DirState → PodId → Found → CommandOutcome
manifest_in s pod Gone = Err NoPod
manifest_in s pod (At phase area) = file_said pod (file_at s (manifest_in_area pod area))

abbrev pub IsManifestIn : PodId → DirState → CommandOutcome → Type 0
IsManifestIn pod s o = o ≡ manifest_in s pod (sequential_read s pod)

-- it looks at the pod's locations and reads its manifest
abbrev pub cat_manifest_report : PodId → Report
cat_manifest_report pod = record {
  asks = visits pod;
  prints = λ text. (manifest : PodData) × (text ≡ manifest_line manifest);
  refusals = cat_manifest_refusal;
  names = names_none;
  sees = SeesPod pod;
  tells = TellsManifest pod;
  quiet = IsManifestIn pod;
}
