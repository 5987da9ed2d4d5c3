-- What one state tells of pods: the answers where nobody else steps.
use Rattle.std.specs.Prelude.{◌≡◌, ℕ, true, Option, Some, None, List, false, Result, Ok, Err}
use Rattle.std.specs.List.{AllByRecursion}
use Rattle.ac_types.specs.Outcomes.{Outcome, reads, fails}
use Rattle.manifests.specs.declared.pod_manifest.PodManifest.{PodManifest}
use Rattle.manifests.specs.PodData.{PodData, pod_data}
use Rattle.manifests.specs.PodForm.{pod_manifest}
use Rattle.dir_model.specs.declared.area.Area.{Area}
use Rattle.dir_model.specs.declared.pod.PodId.{PodId}
use Rattle.dir_model.specs.Areas.{is_stage, phase_in}
use Rattle.dir_model.specs.Quiet.{Quiet, OwnsNothing}
use Rattle.dir_model.specs.State.{DirState, stands, is_owned_at}
use Rattle.dir_model.specs.Trace.{state_after}
use Rattle.dir_trait.specs.DirCalls.{DirAt}
use Rattle.dir_files.specs.Reads.{file_at}
use Rattle.dir_model.specs.Spots.{pod_spot}
use Rattle.pod_lookup.specs.Pods.{pod_names, pods_standing}
use Rattle.pod_report.specs.declared.error.ReportError.{ReportError}
use Rattle.pod_report.specs.declared.error.ReportError.TheVariants.{NoPod, NoManifest}
use Rattle.pod_report.specs.declared.line.PodLine.{PodLine}
use Rattle.pod_report.specs.Manifests.{PodHasManifest, PodLacksManifest, manifest_in_area, app_names}
use Rattle.pod_report.specs.Snapshot.{lined}

-- the names of a manifest's apps, where it has a reading
abbrev pub names_read : Outcome PodData → Option (List (List ℕ))
names_read (reads manifest) = Some (app_names manifest)
names_read (fails path kind) = None

-- and where there is a file
abbrev pub names_in_file : Option (List ℕ) → Option (List (List ℕ))
names_in_file None = None
names_in_file (Some bytes) = names_read (pod_manifest bytes)

-- the pod stands in an area, its phase is by the area and the lock, and its apps are by its file `pod` there
pub record IsLineOfPod (s : DirState) (line : PodLine) : Type 0 where
  pub area : Area
  pub stage : is_stage area ≡ true
  pub there : stands s.namespace (pod_spot line.pod area) ≡ true
  pub phase : phase_in area (is_owned_at s.namespace (pod_spot line.pod area)) ≡ Some line.phase
  pub apps : line.apps ≡ names_in_file (file_at s (manifest_in_area line.pod area))

-- a line for each pod that stands, by uuid
pub record AreThePodLines (s : DirState) (lines : List PodLine) : Type 0 where
  pub pods : lined lines ≡ pod_names (pods_standing s.namespace)
  pub each : AllByRecursion (IsLineOfPod s) lines

-- where nobody else steps, and this process holds no lock exclusively, the lines are those of the state before
abbrev pub ListsPodsQuietly : DirAt → DirAt → List PodLine → Type 0
ListsPodsQuietly old new lines =
    Quiet old.process old.trace new.trace → OwnsNothing old.process (state_after old.trace).namespace → AreThePodLines (state_after old.trace) lines

-- the pod's manifest, or that it has none, or that it stands nowhere
abbrev pub IsManifestBy : DirState → PodId → Result PodManifest ReportError → Type 0
IsManifestBy s pod (Ok manifest) = PodHasManifest pod (pod_data manifest) s
IsManifestBy s pod (Err NoManifest) = PodLacksManifest pod s
IsManifestBy s pod (Err NoPod) = (area : Area) → is_stage area ≡ true → stands s.namespace (pod_spot pod area) ≡ false
IsManifestBy s pod (Err error) = Unit {0}

abbrev pub ReadsManifestQuietly : PodId → Result PodManifest ReportError → DirAt → DirAt → Type 0
ReadsManifestQuietly pod result old new =
    Quiet old.process old.trace new.trace → OwnsNothing old.process (state_after old.trace).namespace → IsManifestBy (state_after old.trace) pod result
