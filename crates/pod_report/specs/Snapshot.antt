-- The listing of pods, while others step: each line is true of a step, and no pod that is there all the time is left out.
use Rattle.std.specs.Prelude.{◌≡◌, ◌⊎◌, ℕ, true, false, Option, Some, None, List, [], ◌∷◌, ◌++◌, map}
use Rattle.std.specs.List.{AllByRecursion}
use Rattle.std.specs.List.Sorted.{IsStrictlySortedBy}
use Rattle.std.specs.Ordering.{nat_cmp}
use Rattle.std.specs.Cmp.Lexicographic.{slice_cmp}
use Rattle.dir_model.specs.declared.event.Event.{Event}
use Rattle.dir_model.specs.declared.pod.PodId.{PodId}
use Rattle.dir_model.specs.Pods.{pod_text}
use Rattle.dir_model.specs.Listings.{has_name}
use Rattle.dir_model.specs.Calls.{is_foreign, AtOwnStep}
use Rattle.dir_model.specs.State.{DirState}
use Rattle.dir_model.specs.Trace.{state_after}
use Rattle.dir_trait.specs.DirCalls.{DirAt}
use Rattle.lifecycle.specs.PodMachine.{pod_state, exists}
use Rattle.lifecycle.specs.Readings.{WasPhase}
use Rattle.manifests.specs.declared.pod_manifest.PodManifest.{PodManifest}
use Rattle.manifests.specs.PodData.{PodData, pod_data}
use Rattle.phase_read.specs.Exact.{AtOwnEvent, IsNowhere}
use Rattle.pod_lookup.specs.Pods.{pod_names, is_pod_name, pods_standing, NoFolderMoves}
use Rattle.pod_report.specs.declared.line.PodLine.{PodLine}
use Rattle.pod_report.specs.Manifests.{PodHasManifest, PodLacksManifest, app_names}
use Rattle.pod_report.specs.Visits.{IsPhase}

-- by its history the pod of this name exists at each own step between the two traces
abbrev pub ExistsThroughout : ℕ → List Event → List Event → List ℕ → Type 0
ExistsThroughout me old new name =
    (before : List Event) (step : Event) (later rest : List Event) → before ≡ old ++ later → new ≡ (before ++ step ∷ []) ++ rest →
    is_foreign me step ≡ false → exists (pod_state name (before ++ step ∷ [])) ≡ true

-- the pod's file `pod` is a manifest whose apps have these names
abbrev pub HasApps : PodId → List (List ℕ) → DirState → Type 0
HasApps pod names s = (manifest : PodData) × PodHasManifest pod manifest s × (names ≡ app_names manifest)

-- the names are those of a manifest that the file `pod` was at an own step. They are absent only where at one it was missing or had no
-- reading, or the pod didn't exist
abbrev pub AreAppsOf : PodId → Option (List (List ℕ)) → ℕ → List Event → List Event → Type 0
AreAppsOf pod (Some names) me old new = AtOwnStep me old new (HasApps pod names)
AreAppsOf pod None me old new = AtOwnStep me old new (PodLacksManifest pod) ⊎ AtOwnEvent me old new (IsNowhere pod)

-- a line of a pod: its phase is the pod's at an own step
pub record IsPodLine (me : ℕ) (old new : List Event) (line : PodLine) : Type 0 where
  pub phase : AtOwnEvent me old new (IsPhase line.pod line.phase)
  pub apps : AreAppsOf line.pod line.apps me old new

-- the names of the pods that have a line
abbrev pub lined : List PodLine → List (List ℕ)
lined lines = map (λ (line : PodLine). pod_text line.pod.bytes) lines

-- the lines rise by uuid, so that no pod has two; each is true; and each pod that exists at every own step has one
pub record IsWeakSnapshot (me : ℕ) (old new : List Event) (lines : List PodLine) : Type 0 where
  pub rise : IsStrictlySortedBy (slice_cmp nat_cmp) (lined lines)
  pub each : AllByRecursion (IsPodLine me old new) lines
  pub whole : (name : List ℕ) → is_pod_name name ≡ true → ExistsThroughout me old new name → has_name (lined lines) name ≡ true

abbrev pub IsSnapshotBetween : DirAt → DirAt → List PodLine → Type 0
IsSnapshotBetween old new lines = IsWeakSnapshot old.process old.trace new.trace lines

-- the names that a line has where this was read
abbrev pub names_told : Option PodManifest → Option (List (List ℕ))
names_told None = None
names_told (Some manifest) = Some (app_names (pod_data manifest))

-- the one list is the other without some of its elements
abbrev pub IsSublist : List (List ℕ) → List (List ℕ) → Type 0
IsSublist xs [] = xs ≡ []
IsSublist xs (y ∷ ys) = IsSublist xs ys ⊎ ((rest : List (List ℕ)) × (xs ≡ y ∷ rest) × IsSublist rest ys)

-- a pod's line, or that the pod didn't exist at an own step
abbrev pub LineTells : PodId → Option PodLine → DirAt → DirAt → Type 0
LineTells pod None old new = AtOwnEvent old.process old.trace new.trace (IsNowhere pod)
LineTells pod (Some line) old new = (line.pod ≡ pod) × IsPodLine old.process old.trace new.trace line

-- the pod's line was added, or the pod didn't exist at an own step
abbrev pub AddsPodLine : PodId → List PodLine → List PodLine → DirAt → DirAt → Type 0
AddsPodLine pod before after old new =
    ((after ≡ before) × AtOwnEvent old.process old.trace new.trace (IsNowhere pod))
    ⊎ ((line : PodLine) × (after ≡ before ++ line ∷ []) × (line.pod ≡ pod) × IsPodLine old.process old.trace new.trace line)

-- of these pods, in their order, each that has no line didn't exist at an own step
pub record TellsPods (pods : List PodId) (lines : List PodLine) (old new : DirAt) : Type 0 where
  pub part : IsSublist (lined lines) (pod_names pods)
  pub each : AllByRecursion (IsPodLine old.process old.trace new.trace) lines
  pub gone : (name : List ℕ) → has_name (pod_names pods) name ≡ true → has_name (lined lines) name ≡ false → WasPhase old.process old.trace new.trace name None

-- where no folder comes or goes meanwhile, exactly the pods that stood before have lines
abbrev pub LinesStanding : DirAt → DirAt → List PodLine → Type 0
LinesStanding old new lines = NoFolderMoves old.trace new.trace → lined lines ≡ pod_names (pods_standing (state_after old.trace).namespace)
