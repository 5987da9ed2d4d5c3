-- What a process saw itself of the pods that it lists, whatever other processes do.
use Rattle.std.specs.Prelude.{◌≡◌, ◌⊎◌, ℕ, true, Option, Some, None, List, [], ◌∷◌, ◌++◌}
use Rattle.std.specs.List.{AllByRecursion}
use Rattle.manifests.specs.declared.pod_manifest.PodManifest.{PodManifest}
use Rattle.dir_model.specs.declared.event.Event.{Event}
use Rattle.dir_model.specs.declared.pod.PodId.{PodId}
use Rattle.dir_model.specs.Listings.{has_name}
use Rattle.dir_model.specs.Pods.{pod_text}
use Rattle.dir_trait.specs.DirCalls.{DirAt}
use Rattle.pod_lookup.specs.Pods.{pod_names, FindsPods}
use Rattle.pod_report.specs.declared.line.PodLine.{PodLine}
use Rattle.pod_report.specs.OwnReadings.{IsMissed}
use Rattle.pod_report.specs.SeenManifests.{IsVisited}
use Rattle.pod_report.specs.Snapshot.{IsSublist, lined, names_told}

-- such a visit told a line
pub record IsLineSeen (me : ℕ) (old new : List Event) (line : PodLine) : Type 0 where
  pub manifest : Option PodManifest
  pub apps : line.apps ≡ names_told manifest
  pub visited : IsVisited line.pod line.phase manifest me old new

-- of a pod: its line was seen, or the pod missed
abbrev pub LineSees : PodId → Option PodLine → DirAt → DirAt → Type 0
LineSees pod None old new = IsMissed pod old.process old.trace new.trace
LineSees pod (Some line) old new = (line.pod ≡ pod) × IsLineSeen old.process old.trace new.trace line

-- that line was added, or none
abbrev pub AddsSeen : PodId → List PodLine → List PodLine → DirAt → DirAt → Type 0
AddsSeen pod before after old new =
    ((after ≡ before) × IsMissed pod old.process old.trace new.trace)
    ⊎ ((line : PodLine) × (after ≡ before ++ line ∷ []) × (line.pod ≡ pod) × IsLineSeen old.process old.trace new.trace line)

-- the pod has a line, or was missed
abbrev pub IsLinedOrMissed : ℕ → List Event → List Event → List PodLine → PodId → Type 0
IsLinedOrMissed me old new lines pod = (has_name (lined lines) (pod_text pod.bytes) ≡ true) ⊎ IsMissed pod me old new

-- of these pods, in their order, each that has no line was missed
pub record LinesSeen (pods : List PodId) (lines : List PodLine) (me : ℕ) (old new : List Event) : Type 0 where
  pub part : IsSublist (lined lines) (pod_names pods)
  pub each : AllByRecursion (IsLineSeen me old new) lines
  pub rest : AllByRecursion (IsLinedOrMissed me old new lines) pods

abbrev pub LinesSeenBetween : List PodId → List PodLine → DirAt → DirAt → Type 0
LinesSeenBetween pods lines old new = LinesSeen pods lines old.process old.trace new.trace

-- the six areas were listed, and then each pod that they showed was visited
pub record ListsSeen (lines : List PodLine) (me : ℕ) (old new : List Event) : Type 0 where
  pub listed : List Event
  pub pods : List PodId
  pub finds : FindsPods me old listed pods
  pub seen : LinesSeen pods lines me listed new

abbrev pub ListsSeenBetween : List PodLine → DirAt → DirAt → Type 0
ListsSeenBetween lines old new = ListsSeen lines old.process old.trace new.trace
