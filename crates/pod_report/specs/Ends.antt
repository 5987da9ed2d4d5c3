-- How an app ended, as its status file tells it.
use Rattle.std.specs.Prelude.{◌≡◌, ◌≤◌, ℕ, true, Some, List, [], ◌∷◌, ◌++◌, map}
use Rattle.std.specs.Fmt.{decimal}
use Rattle.dir_model.specs.declared.area.Area.{Area}
use Rattle.dir_model.specs.declared.item.Inner.{Inner}
use Rattle.dir_model.specs.declared.pod.PodId.{PodId}
use Rattle.dir_model.specs.Areas.{is_stage}
use Rattle.dir_model.specs.State.{DirState}
use Rattle.dir_rules.specs.Marks.{status_directory}
use Rattle.dir_files.specs.Reads.{inner_at, file_at}
use Rattle.dir_model.specs.Spots.{pod_spot}
use Rattle.pod_report.specs.declared.ends.AppEndText.{AppEndText}

-- a status in decimal, and a line feed
abbrev pub status_text : ℕ → List ℕ
status_text status = decimal status ++ 10 ∷ []

-- the bytes are the text of this status
pub record IsStatusText (status : ℕ) (bytes : List ℕ) : Type 0 where
  pub small : status ≤ 255
  pub is : bytes ≡ status_text status

-- they are the text of no status
abbrev pub IsNoStatus : List ℕ → Type 0
IsNoStatus bytes = (status : ℕ) → IsStatusText status bytes → ⊥

-- the path of the file of an app's status
abbrev pub status_path : List ℕ → List ℕ
status_path app = status_directory ++ 47 ∷ app

-- that file in the pod's folder, where the folder stands in this area
abbrev pub status_file : PodId → Area → List ℕ → Inner
status_file pod area app = inner_at (pod_spot pod area) (status_path app)

-- it says that the app ended with this status
pub record HasEndedIn (pod : PodId) (area : Area) (app : List ℕ) (status : ℕ) (s : DirState) : Type 0 where
  pub bytes : List ℕ
  pub file : file_at s (status_file pod area app) ≡ Some bytes
  pub is : IsStatusText status bytes

-- it is the text of no status, or it is missing
abbrev pub HasNoEndIn : PodId → Area → List ℕ → DirState → Type 0
HasNoEndIn pod area app s = (status : ℕ) → HasEndedIn pod area app status s → ⊥

-- the app of the pod ended with this status, wherever the pod stands
abbrev pub HasEndedAnywhere : PodId → List ℕ → ℕ → DirState → Type 0
HasEndedAnywhere pod app status s = (area : Area) × (is_stage area ≡ true) × HasEndedIn pod area app status s

-- the names of the apps that ended
abbrev pub ended_apps : List AppEndText → List (List ℕ)
ended_apps ends = map (λ (e : AppEndText). e.app) ends
