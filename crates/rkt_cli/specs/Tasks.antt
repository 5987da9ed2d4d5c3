-- What a command line asks to be done, with the pod that its word means.
use Rattle.std.specs.Prelude.{◌≡◌, ℕ, Bool, true, false, List, length, Option, Some, None, Ok}
use Rattle.ac_types.specs.declared.store_key.StoreKey.{StoreKey}
use Rattle.dir_model.specs.declared.intent.Draw.{Draw}
use Rattle.dir_model.specs.declared.pod.PodId.{PodId}
use Rattle.dir_model.specs.declared.event.Event.{Event}
use Rattle.dir_model.specs.Pods.{pod_text}
use Rattle.dir_model.specs.Quiet.{Quiet, OwnsNothing}
use Rattle.dir_model.specs.Trace.{state_after}
use Rattle.dir_rules.specs.Marks.{begins}
use Rattle.lifecycle.specs.Executions.{IsConforming}
use Rattle.pod_lookup.specs.Choice.{is_meant, choice, sequential_resolve}
use Rattle.pod_lookup.specs.Moments.{AtEachMoment, AtSomeMoment, Exists}
use Rattle.pod_lookup.specs.Pods.{is_pod_name, FindsPods}
use Rattle.pod_lookup.specs.Resolved.{IsTheOne}
use Rattle.commands.specs.Wants.{Wants}
use Rattle.rkt_cli.specs.declared.line.Line.{Line}
use Rattle.rkt_cli.specs.declared.line.Line.TheVariants as line

-- a command, with the word by which it names a pod, and that pod
pub data Task : Type 0 where
  Status : List ℕ → PodId → Task
  PodList : Task
  CatManifest : List ℕ → PodId → Task
  Validate : List ℕ → Task
  ImageList : Task
  ImageImport : List ℕ → Task
  ImageRm : StoreKey → Task
  ImageGc : Task
  Prepare : Wants → Task
  RunPrepared : List ℕ → PodId → List ℕ → Task
  Run : Wants → List ℕ → Task
  Rm : List ℕ → PodId → Task
  Gc : ℕ → ℕ → Task
  Metadata : List ℕ → ℕ → Task
  Demo : ℕ → Task

-- the task of a line, where this is its pod
abbrev pub task_of : Line → PodId → Task
task_of (line.Status word) pod = Status word pod
task_of line.PodList pod = PodList
task_of (line.CatManifest word) pod = CatManifest word pod
task_of (line.Validate path) pod = Validate path
task_of line.ImageList pod = ImageList
task_of (line.ImageImport path) pod = ImageImport path
task_of (line.ImageRm key) pod = ImageRm key
task_of line.ImageGc pod = ImageGc
task_of (line.Prepare wants) pod = Prepare wants
task_of (line.RunPrepared word address) pod = RunPrepared word pod address
task_of (line.Run wants address) pod = Run wants address
task_of (line.Rm word) pod = Rm word pod
task_of (line.Gc grace expire) pod = Gc grace expire
task_of (line.Metadata address count) pod = Metadata address count
task_of (line.Demo count) pod = Demo count

-- the demo is no task for one process: it performs other commands
abbrev pub is_demo : Line → Bool
is_demo (line.Demo count) = true
is_demo line = false

-- whether it takes connections of a listener
abbrev pub takes_links : Line → Bool
takes_links (line.Metadata address count) = true
takes_links line = false

-- the word by which a line names a pod
abbrev pub pod_word_of : Line → Option (List ℕ)
pod_word_of (line.Status word) = Some word
pod_word_of (line.CatManifest word) = Some word
pod_word_of (line.RunPrepared word address) = Some word
pod_word_of (line.Rm word) = Some word
pod_word_of line = None

-- the word begins the pod's uuid, or is it; a line without such a word is about the pod that is drawn
pub record IsMeant (word : List ℕ) (pod : PodId) : Type 0 where
  pub begins : is_meant word pod ≡ true
  pub whole : length word ≡ 36 → pod_text pod.bytes ≡ word

abbrev pub IsMeantBy : Option (List ℕ) → Draw → PodId → Type 0
IsMeantBy None draw pod = pod ≡ draw.uuid
IsMeantBy (Some word) draw pod = IsMeant word pod

-- the process came to this pod by the word
pub record IsFoundByWord (word : List ℕ) (pod : PodId) (me : ℕ) (old new : List Event) : Type 0 where
  -- of a word that is no whole uuid: the six areas were listed, and of the pods that they showed it is the only one that the word begins
  pub shown : (length word ≡ 36 → ⊥) → (pods : List PodId) × FindsPods me old new pods × (Ok pod ≡ choice word pods)
  -- so where every process keeps the local rules, it existed at some moment of the look
  pub existed : (length word ≡ 36 → ⊥) → IsConforming new → AtSomeMoment old new (Exists (pod_text pod.bytes))
  -- and where of the pods that the word begins the same one exists at each moment, and no other at any, it is that one
  pub the_one : IsConforming new → (name : List ℕ) → is_pod_name name ≡ true → begins word name ≡ true → AtEachMoment old new (IsTheOne word name) → pod_text pod.bytes ≡ name
  -- where nobody else steps, and the process holds no lock exclusively, it is the one that the word means in the state before
  pub quiet : Quiet me old new → OwnsNothing me (state_after old).namespace → Ok pod ≡ sequential_resolve (state_after old) word

-- a task's word means its pod
abbrev pub MeansItsPod : Task → Type 0
MeansItsPod (Status word pod) = IsMeant word pod
MeansItsPod (CatManifest word pod) = IsMeant word pod
MeansItsPod (RunPrepared word pod address) = IsMeant word pod
MeansItsPod (Rm word pod) = IsMeant word pod
MeansItsPod task = Unit {0}

-- and its pod was found by a look between two traces
abbrev pub FindsItsPod : Task → ℕ → List Event → List Event → Type 0
FindsItsPod (Status word pod) me old new = IsFoundByWord word pod me old new
FindsItsPod (CatManifest word pod) me old new = IsFoundByWord word pod me old new
FindsItsPod (RunPrepared word pod address) me old new = IsFoundByWord word pod me old new
FindsItsPod (Rm word pod) me old new = IsFoundByWord word pod me old new
FindsItsPod task me old new = Unit {0}
