-- The command `run`.
use Rattle.std.specs.Prelude.{◌≡◌, ◌⊎◌, ℕ, Bool, true, List, [], ◌∷◌, Some, Err}
use Rattle.dir_model.specs.declared.area.Area.TheVariants as area
use Rattle.dir_model.specs.declared.intent.Draw.{Draw}
use Rattle.dir_model.specs.declared.intent.Intent.{Intent}
use Rattle.dir_model.specs.declared.pod.PodId.{PodId}
use Rattle.dir_model.specs.declared.request.Request.{Request}
use Rattle.dir_model.specs.declared.spot.Mode.TheVariants.{Exclusive}
use Rattle.dir_trait.specs.DirCalls.{DirAt, ExtendsBy}
use Rattle.dir_trait.specs.Knowledge.{Knows}
use Rattle.spawner.specs.Calls.{SpawnerAt}
use Rattle.folder_building.specs.Work.{either}
use Rattle.lifecycle.specs.Executions.{IsConforming}
use Rattle.pod_locks.specs.declared.owned.Owned.{Owned}
use Rattle.pod_locks.specs.Running.{IsOwned}
use Rattle.pod_build.specs.Progress.{nothing_made, seen_making, own_held}
use Rattle.pod_locks.specs.Work.{Grew}
use Rattle.pod_build.specs.Work.{WhereMakingPod, HasMakerFolder}
use Rattle.pod_build.specs.declared.error.BuildError.{BuildError}
use Rattle.pod_build.specs.Requests.{prepares}
use Rattle.pod_build.specs.Causes.{IsBuildRefused, AreaHeldElsewhere, IsMadeByPlan, FindsImagesFree}
use Rattle.pod_build.specs.Preparations.{Began, IsAlone, KnowsPrepared, IsPrepared}
use Rattle.stage1.specs.Runs.{runs_pod}
use Rattle.command_outcomes.specs.declared.refusal.Refusal.{Refusal}
use Rattle.command_outcomes.specs.declared.refusal.Refusal.TheVariants.{NoMemory}
use Rattle.command_outcomes.specs.Moments.{Answer, Inside}
use Rattle.commands.specs.References.{OfReferences}
use Rattle.commands.specs.PrepareRefusals.{IsSaidOfBuild}
use Rattle.commands.specs.Prepare.{pod_line}
use Rattle.commands.specs.Wants.{Wants}
use Rattle.commands.specs.AppRuns.{RunSays}

-- what it asks of the directory: what a prepare asks for that brings the pod to run, and what a run of the pod does
abbrev pub makes_and_runs : PodId → Request → Bool
makes_and_runs draw = either (prepares draw area.Run) (runs_pod draw)

-- by what it knows, the process has just begun to make and run a pod with that draw at that moment
abbrev pub CanRun : Draw → ℕ → DirAt → Type 0
CanRun draw now d = (intent : Intent) × Began area.Run draw now intent × Knows d (seen_making intent [] nothing_made)

-- it is so wherever a process has just begun so
abbrev pub WhereMaking : Draw → ℕ → DirAt → Type 0 → Type 0
WhereMaking draw now d P = WhereMakingPod (Began area.Run draw now) IsAlone nothing_made d (λ intent hs. P)

-- the pod was prepared by the plan that the store gave, and brought to run with its lock kept: by own answers, with the lock of images, which
-- no other process held exclusively, and faithfully where every process keeps the local rules; and then it was run, of which this is told
pub record MakesAndRuns (seen observed : Bool) (wants : Wants) (address : List ℕ) (now : ℕ) (draw : Draw) (d d' : DirAt) (s s' : SpawnerAt) (answer : Answer) : Type 0 where
  pub made : DirAt
  pub owned : Owned
  pub is_owned : IsOwned draw.uuid d.local owned
  pub same : made.process ≡ d.process
  pub free : FindsImagesFree seen d made
  pub planned : OfReferences wants.images (λ refs. IsMadeByPlan seen refs wants.wishes draw now d made)
  pub asked : seen ≡ true → ExtendsBy (prepares draw.uuid area.Run) d made
  pub knows : seen ≡ true → WhereMakingPod (Began area.Run draw now) IsAlone nothing_made d (λ intent hs. KnowsPrepared draw.uuid area.Run intent (own_held draw.uuid owned.own (Some Exclusive) ∷ []) made)
  pub faithful : seen ≡ true → IsConforming made.trace → WhereMaking draw now d (OfReferences wants.images (λ refs. IsPrepared refs wants.wishes d.process draw.uuid area.Run d.trace made.trace))
  pub then : seen ≡ true → Grew made.trace d'.trace
  pub says : RunSays seen observed owned address (pod_line draw.uuid) made d' s s' answer

-- the pod wasn't made, for this cause: at most its own folder is left in embryo or prepare, and nothing was asked of the spawner
pub record IsUnmade (seen : Bool) (wants : Wants) (now : ℕ) (draw : Draw) (d d' : DirAt) (s s' : SpawnerAt) (answer : Answer) : Type 0 where
  pub error : BuildError
  pub is : (refusal : Refusal) × (answer ≡ Err refusal) × IsSaidOfBuild wants.images error refusal
  pub cause : OfReferences wants.images (λ refs. IsBuildRefused seen refs wants.wishes draw now error d d')
  pub another : seen ≡ true → WhereMaking draw now d (AreaHeldElsewhere error d d')
  pub left : seen ≡ true → WhereMakingPod (Began area.Run draw now) IsAlone nothing_made d (λ intent hs. HasMakerFolder draw.uuid intent hs d')
  pub unasked : s' ≡ s

-- memory ran out before the first call
pub record IsUnbegun (d d' : DirAt) (s s' : SpawnerAt) (answer : Answer) : Type 0 where
  pub is : answer ≡ Err NoMemory
  pub same : d' ≡ d
  pub unasked : s' ≡ s

-- what was told of the pod
abbrev pub NewRunSays : Bool → Bool → Wants → List ℕ → ℕ → Draw → DirAt → DirAt → SpawnerAt → SpawnerAt → Answer → Type 0
NewRunSays seen observed wants address now draw d d' s s' answer =
    MakesAndRuns seen observed wants address now draw d d' s s' answer ⊎ IsUnmade seen wants now draw d d' s s' answer ⊎ IsUnbegun d d' s s' answer

abbrev pub RunIsTold : Wants → List ℕ → ℕ → Draw → Inside → Inside → Answer → Type 0
RunIsTold wants address now draw old new answer = NewRunSays old.observed old.spawner.observed wants address now draw old.dir new.dir old.spawner.shown new.spawner.shown answer
