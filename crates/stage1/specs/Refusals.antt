-- What the refusals of lower calls mean, and why a run stops.
use Rattle.std.specs.Prelude.{◌≡◌, ℕ, Bool, true, List, ◌++◌}
use Rattle.dir_model.specs.declared.event.Event.{Event}
use Rattle.dir_model.specs.declared.request.DirError.{DirError}
use Rattle.dir_model.specs.declared.request.DirError.TheVariants as dir
use Rattle.dir_model.specs.declared.request.Reply.{Reply}
use Rattle.dir_model.specs.declared.request.Request.{Request}
use Rattle.dir_model.specs.Calls.{CallStep}
use Rattle.dir_model.specs.Causes.{Rose}
use Rattle.folder_building.specs.Work.{is_stray_building}
use Rattle.dir_trait.specs.DirCalls.{DirAt}
use Rattle.spawner.specs.declared.call.SpawnError.{SpawnError}
use Rattle.spawner.specs.declared.call.SpawnError.TheVariants as spawn
use Rattle.spawner.specs.Calls.{SpawnerAt}
use Rattle.stage1.specs.declared.load_error.LoadError.{LoadError}
use Rattle.stage1.specs.declared.load_error.LoadError.TheVariants as load
use Rattle.stage1.specs.declared.error.Fault.{Fault}
use Rattle.stage1.specs.declared.error.Fault.TheVariants as fault
use Rattle.stage1.specs.declared.error.RunError.{RunError}
use Rattle.stage1.specs.declared.error.RunError.TheVariants as run

-- what the spawner's errors mean
abbrev pub spawn_fault : SpawnError → Fault
spawn_fault spawn.Failed = fault.Spawn
spawn_fault spawn.NoMemory = fault.NoMemory

-- the directory refused to change what this process runs
abbrev pub change_fault : DirError → Fault
change_fault dir.Failed = fault.Dir
change_fault dir.NoMemory = fault.NoMemory
change_fault error = fault.Stray

-- what it means that apps couldn't be loaded
abbrev pub load_refusal : LoadError → RunError
load_refusal load.NoManifest = run.NoManifest
load_refusal (load.Damaged path) = run.Damaged path
load_refusal (load.NoProgram app word) = run.NoProgram app word
load_refusal load.DirFault = run.DirFault
load_refusal load.NoMemory = run.NoMemory

-- what a fault means for the run
abbrev pub fault_refusal : Fault → RunError
fault_refusal fault.Spawn = run.SpawnFault
fault_refusal fault.Dir = run.DirFault
fault_refusal fault.Stray = run.Stray
fault_refusal fault.NoMemory = run.NoMemory

-- a part that asks only the spawner stops for one of these causes
abbrev pub SpawnCause : Fault → SpawnerAt → SpawnerAt → Type 0
SpawnCause fault.Spawn old new = Rose old.faults new.faults
SpawnCause fault.NoMemory old new = Unit {0}
SpawnCause error old new = ⊥

-- an own step was answered as if the folder weren't the process's own
pub record WasStrayIn (me : ℕ) (old new : List Event) : Type 0 where
  pub before : List Event
  pub after : List Event
  pub earlier : List Event
  pub later : List Event
  pub request : Request
  pub reply : Reply
  pub stray : is_stray_building request reply ≡ true
  pub begins : before ≡ old ++ earlier
  pub step : CallStep me before request reply after
  pub ends : new ≡ after ++ later

-- the same between two moments
abbrev pub WasStrayRunBetween : DirAt → DirAt → Type 0
WasStrayRunBetween old new = WasStrayIn old.process old.trace new.trace

-- a part that asks only the directory
abbrev pub NoteCause : Bool → Fault → DirAt → DirAt → Type 0
NoteCause observed fault.Dir old new = Rose old.faults new.faults
NoteCause observed fault.Spawn old new = ⊥
NoteCause observed fault.Stray old new = observed ≡ true → WasStrayRunBetween old new
NoteCause observed fault.NoMemory old new = Unit {0}

-- a part that asks both
abbrev pub RunCause : Bool → Fault → DirAt → DirAt → SpawnerAt → SpawnerAt → Type 0
RunCause observed fault.Dir d d' s s' = Rose d.faults d'.faults
RunCause observed fault.Spawn d d' s s' = Rose s.faults s'.faults
RunCause observed fault.Stray d d' s s' = observed ≡ true → WasStrayRunBetween d d'
RunCause observed fault.NoMemory d d' s s' = Unit {0}
