-- The run of a pod that a process owns, and what is told of it.
use Rattle.std.specs.Prelude.{◌≡◌, ◌⊎◌, ℕ, Bool, true, List, Ok, Err}
use Rattle.dir_trait.specs.DirCalls.{DirAt}
use Rattle.spawner.specs.Calls.{SpawnerAt}
use Rattle.pod_locks.specs.declared.owned.Owned.{Owned}
use Rattle.stage1.specs.declared.end.AppEnd.{AppEnd}
use Rattle.stage1.specs.declared.error.RunError.{RunError}
use Rattle.stage1.specs.Runs.{HasRun, IsRefusedRun}
use Rattle.command_outcomes.specs.declared.refusal.Refusal.{Refusal}
use Rattle.command_outcomes.specs.declared.refusal.Refusal.TheVariants.{NoMemory}
use Rattle.command_outcomes.specs.declared.told.Told.{Told}
use Rattle.command_outcomes.specs.Moments.{Answer}
use Rattle.commands.specs.AppEnds.{told_of_ends}
use Rattle.commands.specs.RunRefusals.{IsRunSaid}
use Rattle.commands.specs.Strays.{NeverComes}
use Rattle.stage1.specs.declared.error.RunError.TheVariants.{Stray}

-- the pod was run to its end, with this address of the metadata service, and this is told after the text
pub record IsRunToEnd (seen observed : Bool) (owned : Owned) (address front : List ℕ) (d d' : DirAt) (s s' : SpawnerAt) (told : Told) : Type 0 where
  pub ends : List AppEnd
  pub is : told ≡ told_of_ends front ends
  pub ran : HasRun seen observed owned.pod owned.own address ends d d' s s'

-- it was run to its end, and no memory was left to tell it
pub record IsUntold (seen observed : Bool) (owned : Owned) (address : List ℕ) (d d' : DirAt) (s s' : SpawnerAt) (answer : Answer) : Type 0 where
  pub is : answer ≡ Err NoMemory
  pub ends : List AppEnd
  pub ran : HasRun seen observed owned.pod owned.own address ends d d' s s'

-- it wasn't run to its end, for this cause
pub record IsStopped (seen observed : Bool) (owned : Owned) (address : List ℕ) (d d' : DirAt) (s s' : SpawnerAt) (answer : Answer) : Type 0 where
  pub error : RunError
  pub is : (refusal : Refusal) × (answer ≡ Err refusal) × IsRunSaid owned.pod error refusal
  pub refused : IsRefusedRun seen observed owned.pod address error d d' s s'
  pub lawful : error ≡ Stray → seen ≡ true → NeverComes d'.trace

abbrev pub RunSays : Bool → Bool → Owned → List ℕ → List ℕ → DirAt → DirAt → SpawnerAt → SpawnerAt → Answer → Type 0
RunSays seen observed owned address front d d' s s' (Ok told) = IsRunToEnd seen observed owned address front d d' s s' told
RunSays seen observed owned address front d d' s s' (Err refusal) = IsStopped seen observed owned address d d' s s' (Err refusal) ⊎ IsUntold seen observed owned address d d' s s' (Err refusal)
