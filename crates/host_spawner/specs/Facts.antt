-- What a system answered: facts of what stands on it, and of what was done there.
use Rattle.std.specs.Prelude.{◌≡◌, ℕ, Bool, Result, Ok, Err, List, [], ◌∷◌, ◌++◌, Option}
use Rattle.std.specs.Process.{command_program, command_args, command_dir, command_var, clears_env}
use Rattle.std.specs.declared.process.command.Command.{Command}
use Rattle.host_spawner.specs.declared.standing.Standing.{Standing}

-- what a program is started with
pub record Start : Type 0 where
  pub program : List ℕ
  pub args : List (List ℕ)
  -- whether it has only the variables that are set here
  pub alone : Bool
  pub vars : List ℕ → Option (Option (List ℕ))
  pub dir : Option (List ℕ)

abbrev pub start_of : {A : Type 0} → Command A → Start
start_of c = record { program = command_program c; args = command_args c; alone = clears_env c; vars = command_var c; dir = command_dir c }

pub data SpawnFact : Type 0 where
  -- this stands at the path, where a link isn't followed
  stands : List ℕ → Standing → SpawnFact
  -- a link to the second stands at the first
  links : List ℕ → List ℕ → SpawnFact
  -- what stands at the path got this mode
  has_mode : List ℕ → ℕ → SpawnFact
  -- a program was started
  starts : Start → SpawnFact

-- a success tells one fact more, a failure none
abbrev pub TellsSpawnFact : {A E : Type 0} → List SpawnFact → (A → SpawnFact) → Result A E → List SpawnFact → Type 0
TellsSpawnFact old fact (Ok value) new = new ≡ old ++ fact value ∷ []
TellsSpawnFact old fact (Err error) new = new ≡ old
