-- One program of an app, and one handler.
use Rattle.std.specs.Prelude.{◌≡◌, ℕ, Bool, Option, List, [], ◌∷◌}
use Rattle.spawner.specs.declared.call.Child.{Child}
use Rattle.spawner.specs.declared.call.SpawnCall.{SpawnCall}
use Rattle.spawner.specs.declared.call.SpawnError.{SpawnError}
use Rattle.spawner.specs.declared.call.SpawnRequest.{SpawnRequest}
use Rattle.spawner.specs.declared.call.SpawnRequest.TheVariants.{Ready, Start, Wait}
use Rattle.spawner.specs.declared.call.SpawnReply.TheVariants.{Refused}
use Rattle.spawner.specs.Calls.{SpawnerAt, call}
use Rattle.stage1.specs.declared.start.AppStart.{AppStart}
use Rattle.stage1.specs.Sequences.{ProgramRun, program_calls, handler_calls, handler_status}
use Rattle.stage1.specs.Asking.{Asks}
use Rattle.stage1.specs.Cutting.{IsCutOff, AreWaitedFor}

-- an app's root is to be made ready
abbrev pub ready_request : AppStart → SpawnRequest
ready_request app = Ready app.root app.listing.items

-- a program of an app is to be started
abbrev pub start_request : AppStart → List (List ℕ) → SpawnRequest
start_request app argv = Start app.root argv app.launch.environment app.launch.directory

-- a child is to be waited for
abbrev pub wait_request : Child → SpawnRequest
wait_request child = Wait child

-- this was asked, and refused
pub record SpawnWasRefused (observed : Bool) (request : SpawnRequest) (old new : SpawnerAt) : Type 0 where
  pub error : SpawnError
  pub asked : Asks observed old (call request (Refused error) ∷ []) new

-- the program ran to its end, with this status
pub record RanProgram (observed : Bool) (app : AppStart) (argv : List (List ℕ)) (status : ℕ) (old new : SpawnerAt) : Type 0 where
  pub child : Child
  pub asked : Asks observed old (program_calls app (record { child = child; status = status }) argv) new

-- some calls were cut short that were to be these, and no child is left
pub record WasCut (observed : Bool) (whole : ProgramRun → List SpawnCall) (old new : SpawnerAt) : Type 0 where
  pub ran : ProgramRun
  pub cut : List SpawnCall
  pub part : IsCutOff (whole ran) cut
  pub waited : AreWaitedFor cut
  pub asked : Asks observed old cut new

-- the calls of a program's run were cut off
abbrev pub ProgramCut : Bool → AppStart → List (List ℕ) → SpawnerAt → SpawnerAt → Type 0
ProgramCut observed app argv old new = WasCut observed (λ ran. program_calls app ran argv) old new

-- the handler ran to its end, where there is one
pub record RanHandler (observed : Bool) (app : AppStart) (handler : Option (List (List ℕ))) (status : ℕ) (old new : SpawnerAt) : Type 0 where
  pub ran : ProgramRun
  pub is : status ≡ handler_status ran handler
  pub asked : Asks observed old (handler_calls app ran handler) new

-- the calls of a handler's run were cut off
abbrev pub HandlerCut : Bool → AppStart → Option (List (List ℕ)) → SpawnerAt → SpawnerAt → Type 0
HandlerCut observed app handler old new = WasCut observed (λ ran. handler_calls app ran handler) old new
