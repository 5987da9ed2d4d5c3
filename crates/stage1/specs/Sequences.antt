-- What is asked of a spawner that runs the apps of a pod, call by call.
use Rattle.std.specs.Prelude.{ℕ, ◌==◌, Bool, cond, Option, Some, None, List, [], ◌∷◌, ◌++◌, map}
use Rattle.std.specs.List.{flat_map}
use Rattle.spawner.specs.declared.call.Child.{Child}
use Rattle.spawner.specs.declared.call.SpawnCall.{SpawnCall}
use Rattle.spawner.specs.declared.call.SpawnRequest.TheVariants.{Ready, Start, Wait}
use Rattle.spawner.specs.declared.call.SpawnReply.TheVariants.{Done, Started, Ended}
use Rattle.spawner.specs.Calls.{call}
use Rattle.stage1.specs.declared.start.AppStart.{AppStart}

-- a program that was started, and that ended with this status
pub record ProgramRun : Type 0 where
  pub child : Child
  pub status : ℕ

-- how an app began: what its handler before it came to, where it has one, and the child of its main program, where that was started
pub record Beginning : Type 0 where
  pub app : AppStart
  pub handler : ProgramRun
  pub main : Child

-- how it ended: the status of its main program, and what its handler after it came to
pub record Ending : Type 0 where
  pub begun : Beginning
  pub status : ℕ
  pub handler : ProgramRun

-- the calls: an app's root is made ready, a program of it is started, a child is waited for
abbrev pub ready_call : AppStart → SpawnCall
ready_call app = call (Ready app.root app.listing.items) Done

-- a program was started as this child
abbrev pub start_call : AppStart → List (List ℕ) → Child → SpawnCall
start_call app argv child = call (Start app.root argv app.launch.environment app.launch.directory) (Started child)

-- a child was waited for, and ended with this status
abbrev pub wait_call : Child → ℕ → SpawnCall
wait_call child status = call (Wait child) (Ended status)

-- a program runs to its end
abbrev pub program_calls : AppStart → ProgramRun → List (List ℕ) → List SpawnCall
program_calls app ran argv = start_call app argv ran.child ∷ wait_call ran.child ran.status ∷ []

-- a handler does, where there is one
abbrev pub handler_calls : AppStart → ProgramRun → Option (List (List ℕ)) → List SpawnCall
handler_calls app ran None = []
handler_calls app ran (Some argv) = program_calls app ran argv

-- what it comes to: 0 where there is none
abbrev pub handler_status : ProgramRun → Option (List (List ℕ)) → ℕ
handler_status ran None = 0
handler_status ran (Some argv) = ran.status

-- the status of the pre-start program: 0 where there is none
abbrev pub first_status : Beginning → ℕ
first_status b = handler_status b.handler b.app.launch.pre_start

-- the main program starts only where the handler before it ended with 0
abbrev pub starts_main : Beginning → Bool
starts_main b = first_status b == 0

-- the start of the main program, where it is started
abbrev pub main_calls : Beginning → List SpawnCall
main_calls b = cond (starts_main b) (start_call b.app b.app.launch.main b.main ∷ []) []

-- an app begins: its root is made ready, the handler before it runs, its main program is started
abbrev pub first_calls : Beginning → List SpawnCall
first_calls b = ready_call b.app ∷ (handler_calls b.app b.handler b.app.launch.pre_start ++ main_calls b)

-- it ends, where its main program was started: that is waited for, and the handler after it runs
abbrev pub later_calls : Ending → List SpawnCall
later_calls e = cond (starts_main e.begun) (wait_call e.begun.main e.status ∷ handler_calls e.begun.app e.handler e.begun.app.launch.post_stop) []

-- its status: its main program's, or else its handler's
abbrev pub app_status_of : Ending → ℕ
app_status_of e = cond (starts_main e.begun) e.status (first_status e.begun)

-- all apps begin in their order, and then all end in their order
abbrev pub launch_sequence : List Ending → List SpawnCall
launch_sequence es = flat_map first_calls (map (λ e. e.begun) es) ++ flat_map later_calls es
