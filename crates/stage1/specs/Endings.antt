-- The apps that end, and those that are only waited for.
use Rattle.std.specs.Prelude.{◌≡◌, ℕ, ◌+◌, ◌==◌, Bool, List, [], ◌∷◌, ◌++◌, filter, length}
use Rattle.spawner.specs.declared.call.Child.{Child}
use Rattle.spawner.specs.declared.call.SpawnCall.{SpawnCall}
use Rattle.spawner.specs.Calls.{SpawnerAt}
use Rattle.stage1.specs.declared.start.AppStart.{AppStart}
use Rattle.stage1.specs.declared.stand.Stand.{Stand}
use Rattle.stage1.specs.declared.stand.Stand.TheVariants.{Running, Ended}
use Rattle.stage1.specs.Sequences.{ProgramRun, wait_call, handler_calls}
use Rattle.stage1.specs.Asking.{Asks}
use Rattle.stage1.specs.Cutting.{IsCutOff, count_of_starts, waits_for}
use Rattle.stage1.specs.Beginnings.{running, WaitFor}

-- a child is waited for that ends with this status, and then the handler after its app runs
abbrev pub end_calls : AppStart → Child → ℕ → ProgramRun → List SpawnCall
end_calls app child status ran = wait_call child status ∷ handler_calls app ran app.launch.post_stop

-- how often a child is among some
abbrev pub count_of_child : Child → List Child → ℕ
count_of_child child children = length (filter (λ c. c.number == child.number) children)

-- each of these children, and each that was started, was waited for
abbrev pub AreWaitedBeside : List Child → List SpawnCall → Type 0
AreWaitedBeside children calls = (child : Child) → waits_for child calls ≡ count_of_starts child calls + count_of_child child children

-- no child was started
abbrev pub StartsNone : List SpawnCall → Type 0
StartsNone calls = (child : Child) → count_of_starts child calls ≡ 0

-- the child was waited for, and nothing else was asked
pub record WasWaitedFor (observed : Bool) (child : Child) (old new : SpawnerAt) : Type 0 where
  pub status : ℕ
  pub calls : List SpawnCall
  pub part : IsCutOff (wait_call child status ∷ []) calls
  pub wait : WaitFor (child ∷ []) calls
  pub none : StartsNone calls
  pub asked : Asks observed old calls new

-- the app whose main program ran has ended
pub record AppHasEnded (observed : Bool) (app : AppStart) (child : Child) (status : ℕ) (old new : SpawnerAt) : Type 0 where
  pub ran : ProgramRun
  pub asked : Asks observed old (end_calls app child status ran) new

-- its ending was cut short, after its main program was waited for
pub record IsEndCut (observed : Bool) (app : AppStart) (child : Child) (old new : SpawnerAt) : Type 0 where
  pub status : ℕ
  pub ran : ProgramRun
  pub cut : List SpawnCall
  pub part : IsCutOff (end_calls app child status ran) cut
  pub waited : AreWaitedBeside (child ∷ []) cut
  pub asked : Asks observed old cut new

-- an app has ended from where it stood
abbrev pub EndsFromStand : Bool → AppStart → Stand → ℕ → SpawnerAt → SpawnerAt → Type 0
EndsFromStand observed app (Running child) status old new = AppHasEnded observed app child status old new
EndsFromStand observed app (Ended other) status old new = (status ≡ other) × Asks observed old [] new

-- the calls of an app's end were cut off
abbrev pub EndsCut : Bool → AppStart → Stand → SpawnerAt → SpawnerAt → Type 0
EndsCut observed app (Running child) old new = IsEndCut observed app child old new
EndsCut observed app (Ended other) old new = Asks observed old [] new

-- one app more has ended
pub record AddsEnd (observed : Bool) (app : AppStart) (stand : Stand) (before after : List ℕ) (old new : SpawnerAt) : Type 0 where
  pub status : ℕ
  pub added : after ≡ before ++ status ∷ []
  pub ends : EndsFromStand observed app stand status old new

-- the apps have ended, one after the other
pub record ThenEnd (observed : Bool) (app : AppStart) (stand : Stand) (status : ℕ) (Later : SpawnerAt → Type 0) (old : SpawnerAt) : Type 0 where
  pub between : SpawnerAt
  pub ends : EndsFromStand observed app stand status old between
  pub later : Later between

-- each app has ended, one after the other, with these statuses
abbrev pub HaveEnded : Bool → List AppStart → List Stand → List ℕ → SpawnerAt → SpawnerAt → Type 0
HaveEnded observed (app ∷ starts) (stand ∷ stands) (status ∷ statuses) old new = ThenEnd observed app stand status (λ between. HaveEnded observed starts stands statuses between new) old
HaveEnded observed [] [] [] old new = Asks observed old [] new
HaveEnded observed _ _ _ old new = ⊥

-- so many had their turn: the last of them was cut short
pub record AreEndsCut (observed : Bool) (starts : List AppStart) (stands : List Stand) (turns : ℕ) (old new : SpawnerAt) : Type 0 where
  pub done : List AppStart
  pub app : AppStart
  pub rest : List AppStart
  pub ended : List Stand
  pub stand : Stand
  pub others : List Stand
  pub apps : starts ≡ done ++ app ∷ rest
  pub stood : stands ≡ ended ++ stand ∷ others
  pub counted : turns ≡ length ended + 1
  pub statuses : List ℕ
  pub between : SpawnerAt
  pub before : HaveEnded observed done ended statuses old between
  pub cut : EndsCut observed app stand between new

-- each of these children was waited for, and nothing else was asked
pub record WereWaitedFor (observed : Bool) (children : List Child) (old new : SpawnerAt) : Type 0 where
  pub calls : List SpawnCall
  pub waits : WaitFor children calls
  pub none : StartsNone calls
  pub asked : Asks observed old calls new

-- and then those that were left were waited for
pub record AreEndsBroken (observed : Bool) (starts : List AppStart) (stands : List Stand) (old new : SpawnerAt) : Type 0 where
  pub turns : ℕ
  pub between : SpawnerAt
  pub cut : AreEndsCut observed starts stands turns old between
  pub waits : WereWaitedFor observed (running cut.others) between new
