-- The apps that have begun, and those whose main programs run.
use Rattle.std.specs.Prelude.{◌≡◌, ℕ, ◌==◌, Bool, cond, List, [], ◌∷◌, ◌++◌, map}
use Rattle.std.specs.List.{AllByRecursion, flat_map}
use Rattle.dir_model.specs.declared.spot.Spot.{Spot}
use Rattle.dir_trait.specs.DirCalls.{DirAt}
use Rattle.spawner.specs.declared.call.Child.{Child}
use Rattle.spawner.specs.declared.call.SpawnCall.{SpawnCall}
use Rattle.spawner.specs.declared.call.SpawnRequest.TheVariants.{Wait}
use Rattle.spawner.specs.Calls.{SpawnerAt}
use Rattle.spawner.specs.Conditions.{StillRuns}
use Rattle.stage1.specs.declared.start.AppStart.{AppStart}
use Rattle.stage1.specs.declared.stand.Stand.{Stand}
use Rattle.stage1.specs.declared.stand.Stand.TheVariants.{Running, Ended}
use Rattle.stage1.specs.Sequences.{ProgramRun, Beginning, ready_call, start_call, handler_calls, handler_status, first_calls, starts_main, first_status}
use Rattle.stage1.specs.Asking.{Asks, StartedIn}
use Rattle.stage1.specs.Cutting.{IsCutOff, AreWaitedFor}
use Rattle.stage1.specs.Notes.{WroteStatus, IsRootInRun, IsMarked}
use Rattle.stage1.specs.Programs.{WasCut}

-- where an app stands that has begun
abbrev pub app_state_of : Beginning → Stand
app_state_of b = cond (starts_main b) (Running b.main) (Ended (first_status b))

-- the children that run
abbrev pub running : List Stand → List Child
running [] = []
running (Running child ∷ stands) = child ∷ running stands
running (Ended status ∷ stands) = running stands

-- the app's root is in a pod in run
abbrev pub IsInRun : AppStart → Type 0
IsInRun app = IsRootInRun app.root

-- each is in this pod
abbrev pub AreAt : Spot → List AppStart → Type 0
AreAt spot starts = AllByRecursion (λ app. app.root.spot ≡ spot) starts

-- the process runs the pod of each
abbrev pub RunsEach : DirAt → List AppStart → Type 0
RunsEach d starts = AllByRecursion (λ app. StillRuns d app.root.spot.name) starts

-- each is marked, and may be started
abbrev pub AreMarked : DirAt → List AppStart → Type 0
AreMarked d starts = AllByRecursion (λ app. IsMarked d app.root) starts

-- a child that runs was started in its app's root
abbrev pub IsStartedIn : List SpawnCall → AppStart → Stand → Type 0
IsStartedIn calls app (Running child) = StartedIn app.root child calls
IsStartedIn calls app (Ended status) = Unit {0}

-- each app stands as these calls tell
abbrev pub AreStartedIn : List SpawnCall → List AppStart → List Stand → Type 0
AreStartedIn calls (app ∷ starts) (stand ∷ stands) = IsStartedIn calls app stand × AreStartedIn calls starts stands
AreStartedIn calls [] [] = Unit {0}
AreStartedIn calls _ _ = ⊥

-- the status of an app that has ended was written
abbrev pub IsStatusWritten : DirAt → AppStart → Stand → Type 0
IsStatusWritten d app (Running child) = Unit {0}
IsStatusWritten d app (Ended status) = WroteStatus app.root status d

-- the status of each app that ended before its main program began was written
abbrev pub AreStatusesWritten : DirAt → List AppStart → List Stand → Type 0
AreStatusesWritten d (app ∷ starts) (stand ∷ stands) = IsStatusWritten d app stand × AreStatusesWritten d starts stands
AreStatusesWritten d [] [] = Unit {0}
AreStatusesWritten d _ _ = ⊥

-- its root was made ready, and the handler before it ran
abbrev pub prelude_calls : AppStart → ProgramRun → List SpawnCall
prelude_calls app ran = ready_call app ∷ handler_calls app ran app.launch.pre_start

-- the app's root was made ready and its pre-start program, if it has one, ran to its end
pub record RanPrelude (observed : Bool) (app : AppStart) (status : ℕ) (old new : SpawnerAt) : Type 0 where
  pub ran : ProgramRun
  pub is : status ≡ handler_status ran app.launch.pre_start
  pub asked : Asks observed old (prelude_calls app ran) new

-- or these calls were cut off
abbrev pub PreludeCut : Bool → AppStart → SpawnerAt → SpawnerAt → Type 0
PreludeCut observed app old new = WasCut observed (prelude_calls app) old new

-- its main program is started after a handler with this status
abbrev pub main_calls_after : AppStart → ℕ → Child → List SpawnCall
main_calls_after app status child = cond (status == 0) (start_call app app.launch.main child ∷ []) []

-- after that its main program was started, where the status allowed it
pub record StartedMain (observed : Bool) (app : AppStart) (status : ℕ) (stand : Stand) (old new : SpawnerAt) : Type 0 where
  pub main : Child
  pub is : stand ≡ cond (status == 0) (Running main) (Ended status)
  pub asked : Asks observed old (main_calls_after app status main) new

-- or these calls were cut off, and each child that was started was waited for
pub record MainStartCut (observed : Bool) (app : AppStart) (status : ℕ) (old new : SpawnerAt) : Type 0 where
  pub main : Child
  pub cut : List SpawnCall
  pub part : IsCutOff (main_calls_after app status main) cut
  pub waited : AreWaitedFor cut
  pub asked : Asks observed old cut new

-- an app has begun
pub record AppHasBegun (observed : Bool) (app : AppStart) (stand : Stand) (old new : SpawnerAt) : Type 0 where
  pub begun : Beginning
  pub is : begun.app ≡ app
  pub stands : stand ≡ app_state_of begun
  pub asked : Asks observed old (first_calls begun) new

-- its beginning was cut short, and no child is left
pub record IsInterrupted (observed : Bool) (app : AppStart) (old new : SpawnerAt) : Type 0 where
  pub begun : Beginning
  pub is : begun.app ≡ app
  pub cut : List SpawnCall
  pub part : IsCutOff (first_calls begun) cut
  pub waited : AreWaitedFor cut
  pub asked : Asks observed old cut new

-- some apps have begun, one after the other
pub record HaveBegun (observed : Bool) (starts : List AppStart) (stands : List Stand) (old new : SpawnerAt) : Type 0 where
  pub begun : List Beginning
  pub apps : map (λ b. b.app) begun ≡ starts
  pub stand : stands ≡ map app_state_of begun
  pub asked : Asks observed old (flat_map first_calls begun) new

-- some have, and then the beginning of the next was cut short
pub record AreInterrupted (observed : Bool) (starts : List AppStart) (stands : List Stand) (old new : SpawnerAt) : Type 0 where
  pub done : List AppStart
  pub next : AppStart
  pub rest : List AppStart
  pub parted : starts ≡ done ++ next ∷ rest
  pub between : SpawnerAt
  pub begun : HaveBegun observed done stands old between
  pub broken : IsInterrupted observed next between new

-- each of the children is waited for, in turn
abbrev pub IsWaitFor : Child → SpawnCall → Type 0
IsWaitFor child c = c.request ≡ Wait child

-- one wait for each of these children, in order
abbrev pub WaitFor : List Child → List SpawnCall → Type 0
WaitFor [] [] = Unit {0}
WaitFor (child ∷ children) (c ∷ calls) = IsWaitFor child c × WaitFor children calls
WaitFor _ _ = ⊥
