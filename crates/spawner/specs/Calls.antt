-- What a spawner shows, and what its calls leave.
use Rattle.std.specs.Prelude.{◌≡◌, ℕ, ◌==◌, ◌-◌, Bool, false, cond, Option, Some, None, Result, Ok, Err, List, [], ◌∷◌, ◌++◌, length}
use Rattle.std.specs.List.{list_any, filter_map, slice_get}
use Rattle.spawner.specs.declared.call.RootPlace.{RootPlace}
use Rattle.spawner.specs.declared.call.Child.{Child}
use Rattle.spawner.specs.declared.call.SpawnError.{SpawnError}
use Rattle.spawner.specs.declared.call.SpawnError.TheVariants.{NoMemory}
use Rattle.spawner.specs.declared.call.SpawnRequest.{SpawnRequest}
use Rattle.spawner.specs.declared.call.SpawnRequest.TheVariants.{Start}
use Rattle.spawner.specs.declared.call.SpawnReply.{SpawnReply}
use Rattle.spawner.specs.declared.call.SpawnReply.TheVariants.{Done, Started, Ended, Refused}
use Rattle.spawner.specs.declared.call.SpawnCall.{SpawnCall}

-- what a spawner shows at a moment
pub record SpawnerAt : Type 0 where
  -- how often it failed
  pub faults : ℕ
  -- its calls, the oldest first, where they are observed
  pub calls : List SpawnCall
  -- the status with which the child of each number ends, where that is observed
  pub status : ℕ → ℕ

-- answers as replies
abbrev pub ready_reply : Result (Unit {0}) SpawnError → SpawnReply
ready_reply (Ok done) = Done
ready_reply (Err error) = Refused error

abbrev pub start_reply : Result Child SpawnError → SpawnReply
start_reply (Ok child) = Started child
start_reply (Err error) = Refused error

abbrev pub wait_reply : Result ℕ SpawnError → SpawnReply
wait_reply (Ok status) = Ended status
wait_reply (Err error) = Refused error

abbrev pub call : SpawnRequest → SpawnReply → SpawnCall
call request reply = record { request = request; reply = reply }

-- a call was noted with its reply. For want of memory it isn't
abbrev pub Notes : List SpawnCall → SpawnRequest → SpawnReply → List SpawnCall → Type 0
Notes old request (Refused NoMemory) new = new ≡ old
Notes old request reply new = new ≡ old ++ call request reply ∷ []

-- one call: it was noted, and how children end stays as it was
pub record Tells (old : SpawnerAt) (request : SpawnRequest) (reply : SpawnReply) (new : SpawnerAt) : Type 0 where
  pub noted : Notes old.calls request reply new.calls
  pub same : new.status ≡ old.status

-- the child that a call answered
abbrev pub answers : Child → SpawnReply → Bool
answers child (Started other) = other.number == child.number
answers child _ = false

-- some call answered this child
abbrev pub has_started : Child → List SpawnCall → Bool
has_started child calls = list_any (λ c. answers child c.reply) calls

-- the root of a start
abbrev pub root_of_start : SpawnRequest → Option RootPlace
root_of_start (Start root argv env cwd) = Some root
root_of_start _ = None

-- the root of a start that answered this child
abbrev pub root_by : Child → SpawnCall → Option RootPlace
root_by child c = cond (answers child c.reply) (root_of_start c.request) None

abbrev pub roots_of : Child → List SpawnCall → List RootPlace
roots_of child calls = filter_map (root_by child) calls

-- the root of the last start that answered this child
abbrev pub last_root : Child → List SpawnCall → Option RootPlace
last_root child calls = slice_get (roots_of child calls) (length (roots_of child calls) - 1)
