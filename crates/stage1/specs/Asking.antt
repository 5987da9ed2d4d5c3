-- What is asked of a spawner, and what it then shows.
use Rattle.std.specs.Prelude.{◌≡◌, ◌≤◌, ℕ, Bool, true, false, Some, List, ◌++◌, filter}
use Rattle.std.specs.List.{AllByRecursion}
use Rattle.spawner.specs.declared.call.Child.{Child}
use Rattle.spawner.specs.declared.call.RootPlace.{RootPlace}
use Rattle.spawner.specs.declared.call.SpawnCall.{SpawnCall}
use Rattle.spawner.specs.declared.call.SpawnError.TheVariants.{NoMemory}
use Rattle.spawner.specs.declared.call.SpawnRequest.{SpawnRequest}
use Rattle.spawner.specs.declared.call.SpawnRequest.TheVariants.{Wait}
use Rattle.spawner.specs.declared.call.SpawnReply.{SpawnReply}
use Rattle.spawner.specs.declared.call.SpawnReply.TheVariants.{Ended, Refused}
use Rattle.spawner.specs.Calls.{SpawnerAt, has_started, last_root}

-- for want of memory a call isn't noted
abbrev pub is_noted_reply : SpawnReply → Bool
is_noted_reply (Refused NoMemory) = false
is_noted_reply reply = true

-- the call's reply says that a child was started or has ended
abbrev pub is_noted : SpawnCall → Bool
is_noted c = is_noted_reply c.reply

-- a wait was answered with the status with which the child ends
abbrev pub IsTrueReply : (ℕ → ℕ) → SpawnRequest → SpawnReply → Type 0
IsTrueReply status (Wait child) (Ended n) = n ≡ status child.number
IsTrueReply status request reply = Unit {0}

-- the call's reply is a true one, each child having this status
abbrev pub IsTrueCall : (ℕ → ℕ) → SpawnCall → Type 0
IsTrueCall status c = IsTrueReply status c.request c.reply

-- the child was started in this root, and no later start answered it
pub record StartedIn (root : RootPlace) (child : Child) (calls : List SpawnCall) : Type 0 where
  pub last : last_root child calls ≡ Some root
  pub started : has_started child calls ≡ true

-- this was asked of it, and nothing else
pub record Asks (observed : Bool) (old : SpawnerAt) (asked : List SpawnCall) (new : SpawnerAt) : Type 0 where
  pub faults : old.faults ≤ new.faults
  pub grown : observed ≡ true → new.calls ≡ old.calls ++ filter is_noted asked
  pub same : observed ≡ true → new.status ≡ old.status
  pub truly : observed ≡ true → AllByRecursion (IsTrueCall old.status) asked
  pub kept : observed ≡ true → (root : RootPlace) (child : Child) → StartedIn root child old.calls → StartedIn root child new.calls
