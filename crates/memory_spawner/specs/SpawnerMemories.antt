-- What contracts see of a spawner in memory, and what a call leaves there.
use Rattle.std.specs.Prelude.{◌≡◌, ℕ, zero, suc, ◌+◌, ◌-◌, ◌^◌, ◌==◌, min, Bool, true, false, nat_lt, find, List, [], ◌∷◌, ◌++◌, filter, length, Option, Some, None, Result, Ok, Err, ⊤}
use Rattle.std.specs.List.{list_any, list_all, slice_get}
use Rattle.std.specs.Option.{option_and_then, option_map_or}
use Rattle.spawner.specs.declared.call.SpawnError.{SpawnError}
use Rattle.spawner.specs.declared.call.SpawnError.TheVariants.{Failed, NoMemory}
use Rattle.spawner.specs.declared.call.SpawnRequest.{SpawnRequest}
use Rattle.spawner.specs.declared.call.SpawnRequest.TheVariants.{Start}
use Rattle.spawner.specs.declared.call.SpawnReply.{SpawnReply}
use Rattle.spawner.specs.declared.call.SpawnReply.TheVariants.{Started, Refused}
use Rattle.spawner.specs.declared.call.SpawnCall.{SpawnCall}
use Rattle.spawner.specs.Calls.{SpawnerAt, call}
use Rattle.memory_spawner.specs.declared.ends.End.{End}

-- the calls that were noted, the faults, the number of calls, how children end, the newest first, and the numbers of
-- the calls that are to fail
pub record SpawnerMemory : Type 0 where
  pub calls : List SpawnCall
  pub faults : ℕ
  pub counted : ℕ
  pub ends : List End
  pub failing : List ℕ

-- the status of the child that the start behind so many others answered: 0, unless another was told
abbrev pub end_status_of : List End → ℕ → ℕ
end_status_of ends number = option_map_or (λ (end : End). end.status) (find (λ end. end.start == number + 1) ends) 0

-- as every spawner is seen
abbrev pub spawner_of_memory : SpawnerMemory → SpawnerAt
spawner_of_memory m = record { faults = m.faults; calls = m.calls; status = end_status_of m.ends }

-- a program was started
abbrev pub is_started : SpawnReply → Bool
is_started (Started child) = true
is_started _ = false

abbrev pub is_start : SpawnCall → Bool
is_start c = is_started c.reply

-- the Ok starts in order
abbrev pub ok_starts_of : List SpawnCall → List SpawnCall
ok_starts_of calls = filter is_start calls

-- the Ok start of a number, counted from 1
abbrev pub start_at : List SpawnCall → ℕ → Option SpawnCall
start_at calls zero = None
start_at calls (suc before) = slice_get (ok_starts_of calls) before

-- what a start was given
abbrev pub argv_of_start : SpawnRequest → Option (List (List ℕ))
argv_of_start (Start root argv env cwd) = Some argv
argv_of_start _ = None

abbrev pub env_of : SpawnRequest → Option (List (List ℕ))
env_of (Start root argv env cwd) = Some env
env_of _ = None

abbrev pub cwd_of : SpawnRequest → Option (List ℕ)
cwd_of (Start root argv env cwd) = Some cwd
cwd_of _ = None

-- what the Ok start of a number was given
abbrev pub given_at : {T : Type 0} → (SpawnRequest → Option T) → List SpawnCall → ℕ → Option T
given_at given calls start = option_and_then (λ (c : SpawnCall). given c.request) (start_at calls start)

-- each child's number is below this one
abbrev pub is_below : ℕ → SpawnReply → Bool
is_below bound (Started child) = nat_lt child.number bound
is_below bound _ = true

abbrev pub AreNumbered : List SpawnCall → Type 0
AreNumbered calls = list_all (λ (c : SpawnCall). is_below (length (ok_starts_of calls)) c.reply) calls ≡ true

abbrev pub is_refusal : SpawnReply → Bool
is_refusal (Refused error) = true
is_refusal _ = false

-- the count raised by one, up to the greatest number of a u64
abbrev pub raised : ℕ → ℕ
raised n = min (n + 1) (2 ^ 64 - 1)

-- the next call was listed to fail
abbrev pub is_spawner_failure_due : SpawnerMemory → Bool
is_spawner_failure_due m = list_any (λ number. number == m.counted + 1) m.failing

-- a call is counted
abbrev pub with_count : SpawnerMemory → SpawnerMemory
with_count m = record m { counted = raised m.counted }

abbrev pub with_call : SpawnerMemory → SpawnRequest → SpawnReply → SpawnerMemory
with_call m request reply = record m { calls = m.calls ++ call request reply ∷ [] }

-- after a call with this reply was noted. For want of memory it isn't
abbrev pub after_reply : SpawnerMemory → SpawnRequest → SpawnReply → SpawnerMemory
after_reply m request (Refused NoMemory) = m
after_reply m request (Refused Failed) = with_call (record m { faults = raised m.faults }) request (Refused Failed)
after_reply m request reply = with_call m request reply

-- a call that is to fail fails, and every other has this reply, unless memory ran out
abbrev pub IsReply : Bool → SpawnReply → SpawnReply → Type 0
IsReply fails told (Refused NoMemory) = ⊤
IsReply fails told (Refused Failed) = fails ≡ true
IsReply fails told reply = (fails ≡ false) × (reply ≡ told)

-- a call was answered and noted
pub record SpawnerMemoryAnswers (fails : Bool) (old : SpawnerMemory) (request : SpawnRequest) (told reply : SpawnReply) (new : SpawnerMemory) : Type 0 where
  pub replied : IsReply fails told reply
  pub after : new ≡ after_reply old request reply

-- one call: it was counted, and has this reply where it wasn't listed to fail
abbrev pub Spawns : SpawnerMemory → SpawnRequest → SpawnReply → SpawnReply → SpawnerMemory → Type 0
Spawns old request told reply new = SpawnerMemoryAnswers (is_spawner_failure_due old) (with_count old) request told reply new

-- the reply that an answer stands for
abbrev pub reply_or : SpawnReply → Result (Unit {0}) SpawnError → SpawnReply
reply_or told (Ok done) = told
reply_or told (Err error) = Refused error
