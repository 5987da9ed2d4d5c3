-- Calls that were cut short.
use Rattle.std.specs.Prelude.{◌≡◌, ℕ, ◌==◌, Bool, true, false, List, [], ◌∷◌, ◌++◌, map, filter, length}
use Rattle.std.specs.List.{AllByRecursion}
use Rattle.spawner.specs.declared.call.Child.{Child}
use Rattle.spawner.specs.declared.call.SpawnCall.{SpawnCall}
use Rattle.spawner.specs.declared.call.SpawnError.{SpawnError}
use Rattle.spawner.specs.declared.call.SpawnRequest.{SpawnRequest}
use Rattle.spawner.specs.declared.call.SpawnRequest.TheVariants.{Wait}
use Rattle.spawner.specs.declared.call.SpawnReply.TheVariants.{Refused}
use Rattle.spawner.specs.Calls.{SpawnerAt, call, answers}
use Rattle.stage1.specs.declared.start.AppStart.{AppStart}
use Rattle.stage1.specs.Sequences.{Ending, launch_sequence}
use Rattle.stage1.specs.Asking.{Asks}

-- it is the call that came next, and it was refused
pub record IsCallRefused (next last : SpawnCall) : Type 0 where
  pub error : SpawnError
  pub refused : last ≡ call next.request (Refused error)

-- nothing more came, or the next call was refused
abbrev pub IsRefusedNext : List SpawnCall → List SpawnCall → Type 0
IsRefusedNext rest [] = Unit {0}
IsRefusedNext (next ∷ rest) (last ∷ []) = IsCallRefused next last
IsRefusedNext _ _ = ⊥

-- the calls are a beginning of the whole, and at most one refused call after it, which is the next one
pub record IsCutOff (whole calls : List SpawnCall) : Type 0 where
  pub done : List SpawnCall
  pub rest : List SpawnCall
  pub last : List SpawnCall
  pub parted : whole ≡ done ++ rest
  pub are : calls ≡ done ++ last
  pub next : IsRefusedNext rest last

-- how often a child was started, and how often it was waited for
abbrev pub count_of_starts : Child → List SpawnCall → ℕ
count_of_starts child calls = length (filter (λ c. answers child c.reply) calls)

-- it waits for this child
abbrev pub waits_on : Child → SpawnRequest → Bool
waits_on child (Wait other) = other.number == child.number
waits_on child request = false

-- how often calls wait for this child
abbrev pub waits_for : Child → List SpawnCall → ℕ
waits_for child calls = length (filter (λ c. waits_on child c.request) calls)

-- each child that was started was waited for
abbrev pub AreWaitedFor : List SpawnCall → Type 0
AreWaitedFor calls = (child : Child) → waits_for child calls ≡ count_of_starts child calls

-- it waits for a child
abbrev pub is_wait : SpawnRequest → Bool
is_wait (Wait child) = true
is_wait request = false

-- all these calls are waits
abbrev pub AreWaits : List SpawnCall → Type 0
AreWaits calls = AllByRecursion (λ c. is_wait c.request ≡ true) calls

-- the apps were begun and ended in turn up to a fault, and then only what was started was waited for, each child once
pub record IsCutShort (observed : Bool) (starts : List AppStart) (old new : SpawnerAt) : Type 0 where
  pub endings : List Ending
  pub apps : map (λ e. e.begun.app) endings ≡ starts
  pub cut : List SpawnCall
  pub waits : List SpawnCall
  pub part : IsCutOff (launch_sequence endings) cut
  pub only : AreWaits waits
  pub once : AreWaitedFor (cut ++ waits)
  pub asked : Asks observed old (cut ++ waits) new
