-- What contracts see of a sink in memory, and what a write leaves there.
use Rattle.std.specs.Prelude.{◌≡◌, ℕ, ◌+◌, ◌==◌, List, ◌++◌, Result, Ok, Err, length, Bool, true, false}
use Rattle.std.specs.List.{list_any}
use Rattle.dir_trait.specs.declared.sink.SinkError.{SinkError}
use Rattle.dir_trait.specs.declared.sink.SinkError.TheVariants.{Failed, NoMemory}
use Rattle.dir_trait.specs.Sinks.{SinkAt}
use Rattle.dir_memory.specs.Memories.{raised}

-- what was written, the faults, the shortages of memory and the writes so far, and the numbers of the writes that
-- are to fail
pub record SinkMemory : Type 0 where
  pub bytes : List ℕ
  pub faults : ℕ
  pub shortages : ℕ
  pub writes : ℕ
  pub failing : List ℕ

-- as every sink is seen
abbrev pub sink_of_memory : SinkMemory → SinkAt
sink_of_memory m = record { bytes = m.bytes; faults = m.faults; shortages = m.shortages }

abbrev pub is_write_to_fail : SinkMemory → Bool
is_write_to_fail m = list_any (λ number. number == m.writes + 1) m.failing

-- after the next write with this answer
abbrev pub after_write : SinkMemory → List ℕ → Result ℕ SinkError → SinkMemory
after_write m piece (Ok n) = record m { bytes = m.bytes ++ piece; writes = raised m.writes }
after_write m piece (Err Failed) = record m { faults = raised m.faults; writes = raised m.writes }
after_write m piece (Err NoMemory) = record m { shortages = raised m.shortages; writes = raised m.writes }

-- a listed write fails, and every other takes the whole piece, unless memory ran out
abbrev pub IsWriteAnswer : SinkMemory → List ℕ → Result ℕ SinkError → Type 0
IsWriteAnswer m piece (Ok n) = (n ≡ length piece) × (is_write_to_fail m ≡ false)
IsWriteAnswer m piece (Err Failed) = is_write_to_fail m ≡ true
IsWriteAnswer m piece (Err NoMemory) = is_write_to_fail m ≡ false

pub record SinkMemoryWrites (old : SinkMemory) (piece : List ℕ) (answer : Result ℕ SinkError) (new : SinkMemory) : Type 0 where
  pub answered : IsWriteAnswer old piece answer
  pub after : new ≡ after_write old piece answer
