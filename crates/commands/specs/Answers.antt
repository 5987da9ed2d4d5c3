-- How a run of the program answers: its status, and what it writes.
use Rattle.std.specs.Prelude.{◌≡◌, ◌⊎◌, ℕ, true, List, ◌++◌, Ok, Err}
use Rattle.dir_trait.specs.Causes.{Rose}
use Rattle.dir_trait.specs.Sinks.{WritesPart}
use Rattle.command_outcomes.specs.declared.refusal.Refusal.{Refusal}
use Rattle.command_outcomes.specs.Texts.{exit_status_of, message, is_made}
use Rattle.command_outcomes.specs.Moments.{Inside, Moment, SinkSeen, CommandOutcome}

-- the directory and the spawner at a moment
abbrev pub inside_in : Moment → Inside
inside_in m = record { observed = m.outside.observed; dir = m.outside.dir; spawner = m.spawner }

-- the sink refused a piece
abbrev pub HasRefused : SinkSeen → SinkSeen → Type 0
HasRefused old new = Rose old.faults new.faults ⊎ Rose old.shortages new.shortages

-- the refusal's message was written to the error output: whole, or a part of it from its start where the error output
-- refused, or nothing where the message takes memory and the program had none
pub record Complained (refusal : Refusal) (old new : SinkSeen) : Type 0 where
  pub part : old.observed ≡ true → WritesPart old.bytes (message refusal) new.bytes
  pub whole : (old.observed ≡ true → new.bytes ≡ old.bytes ++ message refusal) ⊎ HasRefused old new ⊎ ((is_made refusal ≡ true) × (new ≡ old))

-- the status is an outcome's, and so is what was written
abbrev pub IsAnswer : CommandOutcome → ℕ → Moment → Moment → Type 0
IsAnswer (Ok text) status old new = (status ≡ 0) × (old.out.observed ≡ true → new.out.bytes ≡ old.out.bytes ++ text) × (new.err ≡ old.err)
IsAnswer (Err refusal) status old new = (status ≡ exit_status_of refusal) × (old.out.observed ≡ true → new.out.bytes ≡ old.out.bytes) × Complained refusal old.err new.err

-- a text was written, of which this is so
abbrev pub WritesOf : (List ℕ → Type 0) → Moment → Moment → Type 0
WritesOf P old new = (text : List ℕ) × P text × (old.out.observed ≡ true → new.out.bytes ≡ old.out.bytes ++ text)
