-- `demo N`, as a whole run of it.
use Rattle.std.specs.Prelude.{◌≡◌, ◌⊎◌, ℕ, false, None, Ok, Err}
use Rattle.command_outcomes.specs.declared.refusal.Refusal.TheVariants.{NoMemory}
use Rattle.command_outcomes.specs.Moments.{Moment, CommandOutcome}
use Rattle.commands.specs.Answers.{IsAnswer}
use Rattle.commands.specs.Command.{Command, nothing, alone}
use Rattle.commands.specs.Opening.{directly}
use Rattle.commands.specs.Phases.{names_none}
use Rattle.demo_line.specs.Numbers.{demo_line}

-- the line of its numbers, or memory ran out
abbrev pub EndsDemo : ℕ → CommandOutcome → Type 0
EndsDemo count o = (o ≡ Ok (demo_line count)) ⊎ (o ≡ Err NoMemory)

-- it answers so; or the line wasn't written
abbrev pub TellsDemo : ℕ → ℕ → Moment → Moment → Type 0
TellsDemo count status old new = (status ≡ 14) ⊎ (status ≡ 12) ⊎ IsAnswer (Ok (demo_line count)) status old new

-- it works on a directory, a bundle and spawners of its own, and asks for nothing of those that are handed in
abbrev pub demo_command : ℕ → Command
demo_command count = record {
  begins = None;
  approach = directly;
  asks = λ now draw request. false;
  reads = nothing;
  prints = λ draw bundle text. text ≡ demo_line count;
  refusals = λ refusal. false;
  refused_for = λ now draw refusal old new. ⊥;
  names = names_none;
  tells = λ now draw status old new. TellsDemo count status old new;
  quiet = λ now draw old new o. o ≡ Ok (demo_line count);
  leaves = λ me draw old new. new ≡ old;
  says = alone (λ now draw old new o. EndsDemo count o);
}
