-- `metadata-service`, as a whole process of it. What it does with the connections stands apart: the top call tells it of the listener.
use Rattle.std.specs.Prelude.{◌≡◌, ◌⊎◌, ℕ, List, [], Some, Ok, Err}
use Rattle.dir_model.specs.declared.intent.Kind.TheVariants as kind
use Rattle.metadata.specs.Looks.{looks_in_run}
use Rattle.command_outcomes.specs.declared.refusal.Refusal.TheVariants.{LinkFault}
use Rattle.command_outcomes.specs.Moments.{Moment}
use Rattle.commands.specs.Answers.{WritesOf}
use Rattle.commands.specs.Command.{Command, nothing, alone, intent_for}
use Rattle.commands.specs.MetadataService.{service_refusals, PrintsNothing}
use Rattle.commands.specs.NextState.{LeavesAll}
use Rattle.commands.specs.Opening.{directly}
use Rattle.commands.specs.Phases.{names_none}

-- with status 0 nothing was written
abbrev pub WritesNoOutput : ℕ → Moment → Moment → Type 0
WritesNoOutput status old new = status ≡ 0 → WritesOf (λ text. text ≡ []) old new

-- it lists run, reads files of the pods there and looks at their locations, and leaves everything as it was. The refusal of its own is the
-- listener's fault
abbrev pub metadata_command : List ℕ → ℕ → Command
metadata_command address count = record {
  begins = Some (intent_for kind.Metadata []);
  approach = directly;
  asks = λ now draw. looks_in_run;
  reads = nothing;
  prints = λ draw bundle text. text ≡ [];
  refusals = service_refusals;
  refused_for = λ now draw refusal old new. refusal ≡ LinkFault;
  names = names_none;
  tells = λ now draw status old new. WritesNoOutput status old new;
  quiet = λ now draw old new o. (o ≡ Ok []) ⊎ (o ≡ Err LinkFault);
  leaves = λ me draw old new. LeavesAll me old new;
  says = alone (λ now draw old new o. PrintsNothing o);
}
