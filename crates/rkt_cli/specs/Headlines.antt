-- What a run of the program does for the headline.
use Rattle.std.specs.Prelude.{ℕ, Option, Some, None}
use Rattle.dir_model.specs.declared.intent.Draw.{Draw}
use Rattle.dir_model.specs.declared.intent.Intent.{Intent}
use Rattle.dir_trait.specs.DirCalls.{DirAt}
use Rattle.headline.specs.Keeping.{KeepsHeadline}
use Rattle.rkt_cli.specs.declared.line.Line.{Line}
use Rattle.rkt_cli.specs.Commands.{intent_in}
use Rattle.rkt_cli.specs.Promises.{AsksByItsLine}

-- what its process says when it begins; words that are no line begin none
abbrev pub intent_said : Option Line → ℕ → Draw → Option Intent
intent_said None now draw = None
intent_said (Some line) now draw = intent_in line now draw

-- it asks for what its words ask for, begins with what they say, keeps the rules, and makes what it hands over faithfully; and where all
-- processes do so, the headline holds at each moment until then
abbrev pub KeepsTheHeadline : Option Line → ℕ → Draw → DirAt → DirAt → Type 0
KeepsTheHeadline line now draw old new = KeepsHeadline (AsksByItsLine line now draw) (intent_said line now draw) old new
