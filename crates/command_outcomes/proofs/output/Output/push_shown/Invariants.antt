use Rattle.std.proofs.Common.{◌≡◌, ◌++◌, take}
use Rattle.std.specs.List.{flat_map}
use Rattle.command_outcomes.specs.Texts.{shown_byte}
use Rattle.command_outcomes.proofs.output.Output.push_shown.Given as goal

abbrev pub invariant-loop-byte : goal.invariant-loop-byte
invariant-loop-byte l =
    l.self-inside.text.items ≡ l.initial.self-inside.text.items ++ flat_map shown_byte (take l.byte-index l.byte-items)
