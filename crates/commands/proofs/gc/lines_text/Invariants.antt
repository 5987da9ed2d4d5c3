use Rattle.std.proofs.Common.{◌≡◌, take}
use Rattle.commands.specs.Gc.{lines_text}
use Rattle.commands.proofs.gc.lines_text.Given as goal

abbrev pub invariant-lines : goal.invariant-lines
invariant-lines l = l.text ≡ lines_text (take l.line-index l.lines)
