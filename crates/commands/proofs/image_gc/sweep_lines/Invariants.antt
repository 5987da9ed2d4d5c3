use Rattle.std.proofs.Common.{◌≡◌, take}
use Rattle.commands.specs.ImageGc.{sweep_texts}
use Rattle.commands.proofs.image_gc.sweep_lines.Given as goal

abbrev pub invariant-lines : goal.invariant-lines
invariant-lines l = l.text ≡ sweep_texts (take l.line-index l.lines)
