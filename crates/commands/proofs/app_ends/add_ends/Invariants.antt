use Rattle.std.proofs.Common.{◌≡◌, ◌++◌, take}
use Rattle.commands.specs.AppEnds.{app_lines}
use Rattle.commands.proofs.app_ends.add_ends.Given as goal

abbrev pub invariant-ends : goal.invariant-ends
invariant-ends l = l.text ≡ l.initial.text ++ app_lines (take l.end-index l.ends)
