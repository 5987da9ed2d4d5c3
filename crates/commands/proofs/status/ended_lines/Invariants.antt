use Rattle.std.proofs.Common.{◌≡◌, take}
use Rattle.std.specs.List.{flat_map}
use Rattle.commands.specs.Status.{ended_line}
use Rattle.commands.proofs.status.ended_lines.Given as goal

abbrev pub invariant-ends : goal.invariant-ends
invariant-ends l = l.text ≡ flat_map ended_line (take l.end-index l.ends)
