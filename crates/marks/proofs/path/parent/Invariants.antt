use Rattle.std.proofs.Common.{◌≡◌, ◌≤◌}
use Rattle.dir_rules.specs.Marks.{parent}
use Rattle.marks.proofs.Texts.{scan}
use Rattle.marks.proofs.path.parent.Given as goal

abbrev pub invariant-bytes : goal.invariant-bytes
invariant-bytes l = (l.last ≤ l.i) × (scan l.i l.last l.path ≡ parent l.path)
