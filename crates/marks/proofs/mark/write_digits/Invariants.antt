use Rattle.std.proofs.Common.{◌≡◌, ◌≤◌, ◌++◌, length, drop}
use Rattle.dir_rules.specs.Marks.{digits}
use Rattle.marks.proofs.mark.write_digits.Given as goal

abbrev pub invariant-places : goal.invariant-places
invariant-places l = (l.place ≤ length l.room) × (digits l.place l.rest ++ drop l.place l.room ≡ digits (length l.fn.room) l.number)

abbrev pub decreases-places : goal.decreases-places
decreases-places l = l.place
