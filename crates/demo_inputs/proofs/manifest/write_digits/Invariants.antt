use Rattle.std.proofs.Common.{◌≡◌, ◌≤◌, ◌++◌, length, drop}
use Rattle.demo_inputs.specs.Bundles.{hex_digits}
use Rattle.demo_inputs.proofs.manifest.write_digits.Given as goal

abbrev pub invariant-places : goal.invariant-places
invariant-places l = (l.place ≤ length l.room) × (hex_digits l.place l.rest ++ drop l.place l.room ≡ hex_digits (length l.fn.room) l.number)

abbrev pub decreases-places : goal.decreases-places
decreases-places l = l.place
