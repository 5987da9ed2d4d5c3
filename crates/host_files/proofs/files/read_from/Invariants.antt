use Rattle.std.proofs.Common.{◌-◌, ◌≤◌, length}
use Rattle.host_files.proofs.files.read_from.Given as goal

abbrev pub invariant-parts : goal.invariant-parts
invariant-parts l = l.count ≤ length l.room

abbrev pub decreases-parts : goal.decreases-parts
decreases-parts l = length l.room - l.count
