use Rattle.std.proofs.Common.{◌≡◌, ◌+◌, ◌<◌, ◌^◌, length}
use Rattle.demo_line.specs.Ways.{rendering_size, dependency_way}
use Rattle.demo_line.proofs.ways.entries_of.Given as goal

abbrev pub invariant-way : goal.invariant-way
invariant-way l = record { counted : l.count + length (dependency_way l.at) ≡ rendering_size l.image + 1; below : l.at < 2 ^ 31 }

abbrev pub decreases-way : goal.decreases-way
decreases-way l = l.at
