use Rattle.std.proofs.Common.{◌≡◌, ◌++◌, map, take, drop}
use Rattle.dir_rules.specs.Seen.{moved_away}
use Rattle.conformance.proofs.shown.move_all_away.Given as goal

abbrev pub invariant-loop-area : goal.invariant-loop-area
invariant-loop-area l = l.areas ≡ map (moved_away l.from) (take l.area-index l.fn.areas) ++ drop l.area-index l.fn.areas
