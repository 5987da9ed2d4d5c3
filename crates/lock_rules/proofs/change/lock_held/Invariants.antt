use Rattle.std.proofs.Common.{◌≡◌, ◌++◌, map, take, drop}
use Rattle.dir_rules.specs.Standing.{held_with_mode}
use Rattle.lock_rules.proofs.change.lock_held.Given as goal

abbrev pub invariant-loop-held : goal.invariant-loop-held
invariant-loop-held l = l.holdings ≡ map (held_with_mode l.handle l.mode) (take l.held-index l.fn.holdings) ++ drop l.held-index l.fn.holdings
