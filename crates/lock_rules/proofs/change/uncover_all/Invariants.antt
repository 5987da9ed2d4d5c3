use Rattle.std.proofs.Common.{◌≡◌, ◌++◌, map, take, drop}
use Rattle.dir_rules.specs.Standing.{uncover}
use Rattle.lock_rules.proofs.change.uncover_all.Given as goal

abbrev pub invariant-loop-held : goal.invariant-loop-held
invariant-loop-held l = l.holdings ≡ map (uncover l.from) (take l.held-index l.fn.holdings) ++ drop l.held-index l.fn.holdings
