use Rattle.std.proofs.Common.{◌≡◌, ◌++◌, map, take, drop}
use Rattle.dir_rules.specs.Standing.{uncovered_by_close}
use Rattle.lock_rules.proofs.change.recover_all.Given as goal

abbrev pub invariant-loop-held : goal.invariant-loop-held
invariant-loop-held l = l.holdings ≡ map (uncovered_by_close l.handle l.before) (take l.held-index l.fn.holdings) ++ drop l.held-index l.fn.holdings
