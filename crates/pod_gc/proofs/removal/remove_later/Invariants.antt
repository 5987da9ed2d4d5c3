use Rattle.pod_gc.proofs.Rounds.{Rounds}
use Rattle.pod_gc.proofs.removal.remove_later.Given as goal

abbrev pub invariant-rounds : goal.invariant-rounds
invariant-rounds g l = let D = g.D.Dir in Rounds D.observed l._round l.pod l.now (D.shown l.fn.dir) (D.shown l.dir)
