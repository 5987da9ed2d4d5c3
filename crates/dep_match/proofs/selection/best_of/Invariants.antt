use Rattle.dep_match.specs.Selection.{outranks}
use Rattle.dep_match.specs.Steps.{accepts}
use Rattle.dep_match.proofs.BestSoFar.{IsBestSoFar}
use Rattle.dep_match.proofs.selection.best_of.Given as goal

abbrev pub invariant-loop-i : goal.invariant-loop-i
invariant-loop-i l = IsBestSoFar (accepts l.wanted) outranks l.list l.i l.best
