use Rattle.std.proofs.Common.{map}
use Rattle.ac_types.proofs.EachElement.{IsReadUpTo}
use Rattle.ac_types.proofs.elements.read_each.Given as goal

abbrev pub invariant-loop-i : goal.invariant-loop-i
invariant-loop-i g l =
    IsReadUpTo (λ _. g.T.FromElement.form) l.at l.list (map g.T.FromElement.shown l.items) l.i
