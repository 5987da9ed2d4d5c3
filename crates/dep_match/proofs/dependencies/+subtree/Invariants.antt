use Rattle.std.proofs.Common.{◌+◌, ◌-◌}
use Rattle.dep_match.proofs.Trees.{IsGrownTo, grow_below}
use Rattle.dep_match.proofs.dependencies.+subtree.Given as goal

abbrev pub invariant-loop-dependency : goal.invariant-loop-dependency
invariant-loop-dependency l =
    IsGrownTo (grow_below (l.levels - 1) l.list l.way.items) (l.number + 1) l.dependencies l.children l.below.items l.dependency-index

abbrev pub decreases-subtree : goal.decreases-subtree
decreases-subtree l = l.levels
