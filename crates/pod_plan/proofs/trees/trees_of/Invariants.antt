use Rattle.std.proofs.Common.{take, length}
use Rattle.std.specs.List.{All}
use Rattle.dep_match.specs.TreeOrder.{IsOrderedTree}
use Rattle.pod_plan.specs.Choices.{AreTrees}
use Rattle.pod_plan.proofs.trees.trees_of.Given as goal

abbrev pub invariant-picks : goal.invariant-picks
invariant-picks l = record {
  trees : AreTrees l.list (take l.pick-index l.picks) l.trees;
  ordered : All (λ t. IsOrderedTree (length l.list) t.nodes) l.trees;
}
