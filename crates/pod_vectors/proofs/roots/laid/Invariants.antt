use Rattle.std.proofs.Common.{◌≡◌, length}
use Rattle.render.specs.Orders.{nodes_left}
use Rattle.render.specs.PlanStates.{IsPlan}
use Rattle.pod_vectors.proofs.roots.laid.Given as goal

abbrev pub invariant-maps : goal.invariant-maps
invariant-maps l = record {
  sound : IsPlan l.plan;
  nodes : l.plan.nodes ≡ l.tree.nodes;
}

abbrev pub decreases-maps : goal.decreases-maps
decreases-maps l = length (nodes_left l.plan)
