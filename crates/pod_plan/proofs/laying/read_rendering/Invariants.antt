use Rattle.std.proofs.Common.{◌≡◌, length}
use Rattle.render.specs.Orders.{nodes_left}
use Rattle.render.specs.PlanStates.{IsPlan}
use Rattle.image_reading.specs.Looks.{OnlyReadsImages}
use Rattle.image_reading.specs.Trees.{ReadsTreesOf}
use Rattle.pod_plan.specs.PickedTrees.{node_keys}
use Rattle.pod_plan.proofs.Laid.{IsLaidTo}
use Rattle.pod_plan.proofs.laying.read_rendering.Given as goal

abbrev pub invariant-maps : goal.invariant-maps
invariant-maps g l =
    let D = g.D.Dir in
    record {
      only : OnlyReadsImages D.observed (D.shown l.initial.dir) (D.shown l.dir);
      trees : ReadsTreesOf D.observed (node_keys l.images l.tree.nodes) (D.shown l.initial.dir) (D.shown l.dir);
      sound : IsPlan l.plan;
      nodes : l.plan.nodes ≡ l.tree.nodes;
      laid : IsLaidTo D.observed l.images l.tree.nodes l.plan (D.shown l.initial.dir) (D.shown l.dir);
    }

abbrev pub decreases-maps : goal.decreases-maps
decreases-maps g l = length (nodes_left l.plan)
