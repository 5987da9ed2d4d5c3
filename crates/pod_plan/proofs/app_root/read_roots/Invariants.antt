use Rattle.std.proofs.Common.{take}
use Rattle.image_reading.specs.Looks.{OnlyReadsImages}
use Rattle.image_reading.specs.Trees.{ReadsTreesOf}
use Rattle.pod_plan.specs.PickedTrees.{tree_keys}
use Rattle.pod_plan.specs.Roots.{AreImageRoots}
use Rattle.pod_plan.proofs.app_root.read_roots.Given as goal

abbrev pub invariant-trees : goal.invariant-trees
invariant-trees g l =
    let D = g.D.Dir in
    record {
      only : OnlyReadsImages D.observed (D.shown l.initial.dir) (D.shown l.dir);
      trees : ReadsTreesOf D.observed (tree_keys l.images l.trees) (D.shown l.initial.dir) (D.shown l.dir);
      roots : AreImageRoots D.observed l.images (D.shown l.initial.dir) (D.shown l.dir) (take l.tree-index l.trees) l.roots;
    }
