use Rattle.std.proofs.Common.{rules, ◌≡◌, ◌+◌, ◌∷◌, ◌++◌, [], take, refl, ap, sym, ◌∙◌}
use Rattle.std.proofs.lemmas.List.{take_more}
use Rattle.plain_laws.proofs.Results.{passed_on}
use Rattle.image_reading.proofs.Asking.{images_none, images_more}
use Rattle.image_reading.proofs.Trees.{trees_none, trees_more}
use Rattle.pod_plan.specs.RootRefusals.{IsRootRefusal, IsRootsRefusal}
use Rattle.pod_plan.proofs.Rooted.{none_rooted, roots_more, first_fault}
use Rattle.pod_plan.proofs.PickedTrees.{trees_of_tree}
use Rattle.pod_plan.proofs.app_root.read_roots.Goals as goal

pub trees-init : goal.trees-init
trees-init g c =
    let D = g.D.Dir in
    let here = D.shown c.args.dir.now in
    record { only = images_none; trees = trees_none; roots = none_rooted D.observed c.args.images.now here here _ _ refl (search rules) }

pub returns-in_err-roots-clause-only : goal.returns-in_err-roots-clause-only
returns-in_err-roots-clause-only g c = images_more c.trees.invariant.only c.read_root.ensures.only

pub trees-preserved : goal.trees-preserved
trees-preserved g c =
    let trees = c.args.trees.now in
    let i = c.trees.tree-index in
    let tree = c.tree-item.result in
    let more : take (i + 1) trees ≡ take i trees ++ tree ∷ [] = take_more trees i tree c.trees-test.true ∙ ap (λ t. take i trees ++ t ∷ []) (sym c.tree-item.is) in
    let D = g.D.Dir in
    let old = D.shown c.args.dir.now in
    let mid = D.shown c.trees.dir in
    let new = D.shown c.read_root.new.dir in
    record {
      only = images_more c.trees.invariant.only c.read_root.ensures.only;
      trees = trees_more c.trees.invariant.trees (trees_of_tree c.args.images.now trees i tree c.trees-test.true c.tree-item.is c.read_root.ensures.trees);
      roots = roots_more D.observed c.args.images.now old mid new c.trees.invariant.only c.read_root.ensures.only (take i trees) (take (i + 1) trees) c.trees.roots c.in_ok-roots.roots tree c.in_ok-root.root more c.in_ok-roots.ensures c.trees.invariant.roots c.in_ok-root.ensures.root;
    }

pub returns-in_err-root-clause-refused : goal.returns-in_err-root-clause-refused
returns-in_err-root-clause-refused g c =
    let D = g.D.Dir in
    let old = D.shown c.args.dir.now in
    let mid = D.shown c.trees.dir in
    let new = D.shown c.read_root.new.dir in
    let images = c.args.images.now in
    let trees = c.args.trees.now in
    let tree = c.tree-item.result in
    passed_on (λ e. IsRootRefusal D.observed images tree.nodes e mid new) (λ e. IsRootsRefusal D.observed images trees e old new) c.read_root.result c.from_residual.result
    (λ e h. search (rules, h, c.from_residual.ensures, c.in_err-root.is))
    (λ e h. first_fault D.observed images old mid new c.trees.invariant.only c.read_root.ensures.only trees c.trees.tree-index tree c.trees.roots c.trees-test.true c.tree-item.is c.trees.invariant.roots e h)
    c.read_root.ensures.refused

pub returns-in_err-root-clause-trees : goal.returns-in_err-root-clause-trees
returns-in_err-root-clause-trees g c =
    trees_more c.trees.invariant.trees (trees_of_tree c.args.images.now c.args.trees.now c.trees.tree-index c.tree-item.result c.trees-test.true c.tree-item.is c.read_root.ensures.trees)

pub returns-in_err-roots-clause-trees : goal.returns-in_err-roots-clause-trees
returns-in_err-roots-clause-trees g c =
    trees_more c.trees.invariant.trees (trees_of_tree c.args.images.now c.args.trees.now c.trees.tree-index c.tree-item.result c.trees-test.true c.tree-item.is c.read_root.ensures.trees)
