use Rattle.std.proofs.Common.{rules, List, length, sym, subst}
use Rattle.std.specs.List.{All}
use Rattle.plain_laws.proofs.Results.{if_ok}
use Rattle.dep_match.specs.declared.dep_tree.DepTree.{DepTree}
use Rattle.dep_match.specs.declared.stored.Stored.{Stored}
use Rattle.dep_match.specs.TreeOrder.{IsOrderedTree}
use Rattle.image_reading.specs.Trees.{ReadsTreesOf}
use Rattle.pod_plan.specs.PickedTrees.{tree_keys}
use Rattle.pod_plan.specs.Roots.{ComesOnce, AreImageRoots}
use Rattle.pod_plan.specs.RootRefusals.{IsRootsRefusal}
use Rattle.pod_plan.specs.Plans.{IsPlanOf, PlansChoice}
use Rattle.pod_plan.proofs.Results.{ok_same}
use Rattle.pod_plan.proofs.Once.{all_once}
use Rattle.pod_plan.proofs.Ready.{is_ready}
use Rattle.pod_plan.proofs.planning.plan_chosen.Goals as goal

pub read_roots-requires-clause-trees : goal.read_roots-requires-clause-trees
read_roots-requires-clause-trees g c =
    subst (λ (xs : List Stored). All (λ (t : DepTree). IsOrderedTree (length xs) t.nodes) c.as_slice-2.result.now) (sym c.as_slice.ensures.value)
    (subst (λ (ts : List DepTree). All (λ (t : DepTree). IsOrderedTree (length c.args.read.now.images.items) t.nodes) ts) (sym c.as_slice-2.ensures) c.requires.ordered)

pub read_roots-requires-clause-once : goal.read_roots-requires-clause-once
read_roots-requires-clause-once g c =
    subst (λ (ts : List DepTree). All (λ (t : DepTree). ComesOnce t.nodes) ts) (sym c.as_slice-2.ensures)
    (all_once c.args.read.now.images.items c.args.choice.picks c.args.choice.trees c.requires.chosen.1.dependencies c.requires.ordered)

pub plan_of-requires : goal.plan_of-requires
plan_of-requires g c =
    let D = g.D.Dir in
    let old = D.shown c.args.dir.now in
    let new = D.shown c.read_roots.new.dir in
    let images = c.args.read.now.images.items in
    let trees = c.args.choice.trees in
    let roots = c.in-Ok.roots in
    let rooted : AreImageRoots D.observed images old new trees roots =
    subst (λ (xs : List Stored). AreImageRoots D.observed xs old new trees roots) c.as_slice.ensures.value
    (subst (λ (ts : List DepTree). AreImageRoots D.observed c.as_slice.result.now old new ts roots) c.as_slice-2.ensures c.in-Ok.ensures.roots) in
    record { ready = is_ready c.args.refs.now c.args.options.now c.args.choice c.requires.chosen (length c.args.read.now.manifests.items) c.requires.whole D.observed old new roots rooted }

pub returns-in-Ok-clause-made : goal.returns-in-Ok-clause-made
returns-in-Ok-clause-made g c =
    let D = g.D.Dir in
    let old = D.shown c.args.dir.now in
    let new = D.shown c.read_roots.new.dir in
    let images = c.args.read.now.images.items in
    let manifests = c.args.read.now.manifests.items in
    let choice = c.args.choice in
    let trees = choice.trees in
    let roots = c.in-Ok.roots in
    let rooted : AreImageRoots D.observed images old new trees roots =
    subst (λ (xs : List Stored). AreImageRoots D.observed xs old new trees roots) c.as_slice.ensures.value
    (subst (λ (ts : List DepTree). AreImageRoots D.observed c.as_slice.result.now old new ts roots) c.as_slice-2.ensures c.in-Ok.ensures.roots) in
    ok_same (λ plan. PlansChoice D.observed images manifests c.args.refs.now c.args.options.now c.args.now c.args.token.now plan.items old new) c.plan_of.result c.map_err.result (λ a h. search (rules, h, c.map_err.ensures.cases))
    (if_ok (λ plan. IsPlanOf images manifests choice roots c.args.now c.args.token.now plan.items) (λ plan. PlansChoice D.observed images manifests c.args.refs.now c.args.options.now c.args.now c.args.token.now plan.items old new) c.plan_of.result
    (λ plan planned. record { choice = choice; wishes = c.volumes-wishes.ensures.kind; chosen = c.requires.chosen; roots = roots; rooted = rooted; planned = planned }) c.plan_of.ensures.made)

pub returns-in-Err-clause-refused : goal.returns-in-Err-clause-refused
returns-in-Err-clause-refused g c =
    let D = g.D.Dir in
    let old = D.shown c.args.dir.now in
    let new = D.shown c.read_roots.new.dir in
    let trees = c.args.choice.trees in
    subst (λ (xs : List Stored). IsRootsRefusal D.observed xs trees c.in-Err.error old new) c.as_slice.ensures.value
    (subst (λ (ts : List DepTree). IsRootsRefusal D.observed c.as_slice.result.now ts c.in-Err.error old new) c.as_slice-2.ensures c.in-Err.ensures.refused)

pub returns-in-Ok-clause-trees : goal.returns-in-Ok-clause-trees
returns-in-Ok-clause-trees g c =
    let D = g.D.Dir in
    let old = D.shown c.args.dir.now in
    let new = D.shown c.read_roots.new.dir in
    subst (λ (xs : List Stored). ReadsTreesOf D.observed (tree_keys xs c.args.choice.trees) old new) c.as_slice.ensures.value
    (subst (λ (ts : List DepTree). ReadsTreesOf D.observed (tree_keys c.as_slice.result.now ts) old new) c.as_slice-2.ensures c.read_roots.ensures.trees)

pub returns-in-Err-clause-trees : goal.returns-in-Err-clause-trees
returns-in-Err-clause-trees g c =
    let D = g.D.Dir in
    let old = D.shown c.args.dir.now in
    let new = D.shown c.read_roots.new.dir in
    subst (λ (xs : List Stored). ReadsTreesOf D.observed (tree_keys xs c.args.choice.trees) old new) c.as_slice.ensures.value
    (subst (λ (ts : List DepTree). ReadsTreesOf D.observed (tree_keys c.as_slice.result.now ts) old new) c.as_slice-2.ensures c.read_roots.ensures.trees)
