use Rattle.std.proofs.Common.{◌+◌, List, Ok, get_or, refl, take, length, sym, subst, rules}
use Rattle.std.specs.List.{All}
use Rattle.std.proofs.lemmas.List.Elements.{All-push}
use Rattle.plain_laws.proofs.Results.{passed_on}
use Rattle.dep_match.specs.Dependencies.{dependency_tree}
use Rattle.dep_match.specs.TreeOrder.{IsOrderedTree}
use Rattle.dep_match.specs.declared.dep_tree.DepTree.{DepTree}
use Rattle.pod_plan.specs.Choices.{AreTrees, IsNoTree, IsChoiceTreeRefusal}
use Rattle.pod_plan.proofs.Mapped.{mapped_more}
use Rattle.pod_plan.proofs.ChoiceFaults.{without_tree}
use Rattle.pod_plan.proofs.trees.trees_of.Goals as goal

pub returns-in_err-tree-clause-refused : goal.returns-in_err-tree-clause-refused
returns-in_err-tree-clause-refused c =
    let list = c.args.list.now in
    let picks = c.args.picks.now in
    passed_on (IsNoTree list (get_or picks c.picks.pick-index 0)) (IsChoiceTreeRefusal list picks) c.tree_of.result c.from_residual.result
    (λ e h. search (rules, h, c.from_residual.ensures, c.in_err-tree.is))
    (without_tree list picks c.picks.pick-index (get_or picks c.picks.pick-index 0) c.picks.trees c.picks-test.true refl c.picks.invariant.trees) c.tree_of.ensures.refused

pub picks-preserved : goal.picks-preserved
picks-preserved c =
    let list = c.args.list.now in
    let picks = c.args.picks.now in
    let i = c.picks.pick-index in
    let trees = c.picks.trees in
    record {
      trees = subst (λ (ts : List DepTree). AreTrees list (take (i + 1) picks) ts) (sym c.in_ok-trees.ensures)
          (mapped_more (dependency_tree list) (λ (t : DepTree). Ok t.nodes) picks i 0 (get_or picks i 0) trees c.in_ok-tree.tree c.picks-test.true refl c.picks.invariant.trees c.in_ok-tree.ensures.tree);
      ordered = subst (λ (ts : List DepTree). All (λ (t : DepTree). IsOrderedTree (length list) t.nodes) ts) (sym c.in_ok-trees.ensures)
          (All-push (λ (t : DepTree). IsOrderedTree (length list) t.nodes) trees c.in_ok-tree.tree c.picks.invariant.ordered c.in_ok-tree.ensures.ordered);
    }
