use Rattle.std.proofs.Common.{◌≡◌, ap, ◌∙◌, sym}
use Rattle.std.specs.Prelude.{List, Ok}
use Rattle.dep_match.specs.Dependencies.{dependency_tree}
use Rattle.dep_match.specs.declared.dep_tree.DepNode.{DepNode}
use Rattle.dep_match.proofs.OrderedTrees.{tree_ordered, tree_top, tree_best}
use Rattle.dep_match.proofs.dependencies.closure.Goals as goal

pub returns-clause-order : goal.returns-clause-order
returns-clause-order c =
    let made : dependency_tree c.args.list.now c.args.top ≡ Ok c.from_vec.result = c.in_ok-nodes.ensures.ok ∙ ap (λ (nodes : List DepNode). Ok nodes) (sym c.from_vec.ensures) in
    tree_ordered c.args.list.now c.args.top c.from_vec.result c.requires made

pub returns-clause-top : goal.returns-clause-top
returns-clause-top c =
    let made : dependency_tree c.args.list.now c.args.top ≡ Ok c.from_vec.result = c.in_ok-nodes.ensures.ok ∙ ap (λ (nodes : List DepNode). Ok nodes) (sym c.from_vec.ensures) in
    tree_top c.args.list.now c.args.top c.from_vec.result c.requires made

pub returns-clause-best : goal.returns-clause-best
returns-clause-best c =
    let made : dependency_tree c.args.list.now c.args.top ≡ Ok c.from_vec.result = c.in_ok-nodes.ensures.ok ∙ ap (λ (nodes : List DepNode). Ok nodes) (sym c.from_vec.ensures) in
    tree_best c.args.list.now c.args.top c.from_vec.result c.requires made
