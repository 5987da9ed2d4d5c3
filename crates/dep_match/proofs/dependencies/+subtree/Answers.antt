use Rattle.std.proofs.Common.{◌≡◌, ◌∙◌, ◌+◌, ◌-◌, length, arith}
use Rattle.std.proofs.lemmas.Result.{err_from_is_err_and}
use Rattle.dep_match.proofs.Trees.{grow_below, grown_next, tree_made, tree_fault, image_fault, below_fault, subtree_is}
use Rattle.dep_match.proofs.dependencies.+subtree.Goals as goal

pub returns-in_err-found-clause-err : goal.returns-in_err-found-clause-err
returns-in_err-found-clause-err t c =
    let p = err_from_is_err_and c.from_residual-in_err-found.result c.from_residual-in_err-found.ensures.1 in
    let n = c.args.number + 1 + c.len.result in
    let n_is : n ≡ c.args.number + 1 + length c.loop-dependency.below.items = omega (arith, c.len.ensures, c.loop-dependency.below.ok.0) in
    let fault = image_fault (c.args.levels - 1) c.args.list.now c.in_ok-way.way.items n c.dependency-item.result c.in_err-found.field-0.0
    (rw c.as_slice.ensures.value at c.in_err-found.ensures.err) in
    let whole = tree_fault c.args.levels c.args.list.now c.args.above.now c.in_ok-way.way.items c.args.number c.args.image
    c.dependencies_at-dependencies.result.now c.loop-dependency.children c.loop-dependency.below.items
    c.loop-dependency.dependency-index c.dependency-item.result n c.in_err-found.field-0.0 c.requires.deep c.in_ok-way.ensures
    c.dependencies_at-dependencies.ensures c.loop-dependency-test.true c.dependency-item.is n_is c.loop-dependency.invariant fault in
    rw (p.1, p.2) whole

pub returns-in_err-nodes-clause-err : goal.returns-in_err-nodes-clause-err
returns-in_err-nodes-clause-err t c =
    let p = err_from_is_err_and c.from_residual-in_err-nodes.result c.from_residual-in_err-nodes.ensures.1 in
    let n = c.args.number + 1 + c.len.result in
    let n_is : n ≡ c.args.number + 1 + length c.loop-dependency.below.items = omega (arith, c.len.ensures, c.loop-dependency.below.ok.0) in
    let found = rw c.as_slice.ensures.value at c.in_ok-found.ensures.ok in
    let fault = below_fault (c.args.levels - 1) c.args.list.now c.in_ok-way.way.items n c.dependency-item.result c.in_ok-found.found
    c.in_err-nodes.field-0.0 found (rw c.as_slice-in-loop-dependency.ensures.value at c.in_err-nodes.ensures.err) in
    let whole = tree_fault c.args.levels c.args.list.now c.args.above.now c.in_ok-way.way.items c.args.number c.args.image
    c.dependencies_at-dependencies.result.now c.loop-dependency.children c.loop-dependency.below.items
    c.loop-dependency.dependency-index c.dependency-item.result n c.in_err-nodes.field-0.0 c.requires.deep c.in_ok-way.ensures
    c.dependencies_at-dependencies.ensures c.loop-dependency-test.true c.dependency-item.is n_is c.loop-dependency.invariant fault in
    rw (p.1, p.2) whole

pub loop-dependency-preserved : goal.loop-dependency-preserved
loop-dependency-preserved t c =
    let n = c.args.number + 1 + c.len.result in
    let n_is : n ≡ c.args.number + 1 + length c.loop-dependency.below.items = omega (arith, c.len.ensures, c.loop-dependency.below.ok.0) in
    let found = rw c.as_slice.ensures.value at c.in_ok-found.ensures.ok in
    let sub = rw c.as_slice-in-loop-dependency.ensures.value at c.in_ok-nodes.ensures.ok in
    grown_next (grow_below (c.args.levels - 1) c.args.list.now c.in_ok-way.way.items) (c.args.number + 1)
    c.dependencies_at-dependencies.result.now c.loop-dependency.children c.loop-dependency.below.items
    c.loop-dependency.dependency-index c.dependency-item.result c.in_ok-nodes.nodes.items n
    c.loop-dependency-test.true c.dependency-item.is n_is
    (subtree_is (c.args.levels - 1) c.args.list.now c.in_ok-way.way.items n c.dependency-item.result c.in_ok-found.found found ∙ sub)
    c.in_ok-nodes.ensures.few c.in_ok-children.ensures c.in_ok-below.ensures c.loop-dependency.invariant

pub returns-clause-ok : goal.returns-clause-ok
returns-clause-ok t c =
    tree_made c.args.levels c.args.list.now c.args.above.now c.in_ok-way.way.items c.args.number c.args.image
    c.dependencies_at-dependencies.result.now c.loop-dependency.children c.loop-dependency.below.items c.in_ok-with_root.field-0.items
    c.loop-dependency.dependency-index c.requires.deep c.in_ok-way.ensures c.dependencies_at-dependencies.ensures
    c.loop-dependency-test.false c.in_ok-with_root.ensures c.loop-dependency.invariant
