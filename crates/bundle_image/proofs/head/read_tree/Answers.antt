use Rattle.std.proofs.Common.{◌≡◌, take, codes, sym, subst, IsSomeAnd, ◌⊎◌, ℕ, List}
use Rattle.bundle_image.specs.Heads.{bundle_file_at, FailsTree}
use Rattle.bundle_image.specs.Refusals.{IsBundleFailure}
use Rattle.bundle_image.proofs.Trees.{tree_read, tree_failed}
use Rattle.bundle_image.proofs.head.read_tree.Goals as goal

pub returns-in-Ok-read-clause-ok : goal.returns-in-Ok-read-clause-ok
returns-in-Ok-read-clause-ok g c t =
    tree_read (bundle_file_at (g.B.Bundle.shown c.args.bundle.now).tree c.args.path.now (codes "tree")) c.deref.result.now c.in-Ok-read.listing (subst (λ (b : List ℕ). IsSomeAnd (bundle_file_at (g.B.Bundle.shown c.args.bundle.now).tree c.args.path.now (codes "tree")) (λ f. b ≡ take 33554433 f)) (sym c.deref.ensures.value) (c.in-Ok.ensures.read t)) c.in-Ok-read.ensures.ok c.in-Ok-read.ensures.kind.size

pub returns-in-Ok-clause-fault : goal.returns-in-Ok-clause-fault
returns-in-Ok-clause-fault g c t =
    subst (λ r. IsBundleFailure r ⊎ FailsTree (g.B.Bundle.shown c.args.bundle.now).tree c.args.path.now r) (sym c.listing_refusal.ensures)
    (tree_failed (bundle_file_at (g.B.Bundle.shown c.args.bundle.now).tree c.args.path.now (codes "tree")) c.deref.result.now c.in-Err.error (subst (λ (b : List ℕ). IsSomeAnd (bundle_file_at (g.B.Bundle.shown c.args.bundle.now).tree c.args.path.now (codes "tree")) (λ f. b ≡ take 33554433 f)) (sym c.deref.ensures.value) (c.in-Ok.ensures.read t)) c.in-Err.ensures.fault)
