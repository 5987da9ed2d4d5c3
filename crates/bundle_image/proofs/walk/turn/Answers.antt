use Rattle.std.proofs.Common.{inl, ◌≡◌, ◌++◌, Some, sym, subst}
use Rattle.plain_laws.proofs.Results.{if_err}
use Rattle.dir_trait.specs.Bundles.{BundleTree, kind_at}
use Rattle.bundle_image.proofs.walk.turn.Goals as goal

pub returns-in-Ok-clause-fault : goal.returns-in-Ok-clause-fault
returns-in-Ok-clause-fault g c =
    if_err _ _ c.descend.result
    (λ r outside t kind. inl (outside t (subst (λ (tr : BundleTree). kind_at (tr (c.args.root.now ++ c.args.task.now.path)) ≡ Some c.args.task.now.kind) (sym (c.add_line.ensures.reads.same t)) kind)))
    c.descend.ensures.fault
