use Rattle.std.proofs.Common.{inr, ◌⊎◌, codes, subst}
use Rattle.plain_laws.proofs.Results.{if_err}
use Rattle.dir_trait.specs.Bundles.{BundleTree}
use Rattle.bundle_image.specs.Refusals.{IsBundleFailure}
use Rattle.bundle_image.specs.Images.{FailsBehind}
use Rattle.bundle_image.specs.Heads.{bundle_file_at}
use Rattle.bundle_image.proofs.Heads.{has_manifest}
use Rattle.bundle_image.proofs.Results.{or_right}
use Rattle.bundle_image.proofs.image.read_bundle.Goals as goal

pub returns-in-Ok-clause-fault : goal.returns-in-Ok-clause-fault
returns-in-Ok-clause-fault g c =
    if_err _ _ c.behind.result
    (λ r fault t. or_right (λ later. inr (has_manifest (bundle_file_at (g.B.Bundle.shown c.args.bundle.now).tree c.args.path.now (codes "manifest")) c.in-Ok.read.bytes.items c.in-Ok.read.manifest (c.in-Ok.ensures.ok t), later))
    (subst (λ (tr : BundleTree). IsBundleFailure r ⊎ FailsBehind tr c.args.path.now r) (c.read_manifest.ensures.reads.same t) (fault t)))
    c.behind.ensures.fault
