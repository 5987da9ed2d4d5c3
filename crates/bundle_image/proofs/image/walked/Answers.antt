use Rattle.std.proofs.Common.{rules, inl, ◌≡◌, codes, sym, subst}
use Rattle.plain_laws.proofs.Results.{if_ok, if_err}
use Rattle.dir_trait.specs.Bundles.{child_path, directory_prefix}
use Rattle.bundle_image.specs.declared.refusal.BundleRefusal.{BundleRefusal}
use Rattle.bundle_image.specs.declared.refusal.BundleRefusal.TheVariants.{NoMemory}
use Rattle.bundle_image.specs.Refusals.{IsBundleFailure}
use Rattle.bundle_image.specs.Reads.{ReadsWithin}
use Rattle.bundle_image.specs.Walks.{subtree_below, IsWalked}
use Rattle.bundle_image.specs.Work.{EndsWalk}
use Rattle.bundle_image.proofs.Look.{walked_same}
use Rattle.bundle_image.proofs.Reading.{reads_wider}
use Rattle.bundle_image.proofs.image.walked.Goals as goal

outside : (r : BundleRefusal) → r ≡ NoMemory → IsBundleFailure r
outside r is = subst IsBundleFailure (sym is) tt

pub returns-in-Ok-clause-reads : goal.returns-in-Ok-clause-reads
returns-in-Ok-clause-reads g c =
    let is : c.as_str.result.now ≡ child_path c.args.path.now (codes "rootfs") = search rules in
    reads_wider (directory_prefix c.args.path.now) (codes "rootfs") (subst (λ p. ReadsWithin g.B.Bundle.observed p (g.B.Bundle.shown c.args.bundle.now) (g.B.Bundle.shown c.walk.new.bundle)) is c.walk.ensures.reads)

pub returns-clause-reads : goal.returns-clause-reads
returns-clause-reads g c =
    let is : c.as_str.result.now ≡ child_path c.args.path.now (codes "rootfs") = search rules in
    reads_wider (directory_prefix c.args.path.now) (codes "rootfs") (subst (λ p. ReadsWithin g.B.Bundle.observed p (g.B.Bundle.shown c.args.bundle.now) (g.B.Bundle.shown c.walk.new.bundle)) is c.walk.ensures.reads)

pub returns-in-Ok-clause-ok : goal.returns-in-Ok-clause-ok
returns-in-Ok-clause-ok g c =
    let is : c.as_str.result.now ≡ child_path c.args.path.now (codes "rootfs") = search rules in
    if_ok _ _ c.made.result
    (λ found same t. walked_same _ c.in-Ok.lines found.listing same (subst (λ p. IsWalked (subtree_below (g.B.Bundle.shown c.args.bundle.now).tree p) c.in-Ok.lines) is (c.in-Ok.ensures.walked t)))
    c.made.ensures.listing

pub returns-in-Ok-clause-fault : goal.returns-in-Ok-clause-fault
returns-in-Ok-clause-fault g c = if_err _ _ c.made.result (λ r memory t. inl (outside r memory)) c.made.ensures.fault

pub returns-clause-fault : goal.returns-clause-fault
returns-clause-fault g c t =
    let is : c.as_str.result.now ≡ child_path c.args.path.now (codes "rootfs") = search rules in
    subst (λ p. EndsWalk (subtree_below (g.B.Bundle.shown c.args.bundle.now).tree p) c.in-Err.refusal) is (c.in-Err.ensures.fault t)
