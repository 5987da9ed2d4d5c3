use Rattle.std.proofs.Common.{inl, inr, ◌≡◌, ◌⊎◌, codes, sym, subst, ⊎_elim}
use Rattle.plain_laws.proofs.Results.{if_ok, if_err, never}
use Rattle.bundle_image.specs.Heads.{bundle_file_at, IsManifestFault}
use Rattle.bundle_image.specs.Refusals.{IsBundleFailure}
use Rattle.bundle_image.specs.declared.refusal.BundleRefusal.TheVariants.{BundleFault, NoMemory}
use Rattle.bundle_image.specs.declared.refusal.BundleRefusal.{BundleRefusal}
use Rattle.bundle_image.proofs.Heads.{manifest_read, manifest_failed, no_fault}
use Rattle.bundle_image.proofs.head.read_manifest.Goals as goal

pub returns-in-Ok-clause-cause : goal.returns-in-Ok-clause-cause
returns-in-Ok-clause-cause g c is = absurd (never (λ r. (r ≡ NoMemory) ⊎ IsManifestFault c.in-Ok.bytes.items r) BundleFault c.manifest_of.result (no_fault c.in-Ok.bytes.items) c.manifest_of.ensures.fault is)

pub returns-in-Ok-clause-ok : goal.returns-in-Ok-clause-ok
returns-in-Ok-clause-ok g c =
    if_ok _ _ c.manifest_of.result (λ read is t. manifest_read (bundle_file_at (g.B.Bundle.shown c.args.bundle.now).tree c.args.path.now (codes "manifest")) read.bytes.items _ read.manifest (c.in-Ok.ensures.read t) is) c.manifest_of.ensures.ok

outside : (r : BundleRefusal) → r ≡ NoMemory → IsBundleFailure r
outside r is = subst IsBundleFailure (sym is) tt

pub returns-in-Ok-clause-fault : goal.returns-in-Ok-clause-fault
returns-in-Ok-clause-fault g c =
    if_err _ _ c.manifest_of.result
    (λ r fault t. ⊎_elim (λ memory. inl (outside r memory)) (λ bad. inr (inr (manifest_failed (bundle_file_at (g.B.Bundle.shown c.args.bundle.now).tree c.args.path.now (codes "manifest")) _ r (c.in-Ok.ensures.read t) bad))) fault)
    c.manifest_of.ensures.fault
