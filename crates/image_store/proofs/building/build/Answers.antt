use Rattle.std.proofs.Common.{◌∙◌}
use Rattle.plain_laws.proofs.Results.{if_err}
use Rattle.image_store.specs.Causes.{bundle_source_at, FillCause, BuildCause}
use Rattle.image_store.proofs.Refusals.{fill_build}
use Rattle.image_store.proofs.building.build.Goals as goal

pub returns-in-Ok-clause-cause : goal.returns-in-Ok-clause-cause
returns-in-Ok-clause-cause g c =
    let D = g.D.Dir in
    let source = bundle_source_at g.B.Bundle.observed (g.B.Bundle.shown c.args.bundle.now).tree c.args.path.now in
    if_err (λ e. FillCause D.observed source c.deref.result.now e (D.shown c.args.dir.now) (D.shown c.carry.new.dir))
    (λ e. BuildCause D.observed source c.args.image.now.listing e (D.shown c.args.dir.now) (D.shown c.carry.new.dir)) c.carry.result
    (λ e x. fill_build c.as_slice.result.now c.args.image.now.id.bytes c.args.image.now.listing c.args.now c.deref.result.now (c.deref.ensures.value ∙ c.in-Ok.ensures.entries) x) c.carry.ensures.cause
