use Rattle.std.proofs.Common.{rules}
use Rattle.plain_laws.proofs.Results.{if_ok}
use Rattle.image_reading.proofs.Asking.{images_one}
use Rattle.pod_plan.specs.Readings.{with_manifest, AddsReadImage, ReadsNextManifest}
use Rattle.pod_plan.proofs.Results.{ok_same}
use Rattle.pod_plan.proofs.Lacks.{manifest_lack}
use Rattle.pod_plan.proofs.Again.{kept_manifest}
use Rattle.pod_plan.proofs.images.read_next.Goals as goal

pub returns-in-Ok-clause-only : goal.returns-in-Ok-clause-only
returns-in-Ok-clause-only g c = images_one c.args.listed.now.key c.read_manifest.ensures.only

pub returns-in-Ok-clause-read : goal.returns-in-Ok-clause-read
returns-in-Ok-clause-read g c =
    let D = g.D.Dir in
    let listed = c.args.listed.now in
    let kept = c.in-Ok.kept in
    let old = D.shown c.args.dir.now in
    let new = D.shown c.read_manifest.new.dir in
    ok_same (λ done. ReadsNextManifest D.observed listed c.args.read.now c.add.new.self old new) c.add.result c.map_err.result (λ a h. search (rules, h, c.map_err.ensures.cases))
    (if_ok (λ done. AddsReadImage (with_manifest listed kept.manifest) kept.bytes.items c.args.read.now c.add.new.self) (λ done. ReadsNextManifest D.observed listed c.args.read.now c.add.new.self old new) c.add.result
    (λ done adds. record {
      manifest = kept.manifest;
      bytes = kept.bytes.items;
      adds = adds;
      manifest_read = λ t. kept_manifest listed kept (c.in-Ok.ensures.read t);
    })
    c.add.ensures)

pub returns-in-Err-clause-only : goal.returns-in-Err-clause-only
returns-in-Err-clause-only g c = images_one c.args.listed.now.key c.read_manifest.ensures.only

pub returns-in-Err-clause-lacks : goal.returns-in-Err-clause-lacks
returns-in-Err-clause-lacks g c = manifest_lack c.args.listed.now.key c.in-Err.error c.in-Err.ensures.refusals c.in-Err.ensures.damaged
