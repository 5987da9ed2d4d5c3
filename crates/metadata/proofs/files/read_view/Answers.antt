use Rattle.std.proofs.Common.{◌≡◌, inl, true, option_map}
use Rattle.plain_laws.proofs.Results.{if_ok}
use Rattle.manifests.specs.PodData.{pod_data}
use Rattle.metadata_reply.specs.Views.{view_data}
use Rattle.pod_files.proofs.Reading.{reads_more}
use Rattle.metadata.specs.Images.{TellsManifestImages}
use Rattle.metadata.specs.PodViews.{TellsFiles}
use Rattle.metadata.proofs.Views.{files_told}
use Rattle.metadata.proofs.files.read_view.Goals as goal

pub returns-in-Ok-clause-only : goal.returns-in-Ok-clause-only
returns-in-Ok-clause-only g c = reads_more c.args.pod c.read_manifest.ensures.only c.view_with.ensures.only

pub returns-in-Ok-clause-tells : goal.returns-in-Ok-clause-tells
returns-in-Ok-clause-tells g c =
    let D = g.D.Dir in
    let old = D.shown c.args.dir.now in
    let mid = D.shown c.read_manifest.new.dir in
    let new = D.shown c.view_with.new.dir in
    let manifest = pod_data c.in-Ok.manifest in
    if_ok (λ found. D.observed ≡ true → TellsManifestImages c.args.pod manifest (option_map view_data found) mid new) (λ found. D.observed ≡ true → TellsFiles c.args.pod (option_map view_data found) old new) c.view_with.result
    (λ found tells t. files_told t c.args.pod manifest (option_map view_data found) old mid new c.read_manifest.ensures.only c.view_with.ensures.only (c.in-Ok.ensures.read t) (tells t)) c.view_with.ensures.tells

pub returns-in-Err-Lacking-clause-tells : goal.returns-in-Err-Lacking-clause-tells
returns-in-Err-Lacking-clause-tells g c t =
    let e = rw c.in-Err-Lacking.field-0-is at c.in-Err-Lacking.ensures in
    inl (e.lacks t)
