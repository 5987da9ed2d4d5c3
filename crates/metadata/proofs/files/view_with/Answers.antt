use Rattle.std.proofs.Common.{rules}
use Rattle.manifests.specs.PodData.{pod_data}
use Rattle.metadata_reply.specs.Views.{view_data}
use Rattle.metadata.proofs.Views.{view_whole, view_images, view_lacks}
use Rattle.metadata.proofs.files.view_with.Goals as goal

pub returns-in-Ok-Some-clause-whole : goal.returns-in-Ok-Some-clause-whole
returns-in-Ok-Some-clause-whole g c =
    let e = rw c.in-Ok-Some.field-0-is at c.in-Ok-Some.ensures in
    view_whole (view_data c.of.result) c.args.pod (pod_data c.args.manifest) c.as_slice.result.now c.in-Ok-Some.images.items (search rules) (search rules) e.each e.readable

pub returns-in-Ok-Some-clause-tells : goal.returns-in-Ok-Some-clause-tells
returns-in-Ok-Some-clause-tells g c t =
    let D = g.D.Dir in
    let e = rw c.in-Ok-Some.field-0-is at c.in-Ok-Some.ensures in
    view_images (view_data c.of.result) c.args.pod (pod_data c.args.manifest) c.as_slice.result.now c.in-Ok-Some.images.items (D.shown c.args.dir.now) (D.shown c.read_images.new.dir) (search rules) (search rules) (e.tells t)

pub returns-in-Ok-None-clause-tells : goal.returns-in-Ok-None-clause-tells
returns-in-Ok-None-clause-tells g c t =
    let D = g.D.Dir in
    let e = rw c.in-Ok-None.field-0-is at c.in-Ok-None.ensures in
    view_lacks c.args.pod (pod_data c.args.manifest) c.as_slice.result.now (D.shown c.args.dir.now) (D.shown c.read_images.new.dir) (search rules) (e.tells t)
