use Rattle.std.proofs.Common.{◌∙◌, ap, refl, codes}
use Rattle.serde_json.specs.Data.{object}
use Rattle.manifests.specs.VolumeObject.{host_fields}
use Rattle.app_section.proofs.OrderedFields.{in_order, put_next}
use Rattle.manifests.proofs.volumes.host_value.Goals as goal

pub returns : goal.returns
returns c =
    let kind = put_next (codes "kind") refl c.new-object.ensures c.in_ok-object.ensures in
    let name = put_next (codes "name") refl kind c.in_ok-object-2.ensures in
    let read_only = put_next (codes "readOnly") refl name c.in_ok-object-3.ensures in
    let source = put_next (codes "source") refl read_only c.in_ok-object-4.ensures in
    c.finish.ensures ∙ ap object (source ∙ in_order (host_fields c.args.name.now c.args.source.now c.args.read_only) refl)
