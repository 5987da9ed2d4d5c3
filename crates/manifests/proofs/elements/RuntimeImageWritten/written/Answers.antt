use Rattle.std.proofs.Common.{◌∙◌, ap, refl, codes}
use Rattle.serde_json.specs.Data.{object}
use Rattle.app_section.specs.Objects.{if_filled}
use Rattle.manifests.specs.ElementObjects.{label_object, runtime_image_fields, runtime_image_object}
use Rattle.app_section.proofs.OrderedFields.{in_order, put_next}
use Rattle.manifests.proofs.elements.RuntimeImageWritten.written.Goals as goal

pub returns : goal.returns
unfolding runtime_image_object
returns c =
    let id = put_next (codes "id") refl c.new-object.ensures c.in_ok-object.ensures in
    let labels = put_next (codes "labels") (ap (if_filled label_object) c.as_slice.ensures) id c.in_ok-object-2.ensures in
    let name = put_next (codes "name") refl labels c.in_ok-object-3.ensures in
    c.finish.ensures ∙ ap object (name ∙ in_order (runtime_image_fields c.args.self.now) refl)
