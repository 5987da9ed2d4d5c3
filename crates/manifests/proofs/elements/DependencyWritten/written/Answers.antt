use Rattle.std.proofs.Common.{◌∙◌, ap, refl, codes, List, ℕ, Some}
use Rattle.serde_json.specs.Data.{object, string}
use Rattle.app_section.specs.Objects.{if_filled}
use Rattle.manifests.specs.ElementObjects.{dependency_fields, dependency_object, label_object}
use Rattle.app_section.proofs.OrderedFields.{in_order, put_next}
use Rattle.manifests.proofs.elements.DependencyWritten.written.Goals as goal

pub returns : goal.returns
unfolding dependency_object
returns c =
    let id = put_next (codes "imageID") refl c.new-object.ensures c.in_ok-object.ensures in
    let name = put_next (codes "imageName") (ap (λ (t : List ℕ). Some (string t)) c.as_str.ensures.text) id c.in_ok-object-2.ensures in
    let labels = put_next (codes "labels") (ap (if_filled label_object) c.as_slice.ensures) name c.in_ok-object-3.ensures in
    let size = put_next (codes "size") refl labels c.in_ok-object-4.ensures in
    c.finish.ensures ∙ ap object (size ∙ in_order (dependency_fields c.args.self.now) refl)
