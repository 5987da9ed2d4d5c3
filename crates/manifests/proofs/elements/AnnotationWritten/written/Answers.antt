use Rattle.std.proofs.Common.{◌∙◌, ap, refl, codes, List, ℕ, Some}
use Rattle.serde_json.specs.Data.{object, string}
use Rattle.manifests.specs.ElementObjects.{annotation_fields, annotation_object}
use Rattle.app_section.proofs.OrderedFields.{in_order, put_next}
use Rattle.manifests.proofs.elements.AnnotationWritten.written.Goals as goal

pub returns : goal.returns
unfolding annotation_object
returns c =
    let name = put_next (codes "name") (ap (λ (t : List ℕ). Some (string t)) c.as_str.ensures.text) c.new-object.ensures c.in_ok-object.ensures in
    let value = put_next (codes "value") (ap (λ (t : List ℕ). Some (string t)) c.as_str-2.ensures) name c.in_ok-object-2.ensures in
    c.finish.ensures ∙ ap object (value ∙ in_order (annotation_fields c.args.self.now) refl)
