use Rattle.std.proofs.Common.{◌∙◌, ap, refl, codes, List, ℕ, Some}
use Rattle.serde_json.specs.Data.{object, string}
use Rattle.manifests.specs.ElementObjects.{mount_fields, mount_object}
use Rattle.app_section.proofs.OrderedFields.{in_order, put_next}
use Rattle.manifests.proofs.elements.MountWritten.written.Goals as goal

pub returns : goal.returns
unfolding mount_object
returns c =
    let path = put_next (codes "path") (ap (λ (t : List ℕ). Some (string t)) c.as_str.ensures) c.new-object.ensures c.in_ok-object.ensures in
    let volume = put_next (codes "volume") (ap (λ (t : List ℕ). Some (string t)) c.as_str-2.ensures.text) path c.in_ok-object-2.ensures in
    c.finish.ensures ∙ ap object (volume ∙ in_order (mount_fields c.args.self.now) refl)
