use Rattle.std.proofs.Common.{◌∙◌, ap, refl, codes, List, ℕ, Some}
use Rattle.serde_json.specs.Data.{object, string}
use Rattle.app_section.specs.AppObject.{mount_fields, mount_object}
use Rattle.app_section.proofs.OrderedFields.{in_order, put_next}
use Rattle.app_section.proofs.element_values.MountPointToJson.to_json.Goals as goal

pub returns : goal.returns
unfolding mount_object
returns c =
    let name = put_next (codes "name") (ap (λ (t : List ℕ). Some (string t)) c.as_str.ensures.text) c.new-object.ensures c.in_ok-object.ensures in
    let path = put_next (codes "path") (ap (λ (t : List ℕ). Some (string t)) c.as_str-2.ensures) name c.in_ok-object-2.ensures in
    let read_only = put_next (codes "readOnly") refl path c.in_ok-object-3.ensures in
    c.finish.ensures ∙ ap object (read_only ∙ in_order (mount_fields c.args.self.now) refl)
