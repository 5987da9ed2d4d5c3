use Rattle.std.proofs.Common.{◌∙◌, ap, refl, codes, List, ℕ, Some}
use Rattle.serde_json.specs.Data.{object, string}
use Rattle.app_section.specs.AppObject.{port_fields, port_object, whole_data}
use Rattle.app_section.proofs.OrderedFields.{in_order, put_next}
use Rattle.app_section.proofs.element_values.PortToJson.to_json.Goals as goal

pub returns : goal.returns
unfolding port_object
returns c =
    let count = put_next (codes "count") (ap (λ (n : ℕ). Some (whole_data n)) c.from.ensures) c.new-object.ensures c.in_ok-object.ensures in
    let name = put_next (codes "name") (ap (λ (t : List ℕ). Some (string t)) c.as_str.ensures.text) count c.in_ok-object-2.ensures in
    let first = put_next (codes "port") (ap (λ (n : ℕ). Some (whole_data n)) c.from-2.ensures) name c.in_ok-object-3.ensures in
    let protocol = put_next (codes "protocol") (ap (λ (t : List ℕ). Some (string t)) c.as_str-2.ensures) first c.in_ok-object-4.ensures in
    let activated = put_next (codes "socketActivated") refl protocol c.in_ok-object-5.ensures in
    c.finish.ensures ∙ ap object (activated ∙ in_order (port_fields c.args.self.now) refl)
