use Rattle.std.proofs.Common.{◌∙◌, ap, refl, codes, map, List, ℕ, Some}
use Rattle.serde_json.specs.Data.{object, string}
use Rattle.app_section.specs.AppObject.{handler_fields, handler_object}
use Rattle.app_section.proofs.OrderedFields.{in_order, put_next}
use Rattle.app_section.proofs.WrittenLists.{list_view}
use Rattle.app_section.proofs.element_values.HandlerToJson.to_json.Goals as goal

pub returns : goal.returns
unfolding handler_object
returns c =
    let h = c.args.self.now in
    let words = list_view string h.exec c.in_ok-json_of_each.field-0 (c.in_ok-json_of_each.ensures ∙ ap (map string) c.as_slice.ensures) in
    let exec = put_next (codes "exec") (ap Some words) c.new-object.ensures c.in_ok-object.ensures in
    let name = put_next (codes "name") (ap (λ (t : List ℕ). Some (string t)) c.name.ensures) exec c.in_ok-object-2.ensures in
    c.finish.ensures ∙ ap object (name ∙ in_order (handler_fields h) refl)
