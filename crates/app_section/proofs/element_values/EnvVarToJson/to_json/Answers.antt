use Rattle.std.proofs.Common.{◌∙◌, ap, refl, codes, List, ℕ, Some}
use Rattle.serde_json.specs.Data.{object, string}
use Rattle.app_section.specs.AppObject.{env_fields, env_object}
use Rattle.app_section.proofs.OrderedFields.{in_order, put_next}
use Rattle.app_section.proofs.element_values.EnvVarToJson.to_json.Goals as goal

pub returns : goal.returns
unfolding env_object
returns c =
    let name = put_next (codes "name") (ap (λ (t : List ℕ). Some (string t)) c.as_str.ensures) c.new-object.ensures c.in_ok-object.ensures in
    let value = put_next (codes "value") (ap (λ (t : List ℕ). Some (string t)) c.as_str-2.ensures) name c.in_ok-object-2.ensures in
    c.finish.ensures ∙ ap object (value ∙ in_order (env_fields c.args.self.now) refl)
