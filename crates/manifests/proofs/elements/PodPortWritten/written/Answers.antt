use Rattle.std.proofs.Common.{◌∙◌, ap, refl, codes, List, ℕ, Some}
use Rattle.serde_json.specs.Data.{object, string}
use Rattle.app_section.specs.AppObject.{whole_data}
use Rattle.manifests.specs.ElementObjects.{pod_port_fields, pod_port_object}
use Rattle.app_section.proofs.OrderedFields.{in_order, put_next}
use Rattle.manifests.proofs.elements.PodPortWritten.written.Goals as goal

pub returns : goal.returns
unfolding pod_port_object
returns c =
    let port = put_next (codes "hostPort") (ap (λ (n : ℕ). Some (whole_data n)) c.from.ensures) c.new-object.ensures c.in_ok-object.ensures in
    let name = put_next (codes "name") (ap (λ (t : List ℕ). Some (string t)) c.as_str.ensures.text) port c.in_ok-object-2.ensures in
    c.finish.ensures ∙ ap object (name ∙ in_order (pod_port_fields c.args.self.now) refl)
