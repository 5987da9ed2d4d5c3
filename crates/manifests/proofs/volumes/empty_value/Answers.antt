use Rattle.std.proofs.Common.{◌∙◌, ap, refl, codes, ℕ, Some}
use Rattle.serde_json.specs.Data.{object}
use Rattle.app_section.specs.AppObject.{whole_data}
use Rattle.manifests.specs.VolumeObject.{empty_fields}
use Rattle.app_section.proofs.OrderedFields.{in_order, put_next}
use Rattle.manifests.proofs.volumes.empty_value.Goals as goal

pub returns : goal.returns
returns c =
    let gid = put_next (codes "gid") (ap (λ (n : ℕ). Some (whole_data n)) c.from.ensures) c.new-object.ensures c.in_ok-object.ensures in
    let kind = put_next (codes "kind") refl gid c.in_ok-object-2.ensures in
    let mode = put_next (codes "mode") refl kind c.in_ok-object-3.ensures in
    let name = put_next (codes "name") refl mode c.in_ok-object-4.ensures in
    let uid = put_next (codes "uid") (ap (λ (n : ℕ). Some (whole_data n)) c.from-2.ensures) name c.in_ok-object-5.ensures in
    c.finish.ensures ∙ ap object (uid ∙ in_order (empty_fields c.args.name.now c.args.mode.now c.args.uid c.args.gid) refl)
