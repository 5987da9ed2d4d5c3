use Rattle.std.proofs.Common.{◌≡◌, ap, refl, subst, codes, List, ℕ, Some, IfOk}
use Rattle.serde_json.specs.Data.{Members, string}
use Rattle.path_map.specs.declared.listed.Listed.{Listed}
use Rattle.app_section.specs.Objects.{built, put_field, if_filled}
use Rattle.app_section.proofs.OrderedFields.{put_next}
use Rattle.manifests.specs.ElementObjects.{dependency_object, label_object, listed_data}
use Rattle.manifests.proofs.image_writer.with_last_fields.Goals as goal

pub returns : goal.returns
returns c =
    let dependencies = put_next (codes "dependencies") (ap (if_filled dependency_object) c.as_slice.ensures) refl c.in_ok-object.ensures in
    let labels = put_next (codes "labels") (ap (if_filled label_object) c.as_slice-2.ensures) dependencies c.in_ok-object-2.ensures in
    let name = put_next (codes "name") (ap (λ (t : List ℕ). Some (string t)) c.as_str.ensures.text) labels c.in_ok-object-3.ensures in
    let P : List Listed → Type 0 = λ ls. IfOk c.with_list-3.result
    (λ b. built b ≡ put_field (codes "pathWhitelist") (if_filled listed_data ls) (built c.in_ok-object-3.object)) in
    let Q : Members → Type 0 = λ ms. IfOk c.with_list-3.result
    (λ b. built b ≡ put_field (codes "pathWhitelist") (if_filled listed_data c.args.manifest.now.path_whitelist) ms) in
    subst Q name (subst P c.as_slice-3.ensures c.with_list-3.ensures)
