use Rattle.std.proofs.Common.{◌≡◌, ◌∙◌, ap, refl, subst, codes, map, List, ℕ, Some, IfOk}
use Rattle.serde_json.specs.Data.{Data, Members, string}
use Rattle.app_section.specs.Objects.{built, put_field, if_filled, list_data}
use Rattle.app_section.proofs.OrderedFields.{put_next}
use Rattle.app_section.proofs.WrittenLists.{list_view, once}
use Rattle.manifests.specs.PodData.{runtime_app_data}
use Rattle.manifests.specs.ElementObjects.{annotation_object}
use Rattle.manifests.specs.PodObject.{runtime_app_object}
use Rattle.manifests.proofs.pod_writer.with_first_fields.Goals as goal

pub returns : goal.returns
returns c =
    let m = c.args.manifest.now in
    let kind = put_next (codes "acKind") refl c.new-object.ensures c.in_ok-object.ensures in
    let version = put_next (codes "acVersion") (ap (λ (t : List ℕ). Some (string t)) c.as_str.ensures) kind c.in_ok-object-2.ensures in
    let annotations = put_next (codes "annotations") (ap (if_filled annotation_object) c.as_slice.ensures) version c.in_ok-object-3.ensures in
    let apps = list_view runtime_app_object (map runtime_app_data m.apps) c.in_ok-each_written.field-0
    (c.in_ok-each_written.ensures ∙ ap (map (λ a. runtime_app_object (runtime_app_data a))) c.as_slice-2.ensures
    ∙ once runtime_app_object runtime_app_data m.apps) in
    let P : Data → Type 0 = λ d. IfOk c.json.result (λ b. built b ≡ put_field (codes "apps") (Some d) (built c.in_ok-object-3.object)) in
    let Q : Members → Type 0 = λ ms. IfOk c.json.result
    (λ b. built b ≡ put_field (codes "apps") (Some (list_data runtime_app_object (map runtime_app_data m.apps))) ms) in
    subst Q annotations (subst P apps c.json.ensures)
