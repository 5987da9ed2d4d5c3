use Rattle.std.proofs.Common.{◌≡◌, ap, refl, subst, codes, List, ℕ, Some, IfOk, option_map}
use Rattle.serde_json.specs.Data.{Members, string}
use Rattle.app_section.specs.AppData.{app_data}
use Rattle.app_section.specs.AppObject.{app_object}
use Rattle.app_section.specs.Objects.{built, put_field, if_filled}
use Rattle.app_section.proofs.OrderedFields.{put_next}
use Rattle.manifests.specs.ElementObjects.{annotation_object}
use Rattle.manifests.proofs.image_writer.with_first_fields.Goals as goal

pub returns : goal.returns
returns c =
    let kind = put_next (codes "acKind") refl c.new-object.ensures c.in_ok-object.ensures in
    let version = put_next (codes "acVersion") (ap (λ (t : List ℕ). Some (string t)) c.as_str.ensures) kind c.in_ok-object-2.ensures in
    let annotations = put_next (codes "annotations") (ap (if_filled annotation_object) c.as_slice.ensures) version c.in_ok-object-3.ensures in
    let Q : Members → Type 0 = λ ms. IfOk c.with_app.result
    (λ b. built b ≡ put_field (codes "app") (option_map app_object (option_map app_data c.args.manifest.now.app)) ms) in
    subst Q annotations c.with_app.ensures
