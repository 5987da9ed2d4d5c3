use Rattle.std.proofs.Common.{◌≡◌, ap, refl, subst, codes, List, ℕ, Some, IfOk, option_map}
use Rattle.serde_json.specs.Data.{Members, string}
use Rattle.app_section.specs.AppObject.{mount_object, port_object, whole_data}
use Rattle.app_section.specs.Objects.{built, put_field, if_filled}
use Rattle.app_section.proofs.OrderedFields.{put_next}
use Rattle.app_section.proofs.written_app.with_last_fields.Goals as goal

pub returns : goal.returns
returns c =
    let first = put_next (codes "mountPoints") (ap (if_filled mount_object) c.as_slice.ensures) refl c.in_ok-object.ensures in
    let ports = put_next (codes "ports") (ap (if_filled port_object) c.as_slice-2.ensures) first c.in_ok-object-2.ensures in
    let gids = put_next (codes "supplementaryGIDs") (ap (if_filled whole_data) c.as_slice-3.ensures) ports c.in_ok-object-3.ensures in
    let user = put_next (codes "user") (ap (λ (t : List ℕ). Some (string t)) c.as_str.ensures) gids c.in_ok-object-4.ensures in
    let Q : Members → Type 0 = λ ms. IfOk c.with_directory.result
    (λ b. built b ≡ put_field (codes "workingDirectory") (option_map string c.args.app.now.working_directory) ms) in
    subst Q user c.with_directory.ensures
