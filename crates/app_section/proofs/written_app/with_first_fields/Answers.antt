use Rattle.std.proofs.Common.{◌≡◌, ap, subst, codes, List, ℕ, Some, IfOk, map}
use Rattle.serde_json.specs.Data.{Members, string}
use Rattle.app_section.specs.AppData.{isolator_data}
use Rattle.app_section.specs.AppObject.{env_object, handler_object, isolator_object}
use Rattle.app_section.specs.Objects.{built, put_field, if_filled}
use Rattle.app_section.specs.declared.isolator.Isolator.{Isolator}
use Rattle.app_section.proofs.OrderedFields.{put_next}
use Rattle.app_section.proofs.written_app.with_first_fields.Goals as goal

pub returns : goal.returns
returns c =
    let environment = put_next (codes "environment") (ap (if_filled env_object) c.as_slice.ensures) c.new-object.ensures c.in_ok-object.ensures in
    let handlers = put_next (codes "eventHandlers") (ap (if_filled handler_object) c.as_slice-2.ensures) environment c.in_ok-object-2.ensures in
    let exec = put_next (codes "exec") (ap (if_filled string) c.as_slice-3.ensures) handlers c.in_ok-object-3.ensures in
    let group = put_next (codes "group") (ap (λ (t : List ℕ). Some (string t)) c.as_str.ensures) exec c.in_ok-object-4.ensures in
    let Q : Members → Type 0 = λ ms. IfOk c.with_isolators.result
    (λ b. built b ≡ put_field (codes "isolators") (if_filled isolator_object (map isolator_data c.args.app.now.isolators)) ms) in
    let P : List Isolator → Type 0 = λ is. IfOk c.with_isolators.result
    (λ b. built b ≡ put_field (codes "isolators") (if_filled isolator_object (map isolator_data is)) (built c.in_ok-object-4.object)) in
    subst Q group (subst P c.as_slice-4.ensures c.with_isolators.ensures)
