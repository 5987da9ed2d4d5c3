use Rattle.std.proofs.Common.{ℕ, List, codes, subst, ◌∙◌, ap}
use Rattle.serde_json.specs.View.{view}
use Rattle.ac_types.specs.FieldForms.{present}
use Rattle.ac_types.specs.JsonPaths.{field_path}
use Rattle.ac_types.specs.Outcomes.{Outcome, Gives}
use Rattle.manifest_parts.specs.RuntimeImageForm.{runtime_image}
use Rattle.manifest_parts.specs.declared.runtime_image.RuntimeImage.{RuntimeImage}
use Rattle.manifests.proofs.RequiredFields.{required_by}
use Rattle.manifests.proofs.runtime_app.image_field.Goals as goal

pub returns-in_ok-path-in-Ok : goal.returns-in_ok-path-in-Ok
returns-in_ok-path-in-Ok c =
    let path = field_path c.args.at.now (codes "image") in
    let found = view c.in-Ok.found.now in
    let P : Outcome RuntimeImage → Type 0 = λ o. Gives o c.read_runtime_image.result in
    subst P
    (ap (λ (p : List ℕ). runtime_image p found) (c.as_str.ensures ∙ c.in_ok-path-in-Ok.ensures)
    ∙ required_by runtime_image path (present (codes "image") (view c.args.value.now)) found c.in-Ok.ensures)
    c.read_runtime_image.ensures
