use Rattle.std.proofs.Common.{◌∙◌, ap, refl}
use Rattle.serde_json.specs.Data.{object}
use Rattle.app_section.specs.AppData.{app_data}
use Rattle.app_section.specs.AppObject.{app_fields, app_object, last_app_fields}
use Rattle.app_section.specs.Objects.{put_all}
use Rattle.app_section.proofs.OrderedFields.{in_order}
use Rattle.app_section.proofs.written_app.app_value.Goals as goal

pub returns : goal.returns
unfolding app_object
returns c =
    let a = app_data c.args.app.now in
    c.finish.ensures
    ∙ ap object (c.in_ok-object-2.ensures
    ∙ ap (put_all (last_app_fields a)) c.in_ok-object.ensures ∙ in_order (app_fields a) refl)
