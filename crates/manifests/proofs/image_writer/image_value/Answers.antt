use Rattle.std.proofs.Common.{◌∙◌, ap, refl}
use Rattle.serde_json.specs.Data.{object}
use Rattle.app_section.specs.Objects.{put_all}
use Rattle.app_section.proofs.OrderedFields.{in_order}
use Rattle.manifests.specs.ImageData.{image_data}
use Rattle.manifests.specs.ImageObject.{image_members, last_image_members, image_object}
use Rattle.manifests.proofs.image_writer.image_value.Goals as goal

pub returns : goal.returns
unfolding image_object
returns c =
    let m = image_data c.args.manifest.now in
    c.finish.ensures
    ∙ ap object (c.in_ok-object-2.ensures
    ∙ ap (put_all (last_image_members m)) c.in_ok-object.ensures ∙ in_order (image_members m) refl)
