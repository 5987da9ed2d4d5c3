use Rattle.std.proofs.Common.{◌∙◌, ap, refl}
use Rattle.serde_json.specs.Data.{object}
use Rattle.app_section.specs.Objects.{put_all}
use Rattle.app_section.proofs.OrderedFields.{in_order}
use Rattle.manifests.specs.PodData.{pod_data}
use Rattle.manifests.specs.PodObject.{pod_members, last_pod_members, pod_object}
use Rattle.manifests.proofs.pod_writer.pod_value.Goals as goal

pub returns : goal.returns
unfolding pod_object
returns c =
    let m = pod_data c.args.manifest.now in
    c.finish.ensures
    ∙ ap object (c.in_ok-object-2.ensures
    ∙ ap (put_all (last_pod_members m)) c.in_ok-object.ensures ∙ in_order (pod_members m) refl)
