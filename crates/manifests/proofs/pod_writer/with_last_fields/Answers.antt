use Rattle.std.proofs.Common.{◌≡◌, ap, refl, subst, codes, map, List, IfOk}
use Rattle.serde_json.specs.Data.{Members}
use Rattle.app_section.specs.AppData.{isolator_data}
use Rattle.app_section.specs.AppObject.{isolator_object}
use Rattle.app_section.specs.Objects.{built, put_field, if_filled}
use Rattle.app_section.specs.declared.isolator.Isolator.{Isolator}
use Rattle.app_section.proofs.OrderedFields.{put_next}
use Rattle.manifests.specs.declared.volume.Volume.{Volume}
use Rattle.manifests.specs.ElementObjects.{pod_port_object}
use Rattle.manifests.specs.VolumeObject.{volume_object}
use Rattle.manifests.proofs.pod_writer.with_last_fields.Goals as goal

pub returns : goal.returns
returns c =
    let isolators = put_next (codes "isolators") (ap (λ (is : List Isolator). if_filled isolator_object (map isolator_data is)) c.as_slice.ensures) refl c.in_ok-object.ensures in
    let ports = put_next (codes "ports") (ap (if_filled pod_port_object) c.as_slice-2.ensures) isolators c.in_ok-object-2.ensures in
    let P : List Volume → Type 0 = λ vs. IfOk c.with_list-2.result
    (λ b. built b ≡ put_field (codes "volumes") (if_filled volume_object vs) (built c.in_ok-object-2.object)) in
    let Q : Members → Type 0 = λ ms. IfOk c.with_list-2.result
    (λ b. built b ≡ put_field (codes "volumes") (if_filled volume_object c.args.manifest.now.volumes) ms) in
    subst Q ports (subst P c.as_slice-3.ensures c.with_list-2.ensures)
