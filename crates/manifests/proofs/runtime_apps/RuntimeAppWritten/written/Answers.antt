use Rattle.std.proofs.Common.{◌∙◌, ap, refl, codes, List, ℕ, Some}
use Rattle.serde_json.specs.Data.{object, string}
use Rattle.app_section.specs.Objects.{if_filled}
use Rattle.manifests.specs.PodData.{runtime_app_data}
use Rattle.manifests.specs.ElementObjects.{annotation_object, mount_object}
use Rattle.manifests.specs.PodObject.{runtime_app_fields, runtime_app_object}
use Rattle.app_section.proofs.OrderedFields.{in_order, put_next}
use Rattle.manifests.proofs.runtime_apps.RuntimeAppWritten.written.Goals as goal

pub returns : goal.returns
unfolding runtime_app_object
returns c =
    let annotations = put_next (codes "annotations") (ap (if_filled annotation_object) c.as_slice.ensures) c.new-object.ensures c.in_ok-object.ensures in
    let section = put_next (codes "app") refl annotations c.in_ok-object-2.ensures in
    let image = put_next (codes "image") (ap Some c.in_ok-written.ensures) section c.in_ok-object-3.ensures in
    let mounts = put_next (codes "mounts") (ap (if_filled mount_object) c.as_slice-2.ensures) image c.in_ok-object-4.ensures in
    let name = put_next (codes "name") (ap (λ (t : List ℕ). Some (string t)) c.as_str.ensures.text) mounts c.in_ok-object-5.ensures in
    let read_only = put_next (codes "readOnlyRootFS") refl name c.in_ok-object-6.ensures in
    c.finish.ensures ∙ ap object (read_only ∙ in_order (runtime_app_fields (runtime_app_data c.args.self.now)) refl)
