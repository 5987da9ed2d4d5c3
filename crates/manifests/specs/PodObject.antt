-- A pod manifest as it is written. Its apps are written always.
use Rattle.std.specs.Prelude.{List, [], ◌∷◌, ◌++◌, Some, option_map, codes}
use Rattle.serde_json.specs.Data.{Data, string, object}
use Rattle.app_section.specs.AppObject.{app_object, isolator_object}
use Rattle.app_section.specs.Objects.{Field, written, if_true, if_filled, list_data}
use Rattle.manifests.specs.PodData.{PodData, RuntimeAppData}
use Rattle.manifests.specs.ElementObjects.{annotation_object, mount_object, pod_port_object, runtime_image_object}
use Rattle.manifests.specs.VolumeObject.{volume_object}

-- an app; fields that are absent, empty or false are left out
abbrev pub runtime_app_fields : RuntimeAppData → List Field
runtime_app_fields a =
    (codes "annotations", if_filled annotation_object a.annotations)
    ∷ (codes "app", option_map app_object a.app)
    ∷ (codes "image", Some (runtime_image_object a.image))
    ∷ (codes "mounts", if_filled mount_object a.mounts)
    ∷ (codes "name", Some (string a.name))
    ∷ (codes "readOnlyRootFS", if_true a.read_only_root_fs)
    ∷ []

unfoldable pub runtime_app_object : RuntimeAppData → Data
runtime_app_object a = object (written (runtime_app_fields a))

abbrev pub first_pod_members : PodData → List Field
first_pod_members m =
    (codes "acKind", Some (string (codes "PodManifest")))
    ∷ (codes "acVersion", Some (string m.ac_version))
    ∷ (codes "annotations", if_filled annotation_object m.annotations)
    ∷ (codes "apps", Some (list_data runtime_app_object m.apps))
    ∷ []

abbrev pub last_pod_members : PodData → List Field
last_pod_members m =
    (codes "isolators", if_filled isolator_object m.isolators)
    ∷ (codes "ports", if_filled pod_port_object m.ports)
    ∷ (codes "volumes", if_filled volume_object m.volumes)
    ∷ []

abbrev pub pod_members : PodData → List Field
pod_members m = first_pod_members m ++ last_pod_members m

unfoldable pub pod_object : PodData → Data
pod_object m = object (written (pod_members m))
