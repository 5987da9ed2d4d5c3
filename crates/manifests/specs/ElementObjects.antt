-- The elements of both manifests as they are written: their fields in byte order of names.
use Rattle.std.specs.Prelude.{ℕ, List, [], ◌∷◌, ◌++◌, Some, option_map, codes, if◌then◌else◌}
use Rattle.serde_json.specs.Data.{Data, string, object}
use Rattle.ac_types.specs.Ids.{id_text}
use Rattle.ac_types.specs.declared.image_id.ImageId.{ImageId}
use Rattle.ac_types.specs.declared.label.Label.{Label}
use Rattle.path_map.specs.declared.listed.Listed.{Listed}
use Rattle.app_section.specs.AppObject.{whole_data}
use Rattle.app_section.specs.Objects.{Field, written, if_filled}
use Rattle.manifest_parts.specs.declared.annotation.Annotation.{Annotation}
use Rattle.manifest_parts.specs.declared.dependency.Dependency.{Dependency}
use Rattle.manifests.specs.declared.pod_port.PodPort.{PodPort}
use Rattle.manifest_parts.specs.declared.runtime_image.RuntimeImage.{RuntimeImage}
use Rattle.manifests.specs.declared.mount.Mount.{Mount}

-- a label
abbrev pub label_fields : Label → List Field
label_fields l =
    (codes "name", Some (string l.name))
    ∷ (codes "value", Some (string l.value))
    ∷ []

unfoldable pub label_object : Label → Data
label_object l = object (written (label_fields l))

-- an annotation
abbrev pub annotation_fields : Annotation → List Field
annotation_fields a =
    (codes "name", Some (string a.name))
    ∷ (codes "value", Some (string a.value))
    ∷ []

unfoldable pub annotation_object : Annotation → Data
annotation_object a = object (written (annotation_fields a))

-- an image ID, as its text
abbrev pub id_data : ImageId → Data
id_data id = string (id_text id.bytes)

-- a dependency
abbrev pub dependency_fields : Dependency → List Field
dependency_fields d =
    (codes "imageID", option_map id_data d.image_id)
    ∷ (codes "imageName", Some (string d.image_name))
    ∷ (codes "labels", if_filled label_object d.labels)
    ∷ (codes "size", option_map whole_data d.size)
    ∷ []

unfoldable pub dependency_object : Dependency → Data
dependency_object d = object (written (dependency_fields d))

-- a path of a whitelist, with a slash at its end where a directory is asked for
abbrev pub listed_bytes : Listed → List ℕ
listed_bytes l = if l.empty then l.path ++ codes "/" else l.path

unfoldable pub listed_data : Listed → Data
listed_data l = string (listed_bytes l)

-- the image of an app
abbrev pub runtime_image_fields : RuntimeImage → List Field
runtime_image_fields i =
    (codes "id", Some (id_data i.id))
    ∷ (codes "labels", if_filled label_object i.labels)
    ∷ (codes "name", option_map string i.name)
    ∷ []

unfoldable pub runtime_image_object : RuntimeImage → Data
runtime_image_object i = object (written (runtime_image_fields i))

-- a mount
abbrev pub mount_fields : Mount → List Field
mount_fields m =
    (codes "path", Some (string m.path))
    ∷ (codes "volume", Some (string m.volume))
    ∷ []

unfoldable pub mount_object : Mount → Data
mount_object m = object (written (mount_fields m))

-- a port of a pod
abbrev pub pod_port_fields : PodPort → List Field
pod_port_fields p =
    (codes "hostPort", Some (whole_data p.host_port))
    ∷ (codes "name", Some (string p.name))
    ∷ []

unfoldable pub pod_port_object : PodPort → Data
pod_port_object p = object (written (pod_port_fields p))
