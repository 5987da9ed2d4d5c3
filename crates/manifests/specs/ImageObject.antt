-- An image manifest as it is written.
use Rattle.std.specs.Prelude.{List, [], ◌∷◌, ◌++◌, Some, option_map, codes}
use Rattle.serde_json.specs.Data.{Data, string, object}
use Rattle.app_section.specs.AppObject.{app_object}
use Rattle.app_section.specs.Objects.{Field, written, if_filled}
use Rattle.manifests.specs.ImageData.{ImageData}
use Rattle.manifests.specs.ElementObjects.{label_object, annotation_object, dependency_object, listed_data}

-- fields that are absent or empty are left out
abbrev pub first_image_members : ImageData → List Field
first_image_members m =
    (codes "acKind", Some (string (codes "ImageManifest")))
    ∷ (codes "acVersion", Some (string m.ac_version))
    ∷ (codes "annotations", if_filled annotation_object m.annotations)
    ∷ (codes "app", option_map app_object m.app)
    ∷ []

abbrev pub last_image_members : ImageData → List Field
last_image_members m =
    (codes "dependencies", if_filled dependency_object m.dependencies)
    ∷ (codes "labels", if_filled label_object m.labels)
    ∷ (codes "name", Some (string m.name))
    ∷ (codes "pathWhitelist", if_filled listed_data m.path_whitelist)
    ∷ []

abbrev pub image_members : ImageData → List Field
image_members m = first_image_members m ++ last_image_members m

unfoldable pub image_object : ImageData → Data
image_object m = object (written (image_members m))
