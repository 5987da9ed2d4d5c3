-- The fields behind the app's section, of images and of apps.
use Rattle.std.specs.Prelude.{ℕ, false, List, [], codes}
use Rattle.serde_json.specs.Data.{Data}
use Rattle.ac_types.specs.FieldForms.{default, flag}
use Rattle.ac_types.specs.Outcomes.{Outcome, reads, ◌>>=◌}
use Rattle.app_section.specs.ListForms.{list_of}
use Rattle.manifest_parts.specs.AnnotationForm.{annotation}
use Rattle.manifest_parts.specs.DependencyForm.{dependency}
use Rattle.manifests.specs.MountForm.{mount}
use Rattle.manifests.specs.WhitelistForm.{whitelist}
use Rattle.manifests.specs.declared.last_fields.LastAppFields.{LastAppFields}
use Rattle.manifests.specs.declared.last_fields.LastImageFields.{LastImageFields}

unfoldable pub last_image_fields : Data → Outcome LastImageFields
last_image_fields d =
    default [] (list_of dependency) (codes "$") (codes "dependencies") d >>= λ dependencies.
    default [] whitelist (codes "$") (codes "pathWhitelist") d >>= λ paths.
    default [] (list_of annotation) (codes "$") (codes "annotations") d >>= λ annotations.
    reads (record { dependencies = dependencies; path_whitelist = paths; annotations = annotations })

unfoldable pub last_app_fields : List ℕ → Data → Outcome LastAppFields
last_app_fields at d =
    default false flag at (codes "readOnlyRootFS") d >>= λ read_only.
    default [] (list_of mount) at (codes "mounts") d >>= λ mounts.
    default [] (list_of annotation) at (codes "annotations") d >>= λ annotations.
    reads (record { read_only_root_fs = read_only; mounts = mounts; annotations = annotations })
