-- The image manifest: its fields in the order in which they are read.
use Rattle.std.specs.Prelude.{ℕ, List, [], codes}
use Rattle.serde_json.specs.Data.{Data}
use Rattle.ac_types.specs.FieldForms.{required, optional, default}
use Rattle.ac_types.specs.NameForms.{filled_identifier}
use Rattle.ac_types.specs.Outcomes.{Outcome, reads, ◌>>=◌, ◌>>◌}
use Rattle.app_section.specs.AppForm.{app}
use Rattle.manifest_parts.specs.DocumentForm.{document}
use Rattle.manifest_parts.specs.HeadForms.{ac_kind, ac_version}
use Rattle.manifests.specs.ImageData.{ImageData}
use Rattle.manifest_parts.specs.LabelsForm.{labels}
use Rattle.manifests.specs.LastFields.{last_image_fields}

-- what follows the kind
unfoldable pub image_fields : Data → Outcome ImageData
image_fields d =
    required ac_version (codes "$") (codes "acVersion") d >>= λ version.
    required filled_identifier (codes "$") (codes "name") d >>= λ name.
    default [] labels (codes "$") (codes "labels") d >>= λ ls.
    optional app (codes "$") (codes "app") d >>= λ section.
    last_image_fields d >>= λ last.
    reads (record {
      ac_version = version;
      name = name;
      labels = ls;
      app = section;
      dependencies = last.dependencies;
      path_whitelist = last.path_whitelist;
      annotations = last.annotations;
    })

abbrev pub image_kind : Data → Outcome (List ℕ)
image_kind d = required (ac_kind (codes "ImageManifest")) (codes "$") (codes "acKind") d

-- the image manifest that some bytes are
unfoldable pub image_manifest : List ℕ → Outcome ImageData
image_manifest bytes = document bytes >>= λ d. image_kind d >> image_fields d
