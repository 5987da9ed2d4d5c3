-- An app of a pod.
use Rattle.std.specs.Prelude.{ℕ, List, codes}
use Rattle.serde_json.specs.Data.{Data}
use Rattle.ac_types.specs.FieldForms.{required, optional, an_object, unless_among}
use Rattle.ac_types.specs.JsonPaths.{field_path}
use Rattle.ac_types.specs.NameForms.{filled_name}
use Rattle.ac_types.specs.Outcomes.{Outcome, reads, ◌>>=◌, ◌>>◌}
use Rattle.ac_types.specs.SeenTexts.{is_among}
use Rattle.ac_types.specs.declared.fault.FaultKind.TheVariants.{AppTwice}
use Rattle.app_section.specs.AppForm.{app}
use Rattle.manifests.specs.LastFields.{last_app_fields}
use Rattle.manifests.specs.PodData.{RuntimeAppData}
use Rattle.manifest_parts.specs.RuntimeImageForm.{runtime_image}

-- its name, which no app before has
unfoldable pub app_name : List (List ℕ) → List ℕ → Data → Outcome (List ℕ)
app_name names at d =
    an_object at d
    >> required filled_name at (codes "name") d >>= λ name.
    unless_among AppTwice (field_path at (codes "name")) (is_among name names) name

-- what follows the name
unfoldable pub named_app : List ℕ → List ℕ → Data → Outcome RuntimeAppData
named_app name at d =
    required runtime_image at (codes "image") d >>= λ image.
    optional app at (codes "app") d >>= λ section.
    last_app_fields at d >>= λ last.
    reads (record {
      name = name;
      image = image;
      app = section;
      read_only_root_fs = last.read_only_root_fs;
      mounts = last.mounts;
      annotations = last.annotations;
    })

unfoldable pub runtime_app : List (List ℕ) → List ℕ → Data → Outcome RuntimeAppData
runtime_app names at d = app_name names at d >>= λ name. named_app name at d
