-- The image of an app of a pod.
use Rattle.std.specs.Prelude.{ℕ, List, [], codes}
use Rattle.serde_json.specs.Data.{Data}
use Rattle.ac_types.specs.FieldForms.{required, optional, default, an_object}
use Rattle.ac_types.specs.NameForms.{identifier}
use Rattle.ac_types.specs.Outcomes.{Outcome, reads, ◌>>=◌, ◌>>◌}
use Rattle.manifest_parts.specs.IdForms.{filled_id}
use Rattle.manifest_parts.specs.LabelsForm.{labels}
use Rattle.manifest_parts.specs.declared.runtime_image.RuntimeImage.{RuntimeImage}

unfoldable pub runtime_image : List ℕ → Data → Outcome RuntimeImage
runtime_image at d =
    an_object at d
    >> required filled_id at (codes "id") d >>= λ id.
    optional identifier at (codes "name") d >>= λ name.
    default [] labels at (codes "labels") d >>= λ ls.
    reads (record { id = id; name = name; labels = ls })
