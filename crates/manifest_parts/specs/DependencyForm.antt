-- A dependency.
use Rattle.std.specs.Prelude.{ℕ, List, [], codes}
use Rattle.serde_json.specs.Data.{Data}
use Rattle.ac_types.specs.FieldForms.{required, optional, default, whole, an_object}
use Rattle.ac_types.specs.NameForms.{filled_identifier}
use Rattle.ac_types.specs.Outcomes.{Outcome, reads, ◌>>=◌, ◌>>◌}
use Rattle.manifest_parts.specs.IdForms.{image_id}
use Rattle.manifest_parts.specs.LabelsForm.{labels}
use Rattle.manifest_parts.specs.declared.dependency.Dependency.{Dependency}

unfoldable pub dependency : List ℕ → Data → Outcome Dependency
dependency at d =
    an_object at d
    >> required filled_identifier at (codes "imageName") d >>= λ image_name.
    optional image_id at (codes "imageID") d >>= λ id.
    default [] labels at (codes "labels") d >>= λ ls.
    optional (whole 18446744073709551615) at (codes "size") d >>= λ size.
    reads (record { image_name = image_name; image_id = id; labels = ls; size = size })
