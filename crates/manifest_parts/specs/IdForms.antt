-- Image IDs in fields.
use Rattle.std.specs.Prelude.{ℕ, List, Option, Some, None}
use Rattle.serde_json.specs.Data.{Data}
use Rattle.ac_types.specs.Ids.{id_read}
use Rattle.ac_types.specs.FieldForms.{text, filled_text}
use Rattle.ac_types.specs.Outcomes.{Outcome, reads, fails, ◌>>=◌}
use Rattle.ac_types.specs.declared.fault.FaultKind.TheVariants.{BadId}
use Rattle.ac_types.specs.declared.image_id.ImageId.{ImageId}

abbrev pub if_id : List ℕ → Option (List ℕ) → Outcome ImageId
if_id at None = fails at BadId
if_id at (Some bytes) = reads (record { bytes = bytes })

-- a text that is an image ID, and one where an empty text counts as missing
abbrev pub image_id : List ℕ → Data → Outcome ImageId
image_id at d = text at d >>= λ t. if_id at (id_read 64 t)

abbrev pub filled_id : List ℕ → Data → Outcome ImageId
filled_id at d = filled_text at d >>= λ t. if_id at (id_read 64 t)
