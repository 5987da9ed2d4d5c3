-- An annotation.
use Rattle.std.specs.Prelude.{ℕ, List, codes}
use Rattle.serde_json.specs.Data.{Data}
use Rattle.ac_types.specs.FieldForms.{required, text, an_object}
use Rattle.ac_types.specs.NameForms.{filled_identifier}
use Rattle.ac_types.specs.Outcomes.{Outcome, reads, ◌>>=◌, ◌>>◌}
use Rattle.manifest_parts.specs.declared.annotation.Annotation.{Annotation}

unfoldable pub annotation : List ℕ → Data → Outcome Annotation
annotation at d =
    an_object at d
    >> required filled_identifier at (codes "name") d >>= λ name.
    required text at (codes "value") d >>= λ value.
    reads (record { name = name; value = value })
