-- An isolator.
use Rattle.std.specs.Prelude.{ℕ, Bool, true, false, List, codes}
use Rattle.serde_json.specs.Data.{Data}
use Rattle.serde_json.specs.Written.{has_float}
use Rattle.ac_types.specs.FieldForms.{required, an_object}
use Rattle.ac_types.specs.NameForms.{filled_identifier}
use Rattle.ac_types.specs.Outcomes.{Outcome, reads, fails, ◌>>=◌, ◌>>◌}
use Rattle.ac_types.specs.declared.fault.FaultKind.TheVariants.{Fraction}
use Rattle.app_section.specs.AppData.{IsolatorData}

-- the JSON, unless a number of it is a fraction
abbrev pub unless_float : List ℕ → Bool → Data → Outcome Data
unless_float at true d = fails at Fraction
unless_float at false d = reads d

-- JSON whose numbers are whole at each depth
abbrev pub whole_json : List ℕ → Data → Outcome Data
whole_json at d = unless_float at (has_float d) d

-- its fields in order
unfoldable pub isolator : List ℕ → Data → Outcome IsolatorData
isolator at d =
    an_object at d
    >> required filled_identifier at (codes "name") d >>= λ name.
    required whole_json at (codes "value") d >>= λ value.
    reads (record { name = name; value = value })
