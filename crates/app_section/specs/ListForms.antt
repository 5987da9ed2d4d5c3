-- Fields that hold a list of elements of one form.
use Rattle.std.specs.Prelude.{ℕ, List}
use Rattle.serde_json.specs.Data.{Data}
use Rattle.ac_types.specs.FieldForms.{list, each, each_named}
use Rattle.ac_types.specs.Outcomes.{Outcome, ◌>>=◌}
use Rattle.ac_types.specs.declared.fault.FaultKind.{FaultKind}

-- a list whose elements have this form
abbrev pub list_of : {A : Type 0} → (List ℕ → Data → Outcome A) → List ℕ → Data → Outcome (List A)
list_of form at d = list at d >>= each form at

-- the same, where a name that came before is refused in this way
abbrev pub named_list_of : {A : Type 0} → FaultKind → (A → List ℕ) → (List ℕ → Data → Outcome A) → List ℕ → Data → Outcome (List A)
named_list_of kind name_of form at d = list at d >>= each_named kind name_of form at
