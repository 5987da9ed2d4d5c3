-- Lists of elements whose names come once each.
use Rattle.std.specs.Prelude.{ℕ, List, [], map}
use Rattle.serde_json.specs.Data.{Data}
use Rattle.ac_types.specs.FieldForms.{list, each_after}
use Rattle.ac_types.specs.Outcomes.{Outcome, ◌>>=◌}

-- the form of an element behind others
abbrev pub after_names : {A : Type 0} → (A → List ℕ) → (List (List ℕ) → List ℕ → Data → Outcome A) → List A → List ℕ → Data → Outcome A
after_names name_of form before = form (map name_of before)

-- the elements of a list in order, each read in a form that looks at the names before
abbrev pub each_distinct : {A : Type 0} → (A → List ℕ) → (List (List ℕ) → List ℕ → Data → Outcome A) → List ℕ → List Data → Outcome (List A)
each_distinct name_of form at ds = each_after (after_names name_of form) at [] ds

abbrev pub distinct_list : {A : Type 0} → (A → List ℕ) → (List (List ℕ) → List ℕ → Data → Outcome A) → List ℕ → Data → Outcome (List A)
distinct_list name_of form at d = list at d >>= each_distinct name_of form at
