-- The forms of a field in the format tables: its kind, and whether it may be absent.
use Rattle.std.specs.Prelude.{ℕ, Bool, true, false, codes, map, nat_le, List, [], ◌∷◌, ◌++◌, length, Option, Some, None, option_map, if◌then◌else◌}
use Rattle.serde_json.specs.Data.{Data, null, boolean, number, string, array, object, Num, unsigned, negative, float, Items, no_items, item, Members}
use Rattle.serde_json.specs.Find.{get, as_str, as_array, as_object, as_bool, as_number}
use Rattle.ac_types.specs.SeenTexts.{is_among}
use Rattle.ac_types.specs.JsonPaths.{field_path, element_path}
use Rattle.ac_types.specs.Outcomes.{Outcome, reads, fails, ◌>>=◌, ◌>>◌}
use Rattle.ac_types.specs.declared.fault.FaultKind.{FaultKind}
use Rattle.ac_types.specs.declared.fault.FaultKind.TheVariants.{Missing, WrongKind, Fraction, OutOfRange}

-- a null counts as no value
abbrev pub unless_null : Option Data → Option Data
unless_null None = None
unless_null (Some null) = None
unless_null (Some (boolean b)) = Some (boolean b)
unless_null (Some (number n)) = Some (number n)
unless_null (Some (string s)) = Some (string s)
unless_null (Some (array ds)) = Some (array ds)
unless_null (Some (object ms)) = Some (object ms)

-- the field's value, where it is there and isn't null
abbrev pub present : List ℕ → Data → Option Data
present name d = unless_null (get name d)

-- the value, where it is of the wanted kind
abbrev pub wanted : {A : Type 0} → List ℕ → Option A → Outcome A
wanted at None = fails at WrongKind
wanted at (Some value) = reads value

-- a text
abbrev pub text : List ℕ → Data → Outcome (List ℕ)
text at d = wanted at (as_str d)

-- a text that isn't empty
abbrev pub filled : List ℕ → List ℕ → Outcome (List ℕ)
filled at [] = fails at Missing
filled at (b ∷ bs) = reads (b ∷ bs)

abbrev pub filled_text : List ℕ → Data → Outcome (List ℕ)
filled_text at d = text at d >>= filled at

-- a truth value
abbrev pub flag : List ℕ → Data → Outcome Bool
flag at d = wanted at (as_bool d)

-- an object
abbrev pub members : List ℕ → Data → Outcome Members
members at d = wanted at (as_object d)

-- a list, as its elements
abbrev pub elements : Items → List Data
elements no_items = []
elements (item d ds) = d ∷ elements ds

abbrev pub list : List ℕ → Data → Outcome (List Data)
list at d = wanted at (option_map elements (as_array d))

-- a whole number of at most max
abbrev pub at_most : ℕ → List ℕ → Num → Outcome ℕ
at_most max at (unsigned n) = if nat_le n max then reads n else fails at OutOfRange
at_most max at (negative z) = fails at OutOfRange
at_most max at (float x) = fails at Fraction

abbrev pub whole : ℕ → List ℕ → Data → Outcome ℕ
whole max at d = wanted at (as_number d) >>= at_most max at

-- a field that may be absent, read in this form
abbrev pub optional_at : {A : Type 0} → (List ℕ → Data → Outcome A) → List ℕ → Option Data → Outcome (Option A)
optional_at form path None = reads None
optional_at form path (Some d) = form path d >>= λ value. reads (Some value)

abbrev pub optional : {A : Type 0} → (List ℕ → Data → Outcome A) → List ℕ → List ℕ → Data → Outcome (Option A)
optional form at name d = optional_at form (field_path at name) (present name d)

-- a field that has a value of its own where it is absent
abbrev pub default_at : {A : Type 0} → A → (List ℕ → Data → Outcome A) → List ℕ → Option Data → Outcome A
default_at standard form path None = reads standard
default_at standard form path (Some d) = form path d

abbrev pub default : {A : Type 0} → A → (List ℕ → Data → Outcome A) → List ℕ → List ℕ → Data → Outcome A
default standard form at name d = default_at standard form (field_path at name) (present name d)

-- a field that must be there
abbrev pub required_at : {A : Type 0} → (List ℕ → Data → Outcome A) → List ℕ → Option Data → Outcome A
required_at form path None = fails path Missing
required_at form path (Some d) = form path d

abbrev pub required : {A : Type 0} → (List ℕ → Data → Outcome A) → List ℕ → List ℕ → Data → Outcome A
required form at name d = required_at form (field_path at name) (present name d)

-- the elements of a list in order, each read in a form that may look at those read before
abbrev pub each_after : {A : Type 0} → (List A → List ℕ → Data → Outcome A) → List ℕ → List A → List Data → Outcome (List A)
each_after form at before [] = reads before
each_after form at before (d ∷ ds) =
    form before (element_path at (length before)) d >>= λ value. each_after form at (before ++ value ∷ []) ds

-- the elements of a list in order, each read in this form
abbrev pub each : {A : Type 0} → (List ℕ → Data → Outcome A) → List ℕ → List Data → Outcome (List A)
each form at ds = each_after (λ _. form) at [] ds

-- an element whose name came before is refused at its `name`, after its fields were read
abbrev pub unless_among : {A : Type 0} → FaultKind → List ℕ → Bool → A → Outcome A
unless_among kind path true value = fails path kind
unless_among kind path false value = reads value

abbrev pub named_once : {A : Type 0} → FaultKind → (A → List ℕ) → (List ℕ → Data → Outcome A) → List A → List ℕ → Data → Outcome A
named_once kind name_of form before at d =
    form at d >>= λ value. unless_among kind (field_path at (codes "name")) (is_among (name_of value) (map name_of before)) value

-- the elements of a list in order, with a name that came before refused in this way
abbrev pub each_named : {A : Type 0} → FaultKind → (A → List ℕ) → (List ℕ → Data → Outcome A) → List ℕ → List Data → Outcome (List A)
each_named kind name_of form at ds = each_after (named_once kind name_of form) at [] ds

-- a value of any kind
abbrev pub any : List ℕ → Data → Outcome Data
any at d = reads d

-- an object, as itself
abbrev pub an_object : List ℕ → Data → Outcome Data
an_object at d = members at d >> reads d
