-- The fields of an object: which values they give, and that what is written for a value gives it again.
use Rattle.std.proofs.Common.{◌≡◌, ℕ, Bool, true, false, List, [], ◌∷◌, map, Option, Some, None, option_map, Ordering, Less, Equal, Greater, refl, ◌∙◌, ap, IfSome}
use Rattle.std.specs.Ordering.{nat_cmp, match_ordering}
use Rattle.std.specs.Cmp.Lexicographic.{slice_cmp}
use Rattle.std.specs.List.{All}
use Rattle.std.proofs.lemmas.Bool.{or_from}
use Rattle.std.proofs.lemmas.List.Elements.{All-nil, All-head, All-tail}
use Rattle.serde_json.specs.Data.{Data, object}
use Rattle.serde_json.specs.Find.{get_member}
use Rattle.serde_json.specs.View.{items_of}
use Rattle.serde_json.specs.Written.{has_float, items_have_float, members_have_float}
use Rattle.ac_types.specs.FieldForms.{present, unless_null, flag, list, elements, each, each_named, named_once, required, required_at, optional, optional_at, default, default_at}
use Rattle.ac_types.specs.JsonPaths.{field_path}
use Rattle.ac_types.specs.Outcomes.{Outcome, reads, ◌>>=◌}
use Rattle.ac_types.specs.declared.fault.FaultKind.{FaultKind}
use Rattle.ac_types.proofs.JsonLists.{elements_of}
use Rattle.app_section.specs.ListForms.{list_of, named_list_of}
use Rattle.app_section.specs.Objects.{Field, written, if_true, if_filled, list_data}
use Rattle.app_section.proofs.Readings.{GivesOnly, Gives, Rereads, AreNamed, gives, gives_then, then_reads, no_fault, all_given, all_again, named_given, named_again, no_names, once_given, once_again}

-- the value of a field, or what follows says
abbrev pub found : Option Data → Option Data → Option Data
found None rest = rest
found (Some d) rest = Some d

-- the value of the first field of that name that isn't left out
abbrev pub value_of : List ℕ → List Field → Option Data
value_of k [] = None
value_of k ((l, v) ∷ fields) =
    match_ordering (slice_cmp nat_cmp k l) (value_of k fields) (found v (value_of k fields)) (value_of k fields)

same_each : (o : Ordering) (x : Option Data) → x ≡ match_ordering o x x x
same_each Less x = refl
same_each Equal x = refl
same_each Greater x = refl

member_found : (k : List ℕ) (fields : List Field) → get_member k (written fields) ≡ value_of k fields
member_found k [] = refl
member_found k ((l, None) ∷ fields) = member_found k fields ∙ same_each (slice_cmp nat_cmp k l) (value_of k fields)
member_found k ((l, Some d) ∷ fields) =
    ap (λ (r : Option Data). match_ordering (slice_cmp nat_cmp k l) r (Some d) r) (member_found k fields)

pub present_in : (k : List ℕ) (fields : List Field) (v : Option Data) → value_of k fields ≡ v
    → present k (object (written fields)) ≡ unless_null v
present_in k fields v is = ap unless_null (member_found k fields ∙ is)

-- ---- a field that must be there

required_at_given : {A : Type 0} {P : A → Type 0} {form : List ℕ → Data → Outcome A} → Gives P form
    → (path : List ℕ) (o : Option Data) → GivesOnly P (required_at form path o)
required_at_given is path None a h = no_fault h
required_at_given is path (Some d) a h = is.law path d a h

pub required_given : {A : Type 0} {P : A → Type 0} {form : List ℕ → Data → Outcome A} → Gives P form
    → (at name : List ℕ) (d : Data) → GivesOnly P (required form at name d)
required_given is at name d = required_at_given is (field_path at name) (present name d)

pub required_again : {A : Type 0} {P : A → Type 0} {form : List ℕ → Data → Outcome A} {write : A → Data} → Rereads P form write
    → (at name : List ℕ) (fields : List Field) (a : A) → value_of name fields ≡ Some (write a) → P a
    → required form at name (object (written fields)) ≡ reads a
required_again {form = form} {write = write} is at name fields a there kind =
    ap (required_at form (field_path at name)) (present_in name fields (Some (write a)) there ∙ is.shown a kind)
    ∙ is.law (field_path at name) a kind

-- ---- a field that may be absent

optional_at_given : {A : Type 0} {P : A → Type 0} {form : List ℕ → Data → Outcome A} → Gives P form
    → (path : List ℕ) (o : Option Data) → GivesOnly (λ found. IfSome found P) (optional_at form path o)
optional_at_given {P = P} is path None = gives (λ found. IfSome found P) None tt
optional_at_given {P = P} is path (Some d) =
    gives_then _ _ (is.law path d) λ a kind. gives (λ found. IfSome found P) (Some a) kind

pub optional_given : {A : Type 0} {P : A → Type 0} {form : List ℕ → Data → Outcome A} → Gives P form
    → (at name : List ℕ) (d : Data) → GivesOnly (λ found. IfSome found P) (optional form at name d)
optional_given is at name d = optional_at_given is (field_path at name) (present name d)

pub optional_again : {A : Type 0} {P : A → Type 0} {form : List ℕ → Data → Outcome A} {write : A → Data} → Rereads P form write
    → (at name : List ℕ) (fields : List Field) (o : Option A) → value_of name fields ≡ found (option_map write o) None → IfSome o P
    → optional form at name (object (written fields)) ≡ reads o
optional_again {form = form} is at name fields None there kind =
    ap (optional_at form (field_path at name)) (present_in name fields None there)
optional_again {form = form} {write = write} is at name fields (Some a) there kind =
    ap (optional_at form (field_path at name)) (present_in name fields (Some (write a)) there ∙ is.shown a kind)
    ∙ then_reads _ _ a (Some a) (is.law (field_path at name) a kind) refl

-- ---- a field that has a value of its own where it is absent

default_at_given : {A : Type 0} {P : A → Type 0} {form : List ℕ → Data → Outcome A} (standard : A) → P standard → Gives P form
    → (path : List ℕ) (o : Option Data) → GivesOnly P (default_at standard form path o)
default_at_given {P = P} standard has is path None = gives P standard has
default_at_given standard has is path (Some d) = is.law path d

pub default_given : {A : Type 0} {P : A → Type 0} {form : List ℕ → Data → Outcome A} (standard : A) → P standard → Gives P form
    → (at name : List ℕ) (d : Data) → GivesOnly P (default standard form at name d)
default_given standard has is at name d = default_at_given standard has is (field_path at name) (present name d)

-- where it is written always
pub default_again : {A : Type 0} {P : A → Type 0} {form : List ℕ → Data → Outcome A} {write : A → Data} (standard : A) → Rereads P form write
    → (at name : List ℕ) (fields : List Field) (a : A) → value_of name fields ≡ Some (write a) → P a
    → default standard form at name (object (written fields)) ≡ reads a
default_again {form = form} {write = write} standard is at name fields a there kind =
    ap (default_at standard form (field_path at name)) (present_in name fields (Some (write a)) there ∙ is.shown a kind)
    ∙ is.law (field_path at name) a kind

-- a truth value; nothing is asked of it
pub any_flag : (at name : List ℕ) (d : Data) → GivesOnly (λ b. Unit {0}) (default false flag at name d)
any_flag at name d b h = tt

pub flag_again : (at name : List ℕ) (fields : List Field) (b : Bool) → value_of name fields ≡ found (if_true b) None
    → default false flag at name (object (written fields)) ≡ reads b
flag_again at name fields true there = ap (default_at false flag (field_path at name)) (present_in name fields _ there)
flag_again at name fields false there = ap (default_at false flag (field_path at name)) (present_in name fields _ there)

-- ---- lists

abbrev pub list_then : {A : Type 0} → (List ℕ → List Data → Outcome (List A)) → List ℕ → Data → Outcome (List A)
list_then next at d = list at d >>= next at

pub list_given : {A : Type 0} (P : List A → Type 0) (next : List ℕ → List Data → Outcome (List A))
    → ((at : List ℕ) (ds : List Data) → GivesOnly P (next at ds)) → Gives P (list_then next)
list_given P next is = record { law = λ at d. gives_then {Q = λ ds. Unit {0}} _ _ (λ ds h. tt) (λ ds u. is at ds) }

pub list_reads : {A : Type 0} (next : List ℕ → List Data → Outcome (List A)) (write : A → Data) (at : List ℕ) (xs : List A)
    → next at (map write xs) ≡ reads xs → list_then next at (list_data write xs) ≡ reads xs
list_reads next write at xs is = ap (next at) (elements_of (map write xs)) ∙ is

-- a list that is left out where it is empty
pub filled_again : {A : Type 0} (next : List ℕ → List Data → Outcome (List A)) (write : A → Data)
    → (at name : List ℕ) (fields : List Field) (xs : List A) → value_of name fields ≡ found (if_filled write xs) None
    → ((path : List ℕ) → next path (map write xs) ≡ reads xs)
    → default [] (list_then next) at name (object (written fields)) ≡ reads xs
filled_again next write at name fields [] there is =
    ap (default_at [] (list_then next) (field_path at name)) (present_in name fields None there)
filled_again next write at name fields (x ∷ xs) there is =
    ap (default_at [] (list_then next) (field_path at name)) (present_in name fields (Some (list_data write (x ∷ xs))) there)
    ∙ list_reads next write (field_path at name) (x ∷ xs) (is (field_path at name))

-- a list of elements of one form
pub list_of_given : {A : Type 0} {P : A → Type 0} {form : List ℕ → Data → Outcome A} → Gives P form
    → (at name : List ℕ) (d : Data) → GivesOnly (All P) (default [] (list_of form) at name d)
list_of_given {P = P} {form = form} is at name d =
    default_given [] (All-nil P) (list_given (All P) (each form) (all_given is)) at name d

pub list_of_again : {A : Type 0} {P : A → Type 0} {form : List ℕ → Data → Outcome A} {write : A → Data} → Rereads P form write
    → (at name : List ℕ) (fields : List Field) (xs : List A) → value_of name fields ≡ found (if_filled write xs) None → All P xs
    → default [] (list_of form) at name (object (written fields)) ≡ reads xs
list_of_again {form = form} {write = write} is at name fields xs there are =
    filled_again (each form) write at name fields xs there (λ path. all_again is path xs are)

-- the same, where no name may come twice
pub named_list_given : {A : Type 0} {P : A → Type 0} {form : List ℕ → Data → Outcome A} (kind : FaultKind) (name_of : A → List ℕ)
    → Gives P form → (at name : List ℕ) (d : Data) → GivesOnly (AreNamed name_of P) (default [] (named_list_of kind name_of form) at name d)
named_list_given {P = P} {form = form} kind name_of is at name d =
    default_given [] (no_names name_of P)
    (list_given (AreNamed name_of P) (each_named kind name_of form) (named_given name_of P _ (once_given name_of kind is))) at name d

pub named_list_again : {A : Type 0} {P : A → Type 0} {form : List ℕ → Data → Outcome A} {write : A → Data} (kind : FaultKind)
    (name_of : A → List ℕ) → Rereads P form write
    → (at name : List ℕ) (fields : List Field) (xs : List A) → value_of name fields ≡ found (if_filled write xs) None
    → AreNamed name_of P xs → default [] (named_list_of kind name_of form) at name (object (written fields)) ≡ reads xs
named_list_again {P = P} {form = form} {write = write} kind name_of is at name fields xs there are =
    filled_again (each_named kind name_of form) write at name fields xs there
    (λ path. named_again name_of P (named_once kind name_of form) write (once_again name_of kind is) path xs are)

-- ---- whole numbers

-- the field is left out, or its numbers are whole
abbrev pub IsWholeField : Option Data → Type 0
IsWholeField None = Unit {0}
IsWholeField (Some d) = has_float d ≡ false

abbrev pub AreWholeFields : List Field → Type 0
AreWholeFields [] = Unit {0}
AreWholeFields ((name, v) ∷ fields) = IsWholeField v × AreWholeFields fields

pub members_are_whole : (fields : List Field) → AreWholeFields fields → has_float (object (written fields)) ≡ false
members_are_whole [] are = refl
members_are_whole ((name, None) ∷ fields) are = members_are_whole fields are.1
members_are_whole ((name, Some d) ∷ fields) are =
    or_from (has_float d) (members_have_float (written fields)) are.0 (members_are_whole fields are.1)

pub list_is_whole : {A : Type 0} {P : A → Type 0} {form : List ℕ → Data → Outcome A} {write : A → Data} → Rereads P form write
    → (xs : List A) → All P xs → has_float (list_data write xs) ≡ false
list_is_whole is [] are = refl
list_is_whole {P = P} {write = write} is (x ∷ xs) are =
    or_from (has_float (write x)) (items_have_float (items_of (map write xs))) (is.whole x (All-head P x xs are))
    (list_is_whole is xs (All-tail P x xs are))

pub filled_is_whole : {A : Type 0} {P : A → Type 0} {form : List ℕ → Data → Outcome A} {write : A → Data} → Rereads P form write
    → (xs : List A) → All P xs → IsWholeField (if_filled write xs)
filled_is_whole is [] are = tt
filled_is_whole is (x ∷ xs) are = list_is_whole is (x ∷ xs) are

pub optional_is_whole : {A : Type 0} {P : A → Type 0} {form : List ℕ → Data → Outcome A} {write : A → Data} → Rereads P form write
    → (o : Option A) → IfSome o P → IsWholeField (option_map write o)
optional_is_whole is None kind = tt
optional_is_whole is (Some a) kind = is.whole a kind

pub flag_is_whole : (b : Bool) → IsWholeField (if_true b)
flag_is_whole true = refl
flag_is_whole false = tt
