-- Laws of readings: which values they give, and that a value is given again, closed under a reading and what follows.
use Rattle.std.proofs.Common.{◌≡◌, ℕ, Bool, true, false, List, [], ◌∷◌, ◌++◌, map, length, Some, Result, Ok, Err, IfOk, codes, refl, sym, ◌∙◌, ap, subst, append_assoc, append-nil, arith}
use Rattle.std.specs.Prelude.{◌||◌}
use Rattle.std.specs.List.{All, AllByRecursion}
use Rattle.std.specs.Str.{bytes_eq}
use Rattle.std.proofs.Math.Bool.{or_assoc, or-false}
use Rattle.std.proofs.lemmas.Bool.{or_from, or_parts}
use Rattle.std.proofs.lemmas.List.Elements.{All-nil, All-cons, All-head, All-tail}
use Rattle.std.proofs.lemmas.Map.Keys.{IsDistinct-cons, IsDistinct-head, IsDistinct-tail, IsDistinct-from_apart}
use Rattle.serde_json.specs.Data.{Data}
use Rattle.serde_json.specs.Written.{has_float}
use Rattle.ac_types.specs.FieldForms.{unless_null, each, each_after, named_once, unless_among}
use Rattle.ac_types.specs.JsonPaths.{element_path, field_path}
use Rattle.ac_types.specs.Outcomes.{Outcome, reads, fails, ◌>>=◌, ◌>>◌, Answers}
use Rattle.ac_types.specs.SeenTexts.{is_among}
use Rattle.ac_types.specs.declared.fault.FaultKind.{FaultKind}
use Rattle.ac_types.specs.declared.fault.ReadError.{ReadError}
use Rattle.app_section.specs.AppRules.{HaveNames}

pub no_fault : {A B : Type 0} {path : List ℕ} {kind : FaultKind} {a : A} → fails path kind ≡ reads a → B
no_fault h = let none : ⊥ = cc in absurd none

pub same_read : {A : Type 0} (a b : A) → reads a ≡ reads b → a ≡ b
same_read a b h = cc

pub split : {A B : Type 0} (m : Outcome A) (next : A → Outcome B) (b : B) → (m >>= next) ≡ reads b
    → (a : A) × (m ≡ reads a) × (next a ≡ reads b)
split (reads a) next b h = (a, refl, h)
split (fails path kind) next b h = no_fault h

-- ---- which values a reading gives

-- each value that is read is of this kind
abbrev pub GivesOnly : {A : Type 0} → (A → Type 0) → Outcome A → Type 0
GivesOnly {A} P o = (a : A) → o ≡ reads a → P a

pub gives : {A : Type 0} (P : A → Type 0) (a : A) → P a → GivesOnly P (reads a)
gives P a is b h = subst P (same_read a b h) is

pub gives_none : {A : Type 0} (P : A → Type 0) (path : List ℕ) (kind : FaultKind) → GivesOnly P (fails path kind)
gives_none P path kind a h = no_fault h

pub gives_then : {A B : Type 0} {Q : A → Type 0} {P : B → Type 0} (m : Outcome A) (next : A → Outcome B)
    → GivesOnly Q m → ((a : A) → Q a → GivesOnly P (next a)) → GivesOnly P (m >>= next)
gives_then (reads a) next is later b h = later a (is a refl) b h
gives_then (fails path kind) next is later b h = no_fault h

pub gives_behind : {A B : Type 0} {P : B → Type 0} (o : Outcome A) (m : Outcome B) → GivesOnly P m → GivesOnly P (o >> m)
gives_behind (reads a) m is b h = is b h
gives_behind (fails path kind) m is b h = no_fault h

-- a call that answers a reading gives such values alone
pub answer_given : {A B : Type 0} {P : A → Type 0} (shown : B → A) (o : Outcome A) (result : Result B ReadError) → GivesOnly P o
    → Answers shown o result → IfOk result (λ b. P (shown b))
answer_given shown o (Ok b) given is = given (shown b) is
answer_given shown o (Err error) given is = tt

-- ---- what is read again

pub then_reads : {A B : Type 0} (m : Outcome A) (next : A → Outcome B) (a : A) (b : B) → m ≡ reads a → next a ≡ reads b
    → (m >>= next) ≡ reads b
then_reads m next a b is later = ap (λ o. o >>= next) is ∙ later

pub then_behind : {A B : Type 0} (o : Outcome A) (m : Outcome B) (a : A) (b : B) → o ≡ reads a → m ≡ reads b → (o >> m) ≡ reads b
then_behind o m a b is later = ap (λ r. r >> m) is ∙ later

-- ---- forms

-- each value that the form reads is of this kind
pub record Gives {A : Type 0} (P : A → Type 0) (form : List ℕ → Data → Outcome A) : Type 0 where
  pub law : (at : List ℕ) (d : Data) → GivesOnly P (form at d)

-- what is written for a value of this kind is read as the value; it is no null, and its numbers are whole
pub record Rereads {A : Type 0} (P : A → Type 0) (form : List ℕ → Data → Outcome A) (write : A → Data) : Type 0 where
  pub law : (at : List ℕ) (a : A) → P a → form at (write a) ≡ reads a
  pub shown : (a : A) → P a → unless_null (Some (write a)) ≡ Some (write a)
  pub whole : (a : A) → P a → has_float (write a) ≡ false

-- ---- lists

-- each element is of the kind that is asked for behind those before it
abbrev pub InTurn : {A : Type 0} → (List A → A → Type 0) → List A → List A → Type 0
InTurn P before [] = Unit {0}
InTurn P before (x ∷ xs) = P before x × InTurn P (before ++ x ∷ []) xs

pub more_given : {A : Type 0} (P : List A → A → Type 0) (form : List A → List ℕ → Data → Outcome A)
    → ((before : List A) (at : List ℕ) (d : Data) → GivesOnly (P before) (form before at d))
    → (at : List ℕ) (before : List A) (ds : List Data) (all : List A) → each_after form at before ds ≡ reads all
    → (more : List A) × (all ≡ before ++ more) × InTurn P before more
more_given P form given at before [] all h = ([], sym (same_read before all h) ∙ sym (append-nil before), tt)
more_given P form given at before (d ∷ ds) all h =
    let first = split (form before (element_path at (length before)) d) (λ a. each_after form at (before ++ a ∷ []) ds) all h in
    let later = more_given P form given at (before ++ first.0 ∷ []) ds all first.2 in (
      first.0 ∷ later.0,
      later.1 ∙ append_assoc before (first.0 ∷ []) later.0,
      (given before (element_path at (length before)) d first.0 first.1, later.2),
    )

pub each_given : {A : Type 0} (P : List A → A → Type 0) (form : List A → List ℕ → Data → Outcome A)
    → ((before : List A) (at : List ℕ) (d : Data) → GivesOnly (P before) (form before at d))
    → (at : List ℕ) (ds : List Data) → GivesOnly (InTurn P []) (each_after form at [] ds)
each_given P form given at ds all h =
    let found = more_given P form given at [] ds all h in
    subst (InTurn P []) (sym found.1) found.2

more_again : {A : Type 0} (P : List A → A → Type 0) (form : List A → List ℕ → Data → Outcome A) (write : A → Data)
    → ((before : List A) (at : List ℕ) (a : A) → P before a → form before at (write a) ≡ reads a)
    → (at : List ℕ) (before xs : List A) → InTurn P before xs → each_after form at before (map write xs) ≡ reads (before ++ xs)
more_again P form write again at before [] are = ap reads (sym (append-nil before))
more_again P form write again at before (x ∷ xs) are =
    then_reads _ _ x _ (again before (element_path at (length before)) x are.0)
    (more_again P form write again at (before ++ x ∷ []) xs are.1 ∙ ap reads (append_assoc before (x ∷ []) xs))

pub each_again : {A : Type 0} (P : List A → A → Type 0) (form : List A → List ℕ → Data → Outcome A) (write : A → Data)
    → ((before : List A) (at : List ℕ) (a : A) → P before a → form before at (write a) ≡ reads a)
    → (at : List ℕ) (xs : List A) → InTurn P [] xs → each_after form at [] (map write xs) ≡ reads xs
each_again P form write again at xs are = more_again P form write again at [] xs are

-- ---- elements of one kind

each_in_turn : {A : Type 0} (P : A → Type 0) (before xs : List A) → InTurn (λ _. P) before xs → All P xs
each_in_turn P before [] are = All-nil P
each_in_turn P before (x ∷ xs) are = All-cons P x xs are.0 (each_in_turn P (before ++ x ∷ []) xs are.1)

all_in_turn : {A : Type 0} (P : A → Type 0) (before xs : List A) → All P xs → InTurn (λ _. P) before xs
all_in_turn P before [] are = tt
all_in_turn P before (x ∷ xs) are = (All-head P x xs are, all_in_turn P (before ++ x ∷ []) xs (All-tail P x xs are))

pub all_given : {A : Type 0} {P : A → Type 0} {form : List ℕ → Data → Outcome A} → Gives P form
    → (at : List ℕ) (ds : List Data) → GivesOnly (All P) (each form at ds)
all_given {P = P} {form = form} given at ds all h =
    each_in_turn P [] all (each_given (λ _. P) (λ _. form) (λ before. given.law) at ds all h)

pub all_again : {A : Type 0} {P : A → Type 0} {form : List ℕ → Data → Outcome A} {write : A → Data} → Rereads P form write
    → (at : List ℕ) (xs : List A) → All P xs → each form at (map write xs) ≡ reads xs
all_again {P = P} {form = form} {write = write} again at xs are =
    each_again (λ _. P) (λ _. form) write (λ before. again.law) at xs (all_in_turn P [] xs are)

-- ---- elements whose names come once

-- the element is of this kind, and has a name that none before has
abbrev pub IsNew : {A : Type 0} → (A → List ℕ) → (A → Type 0) → List A → A → Type 0
IsNew name_of P before x = P x × (is_among (name_of x) (map name_of before) ≡ false)

among_push : {A : Type 0} (name_of : A → List ℕ) (before : List A) (x : A) (t : List ℕ)
    → is_among t (map name_of (before ++ x ∷ [])) ≡ (is_among t (map name_of before) || bytes_eq (name_of x) t)
among_push name_of [] x t = or-false (bytes_eq (name_of x) t)
among_push name_of (b ∷ before) x t =
    ap (λ r. bytes_eq (name_of b) t || r) (among_push name_of before x t)
    ∙ sym (or_assoc (bytes_eq (name_of b) t) (is_among t (map name_of before)) (bytes_eq (name_of x) t))

-- none of the elements has a name of those before
abbrev AreApart : {A : Type 0} → (A → List ℕ) → List A → List A → Type 0
AreApart name_of before [] = Unit {0}
AreApart name_of before (x ∷ xs) = (is_among (name_of x) (map name_of before) ≡ false) × AreApart name_of before xs

apart_parts : {A : Type 0} (name_of : A → List ℕ) (before : List A) (x : A) (xs : List A) → AreApart name_of (before ++ x ∷ []) xs
    → AreApart name_of before xs × AllByRecursion (λ n. bytes_eq (name_of x) n ≡ false) (map name_of xs)
apart_parts name_of before x [] are = (tt, tt)
apart_parts name_of before x (y ∷ ys) are =
    let rest = apart_parts name_of before x ys are.1 in
    let here = or_parts (is_among (name_of y) (map name_of before)) (bytes_eq (name_of x) (name_of y))
    (sym (among_push name_of before x (name_of y)) ∙ are.0) in
    ((here.0, rest.0), (here.1, rest.1))

apart_from : {A : Type 0} (name_of : A → List ℕ) (before : List A) (x : A) (xs : List A) → AreApart name_of before xs
    → AllByRecursion (λ n. bytes_eq (name_of x) n ≡ false) (map name_of xs) → AreApart name_of (before ++ x ∷ []) xs
apart_from name_of before x [] are differ = tt
apart_from name_of before x (y ∷ ys) are differ = (
  among_push name_of before x (name_of y)
      ∙ or_from (is_among (name_of y) (map name_of before)) (bytes_eq (name_of x) (name_of y)) are.0 differ.0,
  apart_from name_of before x ys are.1 differ.1,
)

apart_none : {A : Type 0} (name_of : A → List ℕ) (xs : List A) → AreApart name_of [] xs
apart_none name_of [] = tt
apart_none name_of (x ∷ xs) = (refl, apart_none name_of xs)

no_name : {A : Type 0} (name_of : A → List ℕ) → HaveNames name_of []
no_name name_of = IsDistinct-from_apart bytes_eq [] (λ i j d lt le. absurd (omega arith))

named_in_turn : {A : Type 0} (name_of : A → List ℕ) (P : A → Type 0) (before xs : List A) → InTurn (IsNew name_of P) before xs
    → All P xs × AreApart name_of before xs × HaveNames name_of xs
named_in_turn name_of P before [] are = (All-nil P, tt, no_name name_of)
named_in_turn name_of P before (x ∷ xs) are =
    let rest = named_in_turn name_of P (before ++ x ∷ []) xs are.1 in
    let apart = apart_parts name_of before x xs rest.1 in
    (All-cons P x xs are.0.0 rest.0, (are.0.1, apart.0), IsDistinct-cons bytes_eq (name_of x) (map name_of xs) apart.1 rest.2)

turn_from_names : {A : Type 0} (name_of : A → List ℕ) (P : A → Type 0) (before xs : List A)
    → All P xs → AreApart name_of before xs → HaveNames name_of xs → InTurn (IsNew name_of P) before xs
turn_from_names name_of P before [] are apart names = tt
turn_from_names name_of P before (x ∷ xs) are apart names = (
  (All-head P x xs are, apart.0),
  turn_from_names name_of P (before ++ x ∷ []) xs (All-tail P x xs are)
      (apart_from name_of before x xs apart.1 (IsDistinct-head bytes_eq (name_of x) (map name_of xs) names))
      (IsDistinct-tail bytes_eq (name_of x) (map name_of xs) names),
)

-- the elements are of this kind, and no two have one name
abbrev pub AreNamed : {A : Type 0} → (A → List ℕ) → (A → Type 0) → List A → Type 0
AreNamed name_of P xs = All P xs × HaveNames name_of xs

pub no_names : {A : Type 0} (name_of : A → List ℕ) (P : A → Type 0) → AreNamed name_of P []
no_names name_of P = (All-nil P, no_name name_of)

pub named_given : {A : Type 0} (name_of : A → List ℕ) (P : A → Type 0) (form : List A → List ℕ → Data → Outcome A)
    → ((before : List A) (at : List ℕ) (d : Data) → GivesOnly (IsNew name_of P before) (form before at d))
    → (at : List ℕ) (ds : List Data) → GivesOnly (AreNamed name_of P) (each_after form at [] ds)
named_given name_of P form given at ds all h =
    let found = named_in_turn name_of P [] all (each_given (IsNew name_of P) form given at ds all h) in
    (found.0, found.2)

pub named_again : {A : Type 0} (name_of : A → List ℕ) (P : A → Type 0) (form : List A → List ℕ → Data → Outcome A) (write : A → Data)
    → ((before : List A) (at : List ℕ) (a : A) → IsNew name_of P before a → form before at (write a) ≡ reads a)
    → (at : List ℕ) (xs : List A) → AreNamed name_of P xs → each_after form at [] (map write xs) ≡ reads xs
named_again name_of P form write again at xs are =
    each_again (IsNew name_of P) form write again at xs (turn_from_names name_of P [] xs are.0 (apart_none name_of xs) are.1)

-- an element whose name came before is refused
pub new_given : {A : Type 0} (name_of : A → List ℕ) (P : A → Type 0) (before : List A) (path : List ℕ) (kind : FaultKind) (x : A) → P x
    → GivesOnly (IsNew name_of P before) (unless_among kind path (is_among (name_of x) (map name_of before)) x)
new_given {A} name_of P before path kind x is = by (is_among (name_of x) (map name_of before)) refl
  where
    by : (b : Bool) → is_among (name_of x) (map name_of before) ≡ b → GivesOnly (IsNew name_of P before) (unless_among kind path b x)
    by true e = gives_none (IsNew name_of P before) path kind
    by false e = gives (IsNew name_of P before) x (is, e)

pub once_given : {A : Type 0} {P : A → Type 0} {form : List ℕ → Data → Outcome A} (name_of : A → List ℕ) (kind : FaultKind) → Gives P form
    → (before : List A) (at : List ℕ) (d : Data) → GivesOnly (IsNew name_of P before) (named_once kind name_of form before at d)
once_given {P = P} name_of kind given before at d =
    gives_then _ _ (given.law at d) λ x is. new_given name_of P before (field_path at (codes "name")) kind x is

pub once_again : {A : Type 0} {P : A → Type 0} {form : List ℕ → Data → Outcome A} {write : A → Data} (name_of : A → List ℕ)
    (kind : FaultKind) → Rereads P form write
    → (before : List A) (at : List ℕ) (a : A) → IsNew name_of P before a → named_once kind name_of form before at (write a) ≡ reads a
once_again name_of kind again before at a is =
    then_reads _ _ a a (again.law at a is.0) (ap (λ b. unless_among kind (field_path at (codes "name")) b a) is.1)
