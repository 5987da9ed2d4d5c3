-- A reading comes to one thing: a value, or a fault.
use Rattle.std.proofs.Common.{◌≡◌, ◌⊎◌, ◌<◌, ◌+◌, ℕ, zero, suc, List, [], ◌∷◌, ◌++◌, length, get_or, append-nil, refl, sym, ◌∙◌, ap, subst, inl, inr, arith}
use Rattle.ac_types.specs.Outcomes.{Outcome, reads, fails, ◌>>=◌}
use Rattle.std.proofs.lemmas.List.{length-append}
use mathlib.Core.List.{append_assoc}
use Rattle.serde_json.specs.Data.{Data}
use Rattle.ac_types.specs.JsonPaths.{element_path}
use Rattle.ac_types.specs.FieldForms.{each, each_after}
use Rattle.ac_types.specs.declared.fault.FaultKind.{FaultKind}

-- it reads or it fails
pub reads_or_fails : {A : Type 0} (o : Outcome A) → ((a : A) × (o ≡ reads a)) ⊎ ((path : List ℕ) × (kind : FaultKind) × (o ≡ fails path kind))
reads_or_fails (reads a) = inl (a, refl)
reads_or_fails (fails path kind) = inr (path, kind, refl)

-- and never both
pub never_both : {A : Type 0} (o : Outcome A) (a : A) (path : List ℕ) (kind : FaultKind) → o ≡ reads a → o ≡ fails path kind → ⊥
never_both o a path kind r f = cc

-- with one value
pub one_value : {A : Type 0} (o : Outcome A) (a b : A) → o ≡ reads a → o ≡ reads b → a ≡ b
one_value o a b r s = cc

-- or one fault
pub one_fault : {A : Type 0} (o : Outcome A) (p q : List ℕ) (k m : FaultKind) → o ≡ fails p k → o ≡ fails q m → (p ≡ q) × (k ≡ m)
one_fault o p q k m f g = (cc, cc)

-- two readings one after the other read where both do
pub both_read : {A B : Type 0} (o : Outcome A) (next : A → Outcome B) (b : B) → (o >>= next) ≡ reads b
    → (a : A) × (o ≡ reads a) × (next a ≡ reads b)
both_read (reads a) next b h = (a, refl, h)
both_read (fails path kind) next b h = cc

-- and fail with the first fault
pub first_fault : {A B : Type 0} (o : Outcome A) (next : A → Outcome B) (path : List ℕ) (kind : FaultKind)
    → (o >>= next) ≡ fails path kind
    → (o ≡ fails path kind) ⊎ ((a : A) × (o ≡ reads a) × (next a ≡ fails path kind))
first_fault (reads a) next path kind h = inr (a, refl, h)
first_fault (fails p k) next path kind h = inl (cc)

-- where a list is read, each of its elements is, at its own path
abbrev pub EachIsRead : {A : Type 0} → (List ℕ → Data → Outcome A) → List ℕ → ℕ → List Data → List A → Type 0
EachIsRead {A} form at first ds as_read =
    (length as_read ≡ length ds)
    × ((k : ℕ) (x : Data) (y : A) → k < length ds → form (element_path at (first + k)) (get_or ds k x) ≡ reads (get_or as_read k y))

places_read : {A : Type 0} (form : List ℕ → Data → Outcome A) (at : List ℕ) (first next : ℕ) (d : Data) (ds : List Data) (a : A)
    (rest : List A) → next ≡ first + 1 → form (element_path at first) d ≡ reads a
    → ((k : ℕ) (x : Data) (y : A) → k < length ds → form (element_path at (next + k)) (get_or ds k x) ≡ reads (get_or rest k y))
    → (k : ℕ) (x : Data) (y : A) → k < length (d ∷ ds)
    → form (element_path at (first + k)) (get_or (d ∷ ds) k x) ≡ reads (get_or (a ∷ rest) k y)
places_read form at first next d ds a rest is here later zero x y lt =
    let same : first + 0 ≡ first = omega arith in
    ap (λ (n : ℕ). form (element_path at n) d) same ∙ here
places_read form at first next d ds a rest is here later (suc k) x y lt =
    let same : first + suc k ≡ next + k = omega arith in
    ap (λ (n : ℕ). form (element_path at n) (get_or ds k x)) same ∙ later k x y (omega arith)

rest_read : {A : Type 0} (form : List ℕ → Data → Outcome A) (at : List ℕ) (before : List A) (ds : List Data) (all : List A)
    → each_after (λ _. form) at before ds ≡ reads all
    → (more : List A) × (all ≡ before ++ more) × EachIsRead form at (length before) ds more
rest_read form at before [] all h =
    ([], one_value (reads all) all before refl (sym h) ∙ sym (append-nil before), (refl, λ k x y lt. absurd (omega arith)))
rest_read form at before (d ∷ ds) all h =
    let both = both_read (form (element_path at (length before)) d) (λ a. each_after (λ _. form) at (before ++ a ∷ []) ds) all h in
    let ih = rest_read form at (before ++ both.0 ∷ []) ds all both.2 in
    let longer : length (before ++ both.0 ∷ []) ≡ length before + 1 = omega (arith, length-append before (both.0 ∷ [])) in (
      both.0 ∷ ih.0,
      ih.1 ∙ append_assoc before (both.0 ∷ []) ih.0,
      (
        ap suc ih.2.0,
        places_read form at (length before) (length (before ++ both.0 ∷ [])) d ds both.0 ih.0 longer both.1 ih.2.1,
      ),
    )

pub list_read : {A : Type 0} (form : List ℕ → Data → Outcome A) (at : List ℕ) (ds : List Data) (all : List A)
    → each form at ds ≡ reads all → EachIsRead form at 0 ds all
list_read {A} form at ds all h =
    let read = rest_read form at [] ds all h in
    let P : List A → Type 0 = λ xs. EachIsRead form at 0 ds xs in
    subst P (sym read.1) read.2

-- and where it fails, it fails as its first element that does
abbrev pub FirstFails : {A : Type 0} → (List ℕ → Data → Outcome A) → List ℕ → ℕ → List Data → List ℕ → FaultKind → Type 0
FirstFails {A} form at first ds path kind =
    (i : ℕ) × (i < length ds)
    × ((x : Data) → form (element_path at (first + i)) (get_or ds i x) ≡ fails path kind)
    × ((k : ℕ) (x : Data) → k < i → (a : A) × (form (element_path at (first + k)) (get_or ds k x) ≡ reads a))

fails_here : {A : Type 0} (form : List ℕ → Data → Outcome A) (at : List ℕ) (first : ℕ) (d : Data) (ds : List Data)
    (path : List ℕ) (kind : FaultKind) → form (element_path at first) d ≡ fails path kind
    → FirstFails form at first (d ∷ ds) path kind
fails_here form at first d ds path kind here =
    let same : first + 0 ≡ first = omega arith in
    (0, omega arith, λ x. ap (λ (n : ℕ). form (element_path at n) d) same ∙ here, λ k x lt. absurd (omega arith))

fails_later : {A : Type 0} (form : List ℕ → Data → Outcome A) (at : List ℕ) (first next : ℕ) (d : Data) (ds : List Data) (a : A)
    (path : List ℕ) (kind : FaultKind) → next ≡ first + 1 → form (element_path at first) d ≡ reads a
    → FirstFails form at next ds path kind → FirstFails form at first (d ∷ ds) path kind
fails_later {A} form at first next d ds a path kind is here (i, within, fault, before) = (
  suc i,
  omega arith,
  λ x.
      let same : first + suc i ≡ next + i = omega arith in
      ap (λ (n : ℕ). form (element_path at n) (get_or ds i x)) same ∙ fault x,
  earlier,
)
  where
    earlier : (k : ℕ) (x : Data) → k < suc i → (b : A) × (form (element_path at (first + k)) (get_or (d ∷ ds) k x) ≡ reads b)
    earlier zero x lt =
        let same : first + 0 ≡ first = omega arith in (a, ap (λ (n : ℕ). form (element_path at n) d) same ∙ here)
    earlier (suc k) x lt =
        let same : first + suc k ≡ next + k = omega arith in
        let b = before k x (omega arith) in
        (b.0, ap (λ (n : ℕ). form (element_path at n) (get_or ds k x)) same ∙ b.1)

rest_fails : {A : Type 0} (form : List ℕ → Data → Outcome A) (at : List ℕ) (before : List A) (ds : List Data)
    (path : List ℕ) (kind : FaultKind) → each_after (λ _. form) at before ds ≡ fails path kind
    → FirstFails form at (length before) ds path kind
rest_fails form at before [] path kind h = cc
rest_fails form at before (d ∷ ds) path kind h =
    elim (first_fault (form (element_path at (length before)) d) (λ a. each_after (λ _. form) at (before ++ a ∷ []) ds) path kind h) [
      | inl here ↦ fails_here form at (length before) d ds path kind here
      | inr read ↦
          let longer : length (before ++ read.0 ∷ []) ≡ length before + 1 = omega (arith, length-append before (read.0 ∷ [])) in
          fails_later form at (length before) (length (before ++ read.0 ∷ [])) d ds read.0 path kind longer read.1
          (rest_fails form at (before ++ read.0 ∷ []) ds path kind read.2)
    ]

pub list_fails : {A : Type 0} (form : List ℕ → Data → Outcome A) (at : List ℕ) (ds : List Data) (path : List ℕ) (kind : FaultKind)
    → each form at ds ≡ fails path kind → FirstFails form at 0 ds path kind
list_fails form at ds path kind h = rest_fails form at [] ds path kind h
