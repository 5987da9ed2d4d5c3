-- Reading the elements of a list one after the other.
use Rattle.std.proofs.Common.{◌≡◌, ℕ, ◌<◌, ◌≤◌, ◌+◌, List, [], ◌∷◌, ◌++◌, get_or, drop, length, map, refl, sym, ◌∙◌, ap, subst, arith}
use Rattle.std.proofs.lemmas.List.{drop_more, drop_all, get_or-map, length-map, length-append, map-append}
use Rattle.serde_json.specs.Data.{Data, null}
use Rattle.serde_json.specs.View.{view}
use Rattle.serde_json.specs.declared.value.Value.{Value}
use Rattle.ac_types.specs.JsonPaths.{element_path}
use Rattle.ac_types.specs.Outcomes.{Outcome, reads, fails, ◌>>=◌, IsFaultOf}
use Rattle.ac_types.specs.declared.fault.ReadError.{ReadError}
use Rattle.ac_types.specs.declared.fault.ReadError.TheVariants.{Bad, NoMemory}
use Rattle.ac_types.specs.FieldForms.{each_after}
use Rattle.ac_types.specs.SeenTexts.{HasSeen}
use Rattle.ac_types.specs.declared.seen_texts.SeenTexts.{SeenTexts}
use Rattle.ac_types.specs.declared.fault.FaultKind.{FaultKind}

-- what the elements from a place on come to, after those before it
abbrev pub IsReadUpTo : {A : Type 0} → (List A → List ℕ → Data → Outcome A) → List ℕ → List Value → List A → ℕ → Type 0
IsReadUpTo form at vs before i =
    (length before ≡ i)
    × (each_after form at before (drop i (map view vs)) ≡ each_after form at [] (map view vs))

pub read_none : {A : Type 0} (form : List A → List ℕ → Data → Outcome A) (at : List ℕ) (vs : List Value)
    → IsReadUpTo form at vs [] 0
read_none form at vs = (refl, refl)

-- the next element comes first of what is left
next_element : {A : Type 0} (form : List A → List ℕ → Data → Outcome A) (at : List ℕ) (vs : List Value) (before : List A)
    (i : ℕ) (v : Value) → i < length vs → v ≡ get_or vs i v → IsReadUpTo form at vs before i
    → (form before (element_path at i) (view v) >>= λ a. each_after form at (before ++ a ∷ []) (drop (i + 1) (map view vs)))
    ≡ each_after form at [] (map view vs)
next_element form at vs before i v within is so_far =
    let more : i < length (map view vs) = rw length-map within in
    let here : get_or (map view vs) i null ≡ view v = get_or-map view vs i v null within ∙ ap view (sym is) in
    let cut : drop i (map view vs) ≡ view v ∷ drop (i + 1) (map view vs) =
    drop_more (map view vs) i null more ∙ ap (λ (d : Data). d ∷ drop (i + 1) (map view vs)) here in
    ap (λ (n : ℕ). form before (element_path at n) (view v) >>= λ a. each_after form at (before ++ a ∷ []) (drop (i + 1) (map view vs)))
    (sym so_far.0)
    ∙ ap (λ (ds : List Data). each_after form at before ds) (sym cut) ∙ so_far.1

pub read_next : {A : Type 0} (form : List A → List ℕ → Data → Outcome A) (at : List ℕ) (vs : List Value) (before : List A)
    (i : ℕ) (v : Value) (a : A) → i < length vs → v ≡ get_or vs i v → form before (element_path at i) (view v) ≡ reads a
    → IsReadUpTo form at vs before i → IsReadUpTo form at vs (before ++ a ∷ []) (i + 1)
read_next form at vs before i v a within is read so_far = (
  omega (arith, length-append before (a ∷ []), so_far.0),
  ap (λ (o : Outcome _). o >>= λ x. each_after form at (before ++ x ∷ []) (drop (i + 1) (map view vs))) (sym read)
      ∙ next_element form at vs before i v within is so_far,
)

pub read_fault : {A : Type 0} (form : List A → List ℕ → Data → Outcome A) (at : List ℕ) (vs : List Value) (before : List A)
    (i : ℕ) (v : Value) (path : List ℕ) (kind : FaultKind) → i < length vs → v ≡ get_or vs i v
    → form before (element_path at i) (view v) ≡ fails path kind
    → IsReadUpTo form at vs before i → each_after form at [] (map view vs) ≡ fails path kind
read_fault form at vs before i v path kind within is read so_far =
    sym (next_element form at vs before i v within is so_far)
    ∙ ap (λ (o : Outcome _). o >>= λ x. each_after form at (before ++ x ∷ []) (drop (i + 1) (map view vs))) read

pub read_all : {A : Type 0} (form : List A → List ℕ → Data → Outcome A) (at : List ℕ) (vs : List Value) (before : List A)
    (i : ℕ) → length vs ≤ i → IsReadUpTo form at vs before i → each_after form at [] (map view vs) ≡ reads before
read_all form at vs before i past so_far =
    let none : drop i (map view vs) ≡ [] = drop_all i (map view vs) (rw length-map past) in
    sym so_far.1 ∙ ap (λ (ds : List Data). each_after form at before ds) none

-- a fault of one reading that is a fault of another
pub fault_kept : {A B : Type 0} (one : Outcome A) (other : Outcome B) (error : ReadError)
    → ((path : List ℕ) (kind : FaultKind) → one ≡ fails path kind → other ≡ fails path kind)
    → IsFaultOf one error → IsFaultOf other error
fault_kept one other (Bad fault) kept is = kept fault.path fault.kind is
fault_kept one other NoMemory kept is = tt

-- the same, where a call shows the values that it keeps
pub shown_next : {A B : Type 0} (shown : B → A) (form : List A → List ℕ → Data → Outcome A) (at : List ℕ) (vs : List Value)
    (items : List B) (i : ℕ) (v : Value) (item : B) (now : List B) → i < length vs → v ≡ get_or vs i v
    → form (map shown items) (element_path at i) (view v) ≡ reads (shown item) → now ≡ items ++ item ∷ []
    → IsReadUpTo form at vs (map shown items) i → IsReadUpTo form at vs (map shown now) (i + 1)
shown_next {A} {B} shown form at vs items i v item now within is read added so_far =
    let P : List A → Type 0 = λ xs. IsReadUpTo form at vs xs (i + 1) in
    subst P (sym (ap (map shown) added ∙ map-append shown items (item ∷ [])))
    (read_next form at vs (map shown items) i v (shown item) within is read so_far)

-- the names of the values that are kept, with one more
pub names_next : {A B : Type 0} (shown : B → A) (name_of : A → List ℕ) (seen : SeenTexts) (items : List B) (item : B)
    (now : List B) → now ≡ items ++ item ∷ []
    → HasSeen seen (map name_of (map shown items) ++ name_of (shown item) ∷ [])
    → HasSeen seen (map name_of (map shown now))
names_next shown name_of seen items item now added has =
    let P : List (List ℕ) → Type 0 = λ ns. HasSeen seen ns in
    subst P (sym (ap (map name_of) (ap (map shown) added ∙ map-append shown items (item ∷ []))
    ∙ map-append name_of (map shown items) (shown item ∷ []))) has
