-- The fault of a refused name, as the fault of a reading.
use Rattle.std.proofs.Common.{◌≡◌, ◌≢◌, ℕ, Bool, false, nat_le, List, [], ◌∷◌, Option, Some, None, length, refl, sym, ◌∙◌, ap, subst, inl, inr, arith}
use Rattle.std.proofs.lemmas.Bool.Decides.{nat_tests}
use Rattle.serde_json.specs.Data.{Data}
use Rattle.ac_types.specs.Names.{IsNameFault, IsBadByteAt}
use Rattle.ac_types.specs.JsonPaths.{field_path}
use Rattle.ac_types.specs.FieldForms.{required, required_at, present}
use Rattle.ac_types.specs.NameForms.{words, IsNameFaultAt}
use Rattle.ac_types.specs.Outcomes.{Outcome, reads, fails, ◌>>=◌, IsFault, IsFaultOf}
use Rattle.ac_types.specs.declared.fault.FaultKind.{FaultKind}
use Rattle.ac_types.specs.declared.fault.FaultKind.TheVariants as kind
use Rattle.ac_types.specs.declared.fault.ReadError.{ReadError}
use Rattle.ac_types.specs.declared.fault.ReadError.TheVariants as read_error
use Rattle.ac_types.specs.declared.name_error.NameError.{NameError}
use Rattle.ac_types.specs.declared.name_error.NameError.TheVariants as name_error

-- an error that names the fault of a reading
pub fault_named : {A : Type 0} (outcome : Outcome A) (path : List ℕ) (k : FaultKind) (error : ReadError)
    → outcome ≡ fails path k → IsFault path k error → IsFaultOf outcome error
fault_named outcome path k (read_error.Bad fault) is (at, of) =
    is ∙ ap (λ (p : List ℕ). fails p k) (sym at) ∙ ap (λ (x : FaultKind). fails fault.path x) (sym of)
fault_named outcome path k read_error.NoMemory is named = tt

-- no words of that length
no_words : (sep : ℕ → Bool) (limit : ℕ) (path : List ℕ) (b : ℕ) (bs : List ℕ) (place : ℕ)
    → IsBadByteAt sep limit (b ∷ bs) place → words sep limit path (b ∷ bs) ≡ fails path kind.BadByte
no_words sep limit path b bs place (inl (bad, longest)) = rw bad refl
no_words sep limit path b bs place (inr (good, long, at)) =
    let far : nat_le (length (b ∷ bs)) limit ≡ false = grind (arith, nat_tests) in
    rw (good, far) refl

bad_byte : (sep : ℕ → Bool) (limit : ℕ) (path text : List ℕ) (place : ℕ)
    → text ≢ [] → IsBadByteAt sep limit text place → words sep limit path text ≡ fails path kind.BadByte
bad_byte sep limit path [] place some bad = absurd (some refl)
bad_byte sep limit path (b ∷ bs) place some bad = no_words sep limit path b bs place bad

pub name_refused : (sep : ℕ → Bool) (limit : ℕ) (path text : List ℕ) (error : NameError) (result : ReadError)
    → IsNameFault sep limit text error → IsNameFaultAt path error result → IsFaultOf (words sep limit path text) result
name_refused sep limit path text name_error.Empty result none named =
    fault_named (words sep limit path text) path kind.Empty result (ap (words sep limit path) none) named
name_refused sep limit path text (name_error.BadByte place) result (some, bad) named =
    fault_named (words sep limit path text) path kind.BadByte result (bad_byte sep limit path text place some bad) named
name_refused sep limit path text name_error.NoMemory result good named =
    let P : ReadError → Type 0 = λ e. IsFaultOf (words sep limit path text) e in subst P (sym named) tt

-- a required field that is read in two steps
pub required_then : {A B : Type 0} (form : List ℕ → Data → Outcome A) (next : List ℕ → A → Outcome B)
    (at name : List ℕ) (d : Data) (a : A) → required form at name d ≡ reads a
    → required (λ p e. form p e >>= next p) at name d ≡ next (field_path at name) a
required_then {A} {B} form next at name d a read = by_presence (present name d) read
  where
    by_presence : (o : Option Data) → required_at form (field_path at name) o ≡ reads a
        → required_at (λ p e. form p e >>= next p) (field_path at name) o ≡ next (field_path at name) a
    by_presence None r = cc
    by_presence (Some e) r = ap (λ (x : Outcome A). x >>= next (field_path at name)) r
