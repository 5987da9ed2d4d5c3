-- A field that may be absent, read in two steps.
use Rattle.std.proofs.Common.{◌≡◌, ℕ, List, Option, Some, None, ap}
use Rattle.serde_json.specs.Data.{Data}
use Rattle.ac_types.specs.FieldForms.{optional, optional_at, present}
use Rattle.ac_types.specs.JsonPaths.{field_path}
use Rattle.ac_types.specs.Outcomes.{Outcome, reads, fails, ◌>>=◌}

-- what was read before it was wrapped
unwrapped : {A : Type 0} (o : Outcome A) (a : A) → (o >>= λ v. reads (Some v)) ≡ reads (Some a) → o ≡ reads a
unwrapped (reads b) a h = cc
unwrapped (fails path kind) a h = let never : ⊥ = cc in absurd never

pub optional_then : {A B : Type 0} (form : List ℕ → Data → Outcome A) (next : List ℕ → A → Outcome B)
    (at name : List ℕ) (d : Data) (a : A) → optional form at name d ≡ reads (Some a)
    → optional (λ p e. form p e >>= next p) at name d ≡ (next (field_path at name) a >>= λ v. reads (Some v))
optional_then {A} {B} form next at name d a read = by_presence (present name d) read
  where
    by_presence : (o : Option Data) → optional_at form (field_path at name) o ≡ reads (Some a)
        → optional_at (λ p e. form p e >>= next p) (field_path at name) o ≡ (next (field_path at name) a >>= λ v. reads (Some v))
    by_presence None r = let never : ⊥ = cc in absurd never
    by_presence (Some e) r =
        ap (λ (x : Outcome A). (x >>= next (field_path at name)) >>= λ v. reads (Some v)) (unwrapped (form (field_path at name) e) a r)
