-- The front of a file.
use Rattle.std.specs.Prelude.{◌≡◌, ◌⊎◌, ℕ, Bool, true, List, [], Option, IsSomeAnd, length, take}

-- nothing was read yet, or the first bytes of the file
abbrev pub IsFrontOrNothing : Option (List ℕ) → List ℕ → Type 0
IsFrontOrNothing file bytes = (bytes ≡ []) ⊎ IsSomeAnd file (λ f. bytes ≡ take (length bytes) f)

-- the first bytes of the file; where the reading has ended, all of them
pub record IsFront (ended : Bool) (bytes file : List ℕ) : Type 0 where
  pub first : bytes ≡ take (length bytes) file
  pub whole : ended ≡ true → bytes ≡ file
