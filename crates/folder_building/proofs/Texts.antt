-- Texts that are the same, or aren't.
use Rattle.std.proofs.Common.{◌≡◌, ◌≢◌, ℕ, Bool, true, false, bytes_eq, List, [], ◌∷◌, ◌++◌, refl}
use Rattle.plain_laws.proofs.Texts.{same_text}

pub not_same : (a b : List ℕ) → a ≢ b → bytes_eq a b ≡ false
not_same a b other = by (bytes_eq a b) refl
  where
    by : (x : Bool) → bytes_eq a b ≡ x → bytes_eq a b ≡ false
    by false is = is
    by true is = absurd (other (same_text a b is))

pub same_end : (p xs ys : List ℕ) → p ++ xs ≡ p ++ ys → xs ≡ ys
same_end [] xs ys h = h
same_end (b ∷ p) xs ys h = same_end p xs ys cc
