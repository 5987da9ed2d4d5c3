-- Where a test passes somewhere, its first place is within the list.
use Rattle.std.proofs.Common.{◌≡◌, ℕ, ◌+◌, ◌<◌, ◌≤◌, nat_lt, unwrap_or, Bool, true, false, not, ◌||◌, cond, Some, None, List, [], ◌∷◌, length, arith, refl}
use Rattle.std.specs.List.{list_any, position_or_len, position}
use Rattle.std.proofs.lemmas.Bool.Decides.{nat_tests}

pub found_within : {X : Type 0} (p : X → Bool) (xs : List X) → list_any p xs ≡ true → position_or_len p xs < length xs
found_within p [] h = cc
found_within p (x ∷ xs) h = at_head (p x) h (λ later. found_within p xs later)
  where
    at_head : (b : Bool) → (b || list_any p xs) ≡ true → (list_any p xs ≡ true → position_or_len p xs < length xs) → cond (not b) (1 + position_or_len p xs) 0 < length (x ∷ xs)
    at_head true h later = omega arith
    at_head false h later = omega (arith, later h)

below : (m n : ℕ) → m < n → nat_lt m n ≡ true
below m n h = grind (arith, nat_tests)

-- so a search that finds none contradicts it
pub found_somewhere : {X : Type 0} (p : X → Bool) (xs : List X) → list_any p xs ≡ true → position p xs ≡ None → ⊥
found_somewhere p xs any none = by (nat_lt (position_or_len p xs) (length xs)) (below (position_or_len p xs) (length xs) (found_within p xs any)) none
  where
    by : (b : Bool) → b ≡ true → cond b (Some (position_or_len p xs)) None ≡ None → ⊥
    by true is none = cc
    by false is none = cc

pub place_within : {X : Type 0} (p : X → Bool) (xs : List X) → position_or_len p xs ≤ length xs
place_within p [] = omega arith
place_within p (x ∷ xs) = by (p x) (place_within p xs)
  where
    by : (b : Bool) → position_or_len p xs ≤ length xs → cond (not b) (1 + position_or_len p xs) 0 ≤ length (x ∷ xs)
    by true later = omega arith
    by false later = omega (arith, later)

not_below : (m n : ℕ) → m ≤ n → nat_lt m n ≡ false → n ≡ m
not_below m n most none = grind (arith, nat_tests)

-- the first place, or the length where there is none
pub place_or_end : {X : Type 0} (p : X → Bool) (xs : List X) → unwrap_or (position p xs) (length xs) ≡ position_or_len p xs
place_or_end p xs = by (nat_lt (position_or_len p xs) (length xs)) refl
  where
    by : (b : Bool) → nat_lt (position_or_len p xs) (length xs) ≡ b → unwrap_or (cond b (Some (position_or_len p xs)) None) (length xs) ≡ position_or_len p xs
    by true is = refl
    by false is = not_below (position_or_len p xs) (length xs) (place_within p xs) is
