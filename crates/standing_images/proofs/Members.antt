-- The elements of lists.
use Rattle.std.proofs.Common.{arith, ◌≡◌, ◌⊎◌, inl, inr, List, [], ◌∷◌, refl}
use Rattle.std.specs.Prelude.{Contains}
use Rattle.std.proofs.lemmas.List.Elements.{Contains-append_left, Contains-append_right, Contains-append_cases, Contains-push_cases}

module _ {X : Type 0} where
  pub contains_none : (x : X) → Contains [] x → ⊥
  contains_none x h = let lt = h.1 in omega arith

  pub contains_first : (x : X) (xs : List X) → Contains (x ∷ xs) x
  contains_first x xs = Contains-append_left (x ∷ []) xs x (0, omega arith, refl)

  pub contains_more : (x : X) (xs : List X) (y : X) → Contains xs y → Contains (x ∷ xs) y
  contains_more x xs y h = Contains-append_right (x ∷ []) xs y h

  -- it is the first, or one of the others
  pub contains_cases : (x : X) (xs : List X) (y : X) → Contains (x ∷ xs) y → (x ≡ y) ⊎ Contains xs y
  contains_cases x xs y h = by (Contains-append_cases (x ∷ []) xs y h)
    where
      one : Contains [] y ⊎ (x ≡ y) → (x ≡ y) ⊎ Contains xs y
      one (inl none) = absurd (contains_none y none)
      one (inr same) = inl same

      by : Contains (x ∷ []) y ⊎ Contains xs y → (x ≡ y) ⊎ Contains xs y
      by (inl first) = one (Contains-push_cases [] x y first)
      by (inr later) = inr later
