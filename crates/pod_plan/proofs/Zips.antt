-- Two lists that go along with each other.
use Rattle.std.proofs.Common.{◌≡◌, ◌<◌, ℕ, zero, suc, List, [], ◌∷◌, ◌++◌, Some, length, get_or, refl, subst, ap, arith}
use Rattle.std.specs.List.{AllZip, AllByRecursion, slice_get}

module _ {A B : Type 0} (R : A → B → Type 0) where
  -- one element more
  pub zip_more : (xs : List A) (ys : List B) (x : A) (y : B) → AllZip R xs ys → R x y → AllZip R (xs ++ x ∷ []) (ys ++ y ∷ [])
  zip_more [] [] x y before here = (here, tt)
  zip_more [] (b ∷ ys) x y before here = absurd before
  zip_more (a ∷ xs) [] x y before here = absurd before
  zip_more (a ∷ xs) (b ∷ ys) x y before here = (before.0, zip_more xs ys x y before.1 here)

  pub zip_length : (xs : List A) (ys : List B) → AllZip R xs ys → length ys ≡ length xs
  zip_length [] [] all = refl
  zip_length [] (b ∷ ys) all = absurd all
  zip_length (a ∷ xs) [] all = absurd all
  zip_length (a ∷ xs) (b ∷ ys) all = ap suc (zip_length xs ys all.1)

  pub zip_weaker : (S : A → B → Type 0) → ((x : A) (y : B) → R x y → S x y) → (xs : List A) (ys : List B) → AllZip R xs ys → AllZip S xs ys
  zip_weaker S f [] [] all = tt
  zip_weaker S f [] (b ∷ ys) all = absurd all
  zip_weaker S f (a ∷ xs) [] all = absurd all
  zip_weaker S f (a ∷ xs) (b ∷ ys) all = (f a b all.0, zip_weaker S f xs ys all.1)

  -- at one place
  pub zip_at : (xs : List A) (ys : List B) (i : ℕ) (x : A) (d : B) → AllZip R xs ys → slice_get xs i ≡ Some x → R x (get_or ys i d)
  zip_at [] ys i x d all is = let no : ⊥ = cc in absurd no
  zip_at (a ∷ xs) [] i x d all is = absurd all
  zip_at (a ∷ xs) (b ∷ ys) zero x d all is = let same : a ≡ x = cc in subst (λ (z : A). R z b) same all.0
  zip_at (a ∷ xs) (b ∷ ys) (suc i) x d all is = zip_at xs ys i x d all.1 is

-- what stands at a place of a list
pub found_at : {X : Type 0} (xs : List X) (i : ℕ) → i < length xs → (x : X) × (slice_get xs i ≡ Some x)
found_at [] i within = absurd (omega arith)
found_at (x ∷ xs) zero within = (x, refl)
found_at (x ∷ xs) (suc i) within = found_at xs i (omega arith)

pub each_at : {X : Type 0} (P : X → Type 0) (xs : List X) (i : ℕ) (x : X) → AllByRecursion P xs → slice_get xs i ≡ Some x → P x
each_at P [] i x all is = let no : ⊥ = cc in absurd no
each_at {X} P (a ∷ xs) zero x all is = let same : a ≡ x = cc in subst P same all.0
each_at P (a ∷ xs) (suc i) x all is = each_at P xs i x all.1 is
