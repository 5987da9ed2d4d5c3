-- Laws of texts, which are lists of bytes.
use Rattle.std.proofs.Common.{arith, ◌≡◌, ◌==◌, nat_lt, bytes_eq, ℕ, true, false, Less, Greater, List, [], ◌∷◌, length, refl, sym, ap, ◌∙◌}
use Rattle.std.specs.Cmp.Lexicographic.{slice_cmp}
use Rattle.std.specs.List.{list_all}
use Rattle.std.specs.Ordering.{nat_cmp, ordering_reverse}
use Rattle.std.specs.Str.{IsAscii}
use Rattle.std.proofs.lemmas.Bool.Decides.{nat_tests}
use Rattle.std.proofs.lemmas.Cmp.{nat_list_cmp_total}
use Rattle.std.proofs.lemmas.Grind.{common_steps}
use Rattle.std.proofs.lemmas.Slice.Eq.{bytes_eq-Decides}
use Rattle.std.proofs.lemmas.Str.Ascii.{IsAscii-nil, IsAscii-cons}
use Rattle.std.proofs.lemmas.Bool.{and_parts, ltb-true}

pub same_bytes : (bs : List ℕ) → bytes_eq bs bs ≡ true
same_bytes bs = (bytes_eq-Decides bs bs).1 refl

pub same_text : (a b : List ℕ) → bytes_eq a b ≡ true → a ≡ b
same_text a b is = (bytes_eq-Decides a b).0 is

pub bytes_turned : (a b : List ℕ) → bytes_eq b a ≡ bytes_eq a b
bytes_turned [] [] = refl
bytes_turned [] (y ∷ ys) = refl
bytes_turned (x ∷ xs) [] = refl
bytes_turned (x ∷ xs) (y ∷ ys) = rw (turned x y, bytes_turned xs ys) refl
  where
    turned : (n m : ℕ) → (m == n) ≡ (n == m)
    turned n m = grind (arith, nat_tests)

pub not_empty : (x : ℕ) (xs : List ℕ) → (length (x ∷ xs) == 0) ≡ false
not_empty x xs = grind (arith, nat_tests, common_steps)

pub ascii_from : (bytes : List ℕ) → list_all (λ b. nat_lt b 128) bytes ≡ true → IsAscii bytes
ascii_from [] all = IsAscii-nil
ascii_from (x ∷ xs) all =
    let parts = and_parts _ _ all in
    IsAscii-cons x xs (ltb-true x 128 parts.0) (ascii_from xs parts.1)

-- of two texts not each comes first
pub none_below : (a b : List ℕ) → slice_cmp nat_cmp a b ≡ Less → slice_cmp nat_cmp b a ≡ Less → ⊥
none_below a b x y = let e : Less ≡ Greater = sym x ∙ (nat_list_cmp_total.antisymm a b ∙ ap ordering_reverse y) in cc
