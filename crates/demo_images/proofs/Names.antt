-- The names and the files of the demo's images: one number, one text.
use Rattle.std.proofs.Common.{◌≡◌, ◌≢◌, ℕ, ◌^◌, ◌<◌, Bool, true, false, ◌==◌, ◌||◌, codes, List, [], ◌∷◌, get_or, drop, refl, ap, subst, arith}
use Rattle.std.specs.Fmt.{decimal}
use Rattle.std.specs.List.{list_any}
use Rattle.std.proofs.lemmas.Bool.{eqb-true}
use Rattle.std.proofs.lemmas.Fmt.{decimal_injective, decimal_is_IsNumeral}
use Rattle.std.specs.Char.{digit_value}
use Rattle.std.specs.Str.Parse.{AllDigits}
use Rattle.std.proofs.lemmas.List.{append_cancel_left}
use Rattle.demo_images.specs.DemoImages.{demo_name, own_path, common_path}

pub one_name : (i j : ℕ) → i < 2 ^ 64 → j < 2 ^ 64 → demo_name i ≡ demo_name j → i ≡ j
one_name i j h k same = decimal_injective i j h k (append_cancel_left (codes "demo/i") (decimal i) (decimal j) same)

pub one_path : (i j : ℕ) → i < 2 ^ 64 → j < 2 ^ 64 → own_path i ≡ own_path j → i ≡ j
one_path i j h k same = decimal_injective i j h k (append_cancel_left (codes "/d") (decimal i) (decimal j) same)

pub not_common : (i : ℕ) → own_path i ≢ common_path
not_common i same = let second : get_or (own_path i) 1 0 ≡ get_or common_path 1 0 = ap (λ (l : List ℕ). get_or l 1 0) same in absurd (omega (arith, second))

-- the text of a number has no slash, and so neither file lies below another
slash_is_no_digit : digit_value 47 < 10 → ⊥
slash_is_no_digit h = omega (arith, h)

no_slash : (cs : List ℕ) → AllDigits 10 cs → list_any (λ b. b == 47) cs ≡ false
no_slash [] digits = refl
no_slash (c ∷ cs) digits = by (c == 47) refl (no_slash cs digits.1)
  where
    by : (b : Bool) → (c == 47) ≡ b → list_any (λ b. b == 47) cs ≡ false → (b || list_any (λ b. b == 47) cs) ≡ false
    by true is more = let same : c ≡ 47 = eqb-true c 47 is in absurd (slash_is_no_digit (subst (λ (n : ℕ). digit_value n < 10) same digits.0))
    by false is more = more

pub own_flat : (i : ℕ) → i < 2 ^ 64 → list_any (λ b. b == 47) (drop 1 (own_path i)) ≡ false
own_flat i h = no_slash (decimal i) (decimal_is_IsNumeral i h).0.1
