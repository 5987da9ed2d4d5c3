-- The set of the code holds exactly the bytes that are written as escapes.
use Rattle.std.proofs.Common.{◌≡◌, ℕ, ◌<◌, ◌≤◌, Bool, true, false, not, ◌&&◌, cond, List, [], ◌∷◌, zero, suc, refl, subst, ⊎_elim, arith}
use Rattle.std.proofs.lemmas.Bool.{cases_lt, and_parts}
use Rattle.std.proofs.lemmas.Bool.Decides.{nat_tests}
use Rattle.percent_encoding.specs.AsciiSet.{should_percent_encode}
use Rattle.percent_encoding.specs.Percent.{percent_encode}
use Rattle.tree_digest.specs.declared.escapes.TheConstants.{ESCAPED}
use Rattle.tree_digest.specs.Fields.{escaped, is_escaped}

abbrev same : Bool → Bool → Bool
same a b = cond a b (not b)

same_is : (a b : Bool) → same a b ≡ true → a ≡ b
same_is true true e = refl
same_is true false e = cc
same_is false true e = cc
same_is false false e = refl

abbrev all_below : (ℕ → Bool) → ℕ → Bool
all_below p zero = true
all_below p (suc n) = all_below p n && p n

at_below : (p : ℕ → Bool) (n b : ℕ) → all_below p n ≡ true → b < n → p b ≡ true
at_below p zero b all low = absurd (omega (arith, low))
at_below p (suc n) b all low =
    let both = and_parts _ _ all in
    ⊎_elim (λ less. at_below p n b both.0 less)
    (λ more.
    let last : n ≡ b = omega (arith, low, more) in
    subst (λ k. p k ≡ true) last both.1)
    (cases_lt b n)

-- the table of ASCII
low_bytes : all_below (λ b. same (should_percent_encode ESCAPED b) (is_escaped b)) 128 ≡ true
unfolding should_percent_encode
low_bytes = refl

high_byte : (b : ℕ) → 128 ≤ b → should_percent_encode ESCAPED b ≡ is_escaped b
unfolding should_percent_encode
high_byte b high = grind (arith, nat_tests)

pub byte_is : (b : ℕ) → should_percent_encode ESCAPED b ≡ is_escaped b
byte_is b = ⊎_elim (λ low. same_is _ _ (at_below (λ n. same (should_percent_encode ESCAPED n) (is_escaped n)) 128 b low_bytes low)) (λ high. high_byte b high) (cases_lt b 128)

pub escaped_is : (text : List ℕ) → percent_encode ESCAPED text ≡ escaped text
unfolding percent_encode escaped
escaped_is [] = refl
escaped_is (b ∷ bs) = rw (byte_is b, escaped_is bs) refl
