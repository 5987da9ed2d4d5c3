-- Laws of numbers, and of a number that may be there.
use Rattle.std.proofs.Common.{arith, ◌≡◌, ◌≤◌, ◌<◌, ◌==◌, nat_le, nat_lt, ◌+◌, ℕ, suc, true, false, Option, Some, None, is_some, unwrap_or, refl, sym, ap, ◌∙◌}
use Rattle.std.proofs.lemmas.Bool.Decides.{nat_tests}

-- a test of numbers and what it says

pub at_most : (n m : ℕ) → n ≤ m → nat_le n m ≡ true
at_most n m h = grind (arith, nat_tests)

pub at_most_back : (n m : ℕ) → nat_le n m ≡ true → n ≤ m
at_most_back n m h = grind (arith, nat_tests)

pub not_at_most : (n m : ℕ) → nat_le n m ≡ false → m ≤ n
not_at_most n m h = grind (arith, nat_tests)

pub small : (b : ℕ) → nat_lt b 128 ≡ true → b < 128
small b h = grind (arith, nat_tests)

pub up : (a b c : ℕ) → nat_le a b ≡ true → nat_le b c ≡ true → nat_le a c ≡ true
up a b c e f = grind (arith, nat_tests)

pub down : (a b c : ℕ) → nat_le a b ≡ false → nat_le b c ≡ false → nat_le a c ≡ false
down a b c e f = grind (arith, nat_tests)

pub flipped : (a b : ℕ) → (a == b) ≡ false → (b == a) ≡ false
flipped a b h = grind (arith, nat_tests)

pub ranks_meet : (x y z : ℕ) → (x == y) ≡ true → (x == z) ≡ true → (y == z) ≡ true
ranks_meet x y z h k = grind (arith, nat_tests)

-- a number that may be there

pub no_number : (o : Option ℕ) → is_some o ≡ false → o ≡ None
no_number None h = refl
no_number (Some k) h = cc

pub one_number : (f g : ℕ) → Some f ≡ Some g → f ≡ g
one_number f g e = ap (λ o. unwrap_or o f) e

pub one_of_two : (o : Option ℕ) (p q : ℕ) → o ≡ Some p → o ≡ Some q → p ≡ q
one_of_two o p q first second = ap (λ x. unwrap_or x p) (sym first ∙ second)

-- a number further

pub one_further : (n : ℕ) → suc n ≡ n + 1
one_further n = omega arith
