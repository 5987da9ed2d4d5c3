-- Counts and sums over the numbers below another, one number more.
use Rattle.std.proofs.Common.{◌≡◌, ℕ, zero, suc, ◌+◌, ◌*◌, ◌≤◌, ◌^◌, Bool, true, false, if◌then◌else◌, ap, arith}
use Rattle.demo_line.specs.Ways.{rendering_size}
use Rattle.demo_line.specs.Numbers.{count_below, sum_below}
use Rattle.demo_line.proofs.WayLaws.{few_entries}

one_more : (n : ℕ) → n + 1 ≡ suc n
one_more n = omega arith

pub count_more : (test : ℕ → Bool) (n : ℕ) → count_below test (n + 1) ≡ count_below test n + (if test n then 1 else 0)
count_more test n = ap (count_below test) (one_more n)

pub sum_more : (f : ℕ → ℕ) (n : ℕ) → sum_below f (n + 1) ≡ sum_below f n + f n
sum_more f n = ap (sum_below f) (one_more n)

pub count_few : (test : ℕ → Bool) (n : ℕ) → count_below test n ≤ n
count_few test zero = omega arith
count_few test (suc n) = let few = count_few test n in by (test n) few
  where
    by : (b : Bool) → count_below test n ≤ n → count_below test n + (if b then 1 else 0) ≤ suc n
    by true few = omega arith
    by false few = omega arith

pub sum_few : (n : ℕ) → n ≤ 2 ^ 31 → sum_below rendering_size n ≤ 33 * n
sum_few zero h = omega arith
sum_few (suc n) h = let few = sum_few n (omega arith) in let last = few_entries n (omega arith) in omega arith
