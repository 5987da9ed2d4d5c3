-- A loop that stops at the first place that passes a test.
use Rattle.std.proofs.Common.{◌≡◌, ℕ, zero, suc, ◌<◌, Bool, true, false, Some, None, refl, subst, ◌≤◌, arith, ◌⊎◌, inl, inr}
use Rattle.std.proofs.lemmas.Bool.{cases_lt}
use Rattle.ac_types.specs.FirstBelow.{first_below}

-- no number below the bound passes
pub first_none : (test : ℕ → Bool) (n : ℕ) → ((k : ℕ) → k < n → test k ≡ false) → first_below test n ≡ None
first_none test zero none = refl
first_none test (suc n) none =
    let before : first_below test n ≡ None = first_none test n (λ k h. none k (omega arith)) in
    let here : test n ≡ false = none n (omega arith) in
    rw (before, here) refl

by_place : (test : ℕ → Bool) (n i : ℕ) → ((k : ℕ) → k < i → test k ≡ false) → test i ≡ true
    → (i < n → first_below test n ≡ Some i) → i < suc n → (i < n) ⊎ (n ≤ i) → first_below test (suc n) ≡ Some i
by_place test n i none here before within (inl lt) =
    let found : first_below test n ≡ Some i = before lt in rw found refl
by_place test n i none here before within (inr le) =
    let same : i ≡ n = omega arith in
    let nothing : first_below test i ≡ None = first_none test i none in
    let P : ℕ → Type 0 = λ m. first_below test (suc m) ≡ Some i in
    subst P same (rw (nothing, here) refl)

-- a number that passes, and none before it
pub first_found : (test : ℕ → Bool) (n i : ℕ) → ((k : ℕ) → k < i → test k ≡ false) → i < n → test i ≡ true
    → first_below test n ≡ Some i
first_found test zero i none within here = absurd (omega arith)
first_found test (suc n) i none within here =
    by_place test n i none here (λ lt. first_found test n i none lt here) within (cases_lt i n)
