-- How often numbers stand in lists, and entries of nodes with those of one node more.
use Rattle.std.proofs.Common.{◌≡◌, ℕ, Bool, true, false, cond, ◌<◌, ◌+◌, List, [], ◌∷◌, ◌++◌, ◌∙◌, refl, sym, ap, subst, arith}
use Rattle.std.specs.Prelude.{◌==◌, if◌then◌else◌, sum_by}
use Rattle.std.proofs.lemmas.List.Sums.{sum_by-cons}
use Rattle.std.proofs.lemmas.Bool.Decides.{nat_tests}
use Rattle.path_map.specs.Entries.{Entries}
use Rattle.dir_model.proofs.Lists.{same_self}
use Rattle.pod_plan.specs.Roots.{count_in_list}

pub times_here : (n : ℕ) (xs : List ℕ) → count_in_list n (n ∷ xs) ≡ 1 + count_in_list n xs
times_here n xs = grind (arith, nat_tests)

pub times_other : (m n : ℕ) (xs : List ℕ) → (m ≡ n → ⊥) → count_in_list n (m ∷ xs) ≡ count_in_list n xs
times_other m n xs apart = grind (arith, nat_tests, apart)

pub times_both : (n : ℕ) (xs ys : List ℕ) → count_in_list n (xs ++ ys) ≡ count_in_list n xs + count_in_list n ys
times_both n [] ys = omega arith
times_both n (x ∷ xs) ys = omega (arith, times_both n xs ys)

-- by whether two numbers are the same
pub by_number : (P : Type 0) (m n : ℕ) → (m ≡ n → P) → ((m ≡ n → ⊥) → P) → P
by_number P m n here there = by (m == n) refl
  where
    by : (b : Bool) → (m == n) ≡ b → P
    by true is = here (grind (arith, nat_tests, is))
    by false is = there (λ same. grind (arith, nat_tests, is, same))

-- own entries with those of one node more
abbrev pub with_own : (ℕ → Entries) → ℕ → Entries → ℕ → Entries
with_own own next map n = if next == n then map else own n

apart_is : (m n : ℕ) → (m ≡ n → ⊥) → (m == n) ≡ false
apart_is m n apart = grind (arith, nat_tests, apart)

pub own_here : (own : ℕ → Entries) (next : ℕ) (map : Entries) → with_own own next map next ≡ map
own_here own next map = ap (λ (b : Bool). cond b map (own next)) (same_self next)

pub own_other : (own : ℕ → Entries) (next : ℕ) (map : Entries) (n : ℕ) → (next ≡ n → ⊥) → with_own own next map n ≡ own n
own_other own next map n apart = ap (λ (b : Bool). cond b map (own n)) (apart_is next n apart)

pub sum_same : (f g : ℕ → ℕ) (xs : List ℕ) → ((n : ℕ) → 0 < count_in_list n xs → f n ≡ g n) → sum_by f xs ≡ sum_by g xs
sum_same f g [] same = refl
sum_same f g (x ∷ xs) same =
    let here : f x ≡ g x = same x (omega (arith, times_here x xs)) in
    let rest : sum_by f xs ≡ sum_by g xs = sum_same f g xs (λ n h. same n (more x n xs h)) in
    sum_by-cons f x xs ∙ (ap (λ (k : ℕ). k + sum_by f xs) here ∙ ap (λ (k : ℕ). g x + k) rest) ∙ sym (sum_by-cons g x xs)
  where
    more : (m n : ℕ) (ns : List ℕ) → 0 < count_in_list n ns → 0 < count_in_list n (m ∷ ns)
    more m n ns h = omega (arith, h)

-- a number that comes once stands nowhere before
pub comes_first : (n : ℕ) (all first others : List ℕ) → count_in_list n all ≡ 1 → all ≡ first ++ n ∷ others → count_in_list n first ≡ 0
comes_first n all first others once is =
    let parts : count_in_list n (first ++ n ∷ others) ≡ count_in_list n first + count_in_list n (n ∷ others) = times_both n first (n ∷ others) in
    let whole : count_in_list n (first ++ n ∷ others) ≡ 1 = subst (λ (xs : List ℕ). count_in_list n xs ≡ 1) is once in
    omega (arith, parts, whole, times_here n others)

pub push_other : (m n : ℕ) (first : List ℕ) → (m ≡ n → ⊥) → count_in_list n (first ++ m ∷ []) ≡ count_in_list n first
push_other m n first apart = times_both n first (m ∷ []) ∙ (ap (λ (k : ℕ). count_in_list n first + k) (times_other m n [] apart) ∙ omega arith)

pub push_apart : (next : ℕ) (first : List ℕ) → count_in_list next first ≡ 0 → (n : ℕ) → 0 < count_in_list n first → next ≡ n → ⊥
push_apart next first none n some same =
    let zero_is : count_in_list n first ≡ 0 = subst (λ (k : ℕ). count_in_list k first ≡ 0) same none in
    omega (arith, zero_is, some)
