-- The first mount that passes a test.
use Rattle.std.proofs.Common.{◌≡◌, ℕ, ◌+◌, ◌<◌, ◌≤◌, Bool, true, false, cond, List, ◌∷◌, Some, None, length, drop, get_or, sym, ◌∙◌, ap}
use Rattle.std.specs.List.{find}
use Rattle.std.proofs.lemmas.List.{drop_more, drop_all}

next : {A : Type 0} (xs : List A) (i : ℕ) (x : A) → i < length xs → x ≡ get_or xs i x → drop i xs ≡ x ∷ drop (i + 1) xs
next {A} xs i x within is = drop_more xs i x within ∙ ap (λ (y : A). y ∷ drop (i + 1) xs) (sym is)

pub find_more : {A : Type 0} (test : A → Bool) (xs : List A) (i : ℕ) (x : A) → i < length xs → x ≡ get_or xs i x → test x ≡ false
    → find test (drop i xs) ≡ find test (drop (i + 1) xs)
find_more {A} test xs i x within is fails =
    ap (find test) (next xs i x within is) ∙ ap (λ (b : Bool). cond b (Some x) (find test (drop (i + 1) xs))) fails

pub find_here : {A : Type 0} (test : A → Bool) (xs : List A) (i : ℕ) (x : A) → i < length xs → x ≡ get_or xs i x → test x ≡ true
    → find test (drop i xs) ≡ Some x
find_here {A} test xs i x within is passes =
    ap (find test) (next xs i x within is) ∙ ap (λ (b : Bool). cond b (Some x) (find test (drop (i + 1) xs))) passes

pub find_none : {A : Type 0} (test : A → Bool) (xs : List A) (i : ℕ) → length xs ≤ i → find test (drop i xs) ≡ None
find_none test xs i past = ap (find test) (drop_all i xs past)
