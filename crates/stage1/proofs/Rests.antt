-- What is left of apps and stands.
use Rattle.std.proofs.Common.{arith, ◌≡◌, ◌≤◌, ◌+◌, ◌-◌, ℕ, zero, suc, Bool, List, [], ◌∷◌, length, length-drop, length-append, take, drop, sym, ap, subst, ◌∙◌}
use Rattle.std.specs.List.{AllByRecursion}
use Rattle.std.proofs.Math.Seq.{drop-append-add}
use Rattle.std.proofs.lemmas.List.{take_all, length-map}
use Rattle.spawner.specs.declared.call.SpawnCall.{SpawnCall}
use Rattle.spawner.specs.Calls.{SpawnerAt}
use Rattle.stage1.specs.declared.start.AppStart.{AppStart}
use Rattle.stage1.specs.declared.stand.Stand.{Stand}
use Rattle.stage1.specs.Beginnings.{app_state_of, AreStartedIn, HaveBegun, AreInterrupted}
use Rattle.stage1.specs.Endings.{AreEndsCut}

abbrev pub rest_of : {A : Type 0} → ℕ → List A → List A
rest_of n xs = take (length xs - n) (drop n xs)

pub rest_is : {A : Type 0} (n : ℕ) (xs : List A) → rest_of n xs ≡ drop n xs
rest_is n xs = take_all (length xs - n) (drop n xs) (omega (arith, length-drop n xs))

all_drop : {A : Type 0} (P : A → Type 0) (n : ℕ) (xs : List A) → AllByRecursion P xs → AllByRecursion P (drop n xs)
all_drop P zero xs a = a
all_drop P (suc n) [] a = tt
all_drop P (suc n) (x ∷ xs) a = all_drop P n xs a.1

pub all_take : {A : Type 0} (P : A → Type 0) (n : ℕ) (xs : List A) → AllByRecursion P xs → AllByRecursion P (take n xs)
all_take P zero xs a = tt
all_take P (suc n) [] a = tt
all_take P (suc n) (x ∷ xs) a = (a.0, all_take P n xs a.1)

pub all_rest : {A : Type 0} (P : A → Type 0) (n : ℕ) (xs : List A) → AllByRecursion P xs → AllByRecursion P (rest_of n xs)
all_rest {A} P n xs a = subst (λ (l : List A). AllByRecursion P l) (sym (rest_is n xs)) (all_drop P n xs a)

started_drop : (calls : List SpawnCall) (n : ℕ) (starts : List AppStart) (stands : List Stand) → AreStartedIn calls starts stands → AreStartedIn calls (drop n starts) (drop n stands)
started_drop calls zero starts stands s = s
started_drop calls (suc n) [] [] s = tt
started_drop calls (suc n) [] (x ∷ stands) s = absurd s
started_drop calls (suc n) (a ∷ starts) [] s = absurd s
started_drop calls (suc n) (a ∷ starts) (x ∷ stands) s = started_drop calls n starts stands s.1

pub started_rest : (calls : List SpawnCall) (n : ℕ) (starts : List AppStart) (stands : List Stand) → length starts ≡ length stands → AreStartedIn calls starts stands → AreStartedIn calls (take (length (rest_of n stands)) (rest_of n starts)) (rest_of n stands)
started_rest calls n starts stands each s =
    let long : length (rest_of n starts) ≤ length (rest_of n stands) = omega (arith, ap length (rest_is n starts), ap length (rest_is n stands), length-drop n starts, length-drop n stands, each) in
    subst (λ (l : List AppStart). AreStartedIn calls l (rest_of n stands)) (sym (take_all (length (rest_of n stands)) (rest_of n starts) long))
    (subst (λ (l : List Stand). AreStartedIn calls (rest_of n starts) l) (sym (rest_is n stands)) (subst (λ (l : List AppStart). AreStartedIn calls l (drop n stands)) (sym (rest_is n starts)) (started_drop calls n starts stands s)))

pub rests_each : (n : ℕ) (starts : List AppStart) (stands : List Stand) → length starts ≡ length stands → length (rest_of n stands) ≤ length (rest_of n starts)
rests_each n starts stands each = omega (arith, ap length (rest_is n starts), ap length (rest_is n stands), length-drop n starts, length-drop n stands, each)

-- those behind the one that was cut short
pub others_are : {observed : Bool} {a b : SpawnerAt} (starts : List AppStart) (stands : List Stand) (n : ℕ) (e : AreEndsCut observed starts stands n a b) → rest_of n stands ≡ e.others
others_are starts stands n e = rest_is n stands ∙ (ap (λ (k : ℕ). drop k stands) e.counted ∙ (ap (λ (l : List Stand). drop (length e.ended + 1) l) e.stood ∙ drop-append-add e.ended (e.stand ∷ e.others) 1))

-- as many stands as apps that have begun
pub begun_each : {observed : Bool} {a b : SpawnerAt} (starts : List AppStart) (stands : List Stand) → HaveBegun observed starts stands a b → length starts ≡ length stands
begun_each starts stands h = sym (ap length h.apps) ∙ (length-map h.begun (λ b. b.app) ∙ (sym (length-map h.begun app_state_of) ∙ sym (ap length h.stand)))

pub broken_each : {observed : Bool} {a b : SpawnerAt} (starts : List AppStart) (stands : List Stand) → AreInterrupted observed starts stands a b → length stands ≤ length starts
broken_each starts stands o = omega (arith, ap length o.parted, length-append o.done (o.next ∷ o.rest), begun_each o.done stands o.begun)
