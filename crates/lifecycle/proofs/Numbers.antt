-- Two locations where one folder stands are one.
use Rattle.std.proofs.Common.{arith, ◌≡◌, ◌≤◌, ◌+◌, ℕ, Bool, true, false, cond, Option, Some, None, unwrap_or, List, [], ◌∷◌, refl, sym, ap, ◌∙◌}
use Rattle.std.specs.List.{position_from}
use Rattle.std.proofs.lemmas.Iterator.Adapters.{position_from-zero}
use Rattle.dir_model.specs.declared.spot.Spot.{Spot}
use Rattle.dir_model.specs.State.{spot_eq, Namespace, folder_at, is_at}
use Rattle.lifecycle.proofs.Places.{spot_left}

number : {a b : ℕ} → Some a ≡ Some b → a ≡ b
number {a} {b} e = ap (λ o. unwrap_or o a) e

-- none before the place where the list starts
late : {X : Type 0} (t : X → Bool) (i f : ℕ) (xs : List X) → position_from t i xs ≡ Some f → i ≤ f
late t i f [] h = cc
late t i f (x ∷ xs) h = by (t x) h (λ k. late t (i + 1) f xs k)
  where
    by : (b : Bool) → cond b (Some i) (position_from t (i + 1) xs) ≡ Some f →
        (position_from t (i + 1) xs ≡ Some f → i + 1 ≤ f) → i ≤ f
    by true h go = let e : i ≡ f = number h in omega (arith, e)
    by false h go = let l : i + 1 ≤ f = go h in omega (arith, l)

one_place : {X : Type 0} (t r : X → Bool) (i f : ℕ) (xs : List X) → position_from t i xs ≡ Some f →
    position_from r i xs ≡ Some f → (x : X) × ((t x ≡ true) × (r x ≡ true))
one_place t r i f [] h k = cc
one_place {X} t r i f (x ∷ xs) h k = by (t x) (r x) refl refl h k (λ a b. one_place t r (i + 1) f xs a b)
  where
    clash : {Y : Type 0} (s : X → Bool) → Some i ≡ Some f → position_from s (i + 1) xs ≡ Some f → Y
    clash s e k = let is : i ≡ f = number e in let l : i + 1 ≤ f = late s (i + 1) f xs k in absurd (omega (arith, is, l))

    by : (b c : Bool) → t x ≡ b → r x ≡ c → cond b (Some i) (position_from t (i + 1) xs) ≡ Some f →
        cond c (Some i) (position_from r (i + 1) xs) ≡ Some f →
        (position_from t (i + 1) xs ≡ Some f → position_from r (i + 1) xs ≡ Some f →
        (y : X) × ((t y ≡ true) × (r y ≡ true))) → (y : X) × ((t y ≡ true) × (r y ≡ true))
    by true true e g h k go = (x, (e, g))
    by true false e g h k go = clash r h k
    by false true e g h k go = clash t k h
    by false false e g h k go = go h k

pub one_spot : (n : Namespace) (a b : Spot) (f : ℕ) → folder_at n a ≡ Some f → folder_at n b ≡ Some f → spot_eq a b ≡ true
one_spot n a b f h k = by (one_place (is_at a) (is_at b) 0 f n.folders
    (sym (position_from-zero (is_at a) n.folders) ∙ h) (sym (position_from-zero (is_at b) n.folders) ∙ k))
  where
    at : (x : Option Spot) → is_at a x ≡ true → is_at b x ≡ true → spot_eq a b ≡ true
    at (Some here) h k = sym (spot_left here a b h) ∙ k
    at None h k = cc

    by : (x : Option Spot) × ((is_at a x ≡ true) × (is_at b x ≡ true)) → spot_eq a b ≡ true
    by (x, (h, k)) = at x h k
