-- Lists that are made element by element.
use Rattle.std.proofs.Common.{◌≡◌, ℕ, ◌+◌, ◌<◌, List, [], ◌∷◌, ◌++◌, Option, Some, IsSome, Result, Ok, IsOk, length, map, take, drop, get_or, sym, ◌∙◌, ap, subst, refl}
use Rattle.std.specs.List.{All}
use Rattle.std.proofs.lemmas.List.{take_more, drop_more, map-append, length-map, take-append-drop}
use Rattle.std.proofs.lemmas.List.Elements.{All-cons, All-nil}
use Rattle.plain_laws.proofs.Lists.{head_of, tail_of}

-- one element more on both sides
pub mapped_more : {A B C : Type 0} (f : A → C) (g : B → C) (xs : List A) (i : ℕ) (d x : A) (ys : List B) (y : B) → i < length xs → x ≡ get_or xs i d
    → map f (take i xs) ≡ map g ys → f x ≡ g y → map f (take (i + 1) xs) ≡ map g (ys ++ y ∷ [])
mapped_more {A} {B} {C} f g xs i d x ys y more is before here =
    ap (map f) (take_more xs i d more ∙ ap (λ (z : A). take i xs ++ z ∷ []) (sym is))
    ∙ map-append f (take i xs) (x ∷ [])
    ∙ ap (λ (zs : List C). zs ++ f x ∷ []) before
    ∙ ap (λ (z : C). map g ys ++ z ∷ []) here
    ∙ sym (map-append g ys (y ∷ []))

-- a list is what was gone through, the element now and the rest
pub split_at : {A : Type 0} (xs : List A) (i : ℕ) (d x : A) → i < length xs → x ≡ get_or xs i d → xs ≡ take i xs ++ x ∷ drop (i + 1) xs
split_at {A} xs i d x more is =
    sym (take-append-drop i xs)
    ∙ ap (λ (rest : List A). take i xs ++ rest) (drop_more xs i d more ∙ ap (λ (z : A). z ∷ drop (i + 1) xs) (sym is))

-- both lists are equally long
pub mapped_length : {A B C : Type 0} (f : A → C) (g : B → C) (xs : List A) (ys : List B) → map f xs ≡ map g ys → length ys ≡ length xs
mapped_length {A} {B} {C} f g xs ys is = sym (length-map ys g) ∙ (ap (λ (zs : List C). length zs) (sym is) ∙ length-map xs f)

-- each of them is there
pub all_some : {A B : Type 0} (f : A → Option B) (xs : List A) (ys : List B) → map f xs ≡ map Some ys → All (λ x. IsSome (f x)) xs
all_some f [] ys is = All-nil (λ x. IsSome (f x))
all_some f (x ∷ xs) [] is = absurd cc
all_some {A} {B} f (x ∷ xs) (y ∷ ys) is =
    All-cons (λ (a : A). IsSome (f a)) x xs (subst (λ (o : Option B). IsSome o) (sym (head_of (f x) (Some y) (map f xs) (map Some ys) is)) refl)
    (all_some f xs ys (tail_of (f x) (Some y) (map f xs) (map Some ys) is))

-- none of them failed
pub all_ok : {A B E X : Type 0} (f : A → Result X E) (g : B → X) (xs : List A) (ys : List B) → map f xs ≡ map (λ y. Ok (g y)) ys → All (λ x. IsOk (f x)) xs
all_ok f g [] ys is = All-nil (λ x. IsOk (f x))
all_ok f g (x ∷ xs) [] is = absurd cc
all_ok {A} {B} {E} {X} f g (x ∷ xs) (y ∷ ys) is =
    All-cons (λ (a : A). IsOk (f a)) x xs (subst (λ (o : Result X E). IsOk o) (sym (head_of (f x) (Ok (g y)) (map f xs) (map (λ y. Ok (g y)) ys) is)) refl)
    (all_ok f g xs ys (tail_of (f x) (Ok (g y)) (map f xs) (map (λ y. Ok (g y)) ys) is))
