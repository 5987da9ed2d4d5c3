-- Laws of tests and of lists that every crate above cites.
use Rattle.std.proofs.Common.{arith, ◌≡◌, ℕ, Bool, true, false, not, ◌&&◌, ◌||◌, ◌==◌, cond, List, [], ◌∷◌, ◌++◌, map, filter, refl, sym, ap, ◌∙◌, rules}
use Rattle.std.specs.List.{list_any, AllByRecursion}
use Rattle.std.proofs.lemmas.Bool.Decides.{nat_tests}

-- tests

pub and_left : (a b : Bool) → (a && b) ≡ true → a ≡ true
and_left true b h = refl
and_left false b h = cc

pub and_right : (a b : Bool) → (a && b) ≡ true → b ≡ true
and_right true b h = h
and_right false b h = cc

pub and_both : (a b : Bool) → a ≡ true → b ≡ true → (a && b) ≡ true
and_both a b p q = rw (p, q) refl

pub and_false : (a : Bool) → (a && false) ≡ false
and_false true = refl
and_false false = refl

pub not_true : (b : Bool) → not b ≡ true → b ≡ false
not_true true h = cc
not_true false h = refl

pub or_true : (a : Bool) → (a || true) ≡ true
or_true true = refl
or_true false = refl

pub or_none : (a b : Bool) → a ≡ false → b ≡ false → (a || b) ≡ false
or_none a b p q = rw (p, q) refl

pub or_left_false : (a b : Bool) → (a || b) ≡ false → a ≡ false
or_left_false true b h = cc
or_left_false false b h = refl

pub or_right_false : (a b : Bool) → (a || b) ≡ false → b ≡ false
or_right_false true b h = cc
or_right_false false b h = h

pub or_second : (a b : Bool) → (a || b) ≡ true → a ≡ false → b ≡ true
or_second true b h not_a = cc
or_second false b h not_a = h

pub or_map : (b c d : Bool) → (c ≡ true → d ≡ true) → (b || c) ≡ true → (b || d) ≡ true
or_map true c d f h = refl
or_map false c d f h = f h

pub or_else : (b c : Bool) → (b ≡ true → ⊥) → (b || c) ≡ true → c ≡ true
or_else true c never h = absurd (never refl)
or_else false c never h = h

pub or_last : (b c : Bool) → c ≡ true → (b || c) ≡ true
or_last true c h = refl
or_last false c h = h

pub same_self : (n : ℕ) → (n == n) ≡ true
same_self n = search rules

pub same_number : (n m : ℕ) → (n == m) ≡ true → n ≡ m
same_number n m h = grind (arith, nat_tests)

pub apart_clash : (a p me : ℕ) → (a == p) ≡ true → (a == me) ≡ true → (p == me) ≡ false → ⊥
apart_clash a p me x y z = grind (arith, nat_tests)

-- some item passes

pub any_push : {X : Type 0} (t : X → Bool) (xs : List X) (y : X) → list_any t xs ≡ true → list_any t (xs ++ y ∷ []) ≡ true
any_push t [] y h = cc
any_push t (x ∷ xs) y h = or_map (t x) (list_any t xs) (list_any t (xs ++ y ∷ [])) (λ later. any_push t xs y later) h

pub any_last : {X : Type 0} (t : X → Bool) (xs : List X) (y : X) → t y ≡ true → list_any t (xs ++ y ∷ []) ≡ true
any_last t [] y h = rw h refl
any_last t (x ∷ xs) y h = or_last (t x) (list_any t (xs ++ y ∷ [])) (any_last t xs y h)

pub any_last_not : {X : Type 0} (t : X → Bool) (xs : List X) (y : X) → t y ≡ false → list_any t (xs ++ y ∷ []) ≡ list_any t xs
any_last_not t [] y h = rw h refl
any_last_not t (x ∷ xs) y h = rw (any_last_not t xs y h) refl

pub any_kept : {X : Type 0} (t : X → Bool) (x : X) (xs ys : List X) (d : Bool) → (t x ≡ true → d ≡ true) → (list_any t xs ≡ true → list_any t ys ≡ true) → (t x || list_any t xs) ≡ true → list_any t (cond d (x ∷ ys) ys) ≡ true
any_kept t x xs ys true k later h = or_map (t x) (list_any t xs) (list_any t ys) later h
any_kept t x xs ys false k later h = later (or_else (t x) (list_any t xs) (λ yes_it_is. let e : false ≡ true = k yes_it_is in cc) h)

pub any_filter : {X : Type 0} (t q : X → Bool) (keeps : (x : X) → t x ≡ true → q x ≡ true) (xs : List X) → list_any t xs ≡ true → list_any t (filter q xs) ≡ true
any_filter t q keeps [] h = h
any_filter t q keeps (x ∷ xs) h = any_kept t x xs (filter q xs) (q x) (keeps x) (λ later. any_filter t q keeps xs later) h

pub any_map : {X : Type 0} (t : X → Bool) (f : X → X) (same : (x : X) → t (f x) ≡ t x) (xs : List X) → list_any t (map f xs) ≡ list_any t xs
any_map t f same [] = refl
any_map t f same (x ∷ xs) = rw (same x, any_map t f same xs) refl

-- a test of what a map gives is a test of what it is given
pub any_of_map : {X Y : Type 0} (f : X → Y) (t : Y → Bool) (xs : List X) → list_any t (map f xs) ≡ list_any (λ x. t (f x)) xs
any_of_map f t [] = refl
any_of_map f t (x ∷ xs) = ap (λ b. t (f x) || b) (any_of_map f t xs)

-- where a test passes only if another does, and that one never
pub any_fewer : {X : Type 0} (t q : X → Bool) (only : (x : X) → t x ≡ true → q x ≡ true) (xs : List X) → list_any q xs ≡ false → list_any t xs ≡ false
any_fewer t q only [] h = refl
any_fewer t q only (x ∷ xs) h = or_none (t x) (list_any t xs) (by (t x) refl) (any_fewer t q only xs (or_right_false (q x) (list_any q xs) h))
  where
    by : (b : Bool) → t x ≡ b → t x ≡ false
    by true is = let e : false ≡ true = sym (or_left_false (q x) (list_any q xs) h) ∙ only x is in cc
    by false is = is

-- each item has a property

pub all_left : {X : Type 0} (P : X → Type 0) (xs ys : List X) → AllByRecursion P (xs ++ ys) → AllByRecursion P xs
all_left P [] ys a = tt
all_left P (x ∷ xs) ys a = (a.0, all_left P xs ys a.1)

pub all_right : {X : Type 0} (P : X → Type 0) (xs ys : List X) → AllByRecursion P (xs ++ ys) → AllByRecursion P ys
all_right P [] ys a = a
all_right P (x ∷ xs) ys a = all_right P xs ys a.1

pub all_both : {X : Type 0} (P : X → Type 0) (xs ys : List X) → AllByRecursion P xs → AllByRecursion P ys → AllByRecursion P (xs ++ ys)
all_both P [] ys a b = b
all_both P (x ∷ xs) ys a b = (a.0, all_both P xs ys a.1 b)

pub all_weaker : {X : Type 0} (P Q : X → Type 0) (f : (x : X) → P x → Q x) (xs : List X) → AllByRecursion P xs → AllByRecursion Q xs
all_weaker P Q f [] a = tt
all_weaker P Q f (x ∷ xs) a = (f x a.0, all_weaker P Q f xs a.1)

pub all_push : {X : Type 0} (P : X → Type 0) (xs : List X) (y : X) → AllByRecursion P xs → P y → AllByRecursion P (xs ++ y ∷ [])
all_push P [] y a p = (p, tt)
all_push P (x ∷ xs) y a p = (a.0, all_push P xs y a.1 p)

pub all_map : {X : Type 0} (P : X → Type 0) (f : X → X) (keeps : (x : X) → P x → P (f x)) (xs : List X) → AllByRecursion P xs → AllByRecursion P (map f xs)
all_map P f keeps [] a = a
all_map P f keeps (x ∷ xs) a = (keeps x a.0, all_map P f keeps xs a.1)

pub all_filter : {X : Type 0} (P : X → Type 0) (q : X → Bool) (xs : List X) → AllByRecursion P xs → AllByRecursion P (filter q xs)
all_filter P q [] a = a
all_filter P q (x ∷ xs) a = step (q x) a.0 (all_filter P q xs a.1)
  where
    step : (d : Bool) → P x → AllByRecursion P (filter q xs) → AllByRecursion P (cond d (x ∷ filter q xs) (filter q xs))
    step true p rest = (p, rest)
    step false p rest = rest

-- the list that was appended is one
pub same_rest : {X : Type 0} (xs ys zs : List X) → xs ++ ys ≡ xs ++ zs → ys ≡ zs
same_rest [] ys zs h = h
same_rest (x ∷ xs) ys zs h = same_rest xs ys zs cc

-- a filter that passes all, and one that passes all but the last

pub filter_all : {X : Type 0} (q : X → Bool) (xs : List X) → list_any (λ x. not (q x)) xs ≡ false → filter q xs ≡ xs
filter_all q [] none = refl
filter_all q (x ∷ xs) none = by (q x) (or_left_false (not (q x)) (list_any (λ y. not (q y)) xs) none) (filter_all q xs (or_right_false (not (q x)) (list_any (λ y. not (q y)) xs) none))
  where
    by : (b : Bool) → not b ≡ false → filter q xs ≡ xs → cond b (x ∷ filter q xs) (filter q xs) ≡ x ∷ xs
    by true is rest = ap (λ l. x ∷ l) rest
    by false is rest = cc

pub filter_push : {X : Type 0} (q : X → Bool) (xs : List X) (y : X) → q y ≡ true → filter q (xs ++ y ∷ []) ≡ filter q xs ++ y ∷ []
filter_push q [] y is = rw is refl
filter_push q (x ∷ xs) y is = by (q x) (filter_push q xs y is)
  where
    by : (b : Bool) → filter q (xs ++ y ∷ []) ≡ filter q xs ++ y ∷ [] → cond b (x ∷ filter q (xs ++ y ∷ [])) (filter q (xs ++ y ∷ [])) ≡ cond b (x ∷ filter q xs) (filter q xs) ++ y ∷ []
    by true rest = ap (λ l. x ∷ l) rest
    by false rest = rest

pub filter_past : {X : Type 0} (q : X → Bool) (xs : List X) (y : X) → q y ≡ false → filter q (xs ++ y ∷ []) ≡ filter q xs
filter_past q [] y is = rw is refl
filter_past q (x ∷ xs) y is = by (q x) (filter_past q xs y is)
  where
    by : (b : Bool) → filter q (xs ++ y ∷ []) ≡ filter q xs → cond b (x ∷ filter q (xs ++ y ∷ [])) (filter q (xs ++ y ∷ [])) ≡ cond b (x ∷ filter q xs) (filter q xs)
    by true rest = ap (λ l. x ∷ l) rest
    by false rest = rest

pub map_push : {X Y : Type 0} (f : X → Y) (xs : List X) (y : X) → map f (xs ++ y ∷ []) ≡ map f xs ++ f y ∷ []
map_push f [] y = refl
map_push f (x ∷ xs) y = ap (λ l. f x ∷ l) (map_push f xs y)
