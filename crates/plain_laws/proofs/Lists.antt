-- Laws of lists, of any items.
use Rattle.std.proofs.Common.{arith, ◌≡◌, ◌⊎◌, inl, inr, ◌+◌, ◌-◌, ◌<◌, ◌≤◌, min, ℕ, zero, suc, Bool, true, false, not, ◌||◌, cond, Some, is_some, List, [], ◌∷◌, ◌++◌, length, map, filter, take, drop, get_or, slice_get, refl, sym, ap, ◌∙◌}
use Rattle.std.specs.List.{list_any, AllByRecursion, position, position_from}
use Rattle.std.proofs.lemmas.Grind.{common_steps}
use Rattle.std.proofs.lemmas.List.{take_more, drop_more}
use Rattle.std.proofs.lemmas.List.Quantifiers.{position-Some}
use Rattle.plain_laws.proofs.Booleans.{or_none, or_assoc}

-- some item passes

pub any_left : {X : Type 0} (t : X → Bool) (xs ys : List X) → list_any t xs ≡ true → list_any t (xs ++ ys) ≡ true
any_left t [] ys h = cc
any_left t (x ∷ xs) ys h = by (t x) h (λ later. any_left t xs ys later)
  where
    by : (b : Bool) → (b || list_any t xs) ≡ true → (list_any t xs ≡ true → list_any t (xs ++ ys) ≡ true) → (b || list_any t (xs ++ ys)) ≡ true
    by true h rest = refl
    by false h rest = rest h

pub any_right : {X : Type 0} (t : X → Bool) (xs ys : List X) → list_any t ys ≡ true → list_any t (xs ++ ys) ≡ true
any_right t [] ys h = h
any_right t (x ∷ xs) ys h = by (t x) (any_right t xs ys h)
  where
    by : (b : Bool) → list_any t (xs ++ ys) ≡ true → (b || list_any t (xs ++ ys)) ≡ true
    by true rest = refl
    by false rest = rest

pub any_parts : {X : Type 0} (t : X → Bool) (xs ys : List X) → list_any t (xs ++ ys) ≡ true → (list_any t xs ≡ true) ⊎ (list_any t ys ≡ true)
any_parts t [] ys h = inr h
any_parts t (x ∷ xs) ys h = by (t x) (λ later. any_parts t xs ys later) h
  where
    by : (b : Bool) → (list_any t (xs ++ ys) ≡ true → (list_any t xs ≡ true) ⊎ (list_any t ys ≡ true)) → (b || list_any t (xs ++ ys)) ≡ true → ((b || list_any t xs) ≡ true) ⊎ (list_any t ys ≡ true)
    by true later h = inl refl
    by false later h = later h

-- where each that passes one test passes the other
pub any_wider : {X : Type 0} (t q : X → Bool) → ((x : X) → t x ≡ true → q x ≡ true) → (xs : List X) → list_any t xs ≡ true → list_any q xs ≡ true
any_wider t q only [] h = cc
any_wider {X} t q only (x ∷ xs) h = by (t x) (q x) (only x) h (any_wider t q only xs)
  where
    by : (a b : Bool) → (a ≡ true → b ≡ true) → (a || list_any t xs) ≡ true → (list_any t xs ≡ true → list_any q xs ≡ true) → (b || list_any q xs) ≡ true
    by a true f h rest = refl
    by true false f h rest = let e : false ≡ true = f refl in cc
    by false false f h rest = rest h

-- some item passes one test, and none another
pub any_but : {X : Type 0} (t bad q : X → Bool) → ((x : X) → t x ≡ true → bad x ≡ false → q x ≡ true) → (xs : List X) → list_any bad xs ≡ false → list_any t xs ≡ true → list_any q xs ≡ true
any_but t bad q only [] none h = cc
any_but t bad q only (x ∷ xs) none h = by (t x) (bad x) (q x) (only x) none h (λ rest more. any_but t bad q only xs rest more)
  where
    by : (a b c : Bool) → (a ≡ true → b ≡ false → c ≡ true) → (b || list_any bad xs) ≡ false → (a || list_any t xs) ≡ true
        → (list_any bad xs ≡ false → list_any t xs ≡ true → list_any q xs ≡ true) → (c || list_any q xs) ≡ true
    by a b true f n k go = refl
    by true false false f n k go = let e : false ≡ true = f refl refl in cc
    by false false false f n k go = go n k
    by a true c f n k go = cc

pub any_added : {X : Type 0} (t : X → Bool) (xs : List X) (y : X) → list_any t (xs ++ y ∷ []) ≡ (list_any t xs || t y)
any_added t [] y = or_none (t y)
any_added t (x ∷ xs) y = ap (λ b. t x || b) (any_added t xs y) ∙ or_assoc (t x) (list_any t xs) (t y)

-- what a filter leaves

pub any_filtered : {X : Type 0} (t q : X → Bool) (xs : List X) → list_any t (filter q xs) ≡ true → list_any t xs ≡ true
any_filtered t q [] h = h
any_filtered t q (x ∷ xs) h = by (t x) (q x) refl (λ later. any_filtered t q xs later) h
  where
    by : (a b : Bool) → t x ≡ a → (list_any t (filter q xs) ≡ true → list_any t xs ≡ true) → list_any t (cond b (x ∷ filter q xs) (filter q xs)) ≡ true → (a || list_any t xs) ≡ true
    by true b is later h = refl
    by false true is later h = later (sym (ap (λ c. c || list_any t (filter q xs)) is) ∙ h)
    by false false is later h = later h

pub none_of_filter : {X : Type 0} (t q : X → Bool) (xs : List X) → list_any t xs ≡ false → list_any t (filter q xs) ≡ false
none_of_filter t q [] none = refl
none_of_filter t q (x ∷ xs) none = by (t x) (q x) refl none (λ rest. none_of_filter t q xs rest)
  where
    by : (a b : Bool) → t x ≡ a → (a || list_any t xs) ≡ false → (list_any t xs ≡ false → list_any t (filter q xs) ≡ false) → list_any t (cond b (x ∷ filter q xs) (filter q xs)) ≡ false
    by true b is n go = cc
    by false true is n go = ap (λ c. c || list_any t (filter q xs)) is ∙ go n
    by false false is n go = go n

pub filter_kept : {X : Type 0} (p : X → Bool) (xs : List X) → list_any p xs ≡ false → filter (λ x. not (p x)) xs ≡ xs
filter_kept p [] none = refl
filter_kept p (x ∷ xs) none = by (p x) none (λ rest. filter_kept p xs rest)
  where
    by : (b : Bool) → (b || list_any p xs) ≡ false → (list_any p xs ≡ false → filter (λ y. not (p y)) xs ≡ xs) → cond (not b) (x ∷ filter (λ y. not (p y)) xs) (filter (λ y. not (p y)) xs) ≡ x ∷ xs
    by true none rest = cc
    by false none rest = ap (λ l. x ∷ l) (rest none)

-- a list without what is kept anyway
pub filter_twice : {X : Type 0} (p q : X → Bool) → ((x : X) → p x ≡ true → q x ≡ true) → (xs : List X) → filter p (filter q xs) ≡ filter p xs
filter_twice p q keeps [] = refl
filter_twice {X} p q keeps (x ∷ xs) = by (p x) (q x) refl (keeps x) (filter_twice p q keeps xs)
  where
    by : (a b : Bool) → p x ≡ a → (a ≡ true → b ≡ true) → filter p (filter q xs) ≡ filter p xs → filter p (cond b (x ∷ filter q xs) (filter q xs)) ≡ cond a (x ∷ filter p xs) (filter p xs)
    by true true e f go = rw e (ap (λ (l : List X). x ∷ l) go)
    by true false e f go = let clash : false ≡ true = f refl in cc
    by false true e f go = rw e go
    by false false e f go = go

-- none passes, the last neither

pub none_before : {X : Type 0} (t : X → Bool) (xs : List X) (y : X) → list_any t (xs ++ y ∷ []) ≡ false → list_any t xs ≡ false
none_before t xs y none = by (list_any t xs) (λ is. any_left t xs (y ∷ []) is)
  where
    by : (b : Bool) → (b ≡ true → list_any t (xs ++ y ∷ []) ≡ true) → b ≡ false
    by true f = let clash : true ≡ false = sym (f refl) ∙ none in cc
    by false f = refl

pub none_last : {X : Type 0} (t : X → Bool) (xs : List X) (y : X) → list_any t (xs ++ y ∷ []) ≡ false → t y ≡ false
none_last t xs y none = by (t y) (λ is. any_right t xs (y ∷ []) (or_none (t y) ∙ is))
  where
    by : (b : Bool) → (b ≡ true → list_any t (xs ++ y ∷ []) ≡ true) → b ≡ false
    by true f = let clash : true ≡ false = sym (f refl) ∙ none in cc
    by false f = refl

-- the place of an item

pub some_position : {X : Type 0} (t : X → Bool) (i : ℕ) (xs : List X) → is_some (position_from t i xs) ≡ list_any t xs
some_position t i [] = refl
some_position t i (x ∷ xs) = by (t x) (some_position t (i + 1) xs)
  where
    by : (b : Bool) → is_some (position_from t (i + 1) xs) ≡ list_any t xs → is_some (cond b (Some i) (position_from t (i + 1) xs)) ≡ (b || list_any t xs)
    by true go = refl
    by false go = go

pub position_within : {X : Type 0} (p : X → Bool) (xs : List X) (i : ℕ) → position p xs ≡ Some i → i < length xs
position_within p [] i h = absurd (cc)
position_within p (x ∷ xs) i h = (position-Some p (x ∷ xs) i x h).0

pub at_place : {X : Type 0} (before rest : List X) (x : X) → slice_get (before ++ x ∷ rest) (length before) ≡ Some x
at_place [] rest x = refl
at_place (y ∷ before) rest x = at_place before rest x

pub get_pushed : {X : Type 0} (xs : List X) (z y : X) (k : ℕ) → slice_get xs k ≡ Some y → slice_get (xs ++ z ∷ []) k ≡ Some y
get_pushed [] z y k e = cc
get_pushed (x ∷ xs) z y zero e = e
get_pushed (x ∷ xs) z y (suc k) e = get_pushed xs z y k e

-- the elements up to a place with the one there, and the one there with those behind
pub take_next : {A : Type 0} (xs : List A) (i : ℕ) (x : A) → i < length xs → x ≡ get_or xs i x → take (i + 1) xs ≡ take i xs ++ x ∷ []
take_next {A} xs i x within is = take_more xs i x within ∙ ap (λ (y : A). take i xs ++ y ∷ []) (sym is)

pub next_item : {A : Type 0} (xs : List A) (i : ℕ) (x : A) → i < length xs → x ≡ get_or xs i x → drop i xs ≡ x ∷ drop (i + 1) xs
next_item {A} xs i x within is = drop_more xs i x within ∙ ap (λ (y : A). y ∷ drop (i + 1) xs) (sym is)

-- lists that are the same

pub both_lists : {X : Type 0} (a b : X) (xs ys : List X) → a ≡ b → xs ≡ ys → a ∷ xs ≡ b ∷ ys
both_lists a b xs ys is are = cc

pub head_of : {X : Type 0} (a b : X) (xs ys : List X) → a ∷ xs ≡ b ∷ ys → a ≡ b
head_of a b xs ys is = cc

pub tail_of : {X : Type 0} (a b : X) (xs ys : List X) → a ∷ xs ≡ b ∷ ys → xs ≡ ys
tail_of a b xs ys is = cc

-- what a map gives

pub map_both : {X Y : Type 0} (f : X → Y) (xs ys : List X) → map f (xs ++ ys) ≡ map f xs ++ map f ys
map_both f [] ys = refl
map_both f (x ∷ xs) ys = ap (λ l. f x ∷ l) (map_both f xs ys)

pub all_mapped : {X Y : Type 0} (P : Y → Type 0) (f : X → Y) (xs : List X) → AllByRecursion (λ x. P (f x)) xs → AllByRecursion P (map f xs)
all_mapped P f [] all = tt
all_mapped P f (x ∷ xs) all = (all.0, all_mapped P f xs all.1)

-- what is taken of a list

pub all_taken : {X : Type 0} (k : ℕ) (xs : List X) → take (length xs - k) (drop k xs) ≡ drop k xs
all_taken k xs = grind (arith, common_steps)

pub within_most : {X : Type 0} (new l w r n most : ℕ) (room : List X) → new ≤ l + length (take w room) → w ≡ min r (most - n) → n ≡ l → l ≤ most → new ≤ most
within_most new l w r n most room more wanted same within = grind (arith, common_steps)
