-- Each key of a list is known, or that of one of the new elements.
use Rattle.std.proofs.Common.{◌≡◌, ℕ, Bool, true, false, not, ◌||◌, cond, List, [], ◌∷◌, ◌++◌, map, get_or, refl, ◌∙◌, ap}
use Rattle.std.specs.List.{All, filter}
use Rattle.std.specs.Str.{bytes_eq}
use Rattle.std.specs.Cmp.Lexicographic.{bytes_decides}
use Rattle.std.proofs.lemmas.Bool.{or_left, or_right}
use Rattle.std.proofs.lemmas.List.Elements.{All-nil, All-cons}
use Rattle.std.proofs.lemmas.List.Folds.{list_any-append}
use Rattle.ac_types.specs.SeenTexts.{is_among}
use Rattle.pod_manifest.specs.FirstOfEach.{first_of_each, new_of_each}

-- a filter that lets pass each element of a key
filter_keeps : {A : Type 0} (key : A → List ℕ) (k : List ℕ) (test : A → Bool) (ys : List A)
    → ((y : A) → bytes_eq (key y) k ≡ true → test y ≡ true) → is_among k (map key ys) ≡ true → is_among k (map key (filter test ys)) ≡ true
filter_keeps key k test [] passes h = h
filter_keeps {A} key k test (y ∷ ys) passes h =
    by (bytes_eq (key y) k) refl (test y) refl (filter_keeps key k test ys passes) h
  where
    by : (same : Bool) → bytes_eq (key y) k ≡ same → (b : Bool) → test y ≡ b
        → (is_among k (map key ys) ≡ true → is_among k (map key (filter test ys)) ≡ true) → (same || is_among k (map key ys)) ≡ true
        → is_among k (map key (cond b (y ∷ filter test ys) (filter test ys))) ≡ true
    by true is true pass rest g = or_left (bytes_eq (key y) k) _ is
    by true is false pass rest g = let passed : test y ≡ true = passes y is in cc
    by false is true pass rest g = or_right (bytes_eq (key y) k) _ (rest g)
    by false is false pass rest g = rest g

first_keeps : {A : Type 0} (key : A → List ℕ) (k : List ℕ) (xs : List A) → is_among k (map key xs) ≡ true
    → is_among k (map key (first_of_each key xs)) ≡ true
first_keeps key k [] h = h
first_keeps {A} key k (x ∷ xs) h = by (bytes_eq (key x) k) refl (first_keeps key k xs) h
  where
    test : A → Bool
    test y = not (bytes_eq (key x) (key y))

    by : (same : Bool) → bytes_eq (key x) k ≡ same → (is_among k (map key xs) ≡ true → is_among k (map key (first_of_each key xs)) ≡ true)
        → (same || is_among k (map key xs)) ≡ true
        → (bytes_eq (key x) k || is_among k (map key (filter (λ (y : A). not (bytes_eq (key x) (key y))) (first_of_each key xs)))) ≡ true
    by true is rest g = or_left (bytes_eq (key x) k) _ is
    by false is rest g =
        or_right (bytes_eq (key x) k) _
        (filter_keeps key k (λ (y : A). not (bytes_eq (key x) (key y))) (first_of_each key xs)
        (λ y same. ap (λ (t : List ℕ). not (bytes_eq (key x) t)) ((bytes_decides (key y) k).0 same) ∙ ap not is) (rest g))

-- a key that isn't known is that of a new element
new_keeps : {A : Type 0} (key : A → List ℕ) (known : List (List ℕ)) (k : List ℕ) (xs : List A) → is_among k known ≡ false
    → is_among k (map key xs) ≡ true → is_among k (map key (new_of_each key known xs)) ≡ true
new_keeps {A} key known k xs unknown h =
    filter_keeps key k (λ (x : A). not (is_among (key x) known)) (first_of_each key xs)
    (λ y same. ap (λ (t : List ℕ). not (is_among t known)) ((bytes_decides (key y) k).0 same) ∙ ap not unknown) (first_keeps key k xs h)

pub all_present : {A : Type 0} (key : A → List ℕ) (known : List (List ℕ)) (k : List ℕ) (xs : List A) → is_among k (map key xs) ≡ true
    → is_among k (known ++ map key (new_of_each key known xs)) ≡ true
all_present {A} key known k xs h =
    list_any-append (λ (t : List ℕ). bytes_eq t k) known (map key (new_of_each key known xs)) ∙ by (is_among k known) refl
  where
    by : (b : Bool) → is_among k known ≡ b → (is_among k known || is_among k (map key (new_of_each key known xs))) ≡ true
    by true is = or_left (is_among k known) _ is
    by false is = or_right (is_among k known) _ (new_keeps key known k xs is h)

itself : (t : List ℕ) → bytes_eq t t ≡ true
itself t = (bytes_decides t t).1 refl

-- each element's key is among the keys
pub own_key : {A : Type 0} (key : A → List ℕ) (xs : List A) → All (λ x. is_among (key x) (map key xs) ≡ true) xs
own_key {A} key [] = All-nil (λ (x : A). is_among (key x) [] ≡ true)
own_key {A} key (x ∷ xs) =
    All-cons (λ (y : A). is_among (key y) (map key (x ∷ xs)) ≡ true) x xs (or_left (bytes_eq (key x) (key x)) _ (itself (key x)))
    (λ k d within. or_right (bytes_eq (key x) (key (get_or xs k d))) _ (own_key key xs k d within))
