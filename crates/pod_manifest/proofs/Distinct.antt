-- Lists in which each key comes once.
use Rattle.std.proofs.Common.{◌≡◌, ℕ, Bool, true, false, not, cond, List, [], ◌∷◌, ◌++◌, map}
use Rattle.std.specs.List.{All, AllByRecursion, IsDistinct, filter, flat_map}
use Rattle.std.specs.Str.{bytes_eq}
use Rattle.std.proofs.lemmas.Bool.{or_parts, not-true}
use Rattle.std.proofs.lemmas.List.Elements.{All-nil, All-cons, All-head, All-tail, All-append, All-filter, filter_passes, recursion_from_All}
use Rattle.ac_types.specs.SeenTexts.{is_among}
use Rattle.pod_manifest.specs.FirstOfEach.{first_of_each, new_of_each}

-- ---- what holds of each element

pub each_mapped : {A B : Type 0} (P : B → Type 0) (f : A → B) (xs : List A) → AllByRecursion (λ x. P (f x)) xs → AllByRecursion P (map f xs)
each_mapped P f [] h = tt
each_mapped P f (x ∷ xs) h = (h.0, each_mapped P f xs h.1)

pub each_appended : {A : Type 0} (P : A → Type 0) (xs ys : List A) → AllByRecursion P xs → AllByRecursion P ys → AllByRecursion P (xs ++ ys)
each_appended P [] ys h k = k
each_appended P (x ∷ xs) ys h k = (h.0, each_appended P xs ys h.1 k)

pub each_weaker : {A : Type 0} (P Q : A → Type 0) → ((x : A) → P x → Q x) → (xs : List A) → AllByRecursion P xs → AllByRecursion Q xs
each_weaker P Q weaker [] h = tt
each_weaker P Q weaker (x ∷ xs) h = (weaker x h.0, each_weaker P Q weaker xs h.1)

-- of all that lists give together
pub all_joined : {A B : Type 0} (P : B → Type 0) (f : A → List B) (xs : List A) → All (λ x. All P (f x)) xs → All P (flat_map f xs)
all_joined P f [] h = All-nil P
all_joined {A} {B} P f (x ∷ xs) h =
    All-append P (f x) (flat_map f xs) (All-head (λ (y : A). All P (f y)) x xs h)
    (all_joined P f xs (All-tail (λ (y : A). All P (f y)) x xs h))

-- of the first elements of each key
pub all_first : {A : Type 0} (P : A → Type 0) (key : A → List ℕ) (xs : List A) → All P xs → All P (first_of_each key xs)
all_first P key [] h = All-nil P
all_first {A} P key (x ∷ xs) h =
    let test : A → Bool = λ y. not (bytes_eq (key x) (key y)) in
    All-cons P x (filter test (first_of_each key xs)) (All-head P x xs h)
    (All-filter test P (first_of_each key xs) (all_first P key xs (All-tail P x xs h)))

pub all_new : {A : Type 0} (P : A → Type 0) (key : A → List ℕ) (known : List (List ℕ)) (xs : List A) → All P xs → All P (new_of_each key known xs)
all_new {A} P key known xs h =
    All-filter (λ (x : A). not (is_among (key x) known)) P (first_of_each key xs) (all_first P key xs h)

-- ---- each key once

filter_distinct : {A : Type 0} (key : A → List ℕ) (test : A → Bool) (xs : List A) → IsDistinct bytes_eq (map key xs)
    → IsDistinct bytes_eq (map key (filter test xs))
unfolding IsDistinct
filter_distinct key test [] h = tt
filter_distinct {A} key test (x ∷ xs) h =
    by (test x) (filter_distinct key test xs h.1) (kept xs h.0)
  where
    kept : (ys : List A) → AllByRecursion (λ k. bytes_eq (key x) k ≡ false) (map key ys) → AllByRecursion (λ k. bytes_eq (key x) k ≡ false) (map key (filter test ys))
    kept [] g = tt
    kept (y ∷ ys) g = by_test (test y) (kept ys g.1)
      where
        by_test : (b : Bool) → AllByRecursion (λ k. bytes_eq (key x) k ≡ false) (map key (filter test ys))
            → AllByRecursion (λ k. bytes_eq (key x) k ≡ false) (map key (cond b (y ∷ filter test ys) (filter test ys)))
        by_test true rest = (g.0, rest)
        by_test false rest = rest

    by : (b : Bool) → IsDistinct bytes_eq (map key (filter test xs)) → AllByRecursion (λ k. bytes_eq (key x) k ≡ false) (map key (filter test xs))
        → IsDistinct bytes_eq (map key (cond b (x ∷ filter test xs) (filter test xs)))
    by true rest apart = (apart, rest)
    by false rest apart = rest

first_distinct : {A : Type 0} (key : A → List ℕ) (xs : List A) → IsDistinct bytes_eq (map key (first_of_each key xs))
unfolding IsDistinct
first_distinct key [] = tt
first_distinct {A} key (x ∷ xs) =
    let test : A → Bool = λ y. not (bytes_eq (key x) (key y)) in (
      each_mapped (λ (k : List ℕ). bytes_eq (key x) k ≡ false) key (filter test (first_of_each key xs))
          (each_weaker (λ (y : A). test y ≡ true) (λ (y : A). bytes_eq (key x) (key y) ≡ false) (λ y h. not-true (bytes_eq (key x) (key y)) h)
          (filter test (first_of_each key xs))
          (recursion_from_All (λ (y : A). test y ≡ true) (filter test (first_of_each key xs)) (filter_passes test (first_of_each key xs)))),
      filter_distinct key test (first_of_each key xs) (first_distinct key xs),
    )

pub new_distinct : {A : Type 0} (key : A → List ℕ) (known : List (List ℕ)) (xs : List A) → IsDistinct bytes_eq (map key (new_of_each key known xs))
new_distinct {A} key known xs =
    filter_distinct key (λ (x : A). not (is_among (key x) known)) (first_of_each key xs) (first_distinct key xs)

-- a new key is none of those known
pub new_unknown : {A : Type 0} (key : A → List ℕ) (known : List (List ℕ)) (xs : List A)
    → AllByRecursion (λ k. is_among k known ≡ false) (map key (new_of_each key known xs))
new_unknown {A} key known xs =
    let test : A → Bool = λ x. not (is_among (key x) known) in
    each_mapped (λ (k : List ℕ). is_among k known ≡ false) key (new_of_each key known xs)
    (each_weaker (λ (x : A). test x ≡ true) (λ (x : A). is_among (key x) known ≡ false) (λ x h. not-true (is_among (key x) known) h)
    (new_of_each key known xs)
    (recursion_from_All (λ (x : A). test x ≡ true) (new_of_each key known xs) (filter_passes test (first_of_each key xs))))

-- two lists one behind the other
pub both_distinct : (ks ls : List (List ℕ)) → IsDistinct bytes_eq ks → IsDistinct bytes_eq ls
    → AllByRecursion (λ l. is_among l ks ≡ false) ls → IsDistinct bytes_eq (ks ++ ls)
unfolding IsDistinct
both_distinct [] ls first second apart = second
both_distinct (k ∷ ks) ls first second apart = (
  each_appended (λ (l : List ℕ). bytes_eq k l ≡ false) ks ls first.0
      (each_weaker (λ (l : List ℕ). is_among l (k ∷ ks) ≡ false) (λ (l : List ℕ). bytes_eq k l ≡ false)
      (λ l h. (or_parts (bytes_eq k l) (is_among l ks) h).0) ls apart),
  both_distinct ks ls first.1 second
      (each_weaker (λ (l : List ℕ). is_among l (k ∷ ks) ≡ false) (λ (l : List ℕ). is_among l ks ≡ false)
      (λ l h. (or_parts (bytes_eq k l) (is_among l ks) h).1) ls apart),
)
