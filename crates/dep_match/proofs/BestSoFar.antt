-- A loop that keeps the place of the best element that passes a test.
use Rattle.std.proofs.Common.{◌≡◌, ℕ, zero, suc, ◌<◌, ◌≤◌, ◌+◌, Bool, true, false, ◌&&◌, ◌||◌, cond, List, [], ◌∷◌, length, get_or, Option, Some, None, refl, sym, ap, ◌∙◌, arith, below_more, ⊎_elim, ◌↔◌, Less, Equal, Greater, Ordering}
use Rattle.std.specs.Prelude.{not, IfSome}
use Rattle.std.specs.List.{list_any, filter, position, position_or_len, slice_get}
use Rattle.std.specs.Ordering.{is_gt, ordering_reverse}
use Rattle.std.specs.Cmp.{IsTotalOrder}
use Rattle.std.proofs.lemmas.Bool.{both_ways, false_from_ne_true, true_from_ne_false, and_parts, and_cases, lt-ltb, le-ltb}
use Rattle.std.proofs.lemmas.List.{get_or_default}
use Rattle.std.proofs.lemmas.List.Folds.{list_any_at}
use Rattle.std.proofs.lemmas.List.Sums.{position_or_len_is}
use Rattle.std.proofs.lemmas.Cmp.{upto, then_total, on_total, nat_cmp_total, nat_list_cmp_total}
use Rattle.dep_match.specs.Selection.{image_order, outranks, IsPlaceOf}
use Rattle.dep_match.specs.Steps.{outranks_place}
use Rattle.dep_match.specs.declared.stored.Stored.{Stored}

-- a test by which some elements beat others
pub record IsRanking {X : Type 0} (beats : X → X → Bool) : Type 0 where
  pub one_way : (x y : X) → beats x y ≡ true → beats y x ≡ false
  pub chain : (x y z : X) → beats x y ≡ false → beats y z ≡ false → beats x z ≡ false

-- the images in their order
image_total : IsTotalOrder image_order
image_total = then_total (on_total (λ (s : Stored). s.moment) nat_cmp_total) (on_total (λ (s : Stored). s.key.bytes) nat_list_cmp_total)

turned : (a : Ordering) → is_gt (ordering_reverse a) ≡ true → is_gt a ≡ false
turned Less h = refl
turned Equal h = refl
turned Greater h = sym h

pub outranks_ranks : IsRanking outranks
outranks_ranks = record {
  one_way = λ x y h. turned (image_order y x) (sym (ap is_gt (image_total.antisymm x y)) ∙ h);
  chain = upto image_total;
}

wins : {X : Type 0} {beats : X → X → Bool} (o : IsRanking beats) (x y z : X) → beats x z ≡ true → beats y z ≡ false → beats x y ≡ true
wins {X} {beats} o x y z more less = true_from_ne_false (beats x y) (λ fails. both_ways (beats x z) (o.chain x y z fails less) more)

beats_not_itself : {X : Type 0} {beats : X → X → Bool} (o : IsRanking beats) (x : X) → beats x x ≡ false
beats_not_itself {X} {beats} o x = false_from_ne_true (beats x x) (λ holds. both_ways (beats x x) (o.one_way x x holds) holds)

-- the best place among the first i: that of the first of the greatest that pass
abbrev pub IsBestSoFar : {X : Type 0} → (X → Bool) → (X → X → Bool) → List X → ℕ → Option ℕ → Type 0
IsBestSoFar {X} test beats xs i None = (j : ℕ) → j < i → (d : X) → test (get_or xs j d) ≡ false
IsBestSoFar {X} test beats xs i (Some k) =
    (k < i) × ((d : X) → test (get_or xs k d) ≡ true)
    × ((j : ℕ) → j < i → (d : X) → test (get_or xs j d) ≡ true → beats (get_or xs j d) (get_or xs k d) ≡ false)
    × ((j : ℕ) → j < k → (d : X) → test (get_or xs j d) ≡ true → beats (get_or xs k d) (get_or xs j d) ≡ true)

-- an element beats the one at a place, where a place is given
abbrev pub beats_place : {X : Type 0} → (X → X → Bool) → List X → Option ℕ → X → Bool
beats_place beats xs None x = true
beats_place beats xs (Some k) x = beats x (get_or xs k x)

pub none_so_far : {X : Type 0} (test : X → Bool) (beats : X → X → Bool) (xs : List X) → IsBestSoFar test beats xs 0 None
none_so_far test beats xs = λ j h d. absurd (omega arith)

skips : {X : Type 0} (test : X → Bool) (beats : X → X → Bool) (xs : List X) (i : ℕ) (b : Option ℕ)
    → ((d : X) → test (get_or xs i d) ≡ false) → IsBestSoFar test beats xs i b → IsBestSoFar test beats xs (i + 1) b
skips {X} test beats xs i None fails far = below_more (λ j. (d : X) → test (get_or xs j d) ≡ false) i far fails
skips {X} test beats xs i (Some k) fails far = (
  omega (arith, far.0),
  far.1,
  below_more (λ j. (d : X) → test (get_or xs j d) ≡ true → beats (get_or xs j d) (get_or xs k d) ≡ false) i far.2
      (λ d holds. absurd (both_ways (test (get_or xs i d)) (fails d) holds)),
  far.3,
)

loses : {X : Type 0} (test : X → Bool) (beats : X → X → Bool) (xs : List X) (i k : ℕ)
    → ((d : X) → beats (get_or xs i d) (get_or xs k d) ≡ false) → IsBestSoFar test beats xs i (Some k)
    → IsBestSoFar test beats xs (i + 1) (Some k)
loses {X} test beats xs i k fails far = (
  omega (arith, far.0),
  far.1,
  below_more (λ j. (d : X) → test (get_or xs j d) ≡ true → beats (get_or xs j d) (get_or xs k d) ≡ false) i far.2 (λ d holds. fails d),
  far.3,
)

-- an element that is read at a place, at any default
read_at : {X : Type 0} (xs : List X) (i : ℕ) (x : X) → i < length xs → x ≡ get_or xs i x → (d : X) → get_or xs i d ≡ x
read_at xs i x within is d = get_or_default xs i d x within ∙ sym is

pub keeps : {X : Type 0} (test : X → Bool) (beats : X → X → Bool) (xs : List X) (i : ℕ) (x : X) (b : Option ℕ)
    → i < length xs → x ≡ get_or xs i x → (test x && beats_place beats xs b x) ≡ false
    → IsBestSoFar test beats xs i b → IsBestSoFar test beats xs (i + 1) b
keeps test beats xs i x None within is fails far =
    skips test beats xs i None
    (λ d. ap test (read_at xs i x within is d)
    ∙ ⊎_elim (λ e. e) (λ e. absurd (both_ways true e refl)) (and_cases (test x) true fails)) far
keeps {X} test beats xs i x (Some k) within is fails far =
    let k_within : k < length xs = omega (arith, far.0) in
    ⊎_elim
    (λ e. skips test beats xs i (Some k) (λ d. ap test (read_at xs i x within is d) ∙ e) far)
    (λ e. loses test beats xs i k
    (λ d. ap (λ (y : X). beats y (get_or xs k d)) (read_at xs i x within is d)
    ∙ ap (λ (y : X). beats x y) (get_or_default xs k d x k_within) ∙ e) far)
    (and_cases (test x) (beats x (get_or xs k x)) fails)

pub takes : {X : Type 0} (test : X → Bool) (beats : X → X → Bool) (o : IsRanking beats) (xs : List X) (i : ℕ) (x : X) (b : Option ℕ)
    → i < length xs → x ≡ get_or xs i x → (test x && beats_place beats xs b x) ≡ true
    → IsBestSoFar test beats xs i b → IsBestSoFar test beats xs (i + 1) (Some i)
takes {X} test beats o xs i x None within is holds far =
    let parts = and_parts (test x) true holds in (
      omega arith,
      (λ d. ap test (read_at xs i x within is d) ∙ parts.0),
      below_more (λ j. (d : X) → test (get_or xs j d) ≡ true → beats (get_or xs j d) (get_or xs i d) ≡ false) i
          (λ j h d t. absurd (both_ways (test (get_or xs j d)) (far j h d) t))
          (λ d t. beats_not_itself o (get_or xs i d)),
      (λ j h d t. absurd (both_ways (test (get_or xs j d)) (far j h d) t)),
    )
takes {X} test beats o xs i x (Some k) within is holds far =
    let parts = and_parts (test x) (beats x (get_or xs k x)) holds in
    let k_within : k < length xs = omega (arith, far.0) in
    let more : (d : X) → beats (get_or xs i d) (get_or xs k d) ≡ true =
    λ d. ap (λ (y : X). beats y (get_or xs k d)) (read_at xs i x within is d)
    ∙ ap (λ (y : X). beats x y) (get_or_default xs k d x k_within) ∙ parts.1 in
    let won : (j : ℕ) → j < i → (d : X) → test (get_or xs j d) ≡ true → beats (get_or xs i d) (get_or xs j d) ≡ true =
    λ j h d t. wins o (get_or xs i d) (get_or xs j d) (get_or xs k d) (more d) (far.2 j h d t) in (
      omega arith,
      (λ d. ap test (read_at xs i x within is d) ∙ parts.0),
      below_more (λ j. (d : X) → test (get_or xs j d) ≡ true → beats (get_or xs j d) (get_or xs i d) ≡ false) i
          (λ j h d t. o.one_way (get_or xs i d) (get_or xs j d) (won j h d t))
          (λ d t. beats_not_itself o (get_or xs i d)),
      won,
    )

-- a test of what a filter keeps
any_kept : {X : Type 0} (test p : X → Bool) (xs : List X) → list_any p (filter test xs) ≡ list_any (λ (x : X). test x && p x) xs
any_kept {X} test p [] = refl
any_kept {X} test p (x ∷ xs) =
    let rest = any_kept test p xs in
    elim (test x) as (λ t. list_any p (cond t (x ∷ filter test xs) (filter test xs)) ≡ ((t && p x) || list_any (λ (y : X). test y && p y) xs))
    [ true ↦ ap (λ (b : Bool). p x || b) rest | false ↦ rest ]

none_pass : {X : Type 0} (p : X → Bool) (xs : List X) → ((j : ℕ) → j < length xs → (d : X) → p (get_or xs j d) ≡ false) → list_any p xs ≡ false
none_pass p [] fails = refl
none_pass p (x ∷ xs) fails = rw (fails 0 (omega arith) x) (none_pass p xs (λ j h d. fails (suc j) (omega arith) d))

none_kept : {X : Type 0} (p : X → Bool) (xs : List X) → ((j : ℕ) → j < length xs → (d : X) → p (get_or xs j d) ≡ false) → filter p xs ≡ []
none_kept p [] fails = refl
none_kept p (x ∷ xs) fails = rw (fails 0 (omega arith) x) (none_kept p xs (λ j h d. fails (suc j) (omega arith) d))

position_found : {X : Type 0} (p : X → Bool) (xs : List X) (i : ℕ) → i < length xs → ((d : X) → p (get_or xs i d) ≡ true)
    → ((j : ℕ) → j < i → (d : X) → p (get_or xs j d) ≡ false) → position p xs ≡ Some i
position_found p [] i within here before = absurd (omega arith)
position_found p (x ∷ xs) i within here before =
    let at : position_or_len p (x ∷ xs) ≡ i = position_or_len_is p (x ∷ xs) i x (omega arith) (λ j h. before j h x) (λ h. here x) in
    rw (at, lt-ltb i (length (x ∷ xs)) within) refl

position_none : {X : Type 0} (p : X → Bool) (xs : List X) → ((j : ℕ) → j < length xs → (d : X) → p (get_or xs j d) ≡ false) → position p xs ≡ None
position_none p [] fails = refl
position_none p (x ∷ xs) fails =
    let n = length (x ∷ xs) in
    let at : position_or_len p (x ∷ xs) ≡ n = position_or_len_is p (x ∷ xs) n x (omega arith) (λ j h. fails j h x) (λ h. absurd (omega arith)) in
    rw (at, le-ltb n n (omega arith)) refl

-- an element passes, and none that passes beats it
abbrev leads : {X : Type 0} → (X → Bool) → (X → X → Bool) → List X → X → Bool
leads {X} test beats xs x = test x && not (list_any (λ (m : X). beats m x) (filter test xs))

leads_not : {X : Type 0} (test : X → Bool) (beats : X → X → Bool) (xs : List X) (x : X) → test x ≡ false → leads test beats xs x ≡ false
leads_not test beats xs x fails = rw fails refl

is_beaten : {X : Type 0} (test : X → Bool) (beats : X → X → Bool) (xs : List X) (k : ℕ) (x d : X) → k < length xs → test (get_or xs k d) ≡ true
    → beats (get_or xs k d) x ≡ true → list_any (λ (m : X). beats m x) (filter test xs) ≡ true
is_beaten {X} test beats xs k x d within passes more =
    any_kept test (λ (m : X). beats m x) xs
    ∙ list_any_at (λ (m : X). test m && beats m x) xs k d within (rw (passes, more) refl)

leads_behind : {X : Type 0} (test : X → Bool) (beats : X → X → Bool) (xs : List X) (j k : ℕ) (d : X) → k < length xs
    → test (get_or xs k d) ≡ true → (test (get_or xs j d) ≡ true → beats (get_or xs k d) (get_or xs j d) ≡ true)
    → leads test beats xs (get_or xs j d) ≡ false
leads_behind {X} test beats xs j k d within passes more =
    false_from_ne_true (leads test beats xs (get_or xs j d)) (λ holds.
    let parts = and_parts (test (get_or xs j d)) (not (list_any (λ (m : X). beats m (get_or xs j d)) (filter test xs))) holds in
    let beaten = is_beaten test beats xs k (get_or xs j d) d within passes (more parts.0) in
    both_ways (not (list_any (λ (m : X). beats m (get_or xs j d)) (filter test xs))) (ap not beaten) parts.1)

unbeaten : {X : Type 0} (test : X → Bool) (beats : X → X → Bool) (xs : List X) (x : X)
    → ((j : ℕ) → j < length xs → (d : X) → test (get_or xs j d) ≡ true → beats (get_or xs j d) x ≡ false)
    → list_any (λ (m : X). beats m x) (filter test xs) ≡ false
unbeaten {X} test beats xs x none =
    any_kept test (λ (m : X). beats m x) xs
    ∙ none_pass (λ (m : X). test m && beats m x) xs (λ j h d.
    false_from_ne_true (test (get_or xs j d) && beats (get_or xs j d) x) (λ holds.
    let parts = and_parts (test (get_or xs j d)) (beats (get_or xs j d) x) holds in
    both_ways (beats (get_or xs j d) x) (none j h d parts.0) parts.1))

-- the best of all is the first that passes and that none of those that pass beats
pub best_is : {X : Type 0} (test : X → Bool) (beats : X → X → Bool) (xs : List X) (i : ℕ) (b : Option ℕ) → i ≡ length xs
    → IsBestSoFar test beats xs i b
    → b ≡ position (λ (x : X). test x && not (list_any (λ (m : X). beats m x) (filter test xs))) xs
best_is {X} test beats xs i None all far =
    sym (position_none (leads test beats xs) xs (λ j h d. leads_not test beats xs (get_or xs j d) (far j (omega arith) d)))
best_is {X} test beats xs i (Some k) all far =
    let within : k < length xs = omega (arith, far.0) in
    sym (position_found (leads test beats xs) xs k within
    (λ d. let none : list_any (λ (m : X). beats m (get_or xs k d)) (filter test xs) ≡ false =
    unbeaten test beats xs (get_or xs k d) (λ j h e t.
    ap (λ (y : X). beats (get_or xs j e) y) (get_or_default xs k d e within) ∙ far.2 j (omega arith) e t) in
    rw (far.1 d, none) refl)
    (λ j h d. leads_behind test beats xs j k d within (far.1 d) (far.3 j h d)))

-- there is a best exactly where one passes
pub best_none : {X : Type 0} (test : X → Bool) (beats : X → X → Bool) (xs : List X) (i : ℕ) (b : Option ℕ) → i ≡ length xs
    → IsBestSoFar test beats xs i b → (b ≡ None) ↔ (filter test xs ≡ [])
best_none {X} test beats xs i None all far = ((λ h. none_kept test xs (λ j h d. far j (omega arith) d)), (λ h. refl))
best_none {X} test beats [] i (Some k) all far = absurd (omega (arith, far.0))
best_none {X} test beats (x ∷ xs) i (Some k) all far =
    let within : k < length (x ∷ xs) = omega (arith, far.0) in
    let some : list_any (λ (m : X). true) (filter test (x ∷ xs)) ≡ true =
    any_kept test (λ (m : X). true) (x ∷ xs)
    ∙ list_any_at (λ (m : X). test m && true) (x ∷ xs) k x within (rw (far.1 x) refl) in (
      (λ h. cc),
      (λ h. absurd (both_ways true (sym some ∙ ap (list_any (λ (m : X). true)) h) refl)),
    )

pub best_within : {X : Type 0} (test : X → Bool) (beats : X → X → Bool) (xs : List X) (i : ℕ) (b : Option ℕ) → i ≤ length xs
    → IsBestSoFar test beats xs i b → IfSome b (λ k. k < length xs)
best_within test beats xs i None past far = tt
best_within test beats xs i (Some k) past far = omega (arith, far.0)

-- an element at a place is there
element_at : {X : Type 0} (xs : List X) (k : ℕ) → k < length xs → (x : X) × (slice_get xs k ≡ Some x) × (get_or xs k x ≡ x)
element_at [] k within = absurd (omega arith)
element_at (x ∷ xs) zero within = (x, refl, refl)
element_at (x ∷ xs) (suc k) within = let more = element_at xs k (omega (arith, within)) in (more.0, more.1, more.2)

-- the best passes
pub best_passes : (test : Stored → Bool) (beats : Stored → Stored → Bool) (xs : List Stored) (i : ℕ) (b : Option ℕ) → i ≤ length xs
    → IsBestSoFar test beats xs i b → IfSome b (IsPlaceOf test xs)
best_passes test beats xs i None past far = tt
best_passes test beats xs i (Some k) past far =
    let there = element_at xs k (omega (arith, far.0, past)) in
    (there.0, there.1, sym (ap test there.2) ∙ far.1 there.0)

-- the same test on images
pub place_outranked : (images : List Stored) (b : Option ℕ) (image : Stored) → outranks_place images b image ≡ beats_place outranks images b image
place_outranked images None image = refl
place_outranked images (Some k) image = refl
