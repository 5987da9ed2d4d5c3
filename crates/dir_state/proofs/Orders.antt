-- Names in byte order, each once.
use Rattle.std.proofs.Common.{◌≡◌, ℕ, Bool, true, ◌&&◌, bytes_eq, List, [], ◌∷◌, refl, ap, ◌∙◌}
use Rattle.std.specs.List.{list_all}
use Rattle.std.specs.declared.cmp.Ordering.{Ordering}
use Rattle.std.specs.declared.cmp.Ordering.TheVariants.{Less, Equal, Greater}
use Rattle.std.specs.Ordering.{nat_cmp, is_lt, is_eq, match_ordering, ordering_reverse}
use Rattle.std.specs.Cmp.Lexicographic.{slice_cmp, texts_ties}
use Rattle.std.specs.BTreeSet.{insert_key}
use Rattle.std.proofs.lemmas.Cmp.{nat_list_cmp_total}
use Rattle.plain_laws.proofs.Texts.{same_bytes as self}
use Rattle.dir_model.specs.Listings.{ascend, has_name}
use Rattle.dir_model.proofs.Lists.{and_left, and_right, and_both, or_true, or_map}
use Rattle.dir_state.specs.Answers.{inserted_in_order}

abbrev compare : List ℕ → List ℕ → Ordering
compare = slice_cmp nat_cmp

abbrev below : List ℕ → List ℕ → Bool
below x y = is_lt (compare x y)

pub less : (o : Ordering) → is_lt o ≡ true → o ≡ Less
less Less h = refl
less Equal h = cc
less Greater h = cc

below_trans : (x y z : List ℕ) → below x y ≡ true → below y z ≡ true → below x z ≡ true
below_trans x y z a b = ap is_lt (nat_list_cmp_total.trans x y z (less (compare x y) a) (less (compare y z) b))

above : (x y : List ℕ) → compare y x ≡ Greater → below x y ≡ true
above x y h = ap is_lt (nat_list_cmp_total.antisymm x y) ∙ ap (λ o. is_lt (ordering_reverse o)) h

-- all of a list, and one more
all_insert : (t : List ℕ → Bool) (xs : List (List ℕ)) (k : List ℕ) → list_all t xs ≡ true → t k ≡ true → list_all t (insert_key compare xs k) ≡ true
all_insert t [] k all one = rw one refl
all_insert t (x ∷ xs) k all one = by (compare k x) (all_insert t xs k (and_right (t x) (list_all t xs) all) one)
  where
    by : (o : Ordering) → list_all t (insert_key compare xs k) ≡ true → list_all t (match_ordering o (k ∷ x ∷ xs) (x ∷ xs) (x ∷ insert_key compare xs k)) ≡ true
    by Less rest = and_both (t k) (t x && list_all t xs) one all
    by Equal rest = all
    by Greater rest = and_both (t x) (list_all t (insert_key compare xs k)) (and_left (t x) (list_all t xs) all) rest

all_below : (k x : List ℕ) (xs : List (List ℕ)) → below k x ≡ true → list_all (below x) xs ≡ true → list_all (below k) xs ≡ true
all_below k x [] first all = refl
all_below k x (y ∷ ys) first all =
    and_both (below k y) (list_all (below k) ys) (below_trans k x y first (and_left (below x y) (list_all (below x) ys) all))
    (all_below k x ys first (and_right (below x y) (list_all (below x) ys) all))

insert_ascends : (xs : List (List ℕ)) (k : List ℕ) → ascend xs ≡ true → ascend (insert_key compare xs k) ≡ true
insert_ascends [] k up = refl
insert_ascends (x ∷ xs) k up = by (compare k x) refl (insert_ascends xs k (and_right (list_all (below x) xs) (ascend xs) up))
  where
    by : (o : Ordering) → compare k x ≡ o → ascend (insert_key compare xs k) ≡ true → ascend (match_ordering o (k ∷ x ∷ xs) (x ∷ xs) (x ∷ insert_key compare xs k)) ≡ true
    by Less is rest =
        and_both (below k x && list_all (below k) xs) (list_all (below x) xs && ascend xs)
        (and_both (below k x) (list_all (below k) xs) (ap is_lt is) (all_below k x xs (ap is_lt is) (and_left (list_all (below x) xs) (ascend xs) up))) up
    by Equal is rest = up
    by Greater is rest =
        and_both (list_all (below x) (insert_key compare xs k)) (ascend (insert_key compare xs k))
        (all_insert (below x) xs k (and_left (list_all (below x) xs) (ascend xs) up) (above x k is)) rest

pub in_order_ascends : (ordered names : List (List ℕ)) → ascend ordered ≡ true → ascend (inserted_in_order ordered names) ≡ true
in_order_ascends ordered [] up = up
in_order_ascends ordered (name ∷ names) up = in_order_ascends (insert_key compare ordered name) names (insert_ascends ordered name up)

-- each passes that was in either
pub in_order_all : (t : List ℕ → Bool) (ordered names : List (List ℕ)) → list_all t ordered ≡ true → list_all t names ≡ true → list_all t (inserted_in_order ordered names) ≡ true
in_order_all t ordered [] a b = a
in_order_all t ordered (name ∷ names) a b = in_order_all t (insert_key compare ordered name) names (all_insert t ordered name a (and_left (t name) (list_all t names) b)) (and_right (t name) (list_all t names) b)

-- and each that was there is there
same_bytes : (x k : List ℕ) → compare k x ≡ Equal → bytes_eq x k ≡ true
same_bytes x k h = texts_ties x k ∙ ap is_eq (nat_list_cmp_total.antisymm x k ∙ ap ordering_reverse h)

stays : (xs : List (List ℕ)) (k name : List ℕ) → has_name xs name ≡ true → has_name (insert_key compare xs k) name ≡ true
stays [] k name h = cc
stays (x ∷ xs) k name h = by (compare k x) (λ later. stays xs k name later)
  where
    by : (o : Ordering) → (has_name xs name ≡ true → has_name (insert_key compare xs k) name ≡ true) → has_name (match_ordering o (k ∷ x ∷ xs) (x ∷ xs) (x ∷ insert_key compare xs k)) name ≡ true
    by Less later = rw h (or_true (bytes_eq k name))
    by Equal later = h
    by Greater later = or_map (bytes_eq x name) (has_name xs name) (has_name (insert_key compare xs k) name) later h

arrives : (xs : List (List ℕ)) (k : List ℕ) → has_name (insert_key compare xs k) k ≡ true
arrives [] k = rw (self k) refl
arrives (x ∷ xs) k = by (compare k x) refl (arrives xs k)
  where
    by : (o : Ordering) → compare k x ≡ o → has_name (insert_key compare xs k) k ≡ true → has_name (match_ordering o (k ∷ x ∷ xs) (x ∷ xs) (x ∷ insert_key compare xs k)) k ≡ true
    by Less is rest = rw (self k) refl
    by Equal is rest = rw (same_bytes x k is) refl
    by Greater is rest = rw rest (or_true (bytes_eq x k))

pub in_order_keeps : (ordered names : List (List ℕ)) (name : List ℕ) → has_name ordered name ≡ true → has_name (inserted_in_order ordered names) name ≡ true
in_order_keeps ordered [] name h = h
in_order_keeps ordered (x ∷ xs) name h = in_order_keeps (insert_key compare ordered x) xs name (stays ordered x name h)

pub in_order_has : (ordered names : List (List ℕ)) → list_all (has_name (inserted_in_order ordered names)) names ≡ true
in_order_has ordered [] = refl
in_order_has ordered (x ∷ xs) =
    and_both (has_name (inserted_in_order (insert_key compare ordered x) xs) x) (list_all (has_name (inserted_in_order (insert_key compare ordered x) xs)) xs)
    (in_order_keeps (insert_key compare ordered x) xs x (arrives ordered x)) (in_order_has (insert_key compare ordered x) xs)
