-- Names put in byte order, each once. Two such lists with the same members are one.
use Rattle.std.proofs.Common.{◌≡◌, ℕ, Bool, true, false, ◌||◌, bytes_eq, Less, List, [], ◌∷◌, ◌++◌, refl, sym, ap, subst, ◌∙◌}
use Rattle.std.specs.List.{AllByRecursion}
use Rattle.std.specs.List.Sorted.{IsStrictlySortedBy}
use Rattle.std.specs.Ordering.{nat_cmp, match_ordering, is_eq, ordering_reverse}
use Rattle.std.specs.declared.cmp.Ordering.{Ordering}
use Rattle.std.specs.declared.cmp.Ordering.TheVariants.{Equal, Greater}
use Rattle.std.specs.Cmp.Lexicographic.{slice_cmp, nat_list_cmp_total}
use Rattle.std.specs.BTreeSet.{insert_key}
use Rattle.std.proofs.lemmas.Map.Text.{is_eq-slice_cmp}
use Rattle.plain_laws.proofs.Texts.{same_bytes, same_text}
use Rattle.dir_model.specs.Listings.{has_name}
use Rattle.dir_model.proofs.Lists.{all_weaker}
use Rattle.pod_lookup.specs.Pods.{in_order}

abbrev pub Rising : List (List ℕ) → Type 0
Rising names = IsStrictlySortedBy (slice_cmp nat_cmp) names

same_order : (k x : List ℕ) → slice_cmp nat_cmp k x ≡ Equal → k ≡ x
same_order k x e = same_text k x (sym (is_eq-slice_cmp k x) ∙ ap is_eq e)

after : (k x : List ℕ) → slice_cmp nat_cmp k x ≡ Greater → slice_cmp nat_cmp x k ≡ Less
after k x e = nat_list_cmp_total.antisymm x k ∙ ap ordering_reverse e

-- two that are each below the other there are not
pub no_cycle : (x y : List ℕ) {X : Type 0} → slice_cmp nat_cmp x y ≡ Less → slice_cmp nat_cmp y x ≡ Less → X
no_cycle x y less more = let e : Less ≡ ordering_reverse Less = sym less ∙ (nat_list_cmp_total.antisymm x y ∙ ap ordering_reverse more) in cc

pub has_push : (xs : List (List ℕ)) (k name : List ℕ) → has_name (xs ++ k ∷ []) name ≡ (has_name xs name || bytes_eq k name)
has_push [] k name = by (bytes_eq k name)
  where
    by : (b : Bool) → (b || false) ≡ b
    by true = refl
    by false = refl
has_push (x ∷ xs) k name = ap (λ b. bytes_eq x name || b) (has_push xs k name) ∙ turn (bytes_eq x name) (has_name xs name) (bytes_eq k name)
  where
    turn : (a b c : Bool) → (a || (b || c)) ≡ ((a || b) || c)
    turn true b c = refl
    turn false b c = refl

or_turned : (a b : Bool) → (a || b) ≡ (b || a)
or_turned true true = refl
or_turned true false = refl
or_turned false true = refl
or_turned false false = refl

pub has_inserted : (ks : List (List ℕ)) (k name : List ℕ) → has_name (insert_key (slice_cmp nat_cmp) ks k) name ≡ (has_name ks name || bytes_eq k name)
has_inserted [] k name = has_push [] k name
has_inserted (x ∷ xs) k name = by (slice_cmp nat_cmp k x) refl (has_inserted xs k name)
  where
    there : (b h : Bool) → (b || h) ≡ ((b || h) || b)
    there true h = refl
    there false true = refl
    there false false = refl

    turn : (a b c : Bool) → (a || (b || c)) ≡ ((a || b) || c)
    turn true b c = refl
    turn false b c = refl

    by : (o : Ordering) → slice_cmp nat_cmp k x ≡ o → has_name (insert_key (slice_cmp nat_cmp) xs k) name ≡ (has_name xs name || bytes_eq k name) →
        has_name (match_ordering o (k ∷ x ∷ xs) (x ∷ xs) (x ∷ insert_key (slice_cmp nat_cmp) xs k)) name ≡ ((bytes_eq x name || has_name xs name) || bytes_eq k name)
    by Less e go = or_turned (bytes_eq k name) (bytes_eq x name || has_name xs name)
    by Equal e go = there (bytes_eq x name) (has_name xs name) ∙ ap (λ n. (bytes_eq x name || has_name xs name) || bytes_eq n name) (sym (same_order k x e))
    by Greater e go = ap (λ b. bytes_eq x name || b) go ∙ turn (bytes_eq x name) (has_name xs name) (bytes_eq k name)

all_inserted : (P : List ℕ → Type 0) (ks : List (List ℕ)) (k : List ℕ) → AllByRecursion P ks → P k → AllByRecursion P (insert_key (slice_cmp nat_cmp) ks k)
all_inserted P [] k all own = (own, tt)
all_inserted P (x ∷ xs) k all own = by (slice_cmp nat_cmp k x) (all_inserted P xs k all.1 own)
  where
    by : (o : Ordering) → AllByRecursion P (insert_key (slice_cmp nat_cmp) xs k) → AllByRecursion P (match_ordering o (k ∷ x ∷ xs) (x ∷ xs) (x ∷ insert_key (slice_cmp nat_cmp) xs k))
    by Less go = (own, all)
    by Equal go = all
    by Greater go = (all.0, go)

rise_inserted : (ks : List (List ℕ)) (k : List ℕ) → Rising ks → Rising (insert_key (slice_cmp nat_cmp) ks k)
unfolding IsStrictlySortedBy
rise_inserted [] k rise = (tt, tt)
rise_inserted (x ∷ xs) k rise = by (slice_cmp nat_cmp k x) refl (rise_inserted xs k rise.1)
  where
    by : (o : Ordering) → slice_cmp nat_cmp k x ≡ o → Rising (insert_key (slice_cmp nat_cmp) xs k) → Rising (match_ordering o (k ∷ x ∷ xs) (x ∷ xs) (x ∷ insert_key (slice_cmp nat_cmp) xs k))
    by Less e go = ((e, all_weaker (λ (y : List ℕ). slice_cmp nat_cmp x y ≡ Less) (λ (y : List ℕ). slice_cmp nat_cmp k y ≡ Less) (λ y l. nat_list_cmp_total.trans k x y e l) xs rise.0), rise)
    by Equal e go = rise
    by Greater e go = (all_inserted (λ (y : List ℕ). slice_cmp nat_cmp x y ≡ Less) xs k rise.0 (after k x e), go)

pub order_has : (names : List (List ℕ)) (name : List ℕ) → has_name (in_order names) name ≡ has_name names name
order_has [] name = refl
order_has (x ∷ xs) name = has_inserted (in_order xs) x name ∙ (ap (λ b. b || bytes_eq x name) (order_has xs name) ∙ or_turned (has_name xs name) (bytes_eq x name))

pub order_rises : (names : List (List ℕ)) → Rising (in_order names)
unfolding IsStrictlySortedBy
order_rises [] = tt
order_rises (x ∷ xs) = rise_inserted (in_order xs) x (order_rises xs)

-- what holds of each name holds of one that is there
pub named_holds : (P : List ℕ → Type 0) (name : List ℕ) (names : List (List ℕ)) → AllByRecursion P names → has_name names name ≡ true → P name
named_holds P name [] all named = cc
named_holds P name (x ∷ xs) all named = by (bytes_eq x name) refl named (λ rest. named_holds P name xs all.1 rest)
  where
    by : (b : Bool) → bytes_eq x name ≡ b → (b || has_name xs name) ≡ true → (has_name xs name ≡ true → P name) → P name
    by true same h go = subst P (same_text x name same) all.0
    by false apart h go = go h

pub head_named : (x : List ℕ) (xs : List (List ℕ)) → has_name (x ∷ xs) x ≡ true
head_named x xs = ap (λ b. b || has_name xs x) (same_bytes x)

-- the first of rising names isn't among the others
head_apart : (x : List ℕ) (xs : List (List ℕ)) → Rising (x ∷ xs) → has_name xs x ≡ false
unfolding IsStrictlySortedBy
head_apart x xs rise = by (has_name xs x) refl
  where
    by : (b : Bool) → has_name xs x ≡ b → b ≡ false
    by false is = refl
    by true is = let own = named_holds (λ (y : List ℕ). slice_cmp nat_cmp x y ≡ Less) x xs rise.0 is in no_cycle x x own own

module _ (x y : List ℕ) (xs ys : List (List ℕ)) (s : Rising (x ∷ xs)) (t : Rising (y ∷ ys)) (same : (n : List ℕ) → has_name (x ∷ xs) n ≡ has_name (y ∷ ys) n) where
  heads : x ≡ y
  unfolding IsStrictlySortedBy
  heads = by (bytes_eq y x) refl (sym (same x) ∙ head_named x xs) (bytes_eq x y) refl (same y ∙ head_named y ys)
    where
      by : (b : Bool) → bytes_eq y x ≡ b → (b || has_name ys x) ≡ true → (c : Bool) → bytes_eq x y ≡ c → (c || has_name xs y) ≡ true → x ≡ y
      by true is h c d g = sym (same_text y x is)
      by false is h true d g = same_text x y d
      by false is h false d g = no_cycle x y (named_holds (λ (z : List ℕ). slice_cmp nat_cmp x z ≡ Less) y xs s.0 g) (named_holds (λ (z : List ℕ). slice_cmp nat_cmp y z ≡ Less) x ys t.0 h)

  tails : (n : List ℕ) → has_name xs n ≡ has_name ys n
  tails n = by (bytes_eq x n) refl (same n ∙ ap (λ (z : List ℕ). bytes_eq z n || has_name ys n) (sym heads))
    where
      by : (b : Bool) → bytes_eq x n ≡ b → (bytes_eq x n || has_name xs n) ≡ (bytes_eq x n || has_name ys n) → has_name xs n ≡ has_name ys n
      by false apart h = sym (ap (λ c. c || has_name xs n) apart) ∙ (h ∙ ap (λ c. c || has_name ys n) apart)
      by true is h =
          let at = same_text x n is in
          subst (λ (z : List ℕ). has_name xs z ≡ false) at (head_apart x xs s) ∙ sym (subst (λ (z : List ℕ). has_name ys z ≡ false) (sym heads ∙ at) (head_apart y ys t))

pub one_order : (xs ys : List (List ℕ)) → Rising xs → Rising ys → ((n : List ℕ) → has_name xs n ≡ has_name ys n) → xs ≡ ys
unfolding IsStrictlySortedBy
one_order [] [] s t same = refl
one_order [] (y ∷ ys) s t same = let e : false ≡ true = same y ∙ head_named y ys in cc
one_order (x ∷ xs) [] s t same = let e : true ≡ false = sym (head_named x xs) ∙ same x in cc
one_order (x ∷ xs) (y ∷ ys) s t same = ap (λ (z : List ℕ). z ∷ xs) (heads x y xs ys s t same) ∙ ap (λ (zs : List (List ℕ)). y ∷ zs) (one_order xs ys s.1 t.1 (tails x y xs ys s t same))

-- names in order, by what names they are
pub is_order : (names sorted : List (List ℕ)) → ((name : List ℕ) → has_name sorted name ≡ has_name names name) → Rising sorted → sorted ≡ in_order names
is_order names sorted has rise = one_order sorted (in_order names) rise (order_rises names) (λ n. has n ∙ sym (order_has names n))

pub same_order_of : (names others : List (List ℕ)) → ((name : List ℕ) → has_name names name ≡ has_name others name) → in_order names ≡ in_order others
same_order_of names others has = is_order others (in_order names) (λ n. order_has names n ∙ has n) (order_rises names)
