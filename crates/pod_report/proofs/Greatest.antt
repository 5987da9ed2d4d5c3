-- The greatest moment of created- marks.
use Rattle.std.proofs.Common.{arith, ◌≡◌, ◌≤◌, ◌&&◌, ◌||◌, ◌==◌, ℕ, Bool, true, false, cond, nat_le, bytes_eq, Option, Some, None, IsSomeAnd, List, [], ◌∷◌, ◌++◌, drop, refl, sym, ap, subst, ◌∙◌}
use Rattle.std.specs.List.{list_any}
use Rattle.plain_laws.proofs.Texts.{same_bytes, same_text}
use Rattle.plain_laws.proofs.Numbers.{at_most_back, not_at_most}
use Rattle.dir_model.specs.declared.item.Item.{Item}
use Rattle.dir_model.specs.Listings.{is_named, is_item, has_item, kind_number}
use Rattle.dir_model.proofs.Lists.{and_both, or_last, any_last, any_push, any_last_not, same_self}
use Rattle.dir_rules.specs.Marks.{created_mark, created_moment, number_of}
use Rattle.dir_rules.specs.Seen.{later, created_among}
use Rattle.pod_report.specs.Created.{IsLatestCreation}

-- the name and the moment of a mark
pub record MarkTells (name : List ℕ) (moment : ℕ) : Type 0 where
  pub is : name ≡ created_mark moment
  pub small : nat_le moment 18446744073709551615 ≡ true

pub mark_tells : (name : List ℕ) (moment : ℕ) → created_moment name ≡ Some moment → MarkTells name moment
mark_tells name moment is = by (bytes_eq name (created_mark n)) refl (nat_le n 18446744073709551615) refl is
  where
    n : ℕ
    n = number_of (drop 8 name)

    by : (b : Bool) → bytes_eq name (created_mark n) ≡ b → (c : Bool) → nat_le n 18446744073709551615 ≡ c → cond (b && c) (Some n) None ≡ Some moment → MarkTells name moment
    by true e true l is =
        let same : n ≡ moment = cc in
        record { is = same_text name (created_mark n) e ∙ ap created_mark same; small = ap (λ (m : ℕ). nat_le m 18446744073709551615) (sym same) ∙ l }
    by true e false l is = cc
    by false e c l is = cc

-- one item more

abbrev IsSince : ℕ → Option ℕ → Type 0
IsSince m o = IsSomeAnd o (λ c. m ≤ c)

since_left : (m : ℕ) (a b : Option ℕ) → IsSince m a → IsSince m (later a b)
since_left m None b s = absurd s
since_left m (Some a) None s = s
since_left m (Some a) (Some b) s = by (nat_le a b) refl
  where
    by : (x : Bool) → nat_le a b ≡ x → IsSince m (cond x (Some b) (Some a))
    by true e = let l = at_most_back a b e in omega (arith, l, s)
    by false e = s

since_right : (m : ℕ) (a b : Option ℕ) → IsSince m b → IsSince m (later a b)
since_right m None b s = s
since_right m (Some a) None s = absurd s
since_right m (Some a) (Some b) s = by (nat_le a b) refl
  where
    by : (x : Bool) → nat_le a b ≡ x → IsSince m (cond x (Some b) (Some a))
    by true e = s
    by false e = let l = not_at_most a b e in omega (arith, l, s)

-- it is one of the two
later_is : (P : Type 0) (m : ℕ) (a b : Option ℕ) → (a ≡ Some m → P) → (b ≡ Some m → P) → later a b ≡ Some m → P
later_is P m None b f g is = g is
later_is P m (Some a) None f g is = f is
later_is P m (Some a) (Some b) f g is = by (nat_le a b) is
  where
    by : (x : Bool) → cond x (Some b) (Some a) ≡ Some m → P
    by true e = g e
    by false e = f e

any_parts : {X : Type 0} (t : X → Bool) (xs : List X) (y : X) (P : Type 0) → (list_any t xs ≡ true → P) → (t y ≡ true → P) → list_any t (xs ++ y ∷ []) ≡ true → P
any_parts {X} t xs y P f g h = by (t y) refl
  where
    by : (b : Bool) → t y ≡ b → P
    by true e = g e
    by false e = f (sym (any_last_not t xs y e) ∙ h)

pub greatest_none : IsLatestCreation [] None
greatest_none = record { shown = λ m is. cc; most = λ name m h is. cc }

pub greatest_more : (items : List Item) (item : Item) (found : Option ℕ) → IsLatestCreation items found → IsLatestCreation (items ++ item ∷ []) (later found (created_moment item.name))
greatest_more items item found g = record {
  shown = λ m is. later_is ((x : Item) × (has_item (items ++ item ∷ []) x ≡ true) × (created_moment x.name ≡ Some m)) m found (created_moment item.name) (λ a. let x = g.shown m a in (x.0, any_push (is_item x.0) items item x.1, x.2)) (λ b. (item, any_last (is_item item) items item (and_both (bytes_eq item.name item.name) (kind_number item.kind == kind_number item.kind) (same_bytes item.name) (same_self (kind_number item.kind))), b)) is;
  most = λ name m h is. any_parts (is_named name) items item (IsSince m (later found (created_moment item.name)))
      (λ a. since_left m found (created_moment item.name) (g.most name m a is))
      (λ b. since_right m found (created_moment item.name) (subst (λ (o : Option ℕ). IsSince m o) (sym (ap created_moment (same_text item.name name b) ∙ is)) (omega arith))) h;
}

-- the greatest of all items
pub first_item : (x : Item) (xs : List Item) → has_item (x ∷ xs) x ≡ true
first_item x xs = ap (λ b. b || has_item xs x) (and_both (bytes_eq x.name x.name) (kind_number x.kind == kind_number x.kind) (same_bytes x.name) (same_self (kind_number x.kind)))

since_more : (x : Item) (xs : List Item) (name : List ℕ) (m : ℕ) → (list_any (is_named name) xs ≡ true → created_moment name ≡ Some m → IsSince m (created_among xs)) → list_any (is_named name) (x ∷ xs) ≡ true → created_moment name ≡ Some m → IsSince m (created_among (x ∷ xs))
since_more x xs name m rest h is = by (bytes_eq x.name name) refl h
  where
    by : (b : Bool) → bytes_eq x.name name ≡ b → (b || list_any (is_named name) xs) ≡ true → IsSince m (later (created_moment x.name) (created_among xs))
    by true same h = since_left m (created_moment x.name) (created_among xs) (subst (λ (o : Option ℕ). IsSince m o) (sym (ap created_moment (same_text x.name name same) ∙ is)) (omega arith))
    by false apart h = since_right m (created_moment x.name) (created_among xs) (rest h is)

pub among_greatest : (items : List Item) → IsLatestCreation items (created_among items)
among_greatest [] = greatest_none
among_greatest (x ∷ xs) =
    let rest = among_greatest xs in
    record {
      shown = λ m is. later_is ((y : Item) × (has_item (x ∷ xs) y ≡ true) × (created_moment y.name ≡ Some m)) m (created_moment x.name) (created_among xs) (λ a. (x, first_item x xs, a)) (λ b. let g = rest.shown m b in (g.0, or_last (is_item g.0 x) (has_item xs g.0) g.1, g.2)) is;
      most = λ name m h is. since_more x xs name m (λ k e. rest.most name m k e) h is;
    }

-- what is greatest is so once
pub one_greatest : (Has : ℕ → Type 0) (a b : Option ℕ) → ((m : ℕ) → a ≡ Some m → Has m) → ((m : ℕ) → Has m → IsSince m a) → ((m : ℕ) → b ≡ Some m → Has m) → ((m : ℕ) → Has m → IsSince m b) → a ≡ b
one_greatest Has None None has_a most_a has_b most_b = refl
one_greatest Has None (Some n) has_a most_a has_b most_b = absurd (most_a n (has_b n refl))
one_greatest Has (Some m) None has_a most_a has_b most_b = absurd (most_b m (has_a m refl))
one_greatest Has (Some m) (Some n) has_a most_a has_b most_b =
    let up = most_b m (has_a m refl) in
    let down = most_a n (has_b n refl) in
    let same : m ≡ n = omega (arith, up, down) in
    ap Some same
