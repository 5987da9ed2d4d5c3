-- The greatest moment of marks depends on the names that are shown alone.
use Rattle.std.proofs.Common.{arith, ◌≡◌, ℕ, Bool, true, false, ◌||◌, cond, bytes_eq, nat_le, Option, Some, None, List, [], ◌∷◌, refl, sym, ap, ◌∙◌}
use Rattle.std.proofs.lemmas.Bool.Decides.{nat_tests}
use Rattle.plain_laws.proofs.Texts.{same_bytes, same_text}
use Rattle.dir_model.specs.declared.item.Item.{Item}
use Rattle.dir_model.specs.Listings.{has_named, is_item, has_item, kind_number}
use Rattle.dir_model.proofs.Lists.{and_left, and_both, or_last, same_self}
use Rattle.dir_rules.specs.Seen.{later}
use Rattle.dir_laws.proofs.Later.{later_assoc}
use Rattle.dir_rules.specs.Marks.{mark_moment}
use Rattle.pod_gc.specs.Ages.{moment_among}

both_most : (a b : ℕ) → nat_le a b ≡ true → nat_le b a ≡ true → b ≡ a
both_most a b x y = grind (arith, nat_tests)

neither_most : (a b : ℕ) → nat_le a b ≡ false → nat_le b a ≡ true
neither_most a b x = grind (arith, nat_tests)

later_turned : (a b : Option ℕ) → later a b ≡ later b a
later_turned None None = refl
later_turned None (Some b) = refl
later_turned (Some a) None = refl
later_turned (Some a) (Some b) = by (nat_le a b) (nat_le b a) refl refl
  where
    by : (x y : Bool) → nat_le a b ≡ x → nat_le b a ≡ y → cond x (Some b) (Some a) ≡ cond y (Some a) (Some b)
    by true true p q = ap Some (both_most a b p q)
    by true false p q = refl
    by false true p q = refl
    by false false p q = let clash : true ≡ false = sym (neither_most a b p) ∙ q in cc

later_same : (a : Option ℕ) → later a a ≡ a
later_same None = refl
later_same (Some a) = by (nat_le a a)
  where
    by : (x : Bool) → cond x (Some a) (Some a) ≡ Some a
    by true = refl
    by false = refl

-- a mark of a name that is shown adds nothing
shown_before : (text : List ℕ) (item : Item) (ys : List Item) → has_named ys item ≡ true → later (mark_moment text item.name) (moment_among text ys) ≡ moment_among text ys
shown_before text item [] h = cc
shown_before text item (y ∷ ys) h = by (bytes_eq y.name item.name) refl h (λ rest. shown_before text item ys rest)
  where
    m : Option ℕ
    m = moment_among text ys

    a : Option ℕ
    a = mark_moment text item.name

    b : Option ℕ
    b = mark_moment text y.name

    by : (c : Bool) → bytes_eq y.name item.name ≡ c → (c || has_named ys item) ≡ true → (has_named ys item ≡ true → later a m ≡ m) → later a (later b m) ≡ later b m
    by true is h go =
        let same : b ≡ a = ap (mark_moment text) (same_text y.name item.name is) in
        ap (λ (o : Option ℕ). later a (later o m)) same ∙ (sym (later_assoc a a m) ∙ (ap (λ (o : Option ℕ). later o m) (later_same a) ∙ ap (λ (o : Option ℕ). later o m) (sym same)))
    by false is h go = sym (later_assoc a b m) ∙ (ap (λ (o : Option ℕ). later o m) (later_turned a b) ∙ (later_assoc b a m ∙ ap (later b) (go h)))

all_before : (text : List ℕ) (xs ys : List Item) → ((item : Item) → has_item xs item ≡ true → has_named ys item ≡ true) → later (moment_among text xs) (moment_among text ys) ≡ moment_among text ys
all_before text [] ys shown = refl
all_before text (x ∷ xs) ys shown =
    let itself : is_item x x ≡ true = and_both (bytes_eq x.name x.name) _ (same_bytes x.name) (same_self (kind_number x.kind)) in
    later_assoc (mark_moment text x.name) (moment_among text xs) (moment_among text ys)
    ∙ (ap (later (mark_moment text x.name)) (all_before text xs ys (λ item h. shown item (or_last (is_item item x) (has_item xs item) h)))
    ∙ shown_before text x ys (shown x (ap (λ c. c || has_item xs x) itself)))

pub same_moment : (text : List ℕ) (xs ys : List Item) → ((item : Item) → has_item xs item ≡ true → has_named ys item ≡ true) → ((item : Item) → has_item ys item ≡ true → has_named xs item ≡ true) → moment_among text xs ≡ moment_among text ys
same_moment text xs ys there back = sym (all_before text ys xs back) ∙ (later_turned (moment_among text ys) (moment_among text xs) ∙ all_before text xs ys there)

-- an item that is shown has its name shown
pub item_named : (xs : List Item) (item : Item) → has_item xs item ≡ true → has_named xs item ≡ true
item_named [] item h = cc
item_named (x ∷ xs) item h = by (is_item item x) refl h (λ rest. item_named xs item rest)
  where
    by : (c : Bool) → is_item item x ≡ c → (c || has_item xs item) ≡ true → (has_item xs item ≡ true → has_named xs item ≡ true) → (bytes_eq x.name item.name || has_named xs item) ≡ true
    by true is h go = ap (λ c. c || has_named xs item) (and_left (bytes_eq x.name item.name) _ is)
    by false is h go = or_last (bytes_eq x.name item.name) (has_named xs item) (go h)
