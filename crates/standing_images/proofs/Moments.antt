-- The moments of the marks that a listing shows, and of those that stand.
use Rattle.std.proofs.Common.{arith, ◌≡◌, ◌⊎◌, inl, inr, ◌≤◌, ℕ, Bool, true, false, ◌||◌, bytes_eq, Option, Some, None, List, [], ◌∷◌, refl, sym, ap, ◌∙◌}
use Rattle.std.specs.Prelude.{Contains}
use Rattle.std.specs.List.{AllByRecursion, cons_option}
use Rattle.plain_laws.proofs.Texts.{same_text}
use Rattle.dir_model.specs.declared.item.Item.{Item}
use Rattle.dir_model.specs.State.{DirState}
use Rattle.dir_model.specs.Listings.{has_name, item_names}
use Rattle.dir_model.proofs.Lists.{or_last}
use Rattle.lifecycle.proofs.Places.{same_name}
use Rattle.folder_contents.specs.Entries.{entries_in}
use Rattle.gate_reading.specs.Listings.{has_direct}
use Rattle.image_reading.specs.Marks.{imported_moment, imported_moments, IsGreatest}
use Rattle.standing_images.specs.Images.{HasMark}
use Rattle.standing_images.proofs.Members.{contains_none, contains_cases}

-- a name of that moment is shown
pub record IsShown (items : List Item) (moment : ℕ) : Type 0 where
  pub name : List ℕ
  pub there : has_name (item_names items) name ≡ true
  pub is : imported_moment name ≡ Some moment

shown_more : (x : Item) (xs : List Item) (moment : ℕ) → IsShown xs moment → IsShown (x ∷ xs) moment
shown_more x xs moment n = record {
  name = n.name;
  there = or_last (bytes_eq x.name n.name) (has_name (item_names xs) n.name) n.there;
  is = n.is;
}

shown_first : (x : Item) (xs : List Item) (moment : ℕ) → imported_moment x.name ≡ Some moment → IsShown (x ∷ xs) moment
shown_first x xs moment is = record {
  name = x.name;
  there = ap (λ b. b || has_name (item_names xs) x.name) (same_name x.name x.name refl);
  is = is;
}

shown_of : (items : List Item) (moment : ℕ) → Contains (imported_moments items) moment → IsShown items moment
shown_of [] moment h = absurd (contains_none moment h)
shown_of (x ∷ xs) moment h = by (imported_moment x.name) refl h (λ c. shown_of xs moment c)
  where
    by : (o : Option ℕ) → imported_moment x.name ≡ o → Contains (cons_option o (imported_moments xs)) moment
        → (Contains (imported_moments xs) moment → IsShown xs moment) → IsShown (x ∷ xs) moment
    by None is c go = shown_more x xs moment (go c)
    by (Some m) is c go = either (contains_cases m (imported_moments xs) moment c)
      where
        either : (m ≡ moment) ⊎ Contains (imported_moments xs) moment → IsShown (x ∷ xs) moment
        either (inl same) = shown_first x xs moment (is ∙ ap Some same)
        either (inr later) = shown_more x xs moment (go later)

not_later : (items : List Item) (most : ℕ) (name : List ℕ) (moment : ℕ) → AllByRecursion (λ n. n ≤ most) (imported_moments items) →
    has_name (item_names items) name ≡ true → imported_moment name ≡ Some moment → moment ≤ most
not_later [] most name moment all there is = cc
not_later (x ∷ xs) most name moment all there is =
    by (bytes_eq x.name name) refl there (imported_moment x.name) refl all (λ a t. not_later xs most name moment a t is)
  where
    by : (b : Bool) → bytes_eq x.name name ≡ b → (b || has_name (item_names xs) name) ≡ true → (o : Option ℕ) → imported_moment x.name ≡ o →
        AllByRecursion (λ n. n ≤ most) (cons_option o (imported_moments xs))
        → (AllByRecursion (λ n. n ≤ most) (imported_moments xs) → has_name (item_names xs) name ≡ true → moment ≤ most) → moment ≤ most
    by true same t None m a go =
        let no : None ≡ Some moment = sym m ∙ (ap imported_moment (same_text x.name name same) ∙ is) in absurd (cc)
    by true same t (Some n) m a go =
        let one : Some n ≡ Some moment = sym m ∙ (ap imported_moment (same_text x.name name same) ∙ is) in
        let e : n ≡ moment = cc in
        let below : n ≤ most = a.0 in
        omega (arith, e, below)
    by false other t None m a go = go a t
    by false other t (Some n) m a go = go a.1 t

none_named : (items : List Item) (name : List ℕ) (moment : ℕ) → imported_moments items ≡ [] → has_name (item_names items) name ≡ true →
    imported_moment name ≡ Some moment → ⊥
none_named [] name moment none there is = cc
none_named (x ∷ xs) name moment none there is =
    by (bytes_eq x.name name) refl there (imported_moment x.name) refl none (λ n t. none_named xs name moment n t is)
  where
    by : (b : Bool) → bytes_eq x.name name ≡ b → (b || has_name (item_names xs) name) ≡ true → (o : Option ℕ) → imported_moment x.name ≡ o →
        cons_option o (imported_moments xs) ≡ [] → (imported_moments xs ≡ [] → has_name (item_names xs) name ≡ true → ⊥) → ⊥
    by true same t None m none go =
        let no : None ≡ Some moment = sym m ∙ (ap imported_moment (same_text x.name name same) ∙ is) in cc
    by true same t (Some n) m none go = cc
    by false other t None m none go = go none t
    by false other t (Some n) m none go = cc

-- a listing of all that stands directly in a folder shows its marks
module _ (folder : ℕ) (s : DirState) (items : List Item)
    (names : (name : List ℕ) → has_name (item_names items) name ≡ has_direct (entries_in folder s.entries) name) (moment : ℕ)
    (greatest : IsGreatest (imported_moments items) moment) where
  pub has_mark : HasMark folder moment s
  has_mark =
      let n = shown_of items moment greatest.one in
      record { name = n.name; is = n.is; there = sym (names n.name) ∙ n.there }

  pub is_newest : (other : ℕ) → HasMark folder other s → other ≤ moment
  is_newest other m = not_later items moment m.name other greatest.most (names m.name ∙ m.there) m.is

-- and where it shows none, none stands there
pub none_shown : (folder : ℕ) (s : DirState) (items : List Item)
    → ((name : List ℕ) → has_name (item_names items) name ≡ has_direct (entries_in folder s.entries) name) → imported_moments items ≡ [] →
    (moment : ℕ) → HasMark folder moment s → ⊥
none_shown folder s items names none moment m = none_named items m.name moment none (names m.name ∙ m.there) m.is
