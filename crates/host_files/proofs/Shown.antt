-- What a listing tells keeps the names and their order.
use Rattle.std.proofs.Common.{◌≡◌, ◌≤◌, ◌⊎◌, ◌↔◌, ℕ, Bool, true, false, ◌&&◌, cond, nat_le, length, Option, Some, None, IsSome, IfSome, List, [], ◌∷◌, map, Less, true≢false, arith, inl, inr, refl, sym, ap, subst, ◌∙◌}
use Rattle.std.specs.Ordering.{nat_cmp}
use Rattle.std.specs.Cmp.Lexicographic.{slice_cmp}
use Rattle.std.specs.List.{AllByRecursion, list_all, cons_option}
use Rattle.std.specs.List.Sorted.{IsStrictlySortedBy}
use Rattle.std.proofs.lemmas.Bool.Decides.{nat_tests}
use Rattle.std.proofs.lemmas.List.Sums.{AllPass-from_list_all, list_all-from_AllPass}
use Rattle.dir_model.specs.declared.item.Item.{Item}
use Rattle.dir_model.specs.Listings.{item_names}
use Rattle.dir_model.specs.Names.{is_name_byte, IsName}
use Rattle.dir_model.proofs.Lists.{and_left, and_right, and_both}
use Rattle.dir_trait.specs.declared.bundle.BundleItem.{BundleItem}
use Rattle.dir_trait.specs.declared.bundle.BundleKind.{BundleKind}
use Rattle.dir_trait.specs.declared.bundle.BundleKind.TheVariants.{Dir, File, Link, Other}
use Rattle.dir_trait.specs.Bundles.{IsBundleListing}
use Rattle.host_files.specs.Shown.{shown_item, is_folder_name, folder_of_kind, folder_name, folder_names}

pub names_shown : (entries : List BundleItem) → item_names (map shown_item entries) ≡ map (λ (e : BundleItem). e.name) entries
names_shown [] = refl
names_shown (e ∷ es) = ap (λ ns. e.name ∷ ns) (names_shown es)

pub order_shown : (entries : List BundleItem) (items : List Item) → items ≡ map shown_item entries → IsBundleListing entries → IsStrictlySortedBy (slice_cmp nat_cmp) (item_names items)
order_shown entries items e ordered = subst (λ ns. IsStrictlySortedBy (slice_cmp nat_cmp) ns) (sym (ap item_names e ∙ names_shown entries)) ordered

pub none_ordered : (items : List Item) → items ≡ [] → IsStrictlySortedBy (slice_cmp nat_cmp) (item_names items)
unfolding IsStrictlySortedBy
none_ordered items e = subst (λ is. IsStrictlySortedBy (slice_cmp nat_cmp) (item_names is)) (sym e) tt

-- a name by the test is one, and the other way round

reaches : (n : ℕ) → 1 ≤ n → nat_le 1 n ≡ true
reaches n h = grind (arith, nat_tests)

from_reaches : (n : ℕ) → nat_le 1 n ≡ true → 1 ≤ n
from_reaches n h = grind (arith, nat_tests)

within : (n : ℕ) → n ≤ 71 → nat_le n 71 ≡ true
within n h = grind (arith, nat_tests)

from_within : (n : ℕ) → nat_le n 71 ≡ true → n ≤ 71
from_within n h = grind (arith, nat_tests)

is_name-true : (text : List ℕ) → IsName text → is_folder_name text ≡ true
is_name-true text h =
    and_both _ _ (reaches (length text) h.0) (and_both _ _ (within (length text) h.1) (list_all-from_AllPass is_name_byte text h.2))

IsName-from_test : (text : List ℕ) → is_folder_name text ≡ true → IsName text
IsName-from_test text h =
    let rest = and_right (nat_le 1 (length text)) (nat_le (length text) 71 && list_all is_name_byte text) h in (
      from_reaches (length text) (and_left (nat_le 1 (length text)) (nat_le (length text) 71 && list_all is_name_byte text) h),
      from_within (length text) (and_left (nat_le (length text) 71) (list_all is_name_byte text) rest),
      AllPass-from_list_all is_name_byte text (and_right (nat_le (length text) 71) (list_all is_name_byte text) rest),
    )

module _ (text : List ℕ) where
  unnamed : (b : Bool) (o : Option (List ℕ)) → is_folder_name text ≡ b → o ≡ None → (IsName text → IsSome o) → o ≡ cond b (Some text) None
  unnamed false o e none some = none
  unnamed true o e none some = absurd (true≢false (sym (subst IsSome none (some (IsName-from_test text e)))))

  pub name_told : (o : Option (List ℕ)) → (IsSome o ↔ IsName text) → IfSome o (λ n. n ≡ text) → o ≡ cond (is_folder_name text) (Some text) None
  name_told None some bytes = unnamed (is_folder_name text) None refl refl some.1
  name_told (Some n) some bytes = ap Some bytes ∙ sym (ap (λ b. cond b (Some text) None) (is_name-true text (some.0 refl)))

-- the folders of a listing are in its order

told_by : (b : Bool) (name : List ℕ) → (cond b (Some name) None ≡ None) ⊎ (cond b (Some name) None ≡ Some name)
told_by true name = inr refl
told_by false name = inl refl

told : (kind : BundleKind) (name : List ℕ) → (folder_of_kind kind name ≡ None) ⊎ (folder_of_kind kind name ≡ Some name)
told Dir name = told_by (is_folder_name name) name
told File name = inl refl
told Link name = inl refl
told Other name = inl refl

module _ (name : List ℕ) (rest : List (List ℕ)) where
  keep_one : (P : List ℕ → Type 0) (o : Option (List ℕ)) → (o ≡ None) ⊎ (o ≡ Some name) → P name → AllByRecursion P rest → AllByRecursion P (cons_option o rest)
  keep_one P o (inl e) p all = subst (λ o. AllByRecursion P (cons_option o rest)) (sym e) all
  keep_one P o (inr e) p all = subst (λ o. AllByRecursion P (cons_option o rest)) (sym e) (p, all)

  order_one : (o : Option (List ℕ)) → (o ≡ None) ⊎ (o ≡ Some name) → AllByRecursion (λ y. slice_cmp nat_cmp name y ≡ Less) rest → IsStrictlySortedBy (slice_cmp nat_cmp) rest →
      IsStrictlySortedBy (slice_cmp nat_cmp) (cons_option o rest)
  unfolding IsStrictlySortedBy
  order_one o (inl e) below ordered = subst (λ o. IsStrictlySortedBy (slice_cmp nat_cmp) (cons_option o rest)) (sym e) ordered
  order_one o (inr e) below ordered = subst (λ o. IsStrictlySortedBy (slice_cmp nat_cmp) (cons_option o rest)) (sym e) (below, ordered)

keeps : (P : List ℕ → Type 0) (entries : List BundleItem) → AllByRecursion P (map (λ (e : BundleItem). e.name) entries) → AllByRecursion P (folder_names entries)
keeps P [] all = all
keeps P (e ∷ es) all = keep_one e.name (folder_names es) P (folder_name e) (told e.kind e.name) all.0 (keeps P es all.1)

pub folders_ordered : (entries : List BundleItem) → IsBundleListing entries → IsStrictlySortedBy (slice_cmp nat_cmp) (folder_names entries)
unfolding IsStrictlySortedBy
folders_ordered [] ordered = ordered
folders_ordered (e ∷ es) ordered =
    order_one e.name (folder_names es) (folder_name e) (told e.kind e.name) (keeps (λ y. slice_cmp nat_cmp e.name y ≡ Less) es ordered.0) (folders_ordered es ordered.1)
