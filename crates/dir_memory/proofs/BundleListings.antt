-- A listing tells all that stands in a directory.
use Rattle.std.proofs.Common.{◌≡◌, ℕ, ◌==◌, Bool, true, false, not, ◌&&◌, ◌||◌, cond, List, [], ◌∷◌, ◌++◌, length, map, slice_index_or, Option, Some, None, IsSome, is_some, IfSome, option_map, Contains, Result, Ok, Err, IfOk, refl, sym, ap, subst, ◌∙◌}
use Rattle.std.specs.List.{list_any}
use Rattle.std.specs.Ordering.{nat_cmp}
use Rattle.std.specs.Cmp.Lexicographic.{slice_cmp}
use Rattle.std.specs.List.Sorted.{IsStrictlySortedBy}
use Rattle.std.specs.BTreeMap.{get, IsOrdered}
use Rattle.std.proofs.lemmas.Cmp.{nat_list_cmp_total}
use Rattle.std.proofs.lemmas.Map.Views.{All-found, btree_map_contains_key_iff}
use Rattle.std.proofs.lemmas.Map.Lookups.{exact_bytes}
use Rattle.std.proofs.lemmas.List.Elements.{All-map}
use Rattle.std.proofs.lemmas.List.Folds.{list_any-append}
use Rattle.std.proofs.lemmas.Slice.Eq.{bytes_eq-Decides}
use Rattle.dir_model.specs.Names.{same_bytes, IsFileName}
use Rattle.dir_trait.specs.declared.bundle.BundleItem.{BundleItem}
use Rattle.dir_trait.specs.declared.bundle.BundleKind.{BundleKind}
use Rattle.dir_trait.specs.declared.bundle.BundleKind.TheVariants as kinds
use Rattle.dir_trait.specs.declared.node.Node.TheVariants.{Directory}
use Rattle.dir_memory.specs.declared.entry.Entry.{Entry}
use Rattle.dir_trait.specs.Bundles.{BundleTree, kind_at, child_path, bundle_item_of, IsBundleListing, Lists}
use Rattle.dir_model.specs.Paths.{lies_below}
use Rattle.dir_memory.specs.MemoryBundles.{is_bundle_directory, empty_bundle, bundle_tree_of, leads_through, Found, AreKinds, AreFound, kind_with}
use Rattle.dir_trait.proofs.Listings.{names_keys}
use Rattle.dir_memory.proofs.BundlePaths.{child_other}

-- some path leads through all that stands but the root
standing_led : (entries : List Entry) (q : List ℕ) → (length q == 0) ≡ false → IsSome (bundle_tree_of entries q) → list_any (λ entry. leads_through entry.path q) entries ≡ true
standing_led [] q other some =
    let none : is_some (empty_bundle q) ≡ false = ap (λ b. is_some (cond b (Some Directory) None)) other in
    cc
standing_led (entry ∷ older) q other some =
    by (same_bytes entry.path q) (lies_below entry.path q) (not (is_bundle_directory entry.node) && lies_below q entry.path) some (standing_led older q other)
  where
    by : (a b c : Bool) → is_some (cond a (Some entry.node) (cond b (Some Directory) (cond c None (bundle_tree_of older q)))) ≡ true
        → (IsSome (bundle_tree_of older q) → list_any (λ e. leads_through e.path q) older ≡ true)
        → ((a || b) || list_any (λ e. leads_through e.path q) older) ≡ true
    by true b c some more = refl
    by false true c some more = refl
    by false false true some more = cc
    by false false false some more = more some

abbrev pub found_at : Found → List ℕ → Option BundleKind
found_at found name = get (slice_cmp nat_cmp) found name

-- one more item
pub kinds_more : (tree : BundleTree) (d : List ℕ) (old new : Found) (item : Option BundleItem) → AreKinds tree d old
    → IfSome item (λ i. kind_at (tree (child_path d i.name)) ≡ Some i.kind)
    → ((name : List ℕ) → found_at new name ≡ kind_with item name (found_at old name)) → AreKinds tree d new
kinds_more tree d old new None before ok gets = λ name kind is. before name kind (sym (gets name) ∙ is)
kinds_more tree d old new (Some item) before ok gets = λ name kind is. by name kind (same_bytes item.name name) refl (sym (gets name) ∙ is)
  where
    by : (name : List ℕ) (kind : BundleKind) (b : Bool) → same_bytes item.name name ≡ b → cond b (Some item.kind) (found_at old name) ≡ Some kind → kind_at (tree (child_path d name)) ≡ Some kind
    by name kind true same e = ap (λ n. kind_at (tree (child_path d n))) (sym ((bytes_eq-Decides item.name name).0 same)) ∙ (ok ∙ e)
    by name kind false same e = before name kind e

still_found : (item : Option BundleItem) (name : List ℕ) (kind : Option BundleKind) → IsSome kind → IsSome (kind_with item name kind)
still_found None name kind some = some
still_found (Some item) name kind some = by (same_bytes item.name name)
  where
    by : (b : Bool) → IsSome (cond b (Some item.kind) kind)
    by true = refl
    by false = some

now_found : (item : Option BundleItem) (name : List ℕ) (kind : Option BundleKind) → option_map (λ i. i.name) item ≡ Some name → IsSome (kind_with item name kind)
now_found None name kind is = cc
now_found (Some item) name kind is =
    let same : item.name ≡ name = cc in
    ap (λ b. is_some (cond b (Some item.kind) kind)) ((bytes_eq-Decides item.name name).1 same)

pub found_more : (tree : BundleTree) (d : List ℕ) (seen : List Entry) (entry : Entry) (path : List ℕ) (old new : Found) (item : Option BundleItem) → AreFound tree d seen old
    → path ≡ entry.path
    → ((name : List ℕ) → IsFileName name → IsSome (tree (child_path d name)) → leads_through path (child_path d name) ≡ true → option_map (λ i. i.name) item ≡ Some name)
    → ((name : List ℕ) → found_at new name ≡ kind_with item name (found_at old name)) → AreFound tree d (seen ++ entry ∷ []) new
found_more tree d seen entry path old new item before is_path ok gets = λ name named some any.
    let p : Entry → Bool = λ e. leads_through e.path (child_path d name) in
    by name named some (list_any p seen) refl (leads_through entry.path (child_path d name)) refl (sym (list_any-append p seen (entry ∷ [])) ∙ any)
  where
    by : (name : List ℕ) → IsFileName name → IsSome (tree (child_path d name)) → (a : Bool) → list_any (λ e. leads_through e.path (child_path d name)) seen ≡ a
        → (b : Bool) → leads_through entry.path (child_path d name) ≡ b → (a || (b || false)) ≡ true → IsSome (found_at new name)
    by name named some true a b leads any = subst IsSome (sym (gets name)) (still_found item name (found_at old name) (before name named some a))
    by name named some false a true leads any = subst IsSome (sym (gets name)) (now_found item name (found_at old name) (ok name named some (ap (λ q. leads_through q (child_path d name)) is_path ∙ leads)))
    by name named some false a false leads any = cc

whole : (entries : List Entry) (d : List ℕ) (found : Found) → AreFound (bundle_tree_of entries) d entries found
    → (name : List ℕ) → IsFileName name → IsSome (bundle_tree_of entries (child_path d name)) → Contains (map (λ (i : BundleItem). i.name) (map bundle_item_of found.entries)) name
whole entries d found are name named some =
    let led = standing_led entries (child_path d name) (child_other d name named) some in
    subst (λ ns. Contains ns name) (sym (names_keys found.entries)) ((btree_map_contains_key_iff nat_list_cmp_total exact_bytes found name).0 (are name named some led))

lists : (entries : List Entry) (d : List ℕ) (found : Found) → kind_at (bundle_tree_of entries d) ≡ Some kinds.Dir → AreKinds (bundle_tree_of entries) d found
    → AreFound (bundle_tree_of entries) d entries found → IsOrdered (slice_cmp nat_cmp) found → Lists (bundle_tree_of entries) d (map bundle_item_of found.entries)
lists entries d found directory kinds are ordered = record {
  directory = directory;
  each = All-map (λ (i : BundleItem). kind_at (bundle_tree_of entries (child_path d i.name)) ≡ Some i.kind) bundle_item_of found.entries
      (λ k e l. kinds (slice_index_or found.entries k e).0 (slice_index_or found.entries k e).1 (All-found nat_list_cmp_total found ordered k e l));
  whole = whole entries d found are;
}

pub all_listed : {E : Type 0} (entries : List Entry) (d : List ℕ) (found : Found) (r : Result (List BundleItem) E) → kind_at (bundle_tree_of entries d) ≡ Some kinds.Dir → AreKinds (bundle_tree_of entries) d found
    → AreFound (bundle_tree_of entries) d entries found → IfOk r (λ items. items ≡ map bundle_item_of found.entries) → IfOk r IsBundleListing → IfOk r (Lists (bundle_tree_of entries) d)
all_listed entries d found (Ok items) directory kinds are e ordered =
    let sorted : IsOrdered (slice_cmp nat_cmp) found =
    subst (λ ns. IsStrictlySortedBy (slice_cmp nat_cmp) ns) (ap (λ is. map (λ (i : BundleItem). i.name) is) e ∙ names_keys found.entries) ordered in
    subst (Lists (bundle_tree_of entries) d) (sym e) (lists entries d found directory kinds are sorted)
all_listed entries d found (Err x) directory kinds are e ordered = tt
