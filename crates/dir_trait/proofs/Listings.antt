-- The names of a map, in its order, are a listing.
use Rattle.std.proofs.Common.{◌≡◌, ℕ, List, [], ◌∷◌, map, refl, sym, ap, subst, ◌∙◌}
use Rattle.std.specs.Ordering.{nat_cmp}
use Rattle.std.specs.Cmp.Lexicographic.{slice_cmp}
use Rattle.std.specs.List.Sorted.{IsStrictlySortedBy}
use Rattle.std.specs.BTreeMap.{BTreeMap, IsOrdered}
use Rattle.dir_trait.specs.declared.bundle.BundleItem.{BundleItem}
use Rattle.dir_trait.specs.declared.bundle.BundleKind.{BundleKind}
use Rattle.dir_trait.specs.Bundles.{bundle_item_of, IsBundleListing}

pub names_keys : (es : List (List ℕ × BundleKind)) → map (λ (i : BundleItem). i.name) (map bundle_item_of es) ≡ map (λ e. e.0) es
names_keys [] = refl
names_keys (e ∷ es) = ap (λ ns. e.0 ∷ ns) (names_keys es)

pub in_order : (found : BTreeMap (List ℕ) BundleKind) (items : List BundleItem) → items ≡ map bundle_item_of found.entries → IsOrdered (slice_cmp nat_cmp) found → IsBundleListing items
in_order found items e ordered =
    subst (λ ns. IsStrictlySortedBy (slice_cmp nat_cmp) ns) (sym (ap (λ is. map (λ (i : BundleItem). i.name) is) e ∙ names_keys found.entries)) ordered
