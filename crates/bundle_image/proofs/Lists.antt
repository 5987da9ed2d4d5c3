-- What a bundle's listing tells of a directory below the root.
use Rattle.std.proofs.Common.{arith, ◌≡◌, ◌<◌, ℕ, suc, eqb, List, [], ◌∷◌, ◌++◌, length, Some, IsSome, sym, ap, subst, ◌∙◌, append_assoc, length-append}
use Rattle.std.specs.List.{All, AllByRecursion}
use Rattle.std.proofs.lemmas.Bool.{ne_eqb, cond-false}
use Rattle.dir_trait.specs.declared.bundle.BundleItem.{BundleItem}
use Rattle.dir_trait.specs.Bundles.{BundleTree, kind_at, child_path, Lists}
use Rattle.bundle_image.specs.Walks.{subtree_below, in_directory}
use Rattle.bundle_image.specs.Work.{ListsIn}

by_recursion : {X : Type 0} (P : X → Type 0) (xs : List X) → All P xs → AllByRecursion P xs
by_recursion P [] all = tt
by_recursion P (x ∷ xs) all = (all 0 x (omega arith), by_recursion P xs (λ k d inside. all (suc k) d (omega arith)))

child_is : (root path name : List ℕ) → 0 < length root → child_path (root ++ path) name ≡ root ++ in_directory path name
child_is root path name some =
    ap (λ (front : List ℕ). front ++ name) (cond-false (eqb (length (root ++ path)) 0) [] ((root ++ path) ++ 47 ∷ []) (ne_eqb _ _ (λ e. omega (arith, e, length-append root path))))
    ∙ append_assoc (root ++ path) (47 ∷ []) name ∙ append_assoc root path (47 ∷ name)

pub lists_in : (tree : BundleTree) (root path : List ℕ) (items : List BundleItem) → 0 < length root → Lists tree (root ++ path) items → ListsIn (subtree_below tree root) path items
lists_in tree root path items some lists = record {
  directory = lists.directory;
  each = each items (by_recursion (λ item. kind_at (tree (child_path (root ++ path) item.name)) ≡ Some item.kind) items lists.each);
  whole = λ name named there. lists.whole name named (subst (λ t. IsSome (tree t)) (sym (child_is root path name some)) there);
}
  where
    each : (is : List BundleItem) → AllByRecursion (λ item. kind_at (tree (child_path (root ++ path) item.name)) ≡ Some item.kind) is
        → AllByRecursion (λ item. kind_at (tree (root ++ in_directory path item.name)) ≡ Some item.kind) is
    each [] all = tt
    each (i ∷ is) all = (subst (λ t. kind_at (tree t) ≡ Some i.kind) (child_is root path i.name some) all.0, each is all.1)
