-- Of which images the listings are read for a pod, one after the other.
use Rattle.std.proofs.Common.{◌≡◌, ◌<◌, ◌⊎◌, inl, inr, ℕ, zero, suc, Bool, true, false, ◌||◌, List, [], ◌∷◌, length, get_or, arith, refl, sym, subst, ◌∙◌}
use Rattle.std.specs.List.{list_any}
use Rattle.std.proofs.lemmas.List.Folds.{list_any-append}
use Rattle.ac_types.specs.declared.image_ref.ImageRef.{ImageRef}
use Rattle.ac_types.specs.declared.store_key.StoreKey.{StoreKey}
use Rattle.dep_match.specs.declared.dep_tree.DepNode.{DepNode}
use Rattle.dep_match.specs.declared.dep_tree.DepTree.{DepTree}
use Rattle.dep_match.specs.declared.stored.Stored.{Stored}
use Rattle.dir_model.specs.State.{spot_eq}
use Rattle.dir_model.proofs.Lists.{or_last}
use Rattle.dir_trait.specs.DirCalls.{DirAt}
use Rattle.image_reading.specs.Places.{image_spot}
use Rattle.image_reading.specs.Trees.{ReadsTreesOf, ReadsNoTrees}
use Rattle.image_reading.specs.Store.{ReadsStore}
use Rattle.image_reading.proofs.Trees.{trees_wider, trees_any, trees_more}
use Rattle.pod_manifest.specs.Wishes.{Wishes}
use Rattle.pod_plan.specs.declared.choice.Choice.{Choice}
use Rattle.pod_plan.specs.Choices.{IsChoice}
use Rattle.pod_plan.specs.Roots.{node_key}
use Rattle.pod_plan.specs.PickedTrees.{node_keys, tree_keys, ReadsChosenTrees, ReadsAtMostChosen, ReadsPickedTrees, ReadsAtMostPicked}

alone : (b : Bool) → (b || false) ≡ true → b ≡ true
alone true h = h
alone false h = h

-- what is so of a node's key is so of one of the keys
module _ (images : List Stored) (is_so : StoreKey → Bool) where
  node_among : (nodes : List DepNode) (n : ℕ) → n < length nodes → is_so (node_key images nodes n) ≡ true → list_any is_so (node_keys images nodes) ≡ true
  node_among [] n inside h = absurd (omega (arith, inside))
  node_among (x ∷ xs) zero inside h = rw h refl
  node_among (x ∷ xs) (suc n) inside h = or_last (is_so (node_key images (x ∷ xs) zero)) (list_any is_so (node_keys images xs)) (node_among xs n (omega (arith, inside)) h)

  tree_among : (trees : List DepTree) (i : ℕ) (d : DepTree) → i < length trees → list_any is_so (node_keys images (get_or trees i d).nodes) ≡ true → list_any is_so (tree_keys images trees) ≡ true
  tree_among [] i d inside h = absurd (omega (arith, inside))
  tree_among (t ∷ ts) zero d inside h = list_any-append is_so (node_keys images t.nodes) (tree_keys images ts) ∙ rw h refl
  tree_among (t ∷ ts) (suc i) d inside h =
      list_any-append is_so (node_keys images t.nodes) (tree_keys images ts)
      ∙ or_last (list_any is_so (node_keys images t.nodes)) (list_any is_so (tree_keys images ts)) (tree_among ts i d (omega (arith, inside)) h)

-- a node's listing is one of those at the nodes, and those of a tree are among those of all
module _ {observed : Bool} (images : List Stored) {old new : DirAt} where
  pub trees_of_node : (nodes : List DepNode) (n : ℕ) (key : StoreKey) → n < length nodes → key ≡ node_key images nodes n → ReadsTreesOf observed (key ∷ []) old new → ReadsTreesOf observed (node_keys images nodes) old new
  trees_of_node nodes n key inside is r =
      trees_wider (key ∷ []) (node_keys images nodes)
      (λ inner h. node_among images (λ k. spot_eq inner.spot (image_spot k)) nodes n inside (subst (λ (k : StoreKey). spot_eq inner.spot (image_spot k) ≡ true) is (alone (spot_eq inner.spot (image_spot key)) h))) r

  pub trees_of_tree : (trees : List DepTree) (i : ℕ) (tree : DepTree) → i < length trees → tree ≡ get_or trees i tree → ReadsTreesOf observed (node_keys images tree.nodes) old new → ReadsTreesOf observed (tree_keys images trees) old new
  trees_of_tree trees i tree inside is r =
      trees_wider (node_keys images tree.nodes) (tree_keys images trees)
      (λ inner h. tree_among images (λ k. spot_eq inner.spot (image_spot k)) trees i tree inside (subst (λ (t : DepTree). list_any (λ k. spot_eq inner.spot (image_spot k)) (node_keys images t.nodes) ≡ true) is h)) r

-- after a time in which no listing was read
pub picked_after : {observed : Bool} {a b c : DirAt} (images : List Stored) (refs : List ImageRef) (options : Wishes) → ReadsNoTrees observed a b → (observed ≡ true → ReadsStore images a c) → ReadsAtMostChosen observed images refs options b c → ReadsAtMostPicked observed refs options a c
picked_after images refs options none listed (inl no_more) = inl (trees_more none no_more)
picked_after images refs options none listed (inr chosen) = inr (record {
  images = images;
  listed = listed;
  trees = record { choice = chosen.choice; chosen = chosen.chosen; trees = trees_more (trees_any (tree_keys images chosen.choice.trees) none) chosen.trees };
})
