-- The images of a pod's trees are those of the store that they are chosen of, and so they stand.
use Rattle.std.proofs.Common.{◌≡◌, ◌<◌, ◌-◌, ℕ, zero, suc, Ok, List, [], ◌∷◌, ◌++◌, length, map, sym, subst}
use Rattle.std.specs.List.{All, AllByRecursion}
use Rattle.std.proofs.lemmas.List.Elements.{All-head, All-tail}
use Rattle.plain_laws.proofs.Lists.{head_of, tail_of}
use Rattle.ac_types.specs.declared.store_key.StoreKey.{StoreKey}
use Rattle.dep_match.specs.declared.dep_tree.DepNode.{DepNode}
use Rattle.dep_match.specs.declared.dep_tree.DepTree.{DepTree}
use Rattle.dep_match.specs.declared.stored.Stored.{Stored}
use Rattle.dep_match.specs.Dependencies.{dependency_tree}
use Rattle.dep_match.specs.TreeOrder.{IsOrderedTree, node_at}
use Rattle.dep_match.proofs.OrderedTrees.{tree_ordered}
use Rattle.dir_model.specs.State.{DirState}
use Rattle.dir_model.proofs.Lists.{all_both, all_right}
use Rattle.image_reading.specs.Places.{IsPresent}
use Rattle.pod_plan.specs.Choices.{AreTrees}
use Rattle.pod_plan.specs.Roots.{node_key}
use Rattle.pod_plan.proofs.Keys.{key_there}
use Rattle.pod_plan.proofs.Zips.{each_at, found_at}
use Rattle.render.specs.Orders.{all_down, from_last, top_down}
use Rattle.standing_images.specs.Images.{AreStore, StandsWithItsFiles}

-- the tree of an image that was picked
pub tree_among : (images : List Stored) (picks : List ℕ) (before : List DepTree) (tree : DepTree) (after : List DepTree) → All (λ i. i < length images) picks → AreTrees images picks (before ++ tree ∷ after) → IsOrderedTree (length images) tree.nodes
tree_among images [] [] tree after within are = let no : ⊥ = cc in absurd no
tree_among images [] (t ∷ before) tree after within are = let no : ⊥ = cc in absurd no
tree_among images (k ∷ picks) [] tree after within are =
    tree_ordered images k tree.nodes (All-head (λ i. i < length images) k picks within)
    (head_of (dependency_tree images k) (Ok tree.nodes) (map (dependency_tree images) picks) (map (λ (x : DepTree). Ok x.nodes) after) are)
tree_among images (k ∷ picks) (t ∷ before) tree after within are =
    tree_among images picks before tree after (All-tail (λ i. i < length images) k picks within)
    (tail_of (dependency_tree images k) (Ok t.nodes) (map (dependency_tree images) picks) (map (λ (x : DepTree). Ok x.nodes) (before ++ tree ∷ after)) are)

module _ (count : ℕ) (nodes : List DepNode) (ordered : IsOrderedTree count nodes) where
  abbrev Within : ℕ → Type 0
  Within n = n < length nodes

  children_within : (n : ℕ) (give : ℕ → List ℕ) → ((c : ℕ) → c < length nodes → AllByRecursion Within (give c)) → (cs : List ℕ) → All (λ c. (n < c) × (c < length nodes)) cs → AllByRecursion Within (from_last give cs)
  children_within n give each [] all = tt
  children_within n give each (c ∷ cs) all =
      all_both Within (from_last give cs) (give c) (children_within n give each cs (All-tail (λ x. (n < x) × (x < length nodes)) c cs all))
      (each c (All-head (λ x. (n < x) × (x < length nodes)) c cs all).1)

  down_within : (levels n : ℕ) → n < length nodes → AllByRecursion Within (top_down nodes levels n)
  down_within zero n inside = tt
  down_within (suc levels) n inside = (inside, children_within n (top_down nodes levels) (down_within levels) (node_at nodes n).children (ordered.children n inside))

  -- each that comes in the order in which listings are wanted is a node
  pub all_within : AllByRecursion Within (all_down nodes 0)
  all_within = down_within (length nodes - 0) 0 ordered.top

  -- a node that comes in the order in which listings are wanted is one
  pub comes_within : (first : List ℕ) (next : ℕ) (others : List ℕ) → all_down nodes 0 ≡ first ++ next ∷ others → next < length nodes
  comes_within first next others is =
      let all = subst (λ (ns : List ℕ). AllByRecursion Within ns) is all_within in
      (all_right Within first (next ∷ others) all).0

-- its image stands
pub node_stands : (images : List Stored) (s : DirState) → AreStore images s → (nodes : List DepNode) → IsOrderedTree (length images) nodes → (n : ℕ) → n < length nodes → IsPresent (node_key images nodes n) s
node_stands images s are nodes ordered n within =
    let i = (node_at nodes n).image in
    let f = found_at images i (ordered.images n (record { image = 0; children = [] }) within) in
    let so : StandsWithItsFiles f.0 s = each_at (λ image. StandsWithItsFiles image s) images i f.0 are.together f.1 in
    subst (λ (key : StoreKey). IsPresent key s) (sym (key_there images i f.0 f.1)) (so.folder, so.here)
