-- Numbered nodes, each before its children, which are the best images of its image's dependencies.
use Rattle.std.specs.Prelude.{◌≡◌, ℕ, ◌<◌, List, [], length, map, Some, slice_index_or}
use Rattle.std.specs.List.{All}
use Rattle.manifest_parts.specs.declared.dependency.Dependency.{Dependency}
use Rattle.dep_match.specs.declared.dep_tree.DepNode.{DepNode}
use Rattle.dep_match.specs.declared.stored.Stored.{Stored}
use Rattle.dep_match.specs.Dependencies.{dependencies_at}
use Rattle.dep_match.specs.Selection.{best_match, matches_dependency}

-- the node of a number
abbrev pub node_at : List DepNode → ℕ → DepNode
node_at nodes n = slice_index_or nodes n (record { image = 0; children = [] })

-- the nodes of a tree over so many images: there is a top, and each node comes before its children
pub record IsOrderedTree (count : ℕ) (nodes : List DepNode) : Type 0 where
  pub top : 0 < length nodes
  pub images : All (λ (node : DepNode). node.image < count) nodes
  pub children : (n : ℕ) → n < length nodes → All (λ child. (n < child) × (child < length nodes)) (node_at nodes n).children

-- the images of a node's children are the best matches of the dependencies of its image, one after the other
abbrev pub HasBestChildren : List Stored → List DepNode → ℕ → Type 0
HasBestChildren images nodes n =
    map (λ child. Some (node_at nodes child).image) (node_at nodes n).children
    ≡ map (λ (d : Dependency). best_match (matches_dependency d) images) (dependencies_at images (node_at nodes n).image)
