-- The tree of an image's dependencies, or the first fault on the way through it.
use Rattle.std.specs.Prelude.{◌≡◌, ◌⊎◌, ℕ, ◌+◌, ◌==◌, nat_le, List, [], ◌∷◌, ◌++◌, length, map, Option, Some, None, Result, Ok, Err, slice_index_or, if◌then◌else◌}
use Rattle.std.specs.List.{list_any}
use Rattle.std.proofs.Common.{zero, suc}
use Rattle.ac_types.specs.declared.store_key.StoreKey.{StoreKey}
use Rattle.manifest_parts.specs.declared.dependency.Dependency.{Dependency}
use Rattle.dep_match.specs.Selection.{best_match, matches_dependency}
use Rattle.dep_match.specs.declared.refusals.TheConstants.{MAX_DEPTH, MAX_NODES}
use Rattle.dep_match.specs.declared.dep_error.DepError.{DepError}
use Rattle.dep_match.specs.declared.dep_error.DepError.TheVariants.{NoDependency, Cycle, TooDeep, TooMany, NoMemory}
use Rattle.dep_match.specs.declared.dep_tree.DepNode.{DepNode}
use Rattle.dep_match.specs.declared.stored.Stored.{Stored}

-- what follows, unless there was a fault
abbrev pub and_then : {A B : Type 0} → Result A DepError → (A → Result B DepError) → Result B DepError
and_then (Ok a) next = next a
and_then (Err fault) next = Err fault

-- the key of the image at a place
abbrev pub key_at : List Stored → ℕ → StoreKey
key_at images i = slice_index_or (map (λ (s : Stored). s.key) images) i (record { bytes = [] })

-- the dependencies of the image at a place
abbrev pub dependencies_at : List Stored → ℕ → List Dependency
dependencies_at images i = slice_index_or (map (λ (s : Stored). s.manifest.dependencies) images) i []

-- the image of a dependency, where the way from the top leads to its dependent, so many levels are left below that one,
-- and so many nodes are made; or its fault: there is no image, it is on the way, no level is left, or 256 nodes are made
abbrev pub unless_faulty : List Stored → List ℕ → ℕ → ℕ → List ℕ → Option ℕ → Result ℕ DepError
unless_faulty images way levels made name None = Err (NoDependency name)
unless_faulty images way levels made name (Some i) =
    if list_any (λ k. k == i) way then Err (Cycle (key_at images i))
    else if levels == 0 then Err TooDeep
    else if nat_le MAX_NODES made then Err TooMany
    else Ok i

abbrev pub next_image : List Stored → List ℕ → ℕ → ℕ → Dependency → Result ℕ DepError
next_image images way levels made d =
    unless_faulty images way levels made d.image_name (best_match (matches_dependency d) images)

-- the trees of dependencies one after the other, the first numbered `made`: their numbers, and the nodes of all
abbrev pub branches : (ℕ → Dependency → Result (List DepNode) DepError) → ℕ → List Dependency → Result (List ℕ × List DepNode) DepError
branches grow made [] = Ok ([], [])
branches grow made (d ∷ ds) =
    and_then (grow made d) (λ nodes.
    and_then (branches grow (made + length nodes) ds) (λ rest. Ok (made ∷ rest.0, nodes ++ rest.1)))

-- an image's node, and the nodes below it
abbrev pub with_root : ℕ → Result (List ℕ × List DepNode) DepError → Result (List DepNode) DepError
with_root i below = and_then below (λ b. Ok (record { image = i; children = b.0 } ∷ b.1))

-- the tree of an image, of so many levels at most: its nodes depth first, numbered from `made` on;
-- `above` are the images on the way from the top
unfoldable pub subtree : ℕ → List Stored → List ℕ → ℕ → ℕ → Result (List DepNode) DepError
subtree zero images above made i = Err TooDeep
subtree (suc levels) images above made i =
    with_root i (branches
    (λ n d. and_then (next_image images (above ++ i ∷ []) levels n d) (subtree levels images (above ++ i ∷ []) n))
    (made + 1) (dependencies_at images i))

-- the tree below the top, of 32 levels at most
abbrev pub dependency_tree : List Stored → ℕ → Result (List DepNode) DepError
dependency_tree images top = subtree MAX_DEPTH images [] 0 top

-- memory ran out, or what was to be made has that fault
abbrev pub IsFault : {A : Type 0} → Result A DepError → DepError → Type 0
IsFault made error = (error ≡ NoMemory) ⊎ (made ≡ Err error)
