-- The roots of apps, by the listings that were read for them.
use Rattle.std.specs.Prelude.{◌≡◌, ℕ, ◌<◌, ◌≤◌, ◌+◌, ◌==◌, Bool, List, [], ◌∷◌, ◌++◌, length, if◌then◌else◌}
use Rattle.std.specs.List.{AllZip, sum_by}
use Rattle.ac_types.specs.declared.store_key.StoreKey.{StoreKey}
use Rattle.path_map.specs.declared.listed.Listed.{Listed}
use Rattle.path_map.specs.Entries.{Entries, entry_at}
use Rattle.tree_digest.specs.Listings.{IsListing, lines_of}
use Rattle.dep_match.specs.declared.dep_tree.DepNode.{DepNode}
use Rattle.dep_match.specs.declared.dep_tree.DepTree.{DepTree}
use Rattle.dep_match.specs.declared.stored.Stored.{Stored}
use Rattle.dep_match.specs.Dependencies.{key_at}
use Rattle.dep_match.specs.TreeOrder.{node_at}
use Rattle.render.specs.declared.plan.Plan.{Plan}
use Rattle.render.specs.declared.refusals.TheConstants.{MAX_ENTRIES}
use Rattle.render.specs.declared.rendering.Rendering.{Rendering}
use Rattle.render.specs.Assembly.{own_whitelist, IsAssembly}
use Rattle.render.specs.Layers.{source_at}
use Rattle.render.specs.Orders.{all_down, nodes_left}
use Rattle.render.specs.Plans.{IsPut, HasNodeSources}
use Rattle.render.specs.PlanStates.{IsPlan, PlanStands}
use Rattle.dir_trait.specs.DirCalls.{DirAt}
use Rattle.pod_plan.specs.declared.app_root.Root.{Root}
use Rattle.pod_plan.specs.Readings.{KnowsTree}

-- how often a number stands in a list
abbrev pub count_in_list : ℕ → List ℕ → ℕ
count_in_list n [] = 0
count_in_list n (m ∷ ms) = (if m == n then 1 else 0) + count_in_list n ms

-- in the order in which listings are wanted each node comes once
abbrev pub ComesOnce : List DepNode → Type 0
ComesOnce nodes = (n : ℕ) → n < length nodes → count_in_list n (all_down nodes 0) ≡ 1

-- the key of a node's image
abbrev pub node_key : List Stored → List DepNode → ℕ → StoreKey
node_key images nodes n = key_at images (node_at nodes n).image

-- in the order in which listings are wanted some nodes come first, and then others; of the image of each of the first a
-- listing was read, and these are its entries
pub record HasReadListings (observed : Bool) (images : List Stored) (nodes : List DepNode) (first others : List ℕ) (own : ℕ → Entries) (old new : DirAt) : Type 0 where
  pub order : all_down nodes 0 ≡ first ++ others
  pub read : (n : ℕ) → 0 < count_in_list n first → KnowsTree observed (node_key images nodes n) (own n) old new

-- how many entries some nodes have together
abbrev pub entries_together : (ℕ → Entries) → List ℕ → ℕ
entries_together own nodes = sum_by (λ n. length (own n)) nodes

-- they are few enough for one root
abbrev pub AreFewEntries : (ℕ → Entries) → List ℕ → Type 0
AreFewEntries own nodes = entries_together own nodes ≤ MAX_ENTRIES

-- a map was laid as the next of a plan
pub record Lays (before : Plan) (map : Entries) (after : Plan) : Type 0 where
  pub sound : IsPlan after
  pub nodes : after.nodes ≡ before.nodes
  pub room : after.room + length map ≡ before.room
  pub order : nodes_left before ≡ before.next ∷ nodes_left after
  pub stands : (whitelists : ℕ → List Listed) (own : ℕ → Entries) → PlanStands whitelists own before → own before.next ≡ map → PlanStands whitelists own after

-- the same of a tree that was read
pub record LaysNext (observed : Bool) (key : StoreKey) (before after : Plan) (old new : DirAt) : Type 0 where
  pub map : Entries
  pub known : KnowsTree observed key map old new
  pub lays : Lays before map after

-- the rendering of an image with these nodes, where each has a listing that was read of its image, and they have few
-- enough entries together; with the images that its files are from
pub record IsRendered (observed : Bool) (images : List Stored) (nodes : List DepNode) (r : Rendering) (old new : DirAt) : Type 0 where
  pub own : ℕ → Entries
  pub read : (n : ℕ) → n < length nodes → KnowsTree observed (node_key images nodes n) (own n) old new
  pub few : AreFewEntries own (all_down nodes 0)
  pub rendering : IsAssembly nodes (own_whitelist nodes images) own (length nodes) 0 r.map
  pub sourced : IsPut nodes (own_whitelist nodes images) own (length nodes) 0 r
  pub sources : HasNodeSources nodes own (entry_at r.map) (source_at r)

-- the root of an image with this tree: that, and the listing of it, which isn't too large
pub record IsRootAsRead (observed : Bool) (images : List Stored) (old new : DirAt) (tree : DepTree) (root : Root) : Type 0 where
  pub rendered : IsRendered observed images tree.nodes root.rendering old new
  pub listing : root.listing ≡ lines_of root.rendering.map
  pub kind : IsListing root.listing

-- the root of each image, in order
abbrev pub AreImageRoots : Bool → List Stored → DirAt → DirAt → List DepTree → List Root → Type 0
AreImageRoots observed images old new trees roots = AllZip (IsRootAsRead observed images old new) trees roots
