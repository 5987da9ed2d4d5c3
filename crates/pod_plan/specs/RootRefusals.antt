-- Why there is no root.
use Rattle.std.specs.Prelude.{◌≡◌, ℕ, ◌<◌, Bool, true, List, [], ◌∷◌, ◌++◌, length}
use Rattle.ac_types.specs.declared.store_key.StoreKey.{StoreKey}
use Rattle.path_map.specs.Entries.{Entries}
use Rattle.tree_digest.specs.Listings.{lines_of, IsTooLarge}
use Rattle.tree_digest.specs.declared.listing_error.ListingError.{ListingError as ListingFault}
use Rattle.dep_match.specs.declared.dep_tree.DepNode.{DepNode}
use Rattle.dep_match.specs.declared.dep_tree.DepTree.{DepTree}
use Rattle.dep_match.specs.declared.stored.Stored.{Stored}
use Rattle.render.specs.declared.plan.Plan.{Plan}
use Rattle.render.specs.declared.rendering.Rendering.{Rendering}
use Rattle.render.specs.declared.refusals.TheConstants.{MAX_ENTRIES}
use Rattle.render.specs.declared.render_error.RenderError.TheVariants.{TooManyEntries}
use Rattle.dir_trait.specs.DirCalls.{DirAt}
use Rattle.pod_plan.specs.declared.plan_error.PlanError.{PlanError}
use Rattle.pod_plan.specs.declared.plan_error.PlanError.TheVariants.{Damaged, RenderError, ListingError, DirFault, NoMemory}
use Rattle.pod_plan.specs.declared.app_root.Root.{Root}
use Rattle.pod_plan.specs.Readings.{KnowsTree}
use Rattle.pod_plan.specs.PlanRefusals.{LacksTreeAt}
use Rattle.pod_plan.specs.Roots.{node_key, HasReadListings, entries_together, AreFewEntries, IsRendered, AreImageRoots}

-- the listing isn't there or has no reading; or it has more entries than the plan has room for; or the directory failed,
-- or memory ran out
abbrev pub IsLayRefusal : Bool → StoreKey → Plan → PlanError → DirAt → DirAt → Type 0
IsLayRefusal observed key plan (Damaged path) old new = observed ≡ true → LacksTreeAt key path old new
IsLayRefusal observed key plan (RenderError TooManyEntries) old new = (map : Entries) × KnowsTree observed key map old new × (plan.room < length map)
IsLayRefusal observed key plan DirFault old new = Unit {0}
IsLayRefusal observed key plan NoMemory old new = Unit {0}
IsLayRefusal observed key plan error old new = ⊥

-- listings of the first nodes were read, which have few enough entries together, and that of the next node's image isn't
-- there or has no reading
pub record LacksNext (observed : Bool) (images : List Stored) (nodes : List DepNode) (path : List ℕ) (old new : DirAt) : Type 0 where
  pub first : List ℕ
  pub next : ℕ
  pub others : List ℕ
  pub own : ℕ → Entries
  pub read : HasReadListings observed images nodes first (next ∷ others) own old new
  pub few : AreFewEntries own first
  pub lacks : LacksTreeAt (node_key images nodes next) path old new

-- listings of the first nodes were read, which have few enough entries together, and then that of the next, maybe the last
-- of all, and with it they have too many
pub record HasTooMany (observed : Bool) (images : List Stored) (nodes : List DepNode) (old new : DirAt) : Type 0 where
  pub first : List ℕ
  pub next : ℕ
  pub others : List ℕ
  pub own : ℕ → Entries
  pub read : HasReadListings observed images nodes (first ++ next ∷ []) others own old new
  pub few : AreFewEntries own first
  pub many : MAX_ENTRIES < entries_together own (first ++ next ∷ [])

-- a tree has no rendering: a listing is lacking, or there are too many entries; or the directory failed, or memory ran out
abbrev pub IsRenderingRefusal : Bool → List Stored → List DepNode → PlanError → DirAt → DirAt → Type 0
IsRenderingRefusal observed images nodes (Damaged path) old new = observed ≡ true → LacksNext observed images nodes path old new
IsRenderingRefusal observed images nodes (RenderError TooManyEntries) old new = HasTooMany observed images nodes old new
IsRenderingRefusal observed images nodes DirFault old new = Unit {0}
IsRenderingRefusal observed images nodes NoMemory old new = Unit {0}
IsRenderingRefusal observed images nodes error old new = ⊥

-- the listing of a rendering is too large, or memory ran out
abbrev pub IsListingRefusal : Entries → PlanError → Type 0
IsListingRefusal whole (ListingError error) = IsTooLarge (lines_of whole) error
IsListingRefusal whole NoMemory = Unit {0}
IsListingRefusal whole error = ⊥

-- a rendering was made of listings that were read, and its own listing is too large
pub record HasLargeListing (observed : Bool) (images : List Stored) (nodes : List DepNode) (error : ListingFault) (old new : DirAt) : Type 0 where
  pub rendering : Rendering
  pub rendered : IsRendered observed images nodes rendering old new
  pub large : IsTooLarge (lines_of rendering.map) error

-- a tree gives no root: it has no rendering, or that has no listing; or the directory failed, or memory ran out
abbrev pub IsRootRefusal : Bool → List Stored → List DepNode → PlanError → DirAt → DirAt → Type 0
IsRootRefusal observed images nodes (ListingError error) old new = HasLargeListing observed images nodes error old new
IsRootRefusal observed images nodes error old new = IsRenderingRefusal observed images nodes error old new

-- a tree gives no root for this reason, and those before it have theirs
pub record IsFirstRootFault (observed : Bool) (images : List Stored) (trees : List DepTree) (error : PlanError) (old new : DirAt) : Type 0 where
  pub before : List DepTree
  pub tree : DepTree
  pub after : List DepTree
  pub is : trees ≡ before ++ tree ∷ after
  pub faulty : IsRootRefusal observed images tree.nodes error old new
  pub roots : List Root
  pub earlier : AreImageRoots observed images old new before roots

-- one of the trees gives no root; or the directory failed, or memory ran out
abbrev pub IsRootsRefusal : Bool → List Stored → List DepTree → PlanError → DirAt → DirAt → Type 0
IsRootsRefusal observed images trees DirFault old new = Unit {0}
IsRootsRefusal observed images trees NoMemory old new = Unit {0}
IsRootsRefusal observed images trees error old new = IsFirstRootFault observed images trees error old new
