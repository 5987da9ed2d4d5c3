-- Of which images the listings are read for a pod.
use Rattle.std.specs.Prelude.{◌≡◌, ◌⊎◌, Bool, true, not, bytes_eq, List, map}
use Rattle.std.specs.List.{flat_map, list_all}
use Rattle.ac_types.specs.declared.image_ref.ImageRef.{ImageRef}
use Rattle.ac_types.specs.declared.store_key.StoreKey.{StoreKey}
use Rattle.dep_match.specs.declared.dep_tree.DepNode.{DepNode}
use Rattle.dep_match.specs.declared.dep_tree.DepTree.{DepTree}
use Rattle.dep_match.specs.declared.stored.Stored.{Stored}
use Rattle.dep_match.specs.Dependencies.{key_at}
use Rattle.dir_trait.specs.DirCalls.{DirAt}
use Rattle.folder_building.specs.declared.plan.PlanEntry.{PlanEntry}
use Rattle.folder_building.specs.declared.plan.Content.{Content}
use Rattle.folder_building.specs.declared.plan.Content.TheVariants.{Directory, Given, Copied}
use Rattle.image_reading.specs.Places.{tree_name}
use Rattle.image_reading.specs.Trees.{ReadsTreesOf, ReadsNoTrees}
use Rattle.image_reading.specs.Store.{ReadsStore}
use Rattle.pod_manifest.specs.Wishes.{Wishes}
use Rattle.pod_plan.specs.declared.choice.Choice.{Choice}
use Rattle.pod_plan.specs.Choices.{IsChoice}

-- the keys of the images at the nodes of a tree
abbrev pub node_keys : List Stored → List DepNode → List StoreKey
node_keys images nodes = map (λ (node : DepNode). key_at images node.image) nodes

-- and of several trees
abbrev pub tree_keys : List Stored → List DepTree → List StoreKey
tree_keys images trees = flat_map (λ (tree : DepTree). node_keys images tree.nodes) trees

-- of some images the pod of the references was chosen, and of no listings but those at the nodes of its trees any was read
pub record ReadsChosenTrees (observed : Bool) (images : List Stored) (refs : List ImageRef) (options : Wishes) (old new : DirAt) : Type 0 where
  pub choice : Choice
  pub chosen : IsChoice images refs options choice
  pub trees : ReadsTreesOf observed (tree_keys images choice.trees) old new

-- no listing was read; or those alone
abbrev pub ReadsAtMostChosen : Bool → List Stored → List ImageRef → Wishes → DirAt → DirAt → Type 0
ReadsAtMostChosen observed images refs options old new = ReadsNoTrees observed old new ⊎ ReadsChosenTrees observed images refs options old new

-- the images are those of the store, as they were read
pub record ReadsPickedTrees (observed : Bool) (refs : List ImageRef) (options : Wishes) (old new : DirAt) : Type 0 where
  pub images : List Stored
  pub listed : observed ≡ true → ReadsStore images old new
  pub trees : ReadsChosenTrees observed images refs options old new

-- no listing was read; or images of the store were picked for the references, and no listings were read but those of the images at
-- the nodes of the picked ones' dependency trees
abbrev pub ReadsAtMostPicked : Bool → List ImageRef → Wishes → DirAt → DirAt → Type 0
ReadsAtMostPicked observed refs options old new = ReadsNoTrees observed old new ⊎ ReadsPickedTrees observed refs options old new

-- an entry of a plan isn't copied from the listing of an image
abbrev pub is_no_tree : Content → Bool
is_no_tree (Copied origin size sha) = not (bytes_eq origin.path tree_name)
is_no_tree content = true

-- the plan copies no listing
abbrev pub copies_no_tree : List PlanEntry → Bool
copies_no_tree plan = list_all (λ e. is_no_tree e.content) plan
