-- What a faithful pod is: one that is made of images that its maker read itself.
use Rattle.std.specs.Prelude.{◌≡◌, ℕ, true, ◌<◌, Some, Ok, List, length, slice_get}
use Rattle.std.specs.List.{AllZip}
use Rattle.ac_types.specs.declared.image_ref.ImageRef.{ImageRef}
use Rattle.ac_types.specs.declared.store_key.StoreKey.{StoreKey}
use Rattle.manifests.specs.PodData.{PodData, RuntimeAppData, pod_data}
use Rattle.manifests.specs.ManifestRules.{IsPodManifest}
use Rattle.manifests.specs.PodObject.{pod_object}
use Rattle.serde_json.specs.Written.{compact_text}
use Rattle.dep_match.specs.declared.dep_tree.DepNode.{DepNode}
use Rattle.dep_match.specs.declared.stored.Stored.{Stored}
use Rattle.dep_match.specs.Dependencies.{dependency_tree, key_at}
use Rattle.dep_match.specs.TreeOrder.{node_at}
use Rattle.path_map.specs.Entries.{Entries}
use Rattle.tree_digest.specs.declared.line.ListingLine.{ListingLine}
use Rattle.tree_digest.specs.Listings.{entries_of}
use Rattle.render.specs.Assembly.{own_whitelist, IsAssembly}
use Rattle.dir_rules.specs.declared.seen.Entry.{Entry}
use Rattle.dir_trait.specs.DirCalls.{DirAt}
use Rattle.folder_building.specs.declared.plan.PlanEntry.{PlanEntry}
use Rattle.folder_building.specs.Plans.{AreMade}
use Rattle.image_reading.specs.Files.{ReadsTree, IsImageManifestOf, ReadsManifestFile}
use Rattle.image_reading.specs.Store.{ReadsStore}
use Rattle.pod_manifest.specs.Wishes.{Wishes}
use Rattle.pod_plan.specs.declared.choice.Choice.{Choice}
use Rattle.pod_plan.specs.Choices.{IsChoice}
use Rattle.pod_plan.specs.Pods.{AppFiles, IsPod}
use Rattle.pod_plan.specs.declared.app_root.Root.{Root}
use Rattle.pod_plan.specs.Roots.{AreImageRoots}
use Rattle.pod_plan.specs.Plans.{IsPlanOf}

-- what a maker read in the store: the images that it listed, and of which bytes a manifest is and which lines a listing,
-- by the image's key
pub record StoreRead : Type 1 where
  pub images : List Stored
  pub manifest : StoreKey → List ℕ → Type 0
  pub tree : StoreKey → List ListingLine → Type 0

-- the entries of a node's image, by a listing that was read of it
abbrev pub IsOwnTree : StoreRead → List DepNode → ℕ → Entries → Type 0
IsOwnTree read nodes n own = (lines : List ListingLine) × read.tree (key_at read.images (node_at nodes n).image) lines × (own ≡ entries_of lines)

-- the root of the image at a place: its rendering over the images that were listed, by the listings that were read
pub record IsRootOf (read : StoreRead) (place : ℕ) (whole : Entries) : Type 0 where
  pub nodes : List DepNode
  pub tree : dependency_tree read.images place ≡ Ok nodes
  pub own : ℕ → Entries
  pub each : (n : ℕ) → n < length nodes → IsOwnTree read nodes n (own n)
  pub rendered : IsAssembly nodes (own_whitelist nodes read.images) own (length nodes) 0 whole

-- an image with the ID of an app stands at this place, and at no other
pub record IsImageOf (images : List Stored) (app : RuntimeAppData) (place : ℕ) (image : Stored) : Type 0 where
  pub there : slice_get images place ≡ Some image
  pub has_id : image.id ≡ app.image.id
  pub only : (other : ℕ) (another : Stored) → slice_get images other ≡ Some another → another.id ≡ app.image.id → other ≡ place

-- these files are an app's: the bytes of its image's manifest, which say what was listed, and its image's root
pub record IsAppOf (read : StoreRead) (app : RuntimeAppData) (files : AppFiles) : Type 0 where
  pub place : ℕ
  pub image : Stored
  pub of_image : IsImageOf read.images app place image
  pub name : files.name ≡ app.name
  pub manifest : read.manifest image.key files.manifest
  pub says : IsImageManifestOf image.manifest files.manifest
  pub root : IsRootOf read place (entries_of files.listing)

-- the entries are those of a pod of this manifest, moment and token, each of its apps made of what was read
pub record IsPodOf (read : StoreRead) (manifest : PodData) (now : ℕ) (token : List ℕ) (entries : List Entry) : Type 0 where
  pub kind : IsPodManifest manifest
  pub apps : List AppFiles
  pub each : AllZip (IsAppOf read) manifest.apps apps
  pub pod : IsPod now token (compact_text (pod_object manifest)) apps entries

abbrev pub IsFaithfulPod : StoreRead → ℕ → List ℕ → List Entry → Type 0
IsFaithfulPod read now token entries = (manifest : PodData) × IsPodOf read manifest now token entries

-- what was read between two moments
abbrev pub read_between : List Stored → DirAt → DirAt → StoreRead
read_between images old new = record {
  images = images;
  manifest = λ key bytes. ReadsManifestFile key (λ read. read ≡ bytes) old new;
  tree = λ key lines. ReadsTree key lines old new;
}

-- it is the plan of the pod that the references make of the images that were read, and wherever it is carried out, the folder is that
-- pod
pub record PlansFaithfully (refs : List ImageRef) (options : Wishes) (now : ℕ) (token : List ℕ) (plan : List PlanEntry) (old new : DirAt) : Type 0 where
  pub images : List Stored
  pub listed : ReadsStore images old new
  pub choice : Choice
  pub chosen : IsChoice images refs options choice
  pub manifests : List (List ℕ)
  pub roots : List Root
  pub rooted : AreImageRoots true images old new choice.trees roots
  pub planned : IsPlanOf images manifests choice roots now token plan
  pub makes : (entries : List Entry) → AreMade plan entries → IsPodOf (read_between images old new) (pod_data choice.manifest) now token entries
