-- Which pod the store of one state makes of what is wanted, and why it makes none.
use Rattle.std.specs.Prelude.{◌≡◌, ◌⊎◌, ℕ, ◌<◌, Some, None, List, [], ◌∷◌, ◌++◌, length, codes}
use Rattle.std.specs.List.{AllByRecursion}
use Rattle.ac_types.specs.declared.image_ref.ImageRef.{ImageRef}
use Rattle.ac_types.specs.declared.store_key.StoreKey.{StoreKey}
use Rattle.dep_match.specs.declared.dep_tree.DepNode.{DepNode}
use Rattle.dep_match.specs.declared.dep_tree.DepTree.{DepTree}
use Rattle.dep_match.specs.declared.stored.Stored.{Stored}
use Rattle.dep_match.specs.Dependencies.{key_at}
use Rattle.dep_match.specs.TreeOrder.{node_at}
use Rattle.dir_model.specs.declared.area.Area.TheVariants.{Embryo, Images}
use Rattle.dir_model.specs.declared.pod.PodId.{PodId}
use Rattle.dir_model.specs.declared.spot.Mode.TheVariants.{Shared}
use Rattle.dir_trait.specs.State.{DirState, folder_at}
use Rattle.dir_files.specs.AreaLocks.{IsBusyElsewhere, IsFreeElsewhere}
use Rattle.dir_files.specs.Reads.{file_at}
use Rattle.image_reading.specs.Places.{IsPresent, image_inner, stored_path, tree_name}
use Rattle.image_reading.specs.Files.{IsListingOf}
use Rattle.path_map.specs.declared.entry.Entry.{Entry}
use Rattle.path_map.specs.declared.entry.Entry.TheVariants.{File}
use Rattle.path_map.specs.declared.entry.Meta.{Meta}
use Rattle.path_map.specs.Entries.{Entries, entry_at}
use Rattle.pod_build.specs.declared.error.BuildError.{BuildError}
use Rattle.pod_build.specs.declared.error.BuildError.TheVariants as build
use Rattle.pod_plan.specs.declared.choice.Choice.{Choice}
use Rattle.pod_plan.specs.declared.choice_error.ChoiceError.{ChoiceError}
use Rattle.pod_plan.specs.declared.choice_error.ChoiceError.TheVariants as choice
use Rattle.pod_plan.specs.Choices.{IsChoice, IsChoiceRefused}
use Rattle.dir_model.specs.Spots.{pod_spot}
use Rattle.pod_manifest.specs.Wishes.{Wishes}
use Rattle.pod_plan.specs.Roots.{node_key, entries_together, AreFewEntries}
use Rattle.render.specs.Assembly.{own_whitelist, IsAssembly}
use Rattle.render.specs.Layers.{source_at}
use Rattle.render.specs.Orders.{all_down}
use Rattle.render.specs.Plans.{IsPut}
use Rattle.render.specs.declared.rendering.Rendering.{Rendering}
use Rattle.render.specs.declared.refusals.TheConstants.{MAX_ENTRIES}
use Rattle.render.specs.declared.render_error.RenderError.{RenderError}
use Rattle.render.specs.declared.render_error.RenderError.TheVariants.{TooManyEntries}
use Rattle.sha2.specs.Sha512.{sha512}
use Rattle.standing_images.specs.Damage.{IsFirstDamage}
use Rattle.standing_images.specs.Images.{AreStore, HasFile}
use Rattle.tree_digest.specs.Listings.{entries_of, lines_of, IsListing, IsTooLarge}
use Rattle.tree_digest.specs.declared.line.ListingLine.{ListingLine}
use Rattle.tree_digest.specs.declared.listing_error.ListingError.{ListingError}
use Rattle.command_outcomes.specs.declared.refusal.Refusal.{Refusal}
use Rattle.commands.specs.ImageImportTable.{HasListing}
use Rattle.commands.specs.References.{AreReferences}
use Rattle.commands.specs.PrepareRefusals.{refusal_of_build}
use Rattle.commands.specs.Wants.{Wants}

-- it is so of the images of the store, of which there is one list by what is seen of them
abbrev pub OfStore : DirState → (List Stored → Type 0) → Type 0
OfStore s P = (images : List Stored) × AreStore images s × P images

-- they make a pod for the references: of the best image for each, with the trees of their dependencies and its manifest; and there is no
-- reason to make none
pub record IsPodOfReferences (images : List Stored) (refs : List ImageRef) (wishes : Wishes) : Type 0 where
  pub pod : Choice
  pub chosen : IsChoice images refs wishes pod
  pub unrefused : (reason : ChoiceError) → IsChoiceRefused images refs wishes reason → reason ≡ choice.NoMemory

abbrev pub StoreMakesPod : List ImageRef → Wishes → DirState → Type 0
StoreMakesPod refs wishes s = OfStore s (λ images. IsPodOfReferences images refs wishes)

-- they make none for this reason, the first: a reference has no image; the tree of an image's dependencies has a fault; the manifest
-- is refused. There is no other
pub record IsReason (images : List Stored) (refs : List ImageRef) (wishes : Wishes) (reason : ChoiceError) : Type 0 where
  pub refused : IsChoiceRefused images refs wishes reason
  pub only : (other : ChoiceError) → IsChoiceRefused images refs wishes other → (other ≡ choice.NoMemory → ⊥) → other ≡ reason

abbrev pub StoreMakesNoPod : List ImageRef → Wishes → DirState → ChoiceError → Type 0
StoreMakesNoPod refs wishes s reason = OfStore s (λ images. IsReason images refs wishes reason)

-- the image's listing stands there, and has these entries
abbrev pub HasEntries : StoreKey → Entries → DirState → Type 0
HasEntries key map s = (lines : List ListingLine) × HasFile key tree_name (IsListingOf lines) s × (map ≡ entries_of lines)

-- in the order in which a tree wants listings the images of these nodes come first, and have theirs, of such entries
pub record HaveEntries (images : List Stored) (nodes : List DepNode) (first others : List ℕ) (own : ℕ → Entries) (s : DirState) : Type 0 where
  pub order : all_down nodes 0 ≡ first ++ others
  pub each : AllByRecursion (λ n. HasEntries (node_key images nodes n) (own n) s) first

-- the root of a tree, by the listings of its images, which have few enough entries together
pub record IsRootInStore (images : List Stored) (tree : DepTree) (whole : Entries) (s : DirState) : Type 0 where
  pub own : ℕ → Entries
  pub each : (n : ℕ) → n < length tree.nodes → HasEntries (node_key images tree.nodes n) (own n) s
  pub few : AreFewEntries own (all_down tree.nodes 0)
  pub rendered : IsAssembly tree.nodes (own_whitelist tree.nodes images) own (length tree.nodes) 0 whole

-- it has one, and its listing isn't too large
abbrev pub HasRoot : List Stored → DirState → DepTree → Type 0
HasRoot images s tree = (whole : Entries) × IsRootInStore images tree whole s × IsListing (lines_of whole)

-- an image of the tree stands there and has no listing, or one that has no reading; and those before it in that order have
-- theirs, with few enough entries together
pub record TreeLacksListing (images : List Stored) (path : List ℕ) (s : DirState) (tree : DepTree) : Type 0 where
  pub first : List ℕ
  pub next : ℕ
  pub others : List ℕ
  pub own : ℕ → Entries
  pub earlier : HaveEntries images tree.nodes first (next ∷ others) own s
  pub few : AreFewEntries own first
  pub within : next < length tree.nodes
  pub stands : IsPresent (node_key images tree.nodes next) s
  pub is : path ≡ stored_path (node_key images tree.nodes next) tree_name
  pub lacks : HasListing (node_key images tree.nodes next) s → ⊥

-- with the listing of an image of the tree there are too many entries together, and those before it in that order have few
-- enough
pub record HasTooManyEntries (images : List Stored) (s : DirState) (tree : DepTree) : Type 0 where
  pub first : List ℕ
  pub next : ℕ
  pub others : List ℕ
  pub own : ℕ → Entries
  pub listed : HaveEntries images tree.nodes (first ++ next ∷ []) others own s
  pub few : AreFewEntries own first
  pub many : MAX_ENTRIES < entries_together own (first ++ next ∷ [])

abbrev pub PassesLimit : List Stored → RenderError → DirState → DepTree → Type 0
PassesLimit images TooManyEntries s tree = HasTooManyEntries images s tree
PassesLimit images error s tree = ⊥

-- the root of the tree has a listing that is too large
pub record RootListingIsLarge (images : List Stored) (error : ListingError) (s : DirState) (tree : DepTree) : Type 0 where
  pub whole : Entries
  pub root : IsRootInStore images tree whole s
  pub large : IsTooLarge (lines_of whole) error

-- they make a pod, but one of its trees fails so, and those before it have their roots
pub record FailsRoot (images : List Stored) (refs : List ImageRef) (wishes : Wishes) (Fails : DepTree → Type 0) (s : DirState) : Type 0 where
  pub made : IsPodOfReferences images refs wishes
  pub before : List DepTree
  pub tree : DepTree
  pub after : List DepTree
  pub is : made.pod.trees ≡ before ++ tree ∷ after
  pub earlier : AllByRecursion (HasRoot images s) before
  pub fails : Fails tree

abbrev pub MakesNoRoot : List ImageRef → Wishes → DirState → (List Stored → DirState → DepTree → Type 0) → Type 0
MakesNoRoot refs wishes s Fails = OfStore s (λ images. FailsRoot images refs wishes (Fails images s) s)

-- where an image has a file of a root
abbrev pub root_file : List ℕ → List ℕ
root_file path = codes "rootfs" ++ path

-- the image has a file there of this size and with this SHA-512, or none
pub record HasBytes (key : StoreKey) (name : List ℕ) (size : ℕ) (sha : List ℕ) (s : DirState) : Type 0 where
  pub bytes : List ℕ
  pub there : file_at s (image_inner key name) ≡ Some bytes
  pub sized : length bytes ≡ size
  pub hashed : sha512 bytes ≡ sha

abbrev pub LacksBytes : StoreKey → List ℕ → ℕ → List ℕ → DirState → Type 0
LacksBytes key name size sha s = (bytes : List ℕ) → file_at s (image_inner key name) ≡ Some bytes → length bytes ≡ size → sha512 bytes ≡ sha → ⊥

-- the root of a tree, with the image that each file of it is from
pub record RootHasSources (images : List Stored) (tree : DepTree) (r : Rendering) (s : DirState) : Type 0 where
  pub root : IsRootInStore images tree r.map s
  pub put : IsPut tree.nodes (own_whitelist tree.nodes images) root.own (length tree.nodes) 0 r

-- what a root has at a path can be copied: where it is a file, the image that it is from has it, as its listing says
abbrev pub CanCopy : List Stored → Rendering → DirState → List ℕ → Entry → Type 0
CanCopy images r s file (File meta size sha) = (place : ℕ) × (source_at r file ≡ Some place) × HasBytes (key_at images place) (root_file file) size sha s
CanCopy images r s file entry = Unit {0}

abbrev pub CanCopyAll : List Stored → Rendering → DirState → Entries → Type 0
CanCopyAll images r s entries = AllByRecursion (λ e. CanCopy images r s e.0 e.1) entries

-- all that the tree's root has can be
abbrev pub CanCopyRoot : List Stored → DirState → DepTree → Type 0
CanCopyRoot images s tree = (r : Rendering) × RootHasSources images tree r s × CanCopyAll images r s r.map

-- a file of the tree's root can't be copied, the first in the order of the root's listing: it is from an image of the tree that has it by its
-- listing, and that has none of that size and with that SHA-512 there
pub record LacksSourceFile (images : List Stored) (path : List ℕ) (s : DirState) (tree : DepTree) : Type 0 where
  pub rendering : Rendering
  pub sourced : RootHasSources images tree rendering s
  pub before : Entries
  pub file : List ℕ
  pub meta : Meta
  pub size : ℕ
  pub sha : List ℕ
  pub after : Entries
  pub split : rendering.map ≡ before ++ (file, File meta size sha) ∷ after
  pub earlier : CanCopyAll images rendering s before
  pub wanted : entry_at rendering.map file ≡ Some (File meta size sha)
  pub node : ℕ
  pub within : node < length tree.nodes
  pub stands : IsPresent (node_key images tree.nodes node) s
  pub from : source_at rendering file ≡ Some (node_at tree.nodes node).image
  pub listed : entry_at (sourced.root.own node) file ≡ Some (File meta size sha)
  pub is : path ≡ stored_path (node_key images tree.nodes node) (root_file file)
  pub lacks : LacksBytes (node_key images tree.nodes node) (root_file file) size sha s

-- they make a pod whose trees have their roots
pub record IsPodWithRoots (images : List Stored) (refs : List ImageRef) (wishes : Wishes) (s : DirState) : Type 0 where
  pub made : IsPodOfReferences images refs wishes
  pub rooted : AllByRecursion (HasRoot images s) made.pod.trees

abbrev pub MakesRoots : List ImageRef → Wishes → DirState → Type 0
MakesRoots refs wishes s = OfStore s (λ images. IsPodWithRoots images refs wishes s)

-- a pod's plan copies the files of its trees' roots, app by app in the order of its manifest, each root in the order of its listing. The
-- first of them that can't be copied is this: all that the roots of the trees before have can be
pub record FailsFile (images : List Stored) (refs : List ImageRef) (wishes : Wishes) (path : List ℕ) (s : DirState) : Type 0 where
  pub is : IsPodWithRoots images refs wishes s
  pub before : List DepTree
  pub tree : DepTree
  pub after : List DepTree
  pub split : is.made.pod.trees ≡ before ++ tree ∷ after
  pub earlier : AllByRecursion (CanCopyRoot images s) before
  pub lacks : LacksSourceFile images path s tree

-- a folder of this name stands in embryo, or none
abbrev pub IsTaken : PodId → DirState → Type 0
IsTaken pod s = (folder : ℕ) × (folder_at s.namespace (pod_spot pod Embryo) ≡ Some folder)

abbrev pub IsUntaken : PodId → DirState → Type 0
IsUntaken pod s = folder_at s.namespace (pod_spot pod Embryo) ≡ None

-- nobody else holds the lock of embryo exclusively
abbrev pub IsEmbryoFree : ℕ → DirState → Type 0
IsEmbryoFree me s = IsFreeElsewhere me Embryo Shared s

-- the pod can be begun, and this file of its plan is the first that can't be copied
pub record LacksCopied (me : ℕ) (pod : PodId) (refs : List ImageRef) (wishes : Wishes) (path : List ℕ) (s : DirState) : Type 0 where
  pub free : IsEmbryoFree me s
  pub untaken : IsUntaken pod s
  pub fails : OfStore s (λ images. FailsFile images refs wishes path s)

-- the pod can't be begun, since its name is taken
pub record LacksName (me : ℕ) (pod : PodId) (refs : List ImageRef) (wishes : Wishes) (s : DirState) : Type 0 where
  pub free : IsEmbryoFree me s
  pub taken : IsTaken pod s
  pub makes : MakesRoots refs wishes s

-- by the store: the first image that isn't whole lacks this part, or all are whole, and then they make no pod for this reason, or make
-- one of which a root can't be made so; or else they make a pod and its roots, and then the lock of embryo isn't had, or the pod's name is
-- taken, or a file of a root is lacking
abbrev pub StoreRefuses : ℕ → PodId → List ImageRef → Wishes → DirState → BuildError → Type 0
StoreRefuses me draw refs wishes s (build.Damaged path) = IsFirstDamage path s ⊎ (MakesNoRoot refs wishes s (λ images. TreeLacksListing images path) ⊎ LacksCopied me draw refs wishes path s)
StoreRefuses me draw refs wishes s (build.NoMatch place) = StoreMakesNoPod refs wishes s (choice.NoMatch place)
StoreRefuses me draw refs wishes s (build.DepError fault) = StoreMakesNoPod refs wishes s (choice.DepError fault)
StoreRefuses me draw refs wishes s (build.GenError refusal) = StoreMakesNoPod refs wishes s (choice.GenError refusal)
StoreRefuses me draw refs wishes s (build.RenderError error) = MakesNoRoot refs wishes s (λ images. PassesLimit images error)
StoreRefuses me draw refs wishes s (build.ListingError error) = MakesNoRoot refs wishes s (λ images. RootListingIsLarge images error)
StoreRefuses me draw refs wishes s (build.Busy Embryo) = MakesRoots refs wishes s
StoreRefuses me draw refs wishes s (build.Taken pod) = (pod ≡ draw) × LacksName me draw refs wishes s
StoreRefuses me draw refs wishes s build.Stray = MakesRoots refs wishes s
StoreRefuses me draw refs wishes s error = Unit {0}

-- by the locks that other processes hold exclusively: that of images comes before the store, and so nobody else holds it where another
-- refusal is told; but for a failure and want of memory
abbrev pub LocksRefuse : ℕ → DirState → BuildError → Type 0
LocksRefuse me s (build.Busy Images) = IsBusyElsewhere me Images Shared s
LocksRefuse me s (build.Busy Embryo) = IsFreeElsewhere me Images Shared s × IsBusyElsewhere me Embryo Shared s
LocksRefuse me s (build.Busy area) = ⊥
LocksRefuse me s build.DirFault = Unit {0}
LocksRefuse me s build.NoMemory = Unit {0}
LocksRefuse me s error = IsFreeElsewhere me Images Shared s

-- the references are refused so, by the locks and the store
abbrev pub RefusesReferences : ℕ → PodId → List ImageRef → Wishes → DirState → BuildError → Type 0
RefusesReferences me draw refs wishes s error = LocksRefuse me s error × StoreRefuses me draw refs wishes s error

-- the state tells of it: it is no failure, no want of memory and no stray answer
abbrev pub IsToldByState : BuildError → Type 0
IsToldByState build.DirFault = ⊥
IsToldByState build.NoMemory = ⊥
IsToldByState build.Stray = ⊥
IsToldByState error = Unit {0}

-- the locks and the store refuse them so and not otherwise
abbrev pub IsOnly : ℕ → PodId → List ImageRef → Wishes → DirState → BuildError → Type 0
IsOnly me draw refs wishes s error = IsToldByState error → (other : BuildError) → IsToldByState other → RefusesReferences me draw refs wishes s other → other ≡ error

-- nothing of which the state tells refuses them
abbrev pub NothingRefuses : ℕ → PodId → List ImageRef → Wishes → DirState → Type 0
NothingRefuses me draw refs wishes s = (error : BuildError) → IsToldByState error → RefusesReferences me draw refs wishes s error → ⊥

-- what is said of the words that name the images, by the locks and the store, is of the refusal that comes first
pub record RefusesByState (wants : Wants) (draw : PodId) (refusal : Refusal) (me : ℕ) (s : DirState) : Type 0 where
  pub error : BuildError
  pub is : refusal ≡ refusal_of_build wants.images error
  pub refs : List ImageRef
  pub are : AreReferences wants.images refs
  pub refuses : RefusesReferences me draw refs wants.wishes s error
  pub only : IsOnly me draw refs wants.wishes s error
