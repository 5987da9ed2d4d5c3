-- Why there is no plan of a pod.
use Rattle.std.specs.Prelude.{◌≡◌, ◌⊎◌, ℕ, Bool, true, List, ◌∷◌, ◌++◌}
use Rattle.std.specs.List.{AllByRecursion}
use Rattle.ac_types.specs.declared.image_ref.ImageRef.{ImageRef}
use Rattle.ac_types.specs.declared.store_key.StoreKey.{StoreKey}
use Rattle.manifests.specs.declared.image_manifest.ImageManifest.{ImageManifest}
use Rattle.render.specs.declared.render_error.RenderError.{RenderError}
use Rattle.render.specs.declared.render_error.RenderError.TheVariants as render
use Rattle.tree_digest.specs.declared.listing_error.ListingError.{ListingError}
use Rattle.tree_digest.specs.declared.listing_error.ListingError.TheVariants as listing
use Rattle.dep_match.specs.declared.stored.Stored.{Stored}
use Rattle.dir_trait.specs.DirCalls.{DirAt}
use Rattle.image_reading.specs.declared.error.StoreError.{StoreError}
use Rattle.image_reading.specs.declared.error.StoreError.TheVariants as store
use Rattle.image_reading.specs.Places.{stored_path, manifest_name, tree_name}
use Rattle.image_reading.specs.Files.{ReadsNoImageManifest, LacksTree}
use Rattle.image_reading.specs.Store.{ReadsStore, LacksListed}
use Rattle.pod_manifest.specs.Wishes.{Wishes}
use Rattle.pod_plan.specs.declared.choice_error.ChoiceError.{ChoiceError}
use Rattle.pod_plan.specs.declared.choice_error.ChoiceError.TheVariants as choice
use Rattle.pod_plan.specs.Choices.{IsChoiceRefused}
use Rattle.pod_plan.specs.declared.plan_error.PlanError.{PlanError}
use Rattle.pod_plan.specs.declared.plan_error.PlanError.TheVariants.{Damaged, NoMatch, DepError, GenError, DirFault, NoMemory}
use Rattle.pod_plan.specs.declared.plan_error.PlanError.TheVariants as plan
use Rattle.pod_plan.specs.Readings.{ReadsManifestBytes, with_manifest}

abbrev pub IsAnyPath : List ℕ → Type 0
IsAnyPath path = Unit {0}

-- the refusal of a read of the store. No read gives another
abbrev pub plan_store_refusal : StoreError → PlanError
plan_store_refusal (store.Damaged path) = Damaged path
plan_store_refusal store.DirFault = DirFault
plan_store_refusal error = NoMemory

-- the refusal of a choice
abbrev pub choice_refusal : ChoiceError → PlanError
choice_refusal (choice.NoMatch place) = NoMatch place
choice_refusal (choice.DepError fault) = DepError fault
choice_refusal (choice.GenError refusal) = GenError refusal
choice_refusal choice.NoMemory = NoMemory

-- the refusal of a rendering
abbrev pub render_refusal : RenderError → PlanError
render_refusal render.NoMemory = NoMemory
render_refusal error = plan.RenderError error

-- the refusal of a listing
abbrev pub plan_listing_refusal : ListingError → PlanError
plan_listing_refusal listing.NoMemory = NoMemory
plan_listing_refusal error = plan.ListingError error

-- a file is damaged for this reason, where the directory is observed; or the directory failed, or memory ran out
abbrev pub IsStoreLack : Bool → (List ℕ → Type 0) → StoreError → Type 0
IsStoreLack observed Lacks (store.Damaged path) = observed ≡ true → Lacks path
IsStoreLack observed Lacks store.DirFault = Unit {0}
IsStoreLack observed Lacks store.NoMemory = Unit {0}
IsStoreLack observed Lacks error = ⊥

abbrev pub LacksTreeAt : StoreKey → List ℕ → DirAt → DirAt → Type 0
LacksTreeAt key path old new = (path ≡ stored_path key tree_name) × LacksTree key old new

abbrev pub LacksManifestAt : StoreKey → List ℕ → DirAt → DirAt → Type 0
LacksManifestAt key path old new = (path ≡ stored_path key manifest_name) × ReadsNoImageManifest key old new

-- a manifest of the image was read
pub record HasSomeManifest (image : Stored) (old new : DirAt) : Type 0 where
  pub manifest : ImageManifest
  pub bytes : List ℕ
  pub read : ReadsManifestBytes (with_manifest image manifest) bytes old new

-- one of the images lacks its manifest, and it is the first: those of the images before it were read
pub record LacksAmong (images : List Stored) (path : List ℕ) (old new : DirAt) : Type 0 where
  pub before : List Stored
  pub image : Stored
  pub after : List Stored
  pub is : images ≡ before ++ image ∷ after
  pub earlier : AllByRecursion (λ i. HasSomeManifest i old new) before
  pub lacks : LacksManifestAt image.key path old new

-- the first image that isn't whole, of those that the area's listing showed, lacks it; or all were read, and then the first
-- whose manifest couldn't be read once more
abbrev pub ReadsLackingPart : List ℕ → DirAt → DirAt → Type 0
ReadsLackingPart path old new =
    LacksListed (store.Damaged path) old new ⊎ ((images : List Stored) × ReadsStore images old new × LacksAmong images path old new)

-- some images make no pod for the references
pub record IsNoChoice (images : List Stored) (refs : List ImageRef) (options : Wishes) (error : PlanError) : Type 0 where
  pub reason : ChoiceError
  pub is : error ≡ choice_refusal reason
  pub refused : IsChoiceRefused images refs options reason
