-- The command `image import`.
use Rattle.std.specs.Prelude.{◌≡◌, ◌⊎◌, ℕ, Bool, true, false, List, ◌++◌, codes, Some, Ok, Err}
use Rattle.hex.specs.Hex.{encode_lower}
use Rattle.ac_types.specs.FaultNumbers.{number_of}
use Rattle.ac_types.specs.Ids.{id_text}
use Rattle.ac_types.specs.declared.refusals.TheConstants.{BAD_ID}
use Rattle.ac_types.specs.declared.store_key.StoreKey.{StoreKey}
use Rattle.tree_digest.specs.declared.refusals.TheConstants.{BAD_LINE, NOT_SORTED, NO_PARENT, MAX_FILE}
use Rattle.tree_digest.specs.declared.listing_error.ListingError.{ListingError}
use Rattle.tree_digest.specs.declared.listing_error.ListingError.TheVariants as listing
use Rattle.dir_model.specs.declared.area.Area.{Area}
use Rattle.dir_model.specs.declared.intent.Intent.{Intent}
use Rattle.dir_model.specs.declared.pod.PodId.{PodId}
use Rattle.dir_model.specs.declared.spot.Mode.TheVariants.{Shared}
use Rattle.dir_model.specs.declared.spot.Spot.{Spot}
use Rattle.dir_trait.specs.DirCalls.{DirAt, HeldBetween}
use Rattle.dir_trait.specs.Knowledge.{Knows}
use Rattle.dir_trait.specs.State.{DirState, folder_at, is_owned, spot_eq}
use Rattle.dir_trait.specs.Trace.{state_after}
use Rattle.dir_files.specs.AreaLocks.{IsBusyElsewhere}
use Rattle.lifecycle.specs.Executions.{IsConforming}
use Rattle.folder_contents.specs.Entries.{entries_in}
use Rattle.bundle_image.specs.declared.image.BundleImage.{BundleImage}
use Rattle.image_reading.specs.declared.error.StoreError.{StoreError}
use Rattle.image_reading.specs.declared.error.StoreError.TheVariants as store_error
use Rattle.image_reading.specs.Places.{image_spot, IsImageAbsent}
use Rattle.image_store.specs.Causes.{Source, bundle_source_at, WasThere}
use Rattle.image_store.specs.Imports.{key_of_image, digest_of, IsOf, OfBundle, IsImportRefused, RefusalComesInTurn, IsImported}
use Rattle.image_store.specs.Moves.{MovedNoImage}
use Rattle.image_store.specs.Refusals.{is_import_area}
use Rattle.image_store.specs.Requests.{building_spot}
use Rattle.image_store.specs.Work.{IsImport}
use Rattle.command_outcomes.specs.declared.refusal.Refusal.{Refusal}
use Rattle.command_outcomes.specs.declared.refusal.Refusal.TheVariants.{Busy, BadManifest, NoImage, Limit, DirFault, BundleFault, NoMemory, NoFile, Conflict, Damaged, BadKind, Stray}
use Rattle.command_outcomes.specs.Moments.{BundleSeen, Outside, CommandOutcome}
use Rattle.command_outcomes.specs.Conforming.{seen_at_begin}
use Rattle.command_outcomes.specs.Ends.{is_common}
use Rattle.standing_images.specs.Images.{SameImages}
use Rattle.commands.specs.ImageImportTable.{HasOneDigest, RefusesByStanding}
use Rattle.commands.specs.NextState.{LeavesBeside}

-- the line that it prints: the image's key
abbrev pub key_line : StoreKey → List ℕ
key_line key = id_text key.bytes ++ codes "\n"

-- the refusals that it may have
abbrev pub image_import_refusal : Refusal → Bool
image_import_refusal (Busy area) = is_import_area area
image_import_refusal (BadManifest path number) = true
image_import_refusal (Limit number) = true
image_import_refusal BundleFault = true
image_import_refusal (NoFile path) = true
image_import_refusal (Conflict key stored new) = true
image_import_refusal (Damaged path) = true
image_import_refusal (BadKind path) = true
image_import_refusal Stray = true
image_import_refusal refusal = is_common refusal

-- the refusal of a listing: what is wrong with a line is said of the file `tree`, and else the limit that was passed
abbrev pub import_listing_refusal : ListingError → Refusal
import_listing_refusal (listing.BadLine n) = BadManifest (codes "tree") BAD_LINE
import_listing_refusal (listing.NotSorted n) = BadManifest (codes "tree") NOT_SORTED
import_listing_refusal (listing.NoParent n) = BadManifest (codes "tree") NO_PARENT
import_listing_refusal (listing.TooMany limit) = Limit limit
import_listing_refusal (listing.FileTooLong n) = Limit MAX_FILE
import_listing_refusal listing.NoMemory = NoMemory

-- what an import is refused with: never that there is no image of a key, nor for the lock of another area
abbrev pub is_import_error : StoreError → Bool
is_import_error (store_error.Busy area) = is_import_area area
is_import_error (store_error.NoImage key) = false
is_import_error error = true

-- and what is said of it
abbrev pub import_refusal : StoreError → Refusal
import_refusal (store_error.NoFile path) = NoFile path
import_refusal (store_error.Fault fault) = BadManifest fault.path (number_of fault.kind)
import_refusal store_error.BadId = BadManifest (codes "id") BAD_ID
import_refusal (store_error.ListingError error) = import_listing_refusal error
import_refusal (store_error.BadKind path) = BadKind path
import_refusal (store_error.Busy area) = Busy area
import_refusal (store_error.Damaged path) = Damaged path
import_refusal (store_error.IdConflict key stored new) = Conflict (id_text key.bytes) (encode_lower stored) (encode_lower new)
import_refusal (store_error.NoImage key) = NoImage (id_text key.bytes)
import_refusal store_error.BundleFault = BundleFault
import_refusal store_error.DirFault = DirFault
import_refusal store_error.NoMemory = NoMemory
import_refusal store_error.Stray = Stray

-- that is said of it, or that memory ran out
abbrev pub IsSaidOf : StoreError → Refusal → Type 0
IsSaidOf error refusal = (refusal ≡ import_refusal error) ⊎ (refusal ≡ NoMemory)

-- the bundle that was named
abbrev pub source_of : List ℕ → BundleSeen → Source
source_of path bundle = bundle_source_at bundle.observed bundle.tree path

-- the image was there with its digest, and nothing was moved into images; or by an own move its folder came there, and just after
-- that it holds the image, imported at that moment
abbrev pub IsStored : BundleImage → ℕ → PodId → DirAt → DirAt → Type 0
IsStored image now draw old new =
    (WasThere (key_of_image image) (digest_of image) old new × MovedNoImage old.process old.trace new.trace)
    ⊎ IsImported old.process (building_spot draw) (image_spot (key_of_image image)) (IsOf image now) old.trace new.trace

-- the text is the line of the image that the bundle says
abbrev pub PrintsKey : List ℕ → BundleSeen → List ℕ → Type 0
PrintsKey path bundle text = OfBundle (source_of path bundle) (λ image. text ≡ key_line (key_of_image image))

-- and that image is stored
abbrev pub StoresImage : List ℕ → ℕ → PodId → Outside → Outside → List ℕ → Type 0
StoresImage path now draw old new text = OfBundle (source_of path old.bundle) (λ image. (text ≡ key_line (key_of_image image)) × IsStored image now draw old.dir new.dir)

-- it is so where this process has just begun to import with that draw
abbrev pub WhereImportBegun : PodId → DirAt → Type 0 → Type 0
WhereImportBegun draw old P = (intent : Intent) → IsImport draw intent → Knows old (seen_at_begin intent) → P

-- it printed the key, and in an execution in which every process keeps the local rules the image is stored
pub record ImportsImage (path : List ℕ) (now : ℕ) (draw : PodId) (old new : Outside) (text : List ℕ) : Type 0 where
  pub key : PrintsKey path old.bundle text
  pub stores : old.observed ≡ true → IsConforming new.dir.trace → WhereImportBegun draw old.dir (StoresImage path now draw old new text)

-- why it imported nothing, which came in its turn, and that this is what is said; and it moved nothing into images
pub record RefusesImage (path : List ℕ) (old new : Outside) (refusal : Refusal) : Type 0 where
  pub error : StoreError
  pub is : refusal ≡ import_refusal error
  pub cause : IsImportRefused old.observed (source_of path old.bundle) error old.dir new.dir
  pub turn : RefusalComesInTurn old.observed (source_of path old.bundle) error old.dir new.dir
  pub still : old.observed ≡ true → MovedNoImage old.dir.process old.dir.trace new.dir.trace

-- where a lock was refused, another process held it exclusively at an own step
abbrev pub IsAreaHeld : Area → DirAt → DirAt → Type 0
IsAreaHeld area old new = HeldBetween old new (IsBusyElsewhere old.process area Shared)

abbrev pub IsHeldFromImport : Bool → PodId → Refusal → DirAt → DirAt → Type 0
IsHeldFromImport observed draw refusal old new = (area : Area) → refusal ≡ Busy area → observed ≡ true → WhereImportBegun draw old (IsAreaHeld area old new)

-- what was told of the bundle and of the store
abbrev pub ImageImportSays : List ℕ → ℕ → PodId → Outside → Outside → CommandOutcome → Type 0
ImageImportSays path now draw old new (Ok text) = ImportsImage path now draw old new text
ImageImportSays path now draw old new (Err NoMemory) = Unit {0}
ImageImportSays path now draw old new (Err refusal) = RefusesImage path old new refusal × IsHeldFromImport old.observed draw refusal old.dir new.dir

-- each image that stood there stands there still, and holds what it held
abbrev pub KeepsImages : DirState → DirState → Type 0
KeepsImages old new =
    (key : StoreKey) (folder : ℕ) → folder_at old.namespace (image_spot key) ≡ Some folder →
    (folder_at new.namespace (image_spot key) ≡ Some folder) × (entries_in folder new.entries ≡ entries_in folder old.entries)

-- the folder at the image's key holds exactly the image, imported at that moment
pub record HoldsImage (image : BundleImage) (now : ℕ) (s : DirState) : Type 0 where
  pub folder : ℕ
  pub stands : folder_at s.namespace (image_spot (key_of_image image)) ≡ Some folder
  pub holds : IsOf image now (entries_in folder s.entries)

-- the image stood there before with its digest, and every image is as it was; or none stood at its key, and in the end the folder
-- there holds it
abbrev pub ComesStored : BundleImage → ℕ → DirAt → DirAt → Type 0
ComesStored image now old new =
    (WasThere (key_of_image image) (digest_of image) old new × HasOneDigest (key_of_image image) (digest_of image) (state_after old.trace)
    × SameImages (state_after old.trace) (state_after new.trace))
    ⊎ (IsImageAbsent (key_of_image image) (state_after old.trace) × HoldsImage image now (state_after new.trace))

-- the images are as they were, but that the one that the bundle says was brought there, where it wasn't
pub record AddsBundleImage (path : List ℕ) (now : ℕ) (old new : Outside) (text : List ℕ) : Type 0 where
  pub stores : OfBundle (source_of path old.bundle) (λ image. (text ≡ key_line (key_of_image image)) × ComesStored image now old.dir new.dir)
  pub keeps : KeepsImages (state_after old.dir.trace) (state_after new.dir.trace)

-- the images are as they were, and what is said of them is so of the state before
pub record RefusesQuietly (path : List ℕ) (old new : Outside) (refusal : Refusal) : Type 0 where
  pub why : RefusesImage path old new refusal
  pub same : SameImages (state_after old.dir.trace) (state_after new.dir.trace)
  pub stands : RefusesByStanding (source_of path old.bundle) refusal (state_after old.dir.trace)

-- what it comes to where nobody else steps: by the bundle, by the image at its key as the state before has it, or by a lock as it was
-- held before. No answer is stray where every process keeps the local rules
abbrev pub ImportsQuietly : List ℕ → ℕ → PodId → Outside → Outside → CommandOutcome → Type 0
ImportsQuietly path now draw old new (Ok text) = PrintsKey path old.bundle text × (IsConforming new.dir.trace → AddsBundleImage path now old new text)
ImportsQuietly path now draw old new (Err (Busy area)) = RefusesQuietly path old new (Busy area) × IsBusyElsewhere old.dir.process area Shared (state_after old.dir.trace)
ImportsQuietly path now draw old new (Err NoMemory) = ⊥
ImportsQuietly path now draw old new (Err DirFault) = ⊥
ImportsQuietly path now draw old new (Err BundleFault) = ⊥
ImportsQuietly path now draw old new (Err Stray) = RefusesQuietly path old new Stray × (IsConforming new.dir.trace → ⊥)
ImportsQuietly path now draw old new (Err refusal) = RefusesQuietly path old new refusal

-- where it makes a folder and whence it moves it
abbrev pub is_building_place : PodId → Spot → Bool
is_building_place draw place = spot_eq place (building_spot draw)

-- it leaves all but its own folder as it was, and it is as before whose lock is held exclusively
pub record LeavesOthers (draw : PodId) (me : ℕ) (old new : DirState) : Type 0 where
  pub beside : LeavesBeside (is_building_place draw) me old new
  pub owned : (folder : ℕ) → is_owned new.namespace folder ≡ is_owned old.namespace folder
