-- What an import of a bundle's image comes to.
use Rattle.std.specs.Prelude.{◌≡◌, ◌⊎◌, ℕ, Bool, true, false, Some, Result, Ok, Err, List, ◌∷◌, ◌++◌, take}
use Rattle.ac_types.specs.declared.store_key.StoreKey.{StoreKey}
use Rattle.dir_model.specs.declared.event.Event.{Event}
use Rattle.dir_model.specs.declared.intent.Intent.{Intent}
use Rattle.dir_model.specs.declared.pod.PodId.{PodId}
use Rattle.dir_model.specs.declared.spot.Spot.{Spot}
use Rattle.dir_model.specs.declared.request.Request.TheVariants.{MoveFolder}
use Rattle.dir_model.specs.declared.request.Reply.TheVariants.{Done}
use Rattle.dir_model.specs.Calls.{event}
use Rattle.dir_model.specs.State.{folder_at}
use Rattle.dir_model.specs.Trace.{state_after}
use Rattle.dir_rules.specs.declared.standing.Held.{Held}
use Rattle.dir_rules.specs.declared.seen.Entry.{Entry}
use Rattle.dir_trait.specs.DirCalls.{DirAt, HeldBetween}
use Rattle.dir_trait.specs.Knowledge.{Knows}
use Rattle.tree_digest.specs.Digests.{image_digest}
use Rattle.folder_building.specs.ImagePlans.{IsImageFolder}
use Rattle.folder_contents.specs.Entries.{entries_in}
use Rattle.folder_contents.specs.Handing.{then_moved}
use Rattle.bundle_image.specs.declared.image.BundleImage.{BundleImage}
use Rattle.bundle_image.specs.declared.refusal.BundleRefusal.{BundleRefusal}
use Rattle.bundle_image.specs.Images as bundle
use Rattle.bundle_image.specs.Refusals.{IsBundleFailure}
use Rattle.image_reading.specs.declared.error.StoreError.{StoreError}
use Rattle.image_reading.specs.declared.error.StoreError.TheVariants.{Damaged}
use Rattle.image_reading.specs.Places.{image_spot, IsImageAbsent}
use Rattle.image_store.specs.declared.importing.Imported.{Imported}
use Rattle.image_store.specs.Refusals.{bundle_refusal, is_import_refusal}
use Rattle.image_store.specs.Requests.{building_spot}
use Rattle.image_store.specs.Work.{seen_importing, holding, HasImportFolder, HasMovedImage}
use Rattle.image_store.specs.Causes.{Source, DamagedInTurn, ImportCause, is_late}

abbrev pub key_of_image : BundleImage → StoreKey
key_of_image image = record { bytes = take 32 image.id.bytes }

abbrev pub digest_of : BundleImage → List ℕ
digest_of image = image_digest image.id image.bytes image.listing

-- a folder with these entries is that image, imported at that moment
abbrev pub IsOf : BundleImage → ℕ → List Entry → Type 0
IsOf image now entries = IsImageFolder image.bytes image.id.bytes image.listing now entries

-- this image is what the bundle says
abbrev pub IsSaidByBundle : Source → BundleImage → Type 0
IsSaidByBundle source image = source.told ≡ true → bundle.IsBundleImage source.tree source.root image

-- it is so of what the bundle says
abbrev pub OfBundle : Source → (BundleImage → Type 0) → Type 0
OfBundle source P = (image : BundleImage) × IsSaidByBundle source image × P image

-- the bundle has no image, for its first fault or from outside; or what came behind it
abbrev pub IsImportRefused : Bool → Source → StoreError → DirAt → DirAt → Type 0
IsImportRefused observed source error old new =
    ((refusal : BundleRefusal) × (error ≡ bundle_refusal refusal) × (source.told ≡ true → IsBundleFailure refusal ⊎ bundle.FailsBundle source.tree source.root refusal))
    ⊎ OfBundle source (λ image. ImportCause is_import_refusal observed source (key_of_image image) (digest_of image) image.listing error old new)

-- what comes only once no image was found there comes after that, and so does a file of the bundle that isn't what its listing says
pub record RefusalComesInTurn (observed : Bool) (source : Source) (error : StoreError) (old new : DirAt) : Type 0 where
  pub late : is_late error ≡ true → OfBundle source (λ image. observed ≡ true → HeldBetween old new (IsImageAbsent (key_of_image image)))
  pub damaged : (path : List ℕ) → error ≡ Damaged path → OfBundle source (λ image. DamagedInTurn observed source (key_of_image image) image.listing path old new)

-- with the answer false it moved the folder that it had built into images
abbrev pub Brought : PodId → ℕ → BundleImage → DirAt → DirAt → Type 0
Brought draw now image old new = HasMovedImage (IsOf image now) old.process (building_spot draw) (image_spot (key_of_image image)) old.trace new.trace

-- and holds its locks still
pub record IsImageBrought (draw : PodId) (now : ℕ) (image : BundleImage) (intent : Intent) (hs : List Held) (old new : DirAt) : Type 0 where
  pub entries : List Entry
  pub made : IsOf image now entries
  pub knows : Knows new (seen_importing intent hs false (Some (holding (image_spot (key_of_image image)) entries)))
  pub moved : Brought draw now image old new

-- what a process that imports knows at the end: it was brought, or it has at most its own folder in incoming
abbrev pub ImportLeaves : PodId → ℕ → BundleImage → Intent → List Held → Result Bool StoreError → DirAt → DirAt → Type 0
ImportLeaves draw now image intent hs (Ok false) old new = IsImageBrought draw now image intent hs old new
ImportLeaves draw now image intent hs (Ok true) old new = HasImportFolder draw intent hs new
ImportLeaves draw now image intent hs (Err error) old new = HasImportFolder draw intent hs new

-- what it came to in the end
abbrev pub LeavesAtEnd : Source → PodId → ℕ → Intent → List Held → Result Imported StoreError → DirAt → DirAt → Type 0
LeavesAtEnd source draw now intent hs (Ok done) old new = OfBundle source (λ image. ImportLeaves draw now image intent hs (Ok done.there) old new)
LeavesAtEnd source draw now intent hs (Err error) old new = HasImportFolder draw intent hs new

-- the folder came into images by an own Ok move, and holds the image just after it
pub record IsImported (me : ℕ) (from to : Spot) (P : List Entry → Type 0) (old new : List Event) : Type 0 where
  pub before : List Event
  pub later : List Event
  pub meanwhile : List Event
  pub begins : before ≡ old ++ meanwhile
  pub moved : new ≡ before ++ event me (MoveFolder from to) Done ∷ later
  pub folder : ℕ
  pub stands : folder_at (state_after (then_moved before me from to)).namespace to ≡ Some folder
  pub holds : P (entries_in folder (state_after (then_moved before me from to)).entries)
