-- The command `image list`.
use Rattle.std.specs.Prelude.{◌≡◌, ℕ, Bool, true, ◌||◌, List, ◌++◌, codes, Ok, Err}
use Rattle.std.specs.Fmt.{decimal}
use Rattle.std.specs.List.{flat_map}
use Rattle.ac_types.specs.Ids.{id_text}
use Rattle.dep_match.specs.declared.stored.Stored.{Stored}
use Rattle.dir_model.specs.declared.area.Area.TheVariants.{Images}
use Rattle.dir_model.specs.declared.request.Request.{Request}
use Rattle.dir_model.specs.declared.spot.Mode.TheVariants.{Shared}
use Rattle.dir_rules.specs.declared.seen.Seen.{Seen}
use Rattle.dir_trait.specs.State.{DirState}
use Rattle.dir_trait.specs.Trace.{state_after}
use Rattle.dir_trait.specs.DirCalls.{DirAt, HeldBetween}
use Rattle.dir_trait.specs.Knowledge.{Knows}
use Rattle.dir_files.specs.AreaLocks.{is_taking_area, is_free_of, IsBusyElsewhere, IsFreeElsewhere}
use Rattle.dir_files.specs.declared.lock_error.LockError.{LockError}
use Rattle.dir_files.specs.declared.lock_error.LockError.TheVariants as lock_error
use Rattle.image_reading.specs.declared.error.StoreError.{StoreError}
use Rattle.image_reading.specs.declared.error.StoreError.TheVariants as store_error
use Rattle.image_reading.specs.Looks.{reads_images}
use Rattle.image_reading.specs.Store.{ReadsStore, LacksListed, IsStorePath}
use Rattle.lifecycle.specs.Executions.{IsConforming}
use Rattle.standing_images.specs.Damage.{IsFirstDamage}
use Rattle.standing_images.specs.Images.{AreStore, StoodTogether}
use Rattle.command_outcomes.specs.declared.refusal.Refusal.{Refusal}
use Rattle.command_outcomes.specs.declared.refusal.Refusal.TheVariants.{Busy, DirFault, NoMemory, Damaged}
use Rattle.command_outcomes.specs.Moments.{CommandOutcome}
use Rattle.command_outcomes.specs.Ends.{is_common}

-- the line that it prints of an image: its key, the name in its manifest, and the moment of its import
abbrev pub image_line_text : Stored → List ℕ
image_line_text image = ((((id_text image.key.bytes ++ codes " ") ++ image.manifest.name) ++ codes " ") ++ decimal image.moment) ++ codes "\n"

abbrev pub images_text : List Stored → List ℕ
images_text images = flat_map image_line_text images

-- the refusals that it may have: of the locks it takes that of the images
abbrev pub image_list_refusal : Refusal → Bool
image_list_refusal (Busy Images) = true
image_list_refusal (Damaged path) = true
image_list_refusal refusal = is_common refusal

-- what it asks of the directory: the lock of the images shared, reads and listings of images, and to give the lock back
abbrev pub lists_images : Request → Bool
lists_images request = is_taking_area Images Shared request || reads_images request

-- the refusal where the lock wasn't had
abbrev pub images_lock_refusal : LockError → Refusal
images_lock_refusal lock_error.Busy = Busy Images
images_lock_refusal lock_error.DirFault = DirFault
images_lock_refusal lock_error.NoMemory = NoMemory

-- the refusal of a read of the images
abbrev pub images_read_refusal : StoreError → Refusal
images_read_refusal (store_error.Damaged path) = Damaged path
images_read_refusal store_error.DirFault = DirFault
images_read_refusal error = NoMemory

-- no other process held the lock of the images exclusively at an own step
abbrev pub FindsFree : DirAt → DirAt → Type 0
FindsFree old new = HeldBetween old new (IsFreeElsewhere old.process Images Shared)

-- it had that lock, and printed the images that it read
pub record ListsStore (observed : Bool) (old new : DirAt) (text : List ℕ) : Type 0 where
  pub images : List Stored
  pub free : observed ≡ true → FindsFree old new
  pub told : observed ≡ true → ReadsStore images old new
  pub is : text ≡ images_text images

-- it printed the images that stood together while it had the lock
pub record ListsStanding (old new : DirAt) (text : List ℕ) : Type 0 where
  pub images : List Stored
  pub is : text ≡ images_text images
  pub stood : StoodTogether images old.process old.trace new.trace

-- it is so where the process knows that it has no handle open on the lock of the images
abbrev pub WhereFree : Bool → DirAt → Type 0 → Type 0
WhereFree observed old P = observed ≡ true → (s : Seen) → Knows old s → is_free_of Images s ≡ true → P

-- another process held the lock of the images exclusively at an own step
abbrev pub ImagesHeldElsewhere : DirAt → DirAt → Type 0
ImagesHeldElsewhere old new = HeldBetween old new (IsBusyElsewhere old.process Images Shared)

-- it had the lock, and the path is of a part that wasn't there or had no reading, the first of its image, which is the first that isn't
-- whole of those that the listing of the area showed
pub record ListsLackingPart (observed : Bool) (path : List ℕ) (old new : DirAt) : Type 0 where
  pub place : IsStorePath path
  pub free : observed ≡ true → FindsFree old new
  pub told : observed ≡ true → LacksListed (store_error.Damaged path) old new

-- what was told of the images, or of their lock
abbrev pub ImageListSays : Bool → DirAt → DirAt → CommandOutcome → Type 0
ImageListSays observed old new (Ok text) = ListsStore observed old new text × WhereFree observed old (IsConforming new.trace → ListsStanding old new text)
ImageListSays observed old new (Err (Busy area)) = WhereFree observed old (ImagesHeldElsewhere old new)
ImageListSays observed old new (Err (Damaged path)) = ListsLackingPart observed path old new
ImageListSays observed old new (Err refusal) = Unit {0}

-- the text is that of the images of the store, whatever list of them is taken
pub record PrintsStore (s : DirState) (text : List ℕ) : Type 0 where
  pub images : List Stored
  pub are : AreStore images s
  pub is : text ≡ images_text images
  pub only : (others : List Stored) → AreStore others s → text ≡ images_text others

-- the path is that of the first part that the store lacks: of its first image that isn't whole, in the byte order of their keys, the
-- first of its manifest, its ID and its mark. No other path is
pub record NamesDamage (s : DirState) (path : List ℕ) : Type 0 where
  pub is : IsFirstDamage path s
  pub only : (other : List ℕ) → IsFirstDamage other s → path ≡ other

-- no other process holds the lock of the images exclusively, and this is so
abbrev pub WhereUnheld : DirAt → (DirState → Type 0) → Type 0
WhereUnheld old P = IsFreeElsewhere old.process Images Shared (state_after old.trace) × P (state_after old.trace)

-- what it comes to where nobody else steps: by the lock as it was held before; or by its own reads, which are of the store as it was before
abbrev pub ListsImagesQuietly : Bool → DirAt → DirAt → CommandOutcome → Type 0
ListsImagesQuietly observed old new (Ok text) = ListsStore observed old new text × WhereUnheld old (λ s. PrintsStore s text)
ListsImagesQuietly observed old new (Err (Busy area)) = (area ≡ Images) × IsBusyElsewhere old.process Images Shared (state_after old.trace)
ListsImagesQuietly observed old new (Err (Damaged path)) = ListsLackingPart observed path old new × WhereUnheld old (λ s. NamesDamage s path)
ListsImagesQuietly observed old new (Err refusal) = ⊥
