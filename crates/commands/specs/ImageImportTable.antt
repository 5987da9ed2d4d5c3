-- What stands in the store at one key, by one state of the directory.
use Rattle.std.specs.Prelude.{◌≡◌, ◌≢◌, ◌⊎◌, ℕ, List}
use Rattle.hex.specs.Hex.{encode_lower}
use Rattle.ac_types.specs.declared.image_id.ImageId.{ImageId}
use Rattle.ac_types.specs.declared.store_key.StoreKey.{StoreKey}
use Rattle.ac_types.specs.Ids.{id_text}
use Rattle.tree_digest.specs.declared.line.ListingLine.{ListingLine}
use Rattle.tree_digest.specs.Digests.{image_digest}
use Rattle.dir_model.specs.declared.area.Area.TheVariants.{Incoming}
use Rattle.dir_trait.specs.State.{DirState}
use Rattle.bundle_image.specs.declared.image.BundleImage.{BundleImage}
use Rattle.image_reading.specs.Places.{manifest_name, id_name, tree_name, IsImageAbsent, IsPresent}
use Rattle.image_reading.specs.Files.{IsIdOf, IsListingOf}
use Rattle.image_store.specs.Causes.{Source, UnlikeListed}
use Rattle.image_store.specs.Imports.{key_of_image, digest_of, OfBundle}
use Rattle.standing_images.specs.Damage.{IsAnyManifest, LacksPart}
use Rattle.standing_images.specs.Images.{HasFile}
use Rattle.command_outcomes.specs.declared.refusal.Refusal.{Refusal}
use Rattle.command_outcomes.specs.declared.refusal.Refusal.TheVariants.{Busy, Conflict, Damaged}

-- the bytes are a listing
abbrev pub IsAnyListing : List ℕ → Type 0
IsAnyListing bytes = (lines : List ListingLine) × IsListingOf lines bytes

-- the image has its listing
abbrev pub HasListing : StoreKey → DirState → Type 0
HasListing key s = HasFile key tree_name IsAnyListing s

-- an image of this key stands, and of its manifest, its ID and its listing this is the digest
pub record StandsWithDigest (key : StoreKey) (digest : List ℕ) (s : DirState) : Type 0 where
  pub stands : IsPresent key s
  pub id : ImageId
  pub lines : List ListingLine
  pub manifest : HasFile key manifest_name IsAnyManifest s
  pub id_file : HasFile key id_name (IsIdOf key id) s
  pub listing : HasFile key tree_name (IsListingOf lines) s
  pub is : digest ≡ image_digest id manifest.bytes lines

-- an image of this key stands, and the path is of the first that it lacks of its manifest, its ID and its listing
pub record IsDamagedAt (key : StoreKey) (path : List ℕ) (s : DirState) : Type 0 where
  pub stands : IsPresent key s
  pub lacks : LacksPart key tree_name (HasListing key s) path s

-- the image has this digest and no other, and lacks nothing
pub record HasOneDigest (key : StoreKey) (digest : List ℕ) (s : DirState) : Type 0 where
  pub is : StandsWithDigest key digest s
  pub only : (other : List ℕ) → StandsWithDigest key other s → digest ≡ other
  pub whole : (path : List ℕ) → IsDamagedAt key path s → ⊥

-- the image lacks this first and nothing else, and so has no digest
pub record IsDamagedOnce (key : StoreKey) (path : List ℕ) (s : DirState) : Type 0 where
  pub is : IsDamagedAt key path s
  pub only : (other : List ℕ) → IsDamagedAt key other s → path ≡ other
  pub none : (digest : List ℕ) → StandsWithDigest key digest s → ⊥

-- an image with the bundle's key stands with another digest: the texts are of the key, of that digest, and of the bundle's image
pub record StandsOther (image : BundleImage) (key stored fresh : List ℕ) (s : DirState) : Type 0 where
  pub digest : List ℕ
  pub there : HasOneDigest (key_of_image image) digest s
  pub differs : digest ≢ digest_of image
  pub key_is : key ≡ id_text (key_of_image image).bytes
  pub stored_is : stored ≡ encode_lower digest
  pub fresh_is : fresh ≡ encode_lower (digest_of image)

-- the image with the bundle's key lacks this first; or there is none, and a file of the bundle isn't what its listing says
abbrev pub StandsDamaged : Source → BundleImage → List ℕ → DirState → Type 0
StandsDamaged source image path s = IsDamagedOnce (key_of_image image) path s ⊎ (IsImageAbsent (key_of_image image) s × UnlikeListed source image.listing path)

-- what a refusal says of the store is so of this state. That the lock of incoming was refused says that no image stood there
abbrev pub RefusesByStanding : Source → Refusal → DirState → Type 0
RefusesByStanding source (Conflict key stored fresh) s = OfBundle source (λ image. StandsOther image key stored fresh s)
RefusesByStanding source (Damaged path) s = OfBundle source (λ image. StandsDamaged source image path s)
RefusesByStanding source (Busy Incoming) s = OfBundle source (λ image. IsImageAbsent (key_of_image image) s)
RefusesByStanding source refusal s = Unit {0}
