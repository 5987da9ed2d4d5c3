-- Which image of the store isn't whole, and what it lacks, by one state of the directory.
use Rattle.std.specs.Prelude.{◌≡◌, ◌⊎◌, ℕ, Some, List}
use Rattle.std.specs.declared.cmp.Ordering.TheVariants.{Less}
use Rattle.std.specs.Ordering.{nat_cmp}
use Rattle.std.specs.Cmp.Lexicographic.{slice_cmp}
use Rattle.ac_types.specs.declared.image_id.ImageId.{ImageId}
use Rattle.ac_types.specs.declared.store_key.StoreKey.{StoreKey}
use Rattle.ac_types.specs.Ids.{id_text, AreBytes}
use Rattle.ac_types.specs.Outcomes.{reads}
use Rattle.manifests.specs.ImageData.{ImageData}
use Rattle.manifests.specs.ImageForm.{image_manifest}
use Rattle.dir_model.specs.State.{DirState, folder_at}
use Rattle.image_reading.specs.Places.{image_spot, stored_path, manifest_name, id_name, mark_name, IsPresent}
use Rattle.image_reading.specs.Files.{IsIdOf}
use Rattle.standing_images.specs.Images.{HasFile, HasMark}

-- the bytes are a manifest
abbrev pub IsAnyManifest : List ℕ → Type 0
IsAnyManifest bytes = (manifest : ImageData) × (image_manifest bytes ≡ reads manifest)

-- or an ID of this image
abbrev pub IsAnyId : StoreKey → List ℕ → Type 0
IsAnyId key bytes = (id : ImageId) × IsIdOf key id bytes

-- the image has its manifest
abbrev pub HasManifest : StoreKey → DirState → Type 0
HasManifest key s = HasFile key manifest_name IsAnyManifest s

-- its ID
abbrev pub HasId : StoreKey → DirState → Type 0
HasId key s = HasFile key id_name (IsAnyId key) s

-- and a mark of a moment
pub record HasMoment (key : StoreKey) (s : DirState) : Type 0 where
  pub folder : ℕ
  pub here : folder_at s.namespace (image_spot key) ≡ Some folder
  pub moment : ℕ
  pub mark : HasMark folder moment s

pub record IsWholeImage (key : StoreKey) (s : DirState) : Type 0 where
  pub manifest : HasManifest key s
  pub id : HasId key s
  pub moment : HasMoment key s

-- the path is of the first that the image lacks of its manifest, its ID and a third part
abbrev pub LacksPart : StoreKey → List ℕ → Type 0 → List ℕ → DirState → Type 0
LacksPart key third HasThird path s =
    ((path ≡ stored_path key manifest_name) × (HasManifest key s → ⊥))
    ⊎ (((path ≡ stored_path key id_name) × HasManifest key s × (HasId key s → ⊥))
    ⊎ ((path ≡ stored_path key third) × HasManifest key s × HasId key s × (HasThird → ⊥)))

-- the text of the one key is before that of the other in byte order
abbrev pub IsBefore : StoreKey → StoreKey → Type 0
IsBefore key other = slice_cmp nat_cmp (id_text key.bytes) (id_text other.bytes) ≡ Less

-- the path is of the part that the first image lacks that isn't whole, in the byte order of their keys
pub record IsFirstDamage (path : List ℕ) (s : DirState) : Type 0 where
  pub key : StoreKey
  pub kind : AreBytes 32 key.bytes
  pub stands : IsPresent key s
  pub lacks : LacksPart key mark_name (HasMoment key s) path s
  pub earlier : (other : StoreKey) → AreBytes 32 other.bytes → IsPresent other s → IsBefore other key → IsWholeImage other s
