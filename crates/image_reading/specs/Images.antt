-- What the files of an image tell together.
use Rattle.std.specs.Prelude.{◌≡◌, ◌⊎◌, ℕ, List}
use Rattle.ac_types.specs.declared.image_id.ImageId.{ImageId}
use Rattle.ac_types.specs.declared.store_key.StoreKey.{StoreKey}
use Rattle.dep_match.specs.declared.stored.Stored.{Stored}
use Rattle.tree_digest.specs.declared.line.ListingLine.{ListingLine}
use Rattle.tree_digest.specs.Digests.{image_digest}
use Rattle.dir_trait.specs.DirCalls.{DirAt, HeldBetween}
use Rattle.image_reading.specs.declared.error.StoreError.{StoreError}
use Rattle.image_reading.specs.declared.error.StoreError.TheVariants.{Damaged}
use Rattle.image_reading.specs.declared.file.KeptManifest.{KeptManifest}
use Rattle.image_reading.specs.Places.{stored_path, manifest_name, id_name, tree_name, mark_name, IsPresent}
use Rattle.image_reading.specs.Refusals.{IsDamaged}
use Rattle.image_reading.specs.Files.{ReadsKept, ReadsNoImageManifest, ReadsImageManifest, ReadsId, LacksId, ReadsTree, LacksTree, ReadsMoment, LacksMoment}

-- its files say what the image has
pub record ReadsImage (image : Stored) (old new : DirAt) : Type 0 where
  pub manifest : ReadsImageManifest image.key image.manifest old new
  pub id : ReadsId image.key image.id old new
  pub moment : ReadsMoment image.key image.moment old new

abbrev pub ReadsSomeManifest : StoreKey → DirAt → DirAt → Type 0
ReadsSomeManifest key old new = (kept : KeptManifest) × ReadsKept key kept old new

abbrev pub ReadsSomeId : StoreKey → DirAt → DirAt → Type 0
ReadsSomeId key old new = (id : ImageId) × ReadsId key id old new

-- the path is of the first of the manifest, the ID and the third that isn't there or has no reading
abbrev pub LacksInTurn : StoreKey → List ℕ → (DirAt → DirAt → Type 0) → List ℕ → DirAt → DirAt → Type 0
LacksInTurn key third LacksThird path old new =
    ((path ≡ stored_path key manifest_name) × ReadsNoImageManifest key old new)
    ⊎ (((path ≡ stored_path key id_name) × ReadsSomeManifest key old new × LacksId key old new)
    ⊎ ((path ≡ stored_path key third) × ReadsSomeManifest key old new × ReadsSomeId key old new × LacksThird old new))

-- where the error says that a file is damaged, it is the first of them
abbrev pub IsFirstLack : StoreKey → List ℕ → (DirAt → DirAt → Type 0) → StoreError → DirAt → DirAt → Type 0
IsFirstLack key third LacksThird (Damaged path) old new = LacksInTurn key third LacksThird path old new
IsFirstLack key third LacksThird error old new = Unit {0}

-- of what is read of an image, the third is its mark
abbrev pub LacksImage : StoreKey → StoreError → DirAt → DirAt → Type 0
LacksImage key error old new = IsFirstLack key mark_name (LacksMoment key) error old new

-- of what its digest is taken of, the third is its listing
abbrev pub LacksDigest : StoreKey → StoreError → DirAt → DirAt → Type 0
LacksDigest key error old new = IsFirstLack key tree_name (LacksTree key) error old new

-- and a folder of the image stood there
abbrev pub LacksStored : StoreKey → StoreError → DirAt → DirAt → Type 0
LacksStored key error old new = IsDamaged error → HeldBetween old new (IsPresent key) × LacksDigest key error old new

-- the digest is that of what the files hold
pub record ReadsParts (key : StoreKey) (digest : List ℕ) (old new : DirAt) : Type 0 where
  pub kept : KeptManifest
  pub id : ImageId
  pub lines : List ListingLine
  pub manifest : ReadsKept key kept old new
  pub id_file : ReadsId key id old new
  pub tree : ReadsTree key lines old new
  pub is : digest ≡ image_digest id kept.bytes.items lines

-- and a folder stood there
pub record ReadsDigest (key : StoreKey) (digest : List ℕ) (old new : DirAt) : Type 0 where
  pub there : HeldBetween old new (IsPresent key)
  pub parts : ReadsParts key digest old new
