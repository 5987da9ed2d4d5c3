-- The files of an image's folder: the manifest, the ID, the listing and the marks.
use Rattle.std.specs.Prelude.{◌≡◌, ◌⊎◌, ℕ, ◌≤◌, List, [], ◌∷◌, ◌++◌, length, take}
use Rattle.ac_types.specs.declared.image_id.ImageId.{ImageId}
use Rattle.ac_types.specs.declared.store_key.StoreKey.{StoreKey}
use Rattle.ac_types.specs.Ids.{id_text, AreBytes}
use Rattle.ac_types.specs.Outcomes.{reads}
use Rattle.manifests.specs.declared.image_manifest.ImageManifest.{ImageManifest}
use Rattle.manifests.specs.ImageData.{ImageData, image_data}
use Rattle.manifests.specs.ImageForm.{image_manifest}
use Rattle.tree_digest.specs.declared.line.ListingLine.{ListingLine}
use Rattle.tree_digest.specs.declared.listing_error.ListingError.{ListingError}
use Rattle.tree_digest.specs.Listings.{IsListing, listing_text, Fails}
use Rattle.dir_model.specs.declared.item.Inner.{Inner}
use Rattle.dir_model.specs.declared.item.Item.{Item}
use Rattle.dir_trait.specs.DirCalls.{DirAt, HeldBetween}
use Rattle.dir_files.specs.Reads.{ReadsUp, WasMissing}
use Rattle.dir_files.specs.Listed.{ShowsDirectoryBetween}
use Rattle.image_reading.specs.declared.file.KeptManifest.{KeptManifest}
use Rattle.image_reading.specs.Within.{Within}
use Rattle.image_reading.specs.Places.{image_inner, manifest_name, id_name, tree_name, IsImageAbsent, IsPresent}
use Rattle.image_reading.specs.Marks.{imported_moments, IsGreatest}
use Rattle.manifests.specs.ManifestSize.{most_of_manifest}
use Rattle.tree_digest.specs.ListingSize.{most_of_tree}

-- the bytes are those of the manifest
abbrev pub IsImageManifestOf : ImageManifest → List ℕ → Type 0
IsImageManifestOf manifest bytes = image_manifest bytes ≡ reads (image_data manifest)

abbrev pub IsNoImageManifest : List ℕ → Type 0
IsNoImageManifest bytes = (manifest : ImageData) → image_manifest bytes ≡ reads manifest → ⊥

-- and they were kept
abbrev pub IsKeptOf : KeptManifest → List ℕ → Type 0
IsKeptOf kept bytes = (kept.bytes.items ≡ bytes) × IsImageManifestOf kept.manifest bytes

-- the bytes are the text of the ID and a line end, and the ID is that of an image with this key
pub record IsIdOf (key : StoreKey) (id : ImageId) (bytes : List ℕ) : Type 0 where
  pub kind : AreBytes 64 id.bytes
  pub text : bytes ≡ id_text id.bytes ++ 10 ∷ []
  pub front : take 32 id.bytes ≡ key.bytes

abbrev pub IsNoId : StoreKey → List ℕ → Type 0
IsNoId key bytes = (id : ImageId) → IsIdOf key id bytes → ⊥

-- the bytes are the text of the listing
pub record IsListingOf (lines : List ListingLine) (bytes : List ℕ) : Type 0 where
  pub kind : IsListing lines
  pub text : bytes ≡ listing_text lines

-- the bytes have a fault as a listing
abbrev pub IsNoListing : List ℕ → Type 0
IsNoListing bytes = (error : ListingError) × Fails bytes error

-- the bytes of a file were read, all of them or the first so many, and this holds of them
pub record ReadsFile (inner : Inner) (most : ℕ) (P : List ℕ → Type 0) (old new : DirAt) : Type 0 where
  pub bytes : List ℕ
  pub few : length bytes ≤ most
  pub read : Within (λ first last. ReadsUp inner most first last bytes) old new
  pub holds : P bytes

-- no such file stood there, or such bytes were read
abbrev pub LacksFile : Inner → ℕ → (List ℕ → Type 0) → DirAt → DirAt → Type 0
LacksFile inner most P old new = WasMissing inner old new ⊎ ReadsFile inner most P old new

-- one byte more than an ID and a line end have
abbrev pub most_of_id : ℕ
most_of_id = 137

abbrev pub ReadsManifestFile : StoreKey → (List ℕ → Type 0) → DirAt → DirAt → Type 0
ReadsManifestFile key P old new = ReadsFile (image_inner key manifest_name) most_of_manifest P old new

abbrev pub ReadsImageManifest : StoreKey → ImageManifest → DirAt → DirAt → Type 0
ReadsImageManifest key manifest old new = ReadsManifestFile key (IsImageManifestOf manifest) old new

abbrev pub ReadsKept : StoreKey → KeptManifest → DirAt → DirAt → Type 0
ReadsKept key kept old new = ReadsManifestFile key (IsKeptOf kept) old new

abbrev pub ReadsNoImageManifest : StoreKey → DirAt → DirAt → Type 0
ReadsNoImageManifest key old new = LacksFile (image_inner key manifest_name) most_of_manifest IsNoImageManifest old new

abbrev pub ReadsId : StoreKey → ImageId → DirAt → DirAt → Type 0
ReadsId key id old new = ReadsFile (image_inner key id_name) most_of_id (IsIdOf key id) old new

abbrev pub LacksId : StoreKey → DirAt → DirAt → Type 0
LacksId key old new = LacksFile (image_inner key id_name) most_of_id (IsNoId key) old new

abbrev pub ReadsTree : StoreKey → List ListingLine → DirAt → DirAt → Type 0
ReadsTree key lines old new = ReadsFile (image_inner key tree_name) most_of_tree (IsListingOf lines) old new

abbrev pub LacksTree : StoreKey → DirAt → DirAt → Type 0
LacksTree key old new = LacksFile (image_inner key tree_name) most_of_tree IsNoListing old new

-- and a folder of the image stood there
abbrev pub LacksStoredTree : StoreKey → DirAt → DirAt → Type 0
LacksStoredTree key old new = HeldBetween old new (IsPresent key) × LacksTree key old new

-- the folder was listed, and this holds of the moments of the marks that it showed
pub record ShowsImportMarks (key : StoreKey) (P : List ℕ → Type 0) (old new : DirAt) : Type 0 where
  pub items : List Item
  pub shown : Within (λ first last. ShowsDirectoryBetween first last (image_inner key []) items) old new
  pub holds : P (imported_moments items)

-- the moment is the greatest of the marks that were shown
abbrev pub ReadsMoment : StoreKey → ℕ → DirAt → DirAt → Type 0
ReadsMoment key moment old new = ShowsImportMarks key (λ moments. IsGreatest moments moment) old new

-- no folder stood there, or no mark was shown
abbrev pub LacksMoment : StoreKey → DirAt → DirAt → Type 0
LacksMoment key old new = HeldBetween old new (IsImageAbsent key) ⊎ ShowsImportMarks key (λ moments. moments ≡ []) old new
