-- What was read of the images of the store: their manifests with their bytes, and trees.
use Rattle.std.specs.Prelude.{◌≡◌, ℕ, Bool, true, List, [], ◌∷◌, ◌++◌}
use Rattle.std.specs.List.{AllZip}
use Rattle.ac_types.specs.declared.store_key.StoreKey.{StoreKey}
use Rattle.manifests.specs.declared.image_manifest.ImageManifest.{ImageManifest}
use Rattle.path_map.specs.Entries.{Entries, entry_at, IsPathMap}
use Rattle.tree_digest.specs.declared.line.ListingLine.{ListingLine}
use Rattle.tree_digest.specs.Listings.{entries_of, AreListable}
use Rattle.dep_match.specs.declared.stored.Stored.{Stored}
use Rattle.dir_trait.specs.DirCalls.{DirAt}
use Rattle.image_reading.specs.Files.{IsImageManifestOf, ReadsManifestFile, ReadsTree}
use Rattle.image_reading.specs.Store.{ReadsStore}
use Rattle.pod_plan.specs.declared.images.StoreImages.{StoreImages}

-- these bytes were read, and the image has the manifest that they are
abbrev pub ReadsManifestBytes : Stored → List ℕ → DirAt → DirAt → Type 0
ReadsManifestBytes image bytes old new = ReadsManifestFile image.key (λ read. (read ≡ bytes) × IsImageManifestOf image.manifest read) old new

-- a listing of these entries was read
abbrev pub HasTree : StoreKey → Entries → DirAt → DirAt → Type 0
HasTree key map old new = (lines : List ListingLine) × ReadsTree key lines old new × (map ≡ entries_of lines)

-- the same of the manifest of each image of a list
abbrev pub HaveManifests : List Stored → List (List ℕ) → DirAt → DirAt → Type 0
HaveManifests images manifests old new = AllZip (λ image bytes. ReadsManifestBytes image bytes old new) images manifests

-- what is known of an image's manifest, where the directory is observed
abbrev pub KnowsManifest : Bool → DirAt → DirAt → Stored → List ℕ → Type 0
KnowsManifest observed old new image bytes = observed ≡ true → ReadsManifestBytes image bytes old new

-- and of a tree, which is a map whose entries may be listed
pub record KnowsTree (observed : Bool) (key : StoreKey) (map : Entries) (old new : DirAt) : Type 0 where
  pub kind : IsPathMap map
  pub listable : AreListable (entry_at map)
  pub read : observed ≡ true → HasTree key map old new

-- the image that was listed, with a manifest that was read once more
abbrev pub with_manifest : Stored → ImageManifest → Stored
with_manifest listed manifest = record { key = listed.key; id = listed.id; manifest = manifest; moment = listed.moment }

abbrev pub IsReadAgain : Stored → Stored → Type 0
IsReadAgain listed image = image ≡ with_manifest listed image.manifest

-- an image was added, with the bytes of its manifest
pub record AddsReadImage (image : Stored) (bytes : List ℕ) (before after : StoreImages) : Type 0 where
  pub images : after.images.items ≡ before.images.items ++ image ∷ []
  pub manifests : after.manifests.items ≡ before.manifests.items ++ bytes ∷ []

-- the same, as it was read
pub record ReadsNextManifest (observed : Bool) (listed : Stored) (before after : StoreImages) (old new : DirAt) : Type 0 where
  pub manifest : ImageManifest
  pub bytes : List ℕ
  pub adds : AddsReadImage (with_manifest listed manifest) bytes before after
  pub manifest_read : observed ≡ true → ReadsManifestBytes (with_manifest listed manifest) bytes old new

-- each image of a list was read once more
pub record AreReadAgain (observed : Bool) (listed : List Stored) (read : StoreImages) (old new : DirAt) : Type 0 where
  pub same : AllZip IsReadAgain listed read.images.items
  pub manifests : AllZip (KnowsManifest observed old new) read.images.items read.manifests.items

-- the images of the store were read
pub record ReadsImages (observed : Bool) (read : StoreImages) (old new : DirAt) : Type 0 where
  pub listed : observed ≡ true → ReadsStore read.images.items old new
  pub manifests : AllZip (KnowsManifest observed old new) read.images.items read.manifests.items
