-- The files beside a bundle's root: the manifest, the ID and the listing.
use Rattle.std.specs.Prelude.{◌≡◌, ◌⊎◌, ℕ, Bool, ◌==◌, ◌&&◌, List, [], ◌∷◌, ◌++◌, length, take, slice_index, if◌then◌else◌, Option, Some, None, IsSomeAnd, codes}
use Rattle.dir_trait.specs.Bundles.{BundleTree, bytes_of_node, child_path}
use Rattle.ac_types.specs.Ids.{id_text, AreBytes}
use Rattle.ac_types.specs.Outcomes.{reads, fails}
use Rattle.manifests.specs.declared.image_manifest.ImageManifest.{ImageManifest}
use Rattle.manifests.specs.ImageData.{ImageData, image_data}
use Rattle.manifests.specs.ImageForm.{image_manifest}
use Rattle.tree_digest.specs.declared.line.ListingLine.{ListingLine}
use Rattle.tree_digest.specs.Listings.{listing_text, Fails}
use Rattle.bundle_image.specs.declared.refusal.BundleRefusal.{BundleRefusal}
use Rattle.bundle_image.specs.declared.refusal.BundleRefusal.TheVariants.{NoFile, Manifest, Id, Listing}
use Rattle.tree_digest.specs.ListingSize.{most_of_tree}

-- the bytes of the bundle's file of that name
abbrev pub bundle_file_at : BundleTree → List ℕ → List ℕ → Option (List ℕ)
bundle_file_at tree path name = bytes_of_node (tree (child_path path name))

-- the bytes are those of the manifest
abbrev pub IsBundleManifestOf : List ℕ → ImageManifest → Type 0
IsBundleManifestOf bytes manifest = image_manifest bytes ≡ reads (image_data manifest)

-- the refusal is the first fault of the bytes as a manifest
abbrev pub IsManifestFault : List ℕ → BundleRefusal → Type 0
IsManifestFault bytes (Manifest fault) = image_manifest bytes ≡ fails fault.path fault.kind
IsManifestFault bytes refusal = ⊥

-- the file `manifest` has these bytes, which are those of the manifest
abbrev pub BundleGivesManifest : BundleTree → List ℕ → ImageManifest → List ℕ → Type 0
BundleGivesManifest tree path manifest bytes = IsSomeAnd (bundle_file_at tree path (codes "manifest")) (λ file. (bytes ≡ file) × IsBundleManifestOf file manifest)

-- there is no file `manifest`, or this is its first fault
abbrev pub FailsManifest : BundleTree → List ℕ → BundleRefusal → Type 0
FailsManifest tree path refusal =
    ((refusal ≡ NoFile (codes "manifest")) × (bundle_file_at tree path (codes "manifest") ≡ None))
    ⊎ IsSomeAnd (bundle_file_at tree path (codes "manifest")) (λ file. IsManifestFault file refusal)

-- the file `manifest` is a manifest
abbrev pub BundleHasManifest : BundleTree → List ℕ → Type 0
BundleHasManifest tree path = IsSomeAnd (bundle_file_at tree path (codes "manifest")) (λ file. (manifest : ImageData) × (image_manifest file ≡ reads manifest))

-- the text of an ID, with a line end or without
abbrev pub IsIdFile : List ℕ → List ℕ → Type 0
IsIdFile file id = AreBytes 64 id × ((file ≡ id_text id) ⊎ (file ≡ id_text id ++ 10 ∷ []))

abbrev pub IsNoIdFile : List ℕ → Type 0
IsNoIdFile file = (id : List ℕ) → ¬ IsIdFile file id

-- as long as an ID's text with a line end, and with one at its end
abbrev pub is_ended : List ℕ → Bool
is_ended bytes = (length bytes == 136) && (slice_index bytes 135 == 10)

-- where an ID's text ends: before a line end behind it
abbrev pub text_end : List ℕ → ℕ
text_end bytes = if is_ended bytes then 135 else length bytes

-- an ID's text without the line end behind it
abbrev pub without_end : List ℕ → List ℕ
without_end bytes = take (text_end bytes) bytes

-- the file `id` is that of the ID
abbrev pub BundleGivesId : BundleTree → List ℕ → List ℕ → Type 0
BundleGivesId tree path id = IsSomeAnd (bundle_file_at tree path (codes "id")) (λ file. IsIdFile file id)

-- it is no ID's
abbrev pub IsIdFault : List ℕ → BundleRefusal → Type 0
IsIdFault file (Id bad) = IsNoIdFile file
IsIdFault file refusal = ⊥

-- there is no file `id`, or it is no ID's
abbrev pub FailsId : BundleTree → List ℕ → BundleRefusal → Type 0
FailsId tree path refusal =
    ((refusal ≡ NoFile (codes "id")) × (bundle_file_at tree path (codes "id") ≡ None))
    ⊎ IsSomeAnd (bundle_file_at tree path (codes "id")) (λ file. IsIdFault file refusal)

abbrev pub BundleHasId : BundleTree → List ℕ → Type 0
BundleHasId tree path = (id : List ℕ) × BundleGivesId tree path id

-- the listing of the file `tree`, if there is one
abbrev pub BundleGivesTree : BundleTree → List ℕ → Option (List ListingLine) → Type 0
BundleGivesTree tree path None = bundle_file_at tree path (codes "tree") ≡ None
BundleGivesTree tree path (Some listing) = IsSomeAnd (bundle_file_at tree path (codes "tree")) (λ file. file ≡ listing_text listing)

-- the refusal is the first fault of the file's beginning as a listing
abbrev pub IsListingFaultOf : List ℕ → BundleRefusal → Type 0
IsListingFaultOf file (Listing error) = Fails (take most_of_tree file) error
IsListingFaultOf file refusal = ⊥

abbrev pub FailsTree : BundleTree → List ℕ → BundleRefusal → Type 0
FailsTree tree path refusal = IsSomeAnd (bundle_file_at tree path (codes "tree")) (λ file. IsListingFaultOf file refusal)
