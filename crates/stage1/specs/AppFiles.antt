-- The listings of the roots of a pod's apps, which tell with its manifest and its token how its apps start.
use Rattle.std.specs.Prelude.{◌≡◌, ℕ, List, [], ◌∷◌, ◌++◌}
use Rattle.tree_digest.specs.declared.line.ListingLine.{ListingLine}
use Rattle.tree_digest.specs.Listings.{entries_of}
use Rattle.dir_model.specs.declared.pod.PodId.{PodId}
use Rattle.dir_trait.specs.DirCalls.{DirAt}
use Rattle.image_reading.specs.Files.{ReadsFile, LacksFile, IsListingOf, IsNoListing as IsNoListingText}
use Rattle.stage1.specs.declared.root.Root.{Root}
use Rattle.stage1.specs.AppPlaces.{tree_path}
use Rattle.pod_files.specs.Files.{ReadsPodManifest, ReadsNoPodManifest, ReadsToken, ReadsNoToken}
use Rattle.pod_files.specs.Places.{pod_file}
use Rattle.tree_digest.specs.ListingSize.{most_of_tree}

-- the bytes are the listing of the root, and were kept
pub record IsAppRootOf (bytes : List ℕ) (root : Root) : Type 0 where
  pub lines : List ListingLine
  pub listing : IsListingOf lines bytes
  pub kept : root.listing.items ≡ bytes
  pub tree : root.tree ≡ entries_of lines

-- the bytes are no listing
abbrev pub IsNoListing : List ℕ → Type 0
IsNoListing bytes = IsNoListingText bytes

-- what was read
abbrev pub ReadsRoot : PodId → List ℕ → Root → DirAt → DirAt → Type 0
ReadsRoot pod app root old new = ReadsFile (pod_file pod (tree_path app)) most_of_tree (λ bytes. IsAppRootOf bytes root) old new

-- the listing of an app's root isn't there or has no reading
abbrev pub LacksRootListing : PodId → List ℕ → DirAt → DirAt → Type 0
LacksRootListing pod app old new = LacksFile (pod_file pod (tree_path app)) most_of_tree IsNoListing old new

-- one root more was read
pub record AddsRoot (pod : PodId) (app : List ℕ) (before after : List Root) (old new : DirAt) : Type 0 where
  pub root : Root
  pub added : after ≡ before ++ root ∷ []
  pub read : ReadsRoot pod app root old new

-- each of the roots was read, app by app
abbrev pub AreAppRoots : PodId → List (List ℕ) → List Root → DirAt → DirAt → Type 0
AreAppRoots pod [] [] old new = Unit {0}
AreAppRoots pod [] (root ∷ roots) old new = ⊥
AreAppRoots pod (app ∷ apps) [] old new = ⊥
AreAppRoots pod (app ∷ apps) (root ∷ roots) old new = ReadsRoot pod app root old new × AreAppRoots pod apps roots old new
