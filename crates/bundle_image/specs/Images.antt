-- What an image bundle says, and why it says nothing.
use Rattle.std.specs.Prelude.{◌⊎◌, ℕ, Bool, List, Some, None, MatchBool, codes}
use Rattle.dir_trait.specs.Bundles.{BundleTree, child_path}
use Rattle.tree_digest.specs.declared.line.ListingLine.{ListingLine}
use Rattle.bundle_image.specs.declared.refusal.BundleRefusal.{BundleRefusal}
use Rattle.bundle_image.specs.declared.image.BundleImage.{BundleImage}
use Rattle.bundle_image.specs.Heads.{BundleGivesManifest, FailsManifest, BundleHasManifest, BundleGivesId, FailsId, BundleHasId, BundleGivesTree, FailsTree}
use Rattle.bundle_image.specs.Walks.{subtree_below, IsWalked, IsFirstFault}

-- what stands below the bundle's `rootfs`
abbrev pub root_nodes : BundleTree → List ℕ → BundleTree
root_nodes tree path = subtree_below tree (child_path path (codes "rootfs"))

-- the listing of the file `tree`, or without one that of what stands below `rootfs`
abbrev pub FindsListing : BundleTree → List ℕ → List ListingLine → Bool → Type 0
FindsListing tree path listing listed =
    MatchBool listed
    (BundleGivesTree tree path (Some listing))
    (BundleGivesTree tree path None × IsWalked (root_nodes tree path) listing)

-- the fault of the file `tree`, or without one the first of the walk
abbrev pub FailsListing : BundleTree → List ℕ → BundleRefusal → Type 0
FailsListing tree path refusal =
    FailsTree tree path refusal ⊎ (BundleGivesTree tree path None × IsFirstFault (root_nodes tree path) refusal)

-- what the bundle says
pub record IsBundleImage (tree : BundleTree) (path : List ℕ) (image : BundleImage) : Type 0 where
  pub manifest : BundleGivesManifest tree path image.manifest image.bytes
  pub id : BundleGivesId tree path image.id.bytes
  pub listing : FindsListing tree path image.listing image.listed

-- the first fault behind the manifest: in the ID, or else in the listing
abbrev pub FailsBehind : BundleTree → List ℕ → BundleRefusal → Type 0
FailsBehind tree path refusal = FailsId tree path refusal ⊎ (BundleHasId tree path × FailsListing tree path refusal)

-- the first of all: in the manifest, or else behind it
abbrev pub FailsBundle : BundleTree → List ℕ → BundleRefusal → Type 0
FailsBundle tree path refusal = FailsManifest tree path refusal ⊎ (BundleHasManifest tree path × FailsBehind tree path refusal)
