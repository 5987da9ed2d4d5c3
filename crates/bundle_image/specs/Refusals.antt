-- The refusals of lower calls.
use Rattle.std.specs.Prelude.{◌≡◌}
use Rattle.dir_trait.specs.declared.bundle.BundleError.{BundleError}
use Rattle.dir_trait.specs.declared.bundle.BundleError.TheVariants.{Missing, Failed}
use Rattle.dir_trait.specs.declared.bundle.BundleError.TheVariants as bundle_error
use Rattle.tree_digest.specs.declared.listing_error.ListingError.{ListingError}
use Rattle.tree_digest.specs.declared.listing_error.ListingError.TheVariants.{BadLine, NotSorted, NoParent, TooMany, FileTooLong}
use Rattle.tree_digest.specs.declared.listing_error.ListingError.TheVariants as listing_error
use Rattle.bundle_image.specs.declared.refusal.BundleRefusal.{BundleRefusal}
use Rattle.bundle_image.specs.declared.refusal.BundleRefusal.TheVariants.{Listing, BundleFault, NoMemory}

-- a listing's fault, or want of memory
abbrev pub of_listing : ListingError → BundleRefusal
of_listing (BadLine n) = Listing (BadLine n)
of_listing (NotSorted n) = Listing (NotSorted n)
of_listing (NoParent n) = Listing (NoParent n)
of_listing (TooMany limit) = Listing (TooMany limit)
of_listing (FileTooLong n) = Listing (FileTooLong n)
of_listing listing_error.NoMemory = NoMemory

-- a bundle's answer, where nothing of the wanted kind means this
abbrev pub IsOfMissing : BundleRefusal → BundleError → BundleRefusal → Type 0
IsOfMissing missing Missing refusal = refusal ≡ missing
IsOfMissing missing Failed refusal = refusal ≡ BundleFault
IsOfMissing missing bundle_error.NoMemory refusal = refusal ≡ NoMemory

-- the bundle failed, or memory ran out
abbrev pub IsBundleFailure : BundleRefusal → Type 0
IsBundleFailure BundleFault = Unit {0}
IsBundleFailure NoMemory = Unit {0}
IsBundleFailure refusal = ⊥
