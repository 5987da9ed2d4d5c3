-- What the first bytes of the file `tree` tell.
use Rattle.std.proofs.Common.{arith, ◌≡◌, ◌⊎◌, inl, inr, ◌≤◌, ◌<◌, ℕ, List, length, take, Option, None, Some, IsSomeAnd, sym, ap, subst, ◌∙◌}
use Rattle.plain_laws.proofs.Fronts.{not_cut}
use Rattle.tree_digest.specs.declared.line.ListingLine.{ListingLine}
use Rattle.tree_digest.specs.declared.listing_error.ListingError.{ListingError}
use Rattle.tree_digest.specs.declared.listing_error.ListingError.TheVariants.{BadLine, NotSorted, NoParent, TooMany, FileTooLong, NoMemory}
use Rattle.tree_digest.specs.Listings.{listing_text, Fails}
use Rattle.bundle_image.specs.Heads.{IsListingFaultOf}
use Rattle.bundle_image.specs.Refusals.{of_listing, IsBundleFailure}

-- a listing that was read is the whole file
pub tree_read : (file : Option (List ℕ)) (bytes : List ℕ) (listing : List ListingLine) → IsSomeAnd file (λ f. bytes ≡ take 33554433 f) → bytes ≡ listing_text listing → length (listing_text listing) ≤ 33554432
    → IsSomeAnd file (λ f. f ≡ listing_text listing)
tree_read None bytes listing front is few = absurd front
tree_read (Some f) bytes listing front is few =
    let within : length (take 33554433 f) < 33554433 = omega (arith, ap length front, ap length is, few) in
    sym (not_cut 33554433 f within) ∙ sym front ∙ is

failed : (file : Option (List ℕ)) (bytes : List ℕ) (error : ListingError) → IsSomeAnd file (λ f. bytes ≡ take 33554433 f) → Fails bytes error → IsSomeAnd file (λ f. Fails (take 33554433 f) error)
failed None bytes error front fails = absurd front
failed (Some f) bytes error front fails = subst (λ (b : List ℕ). Fails b error) front fails

-- and the first fault is that of the file's beginning
pub tree_failed : (file : Option (List ℕ)) (bytes : List ℕ) (error : ListingError) → IsSomeAnd file (λ f. bytes ≡ take 33554433 f) → (error ≡ NoMemory) ⊎ Fails bytes error
    → IsBundleFailure (of_listing error) ⊎ IsSomeAnd file (λ f. IsListingFaultOf f (of_listing error))
tree_failed file bytes NoMemory front fault = inl tt
tree_failed file bytes (BadLine n) front (inl is) = cc
tree_failed file bytes (BadLine n) front (inr fails) = inr (failed file bytes (BadLine n) front fails)
tree_failed file bytes (NotSorted n) front (inl is) = cc
tree_failed file bytes (NotSorted n) front (inr fails) = inr (failed file bytes (NotSorted n) front fails)
tree_failed file bytes (NoParent n) front (inl is) = cc
tree_failed file bytes (NoParent n) front (inr fails) = inr (failed file bytes (NoParent n) front fails)
tree_failed file bytes (TooMany limit) front (inl is) = cc
tree_failed file bytes (TooMany limit) front (inr fails) = inr (failed file bytes (TooMany limit) front fails)
tree_failed file bytes (FileTooLong n) front (inl is) = cc
tree_failed file bytes (FileTooLong n) front (inr fails) = inr (failed file bytes (FileTooLong n) front fails)
