-- Reading and writing undo each other.
use Rattle.std.proofs.Common.{◌≡◌, List, Result, Ok, Err, IfOk, sym, ⊎_elim, ◌⊎◌}
use Rattle.std.specs.Result.{IfErr, MatchResult}
use Rattle.tree_digest.specs.declared.line.ListingLine.{ListingLine}
use Rattle.tree_digest.specs.declared.listing_error.ListingError.{ListingError}
use Rattle.tree_digest.specs.declared.listing_error.ListingError.TheVariants.{NoMemory}
use Rattle.tree_digest.specs.Listings.{listing_text, IsListing, Fails}
use Rattle.listing_laws.proofs.OneText.{no_two_listings_have_one_text}
use Rattle.listing_laws.proofs.Faults.{a_listing_has_no_fault}

-- what `Listing::read` ensures gives, on the text that a listing is written as, that listing, or
-- want of memory
pub read_of_written : (listing : List ListingLine) (result : Result (List ListingLine) ListingError) → IsListing listing
    → IfOk result (λ read. IsListing read × (listing_text listing ≡ listing_text read))
    → IfErr result (λ error. (error ≡ NoMemory) ⊎ Fails (listing_text listing) error)
    → MatchResult result (λ read. read ≡ listing) (λ error. error ≡ NoMemory)
read_of_written listing (Ok read) good ok fault = sym (no_two_listings_have_one_text listing read good.follow ok.0.follow ok.1)
read_of_written listing (Err error) good ok fault = ⊎_elim (λ memory. memory) (λ fails. absurd (a_listing_has_no_fault listing error good fails)) fault
