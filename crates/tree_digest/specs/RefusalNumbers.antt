-- The numbers by which refusals are printed; want of memory has none.
use Rattle.std.specs.Prelude.{ℕ, Option, Some, None}
use Rattle.tree_digest.specs.declared.refusals.TheConstants.{BAD_LINE, NOT_SORTED, NO_PARENT, TOO_MANY, FILE_TOO_LONG}
use Rattle.tree_digest.specs.declared.listing_error.ListingError.{ListingError}
use Rattle.tree_digest.specs.declared.listing_error.ListingError.TheVariants.{BadLine, NotSorted, NoParent, TooMany, FileTooLong, NoMemory}

-- the number of each reason why a text is no listing
abbrev pub listing_error_number : ListingError → Option ℕ
listing_error_number (BadLine n) = Some BAD_LINE
listing_error_number (NotSorted n) = Some NOT_SORTED
listing_error_number (NoParent n) = Some NO_PARENT
listing_error_number (TooMany limit) = Some TOO_MANY
listing_error_number (FileTooLong n) = Some FILE_TOO_LONG
listing_error_number NoMemory = None
