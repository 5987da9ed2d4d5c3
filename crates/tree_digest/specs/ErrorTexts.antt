-- The texts of errors.
use Rattle.std.specs.Prelude.{ℕ, List, ◌++◌, codes}
use Rattle.std.specs.Fmt.{decimal}
use Rattle.tree_digest.specs.declared.listing_error.ListingError.{ListingError}
use Rattle.tree_digest.specs.declared.listing_error.ListingError.TheVariants.{BadLine, NotSorted, NoParent, TooMany, FileTooLong, NoMemory}

-- why a text is no listing
abbrev pub listing_error_text : ListingError → List ℕ
listing_error_text (BadLine n) = codes "line " ++ (decimal n ++ codes " is of no form")
listing_error_text (NotSorted n) = codes "line " ++ (decimal n ++ codes " is out of order")
listing_error_text (NoParent n) = codes "line " ++ (decimal n ++ codes " has no parent")
listing_error_text (TooMany limit) = codes "more than " ++ (decimal limit ++ codes " lines or bytes")
listing_error_text (FileTooLong n) = codes "the file of line " ++ (decimal n ++ codes " is too long")
listing_error_text NoMemory = codes "out of memory"
