-- How many lines a walk may have.
use Rattle.std.specs.Prelude.{◌≤◌, List, length}
use Rattle.tree_digest.specs.declared.line.ListingLine.{ListingLine}
use Rattle.tree_digest.specs.declared.refusals.TheConstants.{MAX_LINES, MAX_BYTES}
use Rattle.tree_digest.specs.Listings.{listing_text}

-- at most as many as a listing has, of at most as many bytes
pub record AreFewLines (lines : List ListingLine) : Type 0 where
  pub count : length lines ≤ MAX_LINES
  pub size : length (listing_text lines) ≤ MAX_BYTES
