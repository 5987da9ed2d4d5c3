use Rattle.std.proofs.Common.{◌≡◌, take}
use Rattle.tree_digest.specs.Listings.{listing_text}
use Rattle.tree_digest.proofs.listing.Listing.write.Given as goal

abbrev pub invariant-loop-line : goal.invariant-loop-line
invariant-loop-line l = l.out.items ≡ listing_text (take l.line-index l.lines)
