use Rattle.std.proofs.Common.{◌≡◌, ◌≤◌, length, take}
use Rattle.tree_digest.specs.Listings.{listing_text}
use Rattle.tree_digest.specs.declared.refusals.TheConstants.{MAX_BYTES}
use Rattle.tree_digest.proofs.maps.text_fits.Given as goal

abbrev pub invariant-loop-line : goal.invariant-loop-line
invariant-loop-line l = record {
  total : l.total ≡ length (listing_text (take l.line-index l.lines));
  small : l.total ≤ MAX_BYTES;
}
