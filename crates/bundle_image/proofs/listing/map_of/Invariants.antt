use Rattle.std.proofs.Common.{◌≡◌, ℕ, List, take}
use Rattle.path_map.specs.Entries.{entry_at}
use Rattle.tree_digest.specs.Listings.{entries_of, AreListable}
use Rattle.bundle_image.proofs.listing.map_of.Given as goal

abbrev pub invariant-loop-line : goal.invariant-loop-line
invariant-loop-line l = record {
  same : (q : List ℕ) → entry_at l.map q ≡ entry_at (entries_of (take l.line-index l.lines)) q;
  listable : AreListable (entry_at l.map);
}
