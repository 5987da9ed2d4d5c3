use Rattle.std.proofs.Common.{◌≡◌, take}
use Rattle.dir_state.proofs.parts.Table.copied.Given as goal

abbrev pub invariant-listings : goal.invariant-listings
invariant-listings l = l.all.items ≡ take l.listing-index l.self.trees.listings.items
