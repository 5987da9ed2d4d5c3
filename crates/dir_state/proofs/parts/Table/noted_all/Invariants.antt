use Rattle.std.proofs.Common.{◌≡◌, take}
use Rattle.dir_model.specs.Listings.{noted_all}
use Rattle.dir_state.specs.Parts.{table_state}
use Rattle.dir_state.proofs.parts.Table.noted_all.Given as goal

abbrev pub invariant-listings : goal.invariant-listings
invariant-listings l = l.all.items ≡ noted_all (table_state l.self) (take l.listing-index l.self.trees.listings.items)
