use Rattle.dir_memory.proofs.BundleListings.{all_listed}
use Rattle.dir_memory.proofs.listing.list_in.Goals as goal

pub returns-clause-listed : goal.returns-clause-listed
returns-clause-listed c = all_listed c.args.entries.now c.args.directory.now c.in_ok-kinds.kinds c.listing_of.result c.requires c.in_ok-kinds.ensures.kinds c.in_ok-kinds.ensures.found c.listing_of.ensures.items c.listing_of.ensures.ordered
