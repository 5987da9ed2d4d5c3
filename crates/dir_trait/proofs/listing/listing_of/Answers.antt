use Rattle.std.proofs.Common.{◌∙◌}
use Rattle.dir_trait.proofs.Listings.{in_order}
use Rattle.dir_trait.proofs.listing.listing_of.Goals as goal

pub returns-clause-ordered : goal.returns-clause-ordered
returns-clause-ordered c = in_order c.args.kinds.now c.from_vec.result (c.from_vec.ensures ∙ c.in_ok-items.ensures.items) c.in_ok-items.ensures.ordered
