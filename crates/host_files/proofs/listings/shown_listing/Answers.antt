use Rattle.std.proofs.Common.{◌∙◌}
use Rattle.host_files.proofs.Shown.{order_shown}
use Rattle.host_files.proofs.listings.shown_listing.Goals as goal

pub returns-in-Ok-clause-ordered : goal.returns-in-Ok-clause-ordered
returns-in-Ok-clause-ordered c = order_shown c.args.listing.now c.from_vec.result (c.from_vec.ensures ∙ c.in-Ok.ensures) c.requires
