use Rattle.listing_laws.proofs.OneText.{no_two_listings_have_one_text}
use Rattle.listing_laws.proofs.one_text.Goals as goal

pub returns : goal.returns
returns c = no_two_listings_have_one_text c.args.left.now c.args.right.now c.as_slice-left.ensures.kind.follow c.as_slice-right.ensures.kind.follow
