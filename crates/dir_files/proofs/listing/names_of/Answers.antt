use Rattle.dir_files.proofs.Listings.{tells_area}
use Rattle.dir_files.proofs.listing.names_of.Goals as goal

pub returns-clause-shows : goal.returns-clause-shows
returns-clause-shows g c = tells_area c.list_area.result c.list_area.ensures.called
