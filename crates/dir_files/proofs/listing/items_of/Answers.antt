use Rattle.dir_files.proofs.Listings.{tells_directory}
use Rattle.dir_files.proofs.listing.items_of.Goals as goal

pub returns-clause-shows : goal.returns-clause-shows
returns-clause-shows g c = tells_directory c.list_in.result c.list_in.ensures.called
