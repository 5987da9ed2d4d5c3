-- What a failure means for a spawner.
use Rattle.std.specs.declared.io.ErrorKind.{ErrorKind}
use Rattle.std.specs.declared.io.ErrorKind.TheVariants.{OutOfMemory}
use Rattle.spawner.specs.declared.call.SpawnError.{SpawnError}
use Rattle.spawner.specs.declared.call.SpawnError.TheVariants.{Failed, NoMemory}
use Rattle.tree_digest.specs.declared.listing_error.ListingError.{ListingError}
use Rattle.tree_digest.specs.declared.listing_error.ListingError.TheVariants as listing

-- memory ran out, or the system failed
abbrev pub spawn_error : ErrorKind → SpawnError
spawn_error OutOfMemory = NoMemory
spawn_error _ = Failed

-- memory ran out, or the text is no listing
abbrev pub spawn_listing_refusal : ListingError → SpawnError
spawn_listing_refusal listing.NoMemory = NoMemory
spawn_listing_refusal _ = Failed
