use Rattle.std.proofs.Common.{map, take}
use Rattle.std.specs.List.{All}
use Rattle.metadata_reply.specs.Views.{image_bytes, HasReading}
use Rattle.metadata_reply.proofs.views.all_have_readings.Given as goal

abbrev pub invariant-images : goal.invariant-images
invariant-images l = All HasReading (map image_bytes (take l.image-index l.images))
