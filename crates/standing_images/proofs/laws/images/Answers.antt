use Rattle.standing_images.proofs.Stores.{store_stood}
use Rattle.standing_images.proofs.QuietStores.{reads_leave, quiet_store}
use Rattle.image_reading.specs.Looks.{reads_images}
use Rattle.standing_images.proofs.laws.images.Goals as goal

pub returns-clause-stand : goal.returns-clause-stand
returns-clause-stand c = λ s old new images same g r. store_stood g r

pub returns-clause-quiet : goal.returns-clause-quiet
returns-clause-quiet c = λ s old new images same g r quiet. quiet_store reads_images reads_leave (store_stood g r) g.extends quiet
