use Rattle.image_reading.proofs.Asking.{images_none, images_one}
use Rattle.image_reading.proofs.Trees.{trees_none}
use Rattle.image_reading.proofs.store.read_next.Goals as goal

pub returns-in_default-clause-only : goal.returns-in_default-clause-only
returns-in_default-clause-only g c = images_none

pub returns-in-Ok-clause-only : goal.returns-in-Ok-clause-only
returns-in-Ok-clause-only g c = images_one c.in-Some.key c.read_image.ensures.only

pub returns-in-Err-clause-only : goal.returns-in-Err-clause-only
returns-in-Err-clause-only g c = images_one c.in-Some.key c.read_image.ensures.only

pub returns-in_default-clause-trees : goal.returns-in_default-clause-trees
returns-in_default-clause-trees g c = trees_none
