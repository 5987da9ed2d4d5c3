use Rattle.std.proofs.Common.{rules, sym}
use Rattle.manifests.specs.ImageData.{image_data}
use Rattle.metadata.proofs.image.image_of.Goals as goal

pub returns-in-Ok-clause-image : goal.returns-in-Ok-clause-image
returns-in-Ok-clause-image c = (sym c.from_vec.ensures, (image_data c.in-Ok.field-0, search rules))
