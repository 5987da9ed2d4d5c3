use Rattle.app_section.proofs.Readings.{answer_given}
use Rattle.manifests.specs.ImageData.{image_data}
use Rattle.manifests.specs.ImageForm.{image_manifest}
use Rattle.manifests.proofs.Manifests.{image_manifest_given}
use Rattle.manifests.proofs.image_reader.read_image.Goals as goal

pub returns-clause-kind : goal.returns-clause-kind
returns-clause-kind c =
    answer_given image_data (image_manifest c.args.bytes.now) c.read_whole_image.result (image_manifest_given c.args.bytes.now) c.read_whole_image.ensures
