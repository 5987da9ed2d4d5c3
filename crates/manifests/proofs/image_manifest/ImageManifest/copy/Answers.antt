use Rattle.manifests.proofs.SameData.{same_image}
use Rattle.manifests.proofs.image_manifest.ImageManifest.copy.Goals as goal

pub returns : goal.returns
returns c =
    same_image c.in_ok-copy.ensures c.in_ok-copy-2.ensures c.in_ok-copy-3.ensures c.in_ok-copy-7.ensures
    c.in_ok-copy-4.ensures c.in_ok-copy-5.ensures c.in_ok-copy-6.ensures
