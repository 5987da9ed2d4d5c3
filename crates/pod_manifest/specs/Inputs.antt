-- What the images are from which a pod manifest is made.
use Rattle.manifests.specs.ImageData.{image_data}
use Rattle.manifests.specs.ManifestRules.{IsImageManifest}
use Rattle.dep_match.specs.declared.stored.Stored.{Stored}

-- the image's manifest is one
abbrev pub IsImage : Stored → Type 0
IsImage image = IsImageManifest (image_data image.manifest)
