-- What the service knows of a pod.
use Rattle.std.specs.Prelude.{◌≡◌, ℕ, List, length, map, All}
use Rattle.ac_types.specs.Outcomes.{reads}
use Rattle.manifests.specs.ImageData.{ImageData}
use Rattle.manifests.specs.ImageForm.{image_manifest}
use Rattle.manifests.specs.PodData.{PodData, pod_data}
use Rattle.metadata_reply.specs.declared.view.PodView.{PodView}
use Rattle.metadata_reply.specs.declared.view.ImageBytes.{ImageBytes}

-- its uuid, its manifest, and for each app the bytes of its image's manifest
pub record ViewData : Type 0 where
  pub uuid : List ℕ
  pub manifest : PodData
  pub images : List (List ℕ)

abbrev pub image_bytes : ImageBytes → List ℕ
image_bytes image = image.bytes

abbrev pub view_data : PodView → ViewData
view_data v = record { uuid = v.pod.bytes; manifest = pod_data v.manifest; images = map image_bytes v.images }

-- the bytes are an image manifest
abbrev pub HasReading : List ℕ → Type 0
HasReading bytes = (d : ImageData) × (image_manifest bytes ≡ reads d)

-- each app has its image, whose manifest has a reading
pub record IsWholeView (v : ViewData) : Type 0 where
  pub paired : length v.images ≡ length v.manifest.apps
  pub readable : All HasReading v.images
