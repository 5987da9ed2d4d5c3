-- The images of a pod's apps, as they are read one after the other.
use Rattle.std.specs.Prelude.{◌≡◌, ℕ, List, map, Option, Some, None}
use Rattle.dir_model.specs.declared.pod.PodId.{PodId}
use Rattle.dir_trait.specs.DirCalls.{DirAt}
use Rattle.manifests.specs.declared.runtime_app.RuntimeApp.{RuntimeApp}
use Rattle.metadata_reply.specs.declared.view.ImageBytes.{ImageBytes}
use Rattle.manifests.specs.PodData.{PodData}
use Rattle.metadata_reply.specs.Views.{ViewData, HasReading, image_bytes}
use Rattle.metadata.specs.PodViews.{app_names, ReadsAppImage, LacksAppImage, ReadsAppImages, LacksImageOf}

-- the names of apps
abbrev pub names : List RuntimeApp → List (List ℕ)
names apps = map (λ (a : RuntimeApp). a.name) apps

-- the image that the bytes are the manifest of, or none where they have no reading
abbrev pub IsImageFromBytes : List ℕ → Option ImageBytes → Type 0
IsImageFromBytes bytes None = HasReading bytes → ⊥
IsImageFromBytes bytes (Some image) = (bytes ≡ image.bytes) × HasReading bytes

-- what is told of the image of an app
abbrev pub TellsImage : PodId → List ℕ → Option ImageBytes → DirAt → DirAt → Type 0
TellsImage pod app None old new = LacksAppImage pod app old new
TellsImage pod app (Some image) old new = ReadsAppImage pod app image.bytes old new

-- what is told of the images of some apps
abbrev pub TellsAppImages : PodId → List (List ℕ) → Option (List ImageBytes) → DirAt → DirAt → Type 0
TellsAppImages pod apps None old new = LacksImageOf pod apps old new
TellsAppImages pod apps (Some images) old new = ReadsAppImages pod apps (map image_bytes images) old new

-- an image has a reading
abbrev pub IfReads : Option ImageBytes → Type 0
IfReads None = Unit {0}
IfReads (Some image) = HasReading image.bytes

-- and of the images of all the apps of a manifest
abbrev pub TellsManifestImages : PodId → PodData → Option ViewData → DirAt → DirAt → Type 0
TellsManifestImages pod manifest None old new = LacksImageOf pod (app_names manifest) old new
TellsManifestImages pod manifest (Some v) old new = (v.uuid ≡ pod.bytes) × (v.manifest ≡ manifest) × ReadsAppImages pod (app_names manifest) v.images old new
