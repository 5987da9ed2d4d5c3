-- What one state tells of the pods that run: their views, by their tokens.
use Rattle.std.specs.Prelude.{◌≡◌, ℕ, List, [], ◌∷◌, length, Option, Some, None}
use Rattle.hex.specs.Hex.{encode_lower}
use Rattle.dir_model.specs.declared.area.Area.TheVariants.{Run}
use Rattle.dir_model.specs.declared.area.Phase.TheVariants.{Running}
use Rattle.dir_model.specs.declared.pod.PodId.{PodId}
use Rattle.dir_model.specs.State.{DirState}
use Rattle.dir_files.specs.Reads.{file_at}
use Rattle.manifests.specs.PodData.{PodData}
use Rattle.phase_read.specs.declared.found.Found.TheVariants.{At}
use Rattle.phase_read.specs.Sequential.{sequential_read}
use Rattle.pod_files.specs.Files.{IsManifestOf}
use Rattle.pod_files.specs.Places.{pod_file, pod_manifest_name, token_name}
use Rattle.metadata_reply.specs.Views.{ViewData, HasReading}
use Rattle.metadata.specs.PodViews.{app_names, image_path, IsPodUuid}

-- the file `pod` in the pod's folder in run reads as this manifest
pub record RunsWithManifest (s : DirState) (pod : PodId) (manifest : PodData) : Type 0 where
  pub bytes : List ℕ
  pub there : file_at s (pod_file pod pod_manifest_name) ≡ Some bytes
  pub is : IsManifestOf manifest bytes

-- the manifest of an app's image is the whole file there, and it has a reading
abbrev pub HasImageIn : DirState → PodId → List ℕ → List ℕ → Type 0
HasImageIn s pod app image = (file_at s (pod_file pod (image_path app)) ≡ Some image) × HasReading image

-- each app has its image, in their order
abbrev pub HaveImagesIn : DirState → PodId → List (List ℕ) → List (List ℕ) → Type 0
HaveImagesIn s pod [] [] = Unit {0}
HaveImagesIn s pod [] (image ∷ images) = ⊥
HaveImagesIn s pod (app ∷ apps) [] = ⊥
HaveImagesIn s pod (app ∷ apps) (image ∷ images) = HasImageIn s pod app image × HaveImagesIn s pod apps images

-- the pod runs, its file `token` is exactly these digits, and its files there are this view
pub record IsViewIn (s : DirState) (pod : PodId) (digits : List ℕ) (v : ViewData) : Type 0 where
  pub token : file_at s (pod_file pod token_name) ≡ Some digits
  pub runs : sequential_read s pod ≡ At Running Run
  pub uuid : v.uuid ≡ pod.bytes
  pub manifest : RunsWithManifest s pod v.manifest
  pub images : HaveImagesIn s pod (app_names v.manifest) v.images

-- a pod has this view for the token; or no pod has any
abbrev pub FindsIn : DirState → List ℕ → Option ViewData → Type 0
FindsIn s token None = (pod : PodId) (v : ViewData) → IsPodUuid pod → IsViewIn s pod (encode_lower token) v → ⊥
FindsIn s token (Some v) = (pod : PodId) × IsViewIn s pod (encode_lower token) v

-- at most one pod has a view for the token, and it is a pod by its uuid
pub record IsTokenOnce (s : DirState) (token : List ℕ) : Type 0 where
  pub named : (pod : PodId) (v : ViewData) → IsViewIn s pod (encode_lower token) v → IsPodUuid pod
  pub one : (p q : PodId) (v w : ViewData) → IsViewIn s p (encode_lower token) v → IsViewIn s q (encode_lower token) w → p ≡ q

-- so it is of each token of 16 bytes
abbrev pub AreTokensOnce : DirState → Type 0
AreTokensOnce s = (token : List ℕ) → length token ≡ 16 → IsTokenOnce s token
