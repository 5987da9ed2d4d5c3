-- The plan of a pod: its apps, from the images that were picked for it.
use Rattle.std.specs.Prelude.{◌≡◌, ◌<◌, ℕ, Bool, List, [], ◌∷◌, length, map, slice_index_or, bytes_eq}
use Rattle.std.specs.List.{All, IsDistinct}
use Rattle.serde_json.specs.Written.{compact_text}
use Rattle.ac_types.specs.declared.image_ref.ImageRef.{ImageRef}
use Rattle.ac_types.specs.Ids.{id_text}
use Rattle.manifests.specs.declared.runtime_app.RuntimeApp.{RuntimeApp}
use Rattle.manifests.specs.PodData.{pod_data}
use Rattle.manifests.specs.ManifestRules.{IsPodManifest}
use Rattle.manifests.specs.PodObject.{pod_object}
use Rattle.dep_match.specs.declared.stored.Stored.{Stored}
use Rattle.folder_building.specs.declared.plan.PlanEntry.{PlanEntry}
use Rattle.pod_manifest.specs.Wishes.{Wishes, AreWishes}
use Rattle.pod_plan.specs.declared.choice.Choice.{Choice}
use Rattle.pod_plan.specs.Choices.{IsChoice}
use Rattle.pod_plan.specs.declared.pod_app.PodApp.{PodApp}
use Rattle.pod_plan.specs.PodPlans.{pod_entries}
use Rattle.pod_plan.specs.Pods.{files_of, MakesPod}
use Rattle.dir_trait.specs.DirCalls.{DirAt}
use Rattle.pod_plan.specs.declared.app_root.Root.{Root}
use Rattle.pod_plan.specs.Roots.{AreImageRoots}

-- the names of the images' folders
abbrev pub folders : List Stored → List (List ℕ)
folders images = map (λ (image : Stored). id_text image.key.bytes) images

-- an app of the pod, with its image's manifest and its root
abbrev pub app_with_root : RuntimeApp → List ℕ → Root → PodApp
app_with_root named manifest root = record { name = named.name; manifest = manifest; rendering = root.rendering; listing = root.listing }

-- the apps of the images that were picked
abbrev pub apps_with : List (List ℕ) → List ℕ → List RuntimeApp → List Root → List PodApp
apps_with manifests [] named roots = []
apps_with manifests (pick ∷ picks) [] roots = []
apps_with manifests (pick ∷ picks) (app ∷ named) [] = []
apps_with manifests (pick ∷ picks) (app ∷ named) (root ∷ roots) = app_with_root app (slice_index_or manifests pick []) root ∷ apps_with manifests picks named roots

abbrev pub apps_of : List (List ℕ) → Choice → List Root → List PodApp
apps_of manifests choice roots = apps_with manifests choice.picks choice.manifest.apps roots

-- each of its apps has a root and an image among so many, and no two have one name
pub record IsChoiceReady (count : ℕ) (choice : Choice) (roots : List Root) : Type 0 where
  pub within : All (λ pick. pick < count) choice.picks
  pub named : length choice.manifest.apps ≡ length choice.picks
  pub rooted : length roots ≡ length choice.picks
  pub names : IsDistinct bytes_eq (map (λ (app : RuntimeApp). app.name) choice.manifest.apps)

-- the text of its manifest, and its apps
pub record ArePlanParts (manifests : List (List ℕ)) (choice : Choice) (roots : List Root) (text : List ℕ) (apps : List PodApp) : Type 0 where
  pub written : IsPodManifest (pod_data choice.manifest) → text ≡ compact_text (pod_object (pod_data choice.manifest))
  pub made : apps ≡ apps_of manifests choice roots

-- the plan of that pod, whose files are copied from the folders of the images
pub record IsPlanOf (images : List Stored) (manifests : List (List ℕ)) (choice : Choice) (roots : List Root) (now : ℕ) (token : List ℕ) (plan : List PlanEntry) : Type 0 where
  pub text : List ℕ
  pub written : IsPodManifest (pod_data choice.manifest) → text ≡ compact_text (pod_object (pod_data choice.manifest))
  pub entries : plan ≡ pod_entries now token text (folders images) (apps_of manifests choice roots)
  pub makes : MakesPod now token text (map files_of (apps_of manifests choice roots)) plan

-- the plan of the pod that the references make of some images with these manifests, by listings that were read of them
pub record PlansChoice (observed : Bool) (images : List Stored) (manifests : List (List ℕ)) (refs : List ImageRef) (options : Wishes) (now : ℕ) (token : List ℕ) (plan : List PlanEntry) (old new : DirAt) : Type 0 where
  pub choice : Choice
  pub wishes : AreWishes options
  pub chosen : IsChoice images refs options choice
  pub roots : List Root
  pub rooted : AreImageRoots observed images old new choice.trees roots
  pub planned : IsPlanOf images manifests choice roots now token plan
