-- What a look for a token found: a pod that runs, and its view; or why no pod was found.
use Rattle.std.specs.Prelude.{◌≡◌, ◌⊎◌, ℕ, Bool, true, false, List, [], ◌∷◌, ◌++◌, map, Option, Some, None, codes}
use Rattle.hex.specs.Hex.{encode_lower}
use Rattle.dir_model.specs.declared.area.Phase.TheVariants.{Running}
use Rattle.dir_model.specs.declared.pod.PodId.{PodId}
use Rattle.dir_model.specs.Pods.{pod_text, pod_of_text}
use Rattle.dir_trait.specs.DirCalls.{DirAt}
use Rattle.image_reading.specs.Files.{ReadsFile, LacksFile}
use Rattle.lifecycle.specs.Executions.{IsConforming}
use Rattle.lifecycle.specs.PodMachine.{pod_phase}
use Rattle.manifests.specs.PodData.{PodData, RuntimeAppData}
use Rattle.phase_read.specs.Exact.{AtOwnEvent}
use Rattle.pod_files.specs.Files.{ReadsPodManifest, ReadsNoPodManifest, most_of_token}
use Rattle.pod_files.specs.Places.{pod_file, token_name}
use Rattle.metadata_reply.specs.Views.{ViewData, HasReading}
use Rattle.manifests.specs.ManifestSize.{most_of_manifest}

-- appsinfo/APP/manifest
abbrev pub image_path : List ℕ → List ℕ
image_path app = codes "appsinfo/" ++ (app ++ codes "/manifest")

-- the names of the apps
abbrev pub app_names : PodData → List (List ℕ)
app_names manifest = map (λ (a : RuntimeAppData). a.name) manifest.apps

-- these bytes were read as the manifest of an app's image, which has a reading
abbrev pub ReadsAppImage : PodId → List ℕ → List ℕ → DirAt → DirAt → Type 0
ReadsAppImage pod app image old new = ReadsFile (pod_file pod (image_path app)) most_of_manifest (λ bytes. (bytes ≡ image) × HasReading bytes) old new

-- there was none, or it has no reading
abbrev pub LacksAppImage : PodId → List ℕ → DirAt → DirAt → Type 0
LacksAppImage pod app old new = LacksFile (pod_file pod (image_path app)) most_of_manifest (λ bytes. HasReading bytes → ⊥) old new

-- the images of the apps were read, app by app
abbrev pub ReadsAppImages : PodId → List (List ℕ) → List (List ℕ) → DirAt → DirAt → Type 0
ReadsAppImages pod [] [] old new = Unit {0}
ReadsAppImages pod [] (image ∷ images) old new = ⊥
ReadsAppImages pod (app ∷ apps) [] old new = ⊥
ReadsAppImages pod (app ∷ apps) (image ∷ images) old new = ReadsAppImage pod app image old new × ReadsAppImages pod apps images old new

-- one of these apps has no image with a reading
pub record LacksImageOf (pod : PodId) (apps : List (List ℕ)) (old new : DirAt) : Type 0 where
  pub before : List (List ℕ)
  pub app : List ℕ
  pub after : List (List ℕ)
  pub among : apps ≡ before ++ app ∷ after
  pub lacks : LacksAppImage pod app old new

-- the pod's manifest and the images of its apps were read
pub record HasFiles (pod : PodId) (v : ViewData) (old new : DirAt) : Type 0 where
  pub uuid : v.uuid ≡ pod.bytes
  pub manifest : ReadsPodManifest pod v.manifest old new
  pub images : ReadsAppImages pod (app_names v.manifest) v.images old new

-- the pod's manifest was read, and the image of one of its apps has no reading
pub record LacksSomeImage (pod : PodId) (old new : DirAt) : Type 0 where
  pub manifest : PodData
  pub read : ReadsPodManifest pod manifest old new
  pub lacks : LacksImageOf pod (app_names manifest) old new

-- a file of its view had no reading
abbrev pub LacksView : PodId → DirAt → DirAt → Type 0
LacksView pod old new = ReadsNoPodManifest pod old new ⊎ LacksSomeImage pod old new

-- where every process keeps the local rules, the pod ran at an own event
abbrev pub WasRunning : PodId → DirAt → DirAt → Type 0
WasRunning pod old new = IsConforming new.trace → AtOwnEvent old.process old.trace new.trace (λ trace. pod_phase (pod_text pod.bytes) trace ≡ Some Running)

-- where every process keeps the local rules, it didn't run at an own event
abbrev pub WasNotRunning : PodId → DirAt → DirAt → Type 0
WasNotRunning pod old new = IsConforming new.trace → AtOwnEvent old.process old.trace new.trace (λ trace. pod_phase (pod_text pod.bytes) trace ≡ Some Running → ⊥)

-- its file `token` was read and has these digits
abbrev pub HasDigits : PodId → List ℕ → DirAt → DirAt → Type 0
HasDigits pod digits old new = ReadsFile (pod_file pod token_name) most_of_token (λ bytes. bytes ≡ digits) old new

-- it was missing, or has others
abbrev pub HasOtherDigits : PodId → List ℕ → DirAt → DirAt → Type 0
HasOtherDigits pod digits old new = LacksFile (pod_file pod token_name) most_of_token (λ bytes. bytes ≡ digits → ⊥) old new

-- the pod's token, manifest and images were read, and it ran
pub record IsViewOf (pod : PodId) (digits : List ℕ) (v : ViewData) (old new : DirAt) : Type 0 where
  pub named : HasDigits pod digits old new
  pub running : WasRunning pod old new
  pub files : HasFiles pod v old new

-- it didn't run, or its token is another, or a file of its view had no reading
abbrev pub HasNoView : PodId → List ℕ → DirAt → DirAt → Type 0
HasNoView pod digits old new = WasNotRunning pod old new ⊎ (HasOtherDigits pod digits old new ⊎ LacksView pod old new)

-- it is a pod: a uuid
abbrev pub IsPodUuid : PodId → Type 0
IsPodUuid pod = pod_of_text (pod_text pod.bytes) ≡ Some pod

-- what a look at the pods of run for a token found
abbrev pub FindsDigits : List ℕ → Option ViewData → DirAt → DirAt → Type 0
FindsDigits digits None old new = (pod : PodId) → IsPodUuid pod → HasNoView pod digits old new
FindsDigits digits (Some v) old new = (pod : PodId) × IsViewOf pod digits v old new

abbrev pub FindsPodByToken : List ℕ → Option ViewData → DirAt → DirAt → Type 0
FindsPodByToken token found old new = FindsDigits (encode_lower token) found old new

-- what is told of one pod's files, of whether it runs too, and of its token too
abbrev pub TellsFiles : PodId → Option ViewData → DirAt → DirAt → Type 0
TellsFiles pod None old new = LacksView pod old new
TellsFiles pod (Some v) old new = HasFiles pod v old new

abbrev pub TellsRunning : PodId → Option ViewData → DirAt → DirAt → Type 0
TellsRunning pod None old new = WasNotRunning pod old new ⊎ LacksView pod old new
TellsRunning pod (Some v) old new = WasRunning pod old new × HasFiles pod v old new

abbrev pub TellsPod : PodId → List ℕ → Option ViewData → DirAt → DirAt → Type 0
TellsPod pod digits None old new = HasNoView pod digits old new
TellsPod pod digits (Some v) old new = IsViewOf pod digits v old new

-- of a token: whether it has these digits
abbrev pub TellsDigits : PodId → List ℕ → Bool → DirAt → DirAt → Type 0
TellsDigits pod digits true old new = HasDigits pod digits old new
TellsDigits pod digits false old new = HasOtherDigits pod digits old new

-- of a name: no pod, or what is told of it
abbrev pub TellsNamed : List ℕ → List ℕ → Option ViewData → DirAt → DirAt → Type 0
TellsNamed name digits None old new = (pod : PodId) → pod_of_text name ≡ Some pod → HasNoView pod digits old new
TellsNamed name digits (Some v) old new = (pod : PodId) × IsViewOf pod digits v old new
