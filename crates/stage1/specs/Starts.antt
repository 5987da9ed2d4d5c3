-- What the starts of a pod's apps need.
use Rattle.std.specs.Prelude.{◌≡◌, ℕ, None, IfSome, option_map, List, [], ◌∷◌, ◌++◌, map}
use Rattle.ac_types.specs.Names.{IsAcName}
use Rattle.app_section.specs.AppData.{app_data}
use Rattle.path_map.specs.Entries.{entry_at}
use Rattle.manifests.specs.declared.pod_manifest.PodManifest.{PodManifest}
use Rattle.manifests.specs.declared.runtime_app.RuntimeApp.{RuntimeApp}
use Rattle.manifests.specs.PodData.{pod_data}
use Rattle.manifests.specs.ManifestRules.{IsPodManifest}
use Rattle.launch.specs.Launches.{IsLaunch, missing_word}
use Rattle.dir_model.specs.declared.pod.PodId.{PodId}
use Rattle.dir_trait.specs.DirCalls.{DirAt}
use Rattle.stage1.specs.declared.root.Root.{Root}
use Rattle.stage1.specs.declared.start.AppStart.{AppStart}
use Rattle.stage1.specs.AppPlaces.{app_root_of}
use Rattle.stage1.specs.AppFiles.{AreAppRoots}
use Rattle.pod_files.specs.Files.{ReadsPodManifest, ReadsToken}

-- it is what the start of the app needs, whose root this is
pub record IsAppStart (pod : PodId) (address token : List ℕ) (app : RuntimeApp) (root : Root) (start : AppStart) : Type 0 where
  pub name : start.name ≡ app.name
  pub named : IsAcName app.name
  pub place : start.root ≡ app_root_of pod app.name
  pub listing : start.listing ≡ root.listing
  pub launch : IfSome app.app (λ section. IsLaunch (app_data section) app.name address token (entry_at root.tree) start.launch)
  pub startable : missing_word (option_map app_data app.app) (entry_at root.tree) ≡ None

-- its root is that of its name in this pod
pub record IsPlacedIn (pod : PodId) (start : AppStart) : Type 0 where
  pub place : start.root ≡ app_root_of pod start.name
  pub named : IsAcName start.name

-- the start of one app more
pub record AddsStart (pod : PodId) (address token : List ℕ) (app : RuntimeApp) (root : Root) (before after : List AppStart) : Type 0 where
  pub start : AppStart
  pub added : after ≡ before ++ start ∷ []
  pub is : IsAppStart pod address token app root start

-- app by app
abbrev pub AreStarts : PodId → List ℕ → List ℕ → List RuntimeApp → List Root → List AppStart → Type 0
AreStarts pod address token [] [] [] = Unit {0}
AreStarts pod address token (app ∷ apps) (root ∷ roots) (start ∷ starts) = IsAppStart pod address token app root start × AreStarts pod address token apps roots starts
AreStarts pod address token _ _ _ = ⊥

-- the root of each of the apps was read, and by these they start so
pub record FindsStarts (pod : PodId) (address token : List ℕ) (apps : List RuntimeApp) (starts : List AppStart) (old new : DirAt) : Type 0 where
  pub roots : List Root
  pub read : AreAppRoots pod (map (λ a. a.name) apps) roots old new
  pub are : AreStarts pod address token apps roots starts

-- the pod's manifest and its token were read too
pub record ReadsStarts (pod : PodId) (address : List ℕ) (starts : List AppStart) (old new : DirAt) : Type 0 where
  pub manifest : PodManifest
  pub kind : IsPodManifest (pod_data manifest)
  pub manifest_read : ReadsPodManifest pod (pod_data manifest) old new
  pub token : List ℕ
  pub token_read : ReadsToken pod token old new
  pub found : FindsStarts pod address token manifest.apps starts old new
