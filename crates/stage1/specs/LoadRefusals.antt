-- Why it isn't known with what the apps of a pod start.
use Rattle.std.specs.Prelude.{◌≡◌, ◌⊎◌, ℕ, Some, None, option_map, List, ◌∷◌, ◌++◌, map}
use Rattle.app_section.specs.AppData.{app_data}
use Rattle.path_map.specs.Entries.{entry_at}
use Rattle.manifests.specs.declared.pod_manifest.PodManifest.{PodManifest}
use Rattle.manifests.specs.declared.runtime_app.RuntimeApp.{RuntimeApp}
use Rattle.manifests.specs.PodData.{pod_data}
use Rattle.launch.specs.Launches.{missing_word}
use Rattle.dir_model.specs.declared.event.Event.{Event}
use Rattle.dir_model.specs.declared.pod.PodId.{PodId}
use Rattle.dir_trait.specs.DirCalls.{DirAt}
use Rattle.stage1.specs.declared.load_error.LoadError.{LoadError}
use Rattle.stage1.specs.declared.load_error.LoadError.TheVariants.{NoManifest, Damaged, NoProgram, DirFault, NoMemory}
use Rattle.stage1.specs.declared.root.Root.{Root}
use Rattle.stage1.specs.AppPlaces.{tree_path, told_path}
use Rattle.stage1.specs.AppFiles.{LacksRootListing, AreAppRoots}
use Rattle.pod_files.specs.Places.{token_name}
use Rattle.pod_files.specs.Files.{ReadsPodManifest, ReadsNoPodManifest, ReadsToken, ReadsNoToken}

-- the directory failed, or memory ran out
abbrev pub IsLoadFailure : LoadError → Type 0
IsLoadFailure DirFault = Unit {0}
IsLoadFailure NoMemory = Unit {0}
IsLoadFailure error = ⊥

-- or there is no manifest, for this reason
abbrev pub IsManifestLack : Type 0 → LoadError → Type 0
IsManifestLack Why NoManifest = Why
IsManifestLack Why error = IsLoadFailure error

-- or the file at this path is damaged, for this reason
abbrev pub IsDamageFor : List ℕ → Type 0 → LoadError → Type 0
IsDamageFor at Why (Damaged path) = (path ≡ at) × Why
IsDamageFor at Why error = IsLoadFailure error

-- the file at this path is damaged, or memory ran out
abbrev pub IsLoadDamage : List ℕ → LoadError → Type 0
IsLoadDamage at (Damaged path) = path ≡ at
IsLoadDamage at NoMemory = Unit {0}
IsLoadDamage at error = ⊥

-- this came about, and after it that
pub record InTurn (First Later : DirAt → DirAt → Type 0) (old new : DirAt) : Type 0 where
  pub between : DirAt
  pub earlier : List Event
  pub same : between.process ≡ old.process
  pub begins : between.trace ≡ old.trace ++ earlier
  pub first : First old between
  pub later : Later between new

-- the roots of the apps before this one were read, and then its listing was damaged
pub record AppLacksListing (pod : PodId) (apps : List (List ℕ)) (path : List ℕ) (old new : DirAt) : Type 0 where
  pub before : List (List ℕ)
  pub app : List ℕ
  pub after : List (List ℕ)
  pub roots : List Root
  pub are : apps ≡ before ++ app ∷ after
  pub stands : path ≡ told_path pod (tree_path app)
  pub lacks : InTurn (AreAppRoots pod before roots) (LacksRootListing pod app) old new

-- why the roots of apps can't be read
abbrev pub IsRootsLack : PodId → List (List ℕ) → LoadError → DirAt → DirAt → Type 0
IsRootsLack pod apps (Damaged path) old new = AppLacksListing pod apps path old new
IsRootsLack pod apps error old new = IsLoadFailure error

-- this app has no program for this word, or memory ran out
abbrev pub IsProgramMissing : List ℕ → List ℕ → LoadError → Type 0
IsProgramMissing app word (NoProgram other missing) = (other ≡ app) × (missing ≡ word)
IsProgramMissing app word NoMemory = Unit {0}
IsProgramMissing app word error = ⊥

-- the app has no program for this word in this root, and it is the first such word
pub record AppLacksProgram (app : RuntimeApp) (root : Root) (name word : List ℕ) : Type 0 where
  pub named : name ≡ app.name
  pub missing : missing_word (option_map app_data app.app) (entry_at root.tree) ≡ Some word

-- why an app's programs can't be found
abbrev pub AreMissing : RuntimeApp → Root → LoadError → Type 0
AreMissing app root (NoProgram name word) = AppLacksProgram app root name word
AreMissing app root NoMemory = Unit {0}
AreMissing app root error = ⊥

-- it has one for each
abbrev pub HasAll : RuntimeApp → Root → Type 0
HasAll app root = missing_word (option_map app_data app.app) (entry_at root.tree) ≡ None

-- the first app that lacks one lacks this
abbrev pub FirstLacks : List RuntimeApp → List Root → List ℕ → List ℕ → Type 0
FirstLacks (app ∷ apps) (root ∷ roots) name word = AppLacksProgram app root name word ⊎ (HasAll app root × FirstLacks apps roots name word)
FirstLacks _ _ name word = ⊥

-- why the programs of apps can't be found: the first that lacks one tells
abbrev pub IsMissingAmong : List RuntimeApp → List Root → LoadError → Type 0
IsMissingAmong apps roots (NoProgram name word) = FirstLacks apps roots name word
IsMissingAmong apps roots NoMemory = Unit {0}
IsMissingAmong apps roots error = ⊥

-- by the roots that were read, this is the first app that has no program for a word, and its first such word
pub record LacksProgram (pod : PodId) (apps : List RuntimeApp) (name word : List ℕ) (old new : DirAt) : Type 0 where
  pub roots : List Root
  pub read : AreAppRoots pod (map (λ a. a.name) apps) roots old new
  pub lacks : FirstLacks apps roots name word

-- why it isn't known of these apps
abbrev pub LacksStarts : PodId → List RuntimeApp → LoadError → DirAt → DirAt → Type 0
LacksStarts pod apps NoManifest old new = ⊥
LacksStarts pod apps (Damaged path) old new = AppLacksListing pod (map (λ a. a.name) apps) path old new
LacksStarts pod apps (NoProgram name word) old new = LacksProgram pod apps name word old new
LacksStarts pod apps error old new = Unit {0}

-- the pod's manifest was read, and then its token was damaged
pub record LacksTokenOf (pod : PodId) (path : List ℕ) (old new : DirAt) : Type 0 where
  pub manifest : PodManifest
  pub stands : path ≡ told_path pod token_name
  pub lacks : InTurn (ReadsPodManifest pod (pod_data manifest)) (ReadsNoToken pod) old new

-- the pod's manifest was read, then its token, and then it wasn't known of its apps
pub record LacksSome (pod : PodId) (error : LoadError) (old new : DirAt) : Type 0 where
  pub manifest : PodManifest
  pub token : List ℕ
  pub lacks : InTurn (ReadsPodManifest pod (pod_data manifest)) (InTurn (ReadsToken pod token) (LacksStarts pod manifest.apps error)) old new

-- why it isn't known of the pod
abbrev pub LoadCause : PodId → LoadError → DirAt → DirAt → Type 0
LoadCause pod NoManifest old new = ReadsNoPodManifest pod old new
LoadCause pod (Damaged path) old new = LacksTokenOf pod path old new ⊎ LacksSome pod (Damaged path) old new
LoadCause pod (NoProgram name word) old new = LacksSome pod (NoProgram name word) old new
LoadCause pod error old new = Unit {0}
