-- What a refusal rests on, carried on.
use Rattle.std.proofs.Common.{◌≡◌, inl, inr, ℕ, Bool, true, List, ◌∷◌, ◌++◌, map}
use Rattle.manifests.specs.declared.pod_manifest.PodManifest.{PodManifest}
use Rattle.manifests.specs.declared.runtime_app.RuntimeApp.{RuntimeApp}
use Rattle.manifests.specs.PodData.{pod_data}
use Rattle.dir_model.specs.declared.pod.PodId.{PodId}
use Rattle.dir_trait.specs.DirCalls.{DirAt}
use Rattle.stage1.specs.declared.load_error.LoadError.{LoadError}
use Rattle.stage1.specs.declared.load_error.LoadError.TheVariants.{NoManifest, Damaged, NoProgram, DirFault, NoMemory}
use Rattle.stage1.specs.declared.root.Root.{Root}
use Rattle.stage1.specs.AppPlaces.{tree_path, told_path}
use Rattle.pod_files.specs.Looks.{OnlyReadsPod}
use Rattle.pod_files.specs.Places.{token_name}
use Rattle.pod_files.specs.Files.{ReadsPodManifest, ReadsNoPodManifest, ReadsToken, ReadsNoToken}
use Rattle.stage1.specs.AppFiles.{LacksRootListing, AreAppRoots}
use Rattle.stage1.specs.LoadRefusals.{InTurn, IsLoadFailure, IsManifestLack, IsDamageFor, IsLoadDamage, IsRootsLack, IsMissingAmong, LacksStarts, LacksSome, LoadCause}

pub lack_why : (Why More : Type 0) (e : LoadError) → (Why → More) → IsManifestLack Why e → IsManifestLack More e
lack_why Why More NoManifest f is = f is
lack_why Why More DirFault f is = tt
lack_why Why More NoMemory f is = tt
lack_why Why More e f is = absurd is

pub damage_outside : (at : List ℕ) (Why : Type 0) (e : LoadError) → IsLoadFailure e → IsDamageFor at Why e
damage_outside at Why DirFault is = tt
damage_outside at Why NoMemory is = tt
damage_outside at Why e is = absurd is

pub damage_why : (at : List ℕ) (Why More : Type 0) (e : LoadError) → (Why → More) → IsDamageFor at Why e → IsDamageFor at More e
damage_why at Why More (Damaged path) f is = (is.0, f is.1)
damage_why at Why More DirFault f is = tt
damage_why at Why More NoMemory f is = tt
damage_why at Why More e f is = absurd is

pub damage_for : (at : List ℕ) (Why : Type 0) (e : LoadError) → Why → IsLoadDamage at e → IsDamageFor at Why e
damage_for at Why (Damaged path) why is = (is, why)
damage_for at Why NoMemory why is = tt
damage_for at Why e why is = absurd is

module _ {observed : Bool} (t : observed ≡ true) (pod : PodId) where
  -- one after the other
  pub in_turn : (First Later : DirAt → DirAt → Type 0) {a b : DirAt} (c : DirAt) → OnlyReadsPod observed pod a b → First a b → Later b c → InTurn First Later a c
  in_turn First Later {a} {b} c only first later = record { between = b; earlier = (only.extends t).more; same = only.same; begins = (only.extends t).grown; first = first; later = later }

  -- the listing of the next app is damaged
  pub lacks_one : {apps : List (List ℕ)} (before : List (List ℕ)) (app : List ℕ) (after : List (List ℕ)) (roots : List Root) (e : LoadError) {a b : DirAt} (c : DirAt) → apps ≡ before ++ app ∷ after → OnlyReadsPod observed pod a b → AreAppRoots pod before roots a b → IsDamageFor (told_path pod (tree_path app)) (observed ≡ true → LacksRootListing pod app b c) e → IsRootsLack pod apps e a c
  lacks_one before app after roots (Damaged path) c are ab read is = record { before = before; app = app; after = after; roots = roots; are = are; stands = is.0; lacks = in_turn (AreAppRoots pod before roots) (LacksRootListing pod app) c ab read (is.1 t) }
  lacks_one before app after roots DirFault c are ab read is = tt
  lacks_one before app after roots NoMemory c are ab read is = tt
  lacks_one before app after roots e c are ab read is = absurd is

  -- the token is damaged
  pub token_cause : (manifest : PodManifest) (e : LoadError) {a b : DirAt} (c : DirAt) → OnlyReadsPod observed pod a b → ReadsPodManifest pod (pod_data manifest) a b → IsDamageFor (told_path pod token_name) (observed ≡ true → ReadsNoToken pod b c) e → LoadCause pod e a c
  token_cause manifest (Damaged path) c ab read is = inl (record { manifest = manifest; stands = is.0; lacks = in_turn (ReadsPodManifest pod (pod_data manifest)) (ReadsNoToken pod) c ab read (is.1 t) })
  token_cause manifest DirFault c ab read is = tt
  token_cause manifest NoMemory c ab read is = tt
  token_cause manifest e c ab read is = absurd is

  some : (manifest : PodManifest) (token : List ℕ) (e : LoadError) {a b c : DirAt} (d : DirAt) → OnlyReadsPod observed pod a b → OnlyReadsPod observed pod b c → ReadsPodManifest pod (pod_data manifest) a b → ReadsToken pod token b c → LacksStarts pod manifest.apps e c d → LacksSome pod e a d
  some manifest token e d ab bc read told is = record {
    manifest = manifest;
    token = token;
    lacks = in_turn (ReadsPodManifest pod (pod_data manifest)) (InTurn (ReadsToken pod token) (LacksStarts pod manifest.apps e)) d ab read
        (in_turn (ReadsToken pod token) (LacksStarts pod manifest.apps e) d bc told is);
  }

  -- it isn't known of the apps
  pub starts_cause : (manifest : PodManifest) (token : List ℕ) (e : LoadError) {a b c : DirAt} (d : DirAt) → OnlyReadsPod observed pod a b → OnlyReadsPod observed pod b c → ReadsPodManifest pod (pod_data manifest) a b → ReadsToken pod token b c → LacksStarts pod manifest.apps e c d → LoadCause pod e a d
  starts_cause manifest token NoManifest d ab bc read told is = absurd is
  starts_cause manifest token (Damaged path) d ab bc read told is = inr (some manifest token (Damaged path) d ab bc read told is)
  starts_cause manifest token (NoProgram name word) d ab bc read told is = some manifest token (NoProgram name word) d ab bc read told is
  starts_cause manifest token DirFault d ab bc read told is = tt
  starts_cause manifest token NoMemory d ab bc read told is = tt

-- the listings of the apps' roots
pub roots_cause : (pod : PodId) (apps : List RuntimeApp) (old new : DirAt) (e : LoadError) → IsRootsLack pod (map (λ a. a.name) apps) e old new → LacksStarts pod apps e old new
roots_cause pod apps old new (Damaged path) is = is
roots_cause pod apps old new DirFault is = tt
roots_cause pod apps old new NoMemory is = tt
roots_cause pod apps old new e is = absurd is

-- their programs
pub programs_cause : (pod : PodId) (apps : List RuntimeApp) (roots : List Root) (old new : DirAt) (e : LoadError) → AreAppRoots pod (map (λ a. a.name) apps) roots old new → IsMissingAmong apps roots e → LacksStarts pod apps e old new
programs_cause pod apps roots old new (NoProgram name word) read is = record { roots = roots; read = read; lacks = is }
programs_cause pod apps roots old new NoMemory read is = tt
programs_cause pod apps roots old new e read is = absurd is

-- the manifest, and what it asks for
pub manifest_cause : (pod : PodId) (old new : DirAt) (e : LoadError) → IsManifestLack (ReadsNoPodManifest pod old new) e → LoadCause pod e old new
manifest_cause pod old new NoManifest is = is
manifest_cause pod old new DirFault is = tt
manifest_cause pod old new NoMemory is = tt
manifest_cause pod old new e is = absurd is
