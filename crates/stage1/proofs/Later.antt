-- Why it isn't known with what the apps of a pod start, said of a longer time.
use Rattle.std.proofs.Common.{◌≡◌, inl, inr, ℕ, Bool, List, [], ◌∷◌, map, sym, ◌∙◌}
use Rattle.manifests.specs.declared.runtime_app.RuntimeApp.{RuntimeApp}
use Rattle.manifests.specs.PodData.{pod_data}
use Rattle.dir_model.specs.declared.pod.PodId.{PodId}
use Rattle.dir_model.specs.declared.item.Inner.{Inner}
use Rattle.dir_model.specs.declared.request.Request.{Request}
use Rattle.dir_model.specs.Calls.{Extends}
use Rattle.dir_model.proofs.Moments.{at_before}
use Rattle.dir_trait.specs.DirCalls.{DirAt}
use Rattle.image_reading.specs.Files.{ReadsFile, LacksFile}
use Rattle.image_reading.proofs.Widths.{within_before}
use Rattle.stage1.specs.declared.load_error.LoadError.{LoadError}
use Rattle.stage1.specs.declared.load_error.LoadError.TheVariants.{NoManifest, Damaged, NoProgram, DirFault, NoMemory}
use Rattle.stage1.specs.declared.root.Root.{Root}
use Rattle.stage1.specs.AppFiles.{LacksRootListing, AreAppRoots}
use Rattle.stage1.specs.LoadRefusals.{InTurn, LacksStarts, LacksSome, LoadCause}
use Rattle.pod_files.specs.Files.{ReadsPodManifest, ReadsToken, ReadsNoToken}

module _ {asks : Request → Bool} (b c : DirAt) (more : Extends asks b.process b.trace c.trace) where
  file_later : {inner : Inner} {most : ℕ} {P : List ℕ → Type 0} {a : DirAt} → ReadsFile inner most P a b → ReadsFile inner most P a c
  file_later r = record { bytes = r.bytes; few = r.few; read = within_before r.read more; holds = r.holds }

  roots_later : (pod : PodId) (a : DirAt) (apps : List (List ℕ)) (roots : List Root) → AreAppRoots pod apps roots a b → AreAppRoots pod apps roots a c
  roots_later pod a [] [] are = tt
  roots_later pod a [] (root ∷ roots) are = absurd are
  roots_later pod a (app ∷ apps) [] are = absurd are
  roots_later pod a (app ∷ apps) (root ∷ roots) are = (file_later are.0, roots_later pod a apps roots are.1)

  lack_later : {inner : Inner} {most : ℕ} {P : List ℕ → Type 0} (a : DirAt) → b.process ≡ a.process → LacksFile inner most P a b → LacksFile inner most P a c
  lack_later a same (inl missing) = inl (at_before missing same more)
  lack_later a same (inr read) = inr (file_later read)

  turn_later : (First Later : DirAt → DirAt → Type 0) (a : DirAt) → b.process ≡ a.process → ((m : DirAt) → b.process ≡ m.process → Later m b → Later m c) → InTurn First Later a b → InTurn First Later a c
  turn_later First Later a same f w = record { between = w.between; earlier = w.earlier; same = w.same; begins = w.begins; first = w.first; later = f w.between (same ∙ sym w.same) w.later }

  starts_later : (pod : PodId) (apps : List RuntimeApp) (e : LoadError) (a : DirAt) → b.process ≡ a.process → LacksStarts pod apps e a b → LacksStarts pod apps e a c
  starts_later pod apps NoManifest a same is = is
  starts_later pod apps (Damaged path) a same is = record { before = is.before; app = is.app; after = is.after; roots = is.roots; are = is.are; stands = is.stands; lacks = turn_later (AreAppRoots pod is.before is.roots) (LacksRootListing pod is.app) a same (λ m s l. lack_later m s l) is.lacks }
  starts_later pod apps (NoProgram name word) a same is = record { roots = is.roots; read = roots_later pod a (map (λ x. x.name) apps) is.roots is.read; lacks = is.lacks }
  starts_later pod apps DirFault a same is = tt
  starts_later pod apps NoMemory a same is = tt

  some_later : (pod : PodId) (e : LoadError) (a : DirAt) → b.process ≡ a.process → LacksSome pod e a b → LacksSome pod e a c
  some_later pod e a same some = record {
    manifest = some.manifest;
    token = some.token;
    lacks = turn_later (ReadsPodManifest pod (pod_data some.manifest)) (InTurn (ReadsToken pod some.token) (LacksStarts pod some.manifest.apps e)) a same (λ m s w.
        turn_later (ReadsToken pod some.token) (LacksStarts pod some.manifest.apps e) m s (λ n s' l. starts_later pod some.manifest.apps e n s' l) w) some.lacks;
  }

  module _ (a : DirAt) (same : b.process ≡ a.process) where
    pub load_later : (pod : PodId) (e : LoadError) → LoadCause pod e a b → LoadCause pod e a c
    load_later pod NoManifest is = lack_later a same is
    load_later pod (Damaged path) (inl token) = inl (record { manifest = token.manifest; stands = token.stands; lacks = turn_later (ReadsPodManifest pod (pod_data token.manifest)) (ReadsNoToken pod) a same (λ m s l. lack_later m s l) token.lacks })
    load_later pod (Damaged path) (inr some) = inr (some_later pod (Damaged path) a same some)
    load_later pod (NoProgram name word) some = some_later pod (NoProgram name word) a same some
    load_later pod DirFault is = tt
    load_later pod NoMemory is = tt
