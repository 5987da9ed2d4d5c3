-- The view of a pod, from what was read of it.
use Rattle.std.proofs.Common.{◌≡◌, inl, inr, ℕ, Bool, true, false, Option, Some, None, List, [], ◌∷◌, ◌++◌, length, map, sym, ap, subst, ◌∙◌}
use Rattle.std.specs.Prelude.{All}
use Rattle.std.proofs.lemmas.List.{length-map}
use Rattle.dir_model.specs.declared.area.Area.{Area}
use Rattle.dir_model.specs.declared.area.Phase.{Phase}
use Rattle.dir_model.specs.declared.area.Phase.TheVariants as phase
use Rattle.dir_model.specs.declared.event.Event.{Event}
use Rattle.dir_model.specs.declared.pod.PodId.{PodId}
use Rattle.dir_model.specs.Pods.{pod_text}
use Rattle.dir_trait.specs.DirCalls.{DirAt}
use Rattle.lifecycle.specs.PodMachine.{pod_phase}
use Rattle.manifests.specs.declared.runtime_app.RuntimeApp.{RuntimeApp}
use Rattle.manifests.specs.PodData.{PodData, RuntimeAppData, runtime_app_data}
use Rattle.metadata_reply.specs.declared.view.ImageBytes.{ImageBytes}
use Rattle.metadata_reply.specs.Views.{ViewData, HasReading, IsWholeView, image_bytes}
use Rattle.phase_read.specs.declared.found.Found.{Found}
use Rattle.phase_read.specs.declared.found.Found.TheVariants.{At, Gone}
use Rattle.phase_read.specs.Exact.{AtOwnEvent, IsInPhase, IsExactly}
use Rattle.pod_files.specs.Files.{ReadsPodManifest}
use Rattle.pod_files.specs.Looks.{OnlyReadsPod}
use Rattle.pod_report.specs.Requests.{OnlyAsksFor}
use Rattle.metadata.specs.Looks.{looks_in_run}
use Rattle.metadata.specs.Images.{names, TellsManifestImages}
use Rattle.metadata.specs.PodViews.{app_names, LacksImageOf, ReadsAppImages, HasDigits, WasRunning, TellsFiles, TellsRunning, TellsPod}
use Rattle.metadata.specs.Running.{is_running, TellsPhase}
use Rattle.metadata.proofs.Images.{data_names}
use Rattle.metadata.proofs.Wider.{wider_after, wider_before, reads_wider, images_wider, lacks_image_wider, running_wider, stopped_wider, files_wider, lacks_view_wider}

-- the view of a manifest and its images
pub view_whole : (v : ViewData) (pod : PodId) (manifest : PodData) (apps : List RuntimeApp) (images : List ImageBytes) → manifest.apps ≡ map runtime_app_data apps → v ≡ record { uuid = pod.bytes; manifest = manifest; images = map image_bytes images } → length images ≡ length apps → All HasReading (map image_bytes images) → IsWholeView v
view_whole v pod manifest apps images are is each readable = subst IsWholeView (sym is) (record {
  paired = length-map images image_bytes ∙ (each ∙ (sym (length-map apps runtime_app_data) ∙ ap length (sym are)));
  readable = readable;
})

pub view_images : (v : ViewData) (pod : PodId) (manifest : PodData) (apps : List RuntimeApp) (images : List ImageBytes) (old new : DirAt) → manifest.apps ≡ map runtime_app_data apps → v ≡ record { uuid = pod.bytes; manifest = manifest; images = map image_bytes images } → ReadsAppImages pod (names apps) (map image_bytes images) old new → TellsManifestImages pod manifest (Some v) old new
view_images v pod manifest apps images old new are is read = (
  ap (λ (x : ViewData). x.uuid) is,
  ap (λ (x : ViewData). x.manifest) is,
  subst (λ (ns : List (List ℕ)). ReadsAppImages pod ns v.images old new) (sym (ap (map (λ (a : RuntimeAppData). a.name)) are ∙ data_names apps))
      (subst (λ (l : List (List ℕ)). ReadsAppImages pod (names apps) l old new) (sym (ap (λ (x : ViewData). x.images) is)) read),
)

pub view_lacks : (pod : PodId) (manifest : PodData) (apps : List RuntimeApp) (old new : DirAt) → manifest.apps ≡ map runtime_app_data apps → LacksImageOf pod (names apps) old new → LacksImageOf pod (app_names manifest) old new
view_lacks pod manifest apps old new are lacks = subst (λ (ns : List (List ℕ)). LacksImageOf pod ns old new) (sym (ap (map (λ (a : RuntimeAppData). a.name)) are ∙ data_names apps)) lacks

-- with its manifest, as it was read before
pub files_told : {observed : Bool} (t : observed ≡ true) (pod : PodId) (manifest : PodData) (found : Option ViewData) (a b c : DirAt) → OnlyReadsPod observed pod a b → OnlyReadsPod observed pod b c → ReadsPodManifest pod manifest a b → TellsManifestImages pod manifest found b c → TellsFiles pod found a c
files_told t pod manifest None a b c ab bc read lacks = inr (record { manifest = manifest; read = reads_wider (wider_before a b c (bc.extends t)) read; lacks = lacks_image_wider (wider_after a b c ab.same (ab.extends t)) pod (app_names manifest) lacks })
files_told t pod manifest (Some v) a b c ab bc read tells = record {
  uuid = tells.0;
  manifest = subst (λ (m : PodData). ReadsPodManifest pod m a c) (sym tells.1) (reads_wider (wider_before a b c (bc.extends t)) read);
  images = subst (λ (m : PodData). ReadsAppImages pod (app_names m) v.images a c) (sym tells.1) (images_wider (wider_after a b c ab.same (ab.extends t)) pod (app_names manifest) v.images tells.2);
}

-- what the phase tells that was read
other_phase : (pod : PodId) (found : Phase) (area : Area) (trace : List Event) → is_running (At found area) ≡ false → IsInPhase pod found area trace → pod_phase (pod_text pod.bytes) trace ≡ Some phase.Running → ⊥
other_phase pod phase.Running area trace off is now = cc
other_phase pod phase.Embryo area trace off is now = let e : Some phase.Embryo ≡ Some phase.Running = sym is.is ∙ now in cc
other_phase pod phase.Preparing area trace off is now = let e : Some phase.Preparing ≡ Some phase.Running = sym is.is ∙ now in cc
other_phase pod phase.AbortedPrepare area trace off is now = let e : Some phase.AbortedPrepare ≡ Some phase.Running = sym is.is ∙ now in cc
other_phase pod phase.Prepared area trace off is now = let e : Some phase.Prepared ≡ Some phase.Running = sym is.is ∙ now in cc
other_phase pod phase.Exited area trace off is now = let e : Some phase.Exited ≡ Some phase.Running = sym is.is ∙ now in cc
other_phase pod phase.ExitedGarbage area trace off is now = let e : Some phase.ExitedGarbage ≡ Some phase.Running = sym is.is ∙ now in cc
other_phase pod phase.Garbage area trace off is now = let e : Some phase.Garbage ≡ Some phase.Running = sym is.is ∙ now in cc
other_phase pod phase.Deleting area trace off is now = let e : Some phase.Deleting ≡ Some phase.Running = sym is.is ∙ now in cc

pub event_so : {me : ℕ} {old new : List Event} {P : List Event → Type 0} (Q : List Event → Type 0) → ((trace : List Event) → P trace → Q trace) → AtOwnEvent me old new P → AtOwnEvent me old new Q
event_so Q f at = record { before = at.before; step = at.step; later = at.later; rest = at.rest; begins = at.begins; ends = at.ends; own = at.own; holds = f (at.before ++ at.step ∷ []) at.holds }

pub phase_told : (pod : PodId) (found : Found) (b : Bool) (old new : DirAt) → b ≡ is_running found → IsExactly old new pod found → TellsPhase pod b old new
phase_told pod (At phase.Running area) true old new is exact = λ conforming. event_so (λ trace. pod_phase (pod_text pod.bytes) trace ≡ Some phase.Running) (λ trace at. at.is) (exact conforming)
phase_told pod (At other area) true old new is exact = cc
phase_told pod Gone true old new is exact = cc
phase_told pod (At other area) false old new is exact = λ conforming. event_so (λ trace. pod_phase (pod_text pod.bytes) trace ≡ Some phase.Running → ⊥) (λ trace at. other_phase pod other area trace (sym is) at) (exact conforming)
phase_told pod Gone false old new is exact = λ conforming. event_so (λ trace. pod_phase (pod_text pod.bytes) trace ≡ Some phase.Running → ⊥) (λ trace none now. let e : None ≡ Some phase.Running = sym none ∙ now in cc) (exact conforming)

-- that it ran, and its files
pub running_told : {observed : Bool} (t : observed ≡ true) (pod : PodId) (found : Option ViewData) (a b c : DirAt) → OnlyAsksFor observed looks_in_run a b → OnlyReadsPod observed pod b c → WasRunning pod a b → TellsFiles pod found b c → TellsRunning pod found a c
running_told t pod None a b c ab bc runs lacks = inr (lacks_view_wider (wider_after a b c ab.same (ab.extends t)) pod lacks)
running_told t pod (Some v) a b c ab bc runs files = (running_wider (wider_before a b c (bc.extends t)) pod runs, files_wider (wider_after a b c ab.same (ab.extends t)) pod v files)

-- and its token
pub pod_told : {observed : Bool} (t : observed ≡ true) (pod : PodId) (digits : List ℕ) (found : Option ViewData) (a b c : DirAt) → OnlyAsksFor observed looks_in_run a b → OnlyAsksFor observed looks_in_run b c → HasDigits pod digits a b → TellsRunning pod found b c → TellsPod pod digits found a c
pod_told t pod digits None a b c ab bc has (inl stopped) = inl (stopped_wider (wider_after a b c ab.same (ab.extends t)) pod stopped)
pod_told t pod digits None a b c ab bc has (inr lacks) = inr (inr (lacks_view_wider (wider_after a b c ab.same (ab.extends t)) pod lacks))
pod_told t pod digits (Some v) a b c ab bc has runs = record {
  named = reads_wider (wider_before a b c (bc.extends t)) has;
  running = running_wider (wider_after a b c ab.same (ab.extends t)) pod runs.0;
  files = files_wider (wider_after a b c ab.same (ab.extends t)) pod v runs.1;
}
