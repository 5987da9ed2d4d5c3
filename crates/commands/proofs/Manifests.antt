-- Where nobody else steps, a pod in prepared whose activation lock could be opened had its manifest before.
use Rattle.std.proofs.Common.{◌≡◌, ◌||◌, ◌&&◌, ◌==◌, ℕ, Bool, true, false, not, cond, bytes_eq, codes, Some, None, List, refl, sym, ◌∙◌}
use Rattle.dir_model.specs.declared.area.Area.TheVariants as area
use Rattle.dir_model.specs.declared.event.Event.{Event}
use Rattle.dir_model.specs.declared.item.Inner.{Inner}
use Rattle.dir_model.specs.declared.pod.PodId.{PodId}
use Rattle.dir_model.specs.declared.spot.Which.TheVariants.{Claim}
use Rattle.dir_model.specs.declared.tree.TreeEntry.{TreeEntry}
use Rattle.dir_model.specs.declared.request.DirError.TheVariants.{Missing}
use Rattle.dir_model.specs.declared.request.Request.{Request}
use Rattle.dir_model.specs.declared.request.Reply.{Reply}
use Rattle.dir_model.specs.Calls.{event, is_kill, Extends, AtOwnStep}
use Rattle.dir_model.specs.Quiet.{Quiet}
use Rattle.dir_model.specs.State.{DirState, folder_at, spot_eq}
use Rattle.dir_model.specs.Trace.{state_after, state_next}
use Rattle.dir_model.specs.Trees.{is_dir, is_file_entry, has_file}
use Rattle.dir_model.proofs.Lists.{and_left}
use Rattle.dir_model.proofs.Moments.{at_weaker}
use Rattle.dir_model.specs.Spots.{pod_spot}
use Rattle.pod_locks.specs.Causes.{OpensAt}
use Rattle.commands.proofs.OwnSteps.{in_process, back_at}
use Rattle.commands.proofs.FolderItems.{changed, any_replied}
use Rattle.commands.proofs.Lacking.{Aside, folder_back}

-- no manifest is made in prepared
module _ (asks : Request → Bool) (l : Aside asks) (pod : PodId)
    (off : (request : Request) → (is_kill request || in_process asks request) ≡ true → (inner : Inner) → changed request ≡ Some inner → spot_eq inner.spot (pod_spot pod area.Prepared) ≡ false) (f : ℕ) (me : ℕ) where
  abbrev manifest : List ℕ
  manifest = codes "pod"

  abbrev HasManifest : DirState → Type 0
  HasManifest s = (folder_at s.namespace (pod_spot pod area.Prepared) ≡ Some f) × (has_file s.entries f manifest ≡ true)

  its_entry : (e : TreeEntry) → is_file_entry f manifest e ≡ true → (e.folder == f) ≡ true
  its_entry e is = and_left (e.folder == f) (bytes_eq e.path manifest) (and_left ((e.folder == f) && bytes_eq e.path manifest) (not (is_dir e.node)) is)

  manifest_back : (s : DirState) (request : Request) (reply : Reply) → (is_kill request || in_process asks request) ≡ true → HasManifest (state_next s (event me request reply)) → HasManifest s
  manifest_back s request reply h x =
      let at = folder_back asks l pod f me s request reply h x.0 in
      (at, sym (any_replied f (is_file_entry f manifest) its_entry (pod_spot pod area.Prepared) s.namespace at s.entries request reply (λ inner is. off request h inner is)) ∙ x.1)

  opened : (b : Bool) → cond b None (Some Missing) ≡ None → b ≡ true
  opened true is = refl
  opened false is = cc

  pub had_manifest : {old new : List Event} → Extends (in_process asks) me old new → Quiet me old new → AtOwnStep me old new (OpensAt pod area.Prepared Claim f) → HasManifest (state_after old)
  had_manifest ext quiet at = back_at HasManifest (in_process asks) me manifest_back (at_weaker HasManifest (λ s y. (y.0, opened (has_file s.entries f manifest) y.1)) at) ext quiet
