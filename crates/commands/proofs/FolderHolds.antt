-- What a step does in other folders leaves what a pod's folder in run holds, and starts no app of it.
use Rattle.std.proofs.Common.{◌≡◌, ℕ, Bool, true, false, ◌&&◌, ◌==◌, cond, Option, Some, None, option_to_list, List, [], ◌++◌, drop, length, take, append-nil, refl, ap, ◌∙◌}
use Rattle.plain_laws.proofs.Booleans.{clash}
use Rattle.dir_model.specs.declared.pod.PodId.{PodId}
use Rattle.dir_model.specs.declared.request.Reply.{Reply}
use Rattle.dir_model.specs.declared.request.Reply.TheVariants.{Done, Refused}
use Rattle.dir_model.specs.declared.request.Request.{Request}
use Rattle.dir_model.specs.declared.request.Request.TheVariants.{AppendIn, MakeDirIn, MakeFileIn, RemoveDirIn, RemoveFileIn}
use Rattle.dir_model.specs.declared.spot.Spot.{Spot}
use Rattle.dir_model.specs.declared.tree.StartedApp.{StartedApp}
use Rattle.dir_model.specs.declared.tree.TreeEntry.{TreeEntry}
use Rattle.dir_model.specs.declared.tree.TreeNode.TheVariants.{Dir, Piece}
use Rattle.dir_model.specs.Areas.{is_run_or_later}
use Rattle.dir_model.specs.Calls.{event}
use Rattle.dir_model.specs.State.{DirState, Namespace, folder_at, spot_eq}
use Rattle.dir_model.specs.Trace.{app_started, entries_kept, entry_made, is_mark, marked_app, placed, state_next}
use Rattle.dir_model.specs.Trees.{app_root, is_apps_own, is_within, mark_prefix}
use Rattle.dir_model.proofs.Lists.{any_last_not, same_number}
use Rattle.dir_rules.specs.declared.seen.Entry.{Entry}
use Rattle.folder_contents.specs.Entries.{entries_in}
use Rattle.folder_contents.proofs.Entries.{placed_away, removed_away}
use Rattle.lifecycle.proofs.Numbers.{one_spot}
use Rattle.pod_files.specs.Places.{run_spot}
use Rattle.commands.proofs.StartsTold.{Holds}

-- the location of the folder in which a request changes something
abbrev pub filled_in : Request → Option Spot
filled_in (MakeDirIn inner) = Some inner.spot
filled_in (MakeFileIn inner) = Some inner.spot
filled_in (AppendIn inner piece) = Some inner.spot
filled_in (RemoveFileIn inner) = Some inner.spot
filled_in (RemoveDirIn inner) = Some inner.spot
filled_in request = None

-- it changes nothing in this folder
abbrev pub Spares : Spot → Request → Type 0
Spares here request = (spot : Spot) → filled_in request ≡ Some spot → spot_eq here spot ≡ false

module _ (here : Spot) (k : ℕ) where
  entries_on : (n : Namespace) (es : List TreeEntry) (request : Request) (reply : Reply) → folder_at n here ≡ Some k → Spares here request → entries_in k (entries_kept n es request reply ++ option_to_list (entry_made n request reply)) ≡ entries_in k es
  entries_on n es (MakeDirIn i) Done at spares = placed_away n k here i.spot i.path Dir es at (spares i.spot refl)
  entries_on n es (MakeFileIn i) Done at spares = placed_away n k here i.spot i.path (Piece []) es at (spares i.spot refl)
  entries_on n es (AppendIn i piece) Done at spares = placed_away n k here i.spot i.path (Piece piece) es at (spares i.spot refl)
  entries_on n es (AppendIn i piece) (Refused e left) at spares = by (left == 0)
    where
      by : (b : Bool) → entries_in k (es ++ option_to_list (cond b None (placed (folder_at n i.spot) i.path (Piece (take left piece))))) ≡ entries_in k es
      by true = ap (entries_in k) (append-nil es)
      by false = placed_away n k here i.spot i.path (Piece (take left piece)) es at (spares i.spot refl)
  entries_on n es (RemoveFileIn i) Done at spares = removed_away n k here i.spot i.path es at (spares i.spot refl)
  entries_on n es (RemoveDirIn i) Done at spares = removed_away n k here i.spot i.path es at (spares i.spot refl)
  entries_on n es request reply at spares = ap (entries_in k) (append-nil es)

  -- the number of another folder
  other : (n : Namespace) (j : ℕ) (spot : Spot) → folder_at n here ≡ Some k → folder_at n spot ≡ Some j → spot_eq here spot ≡ false → (j == k) ≡ false
  other n j spot at found apart = by (j == k) refl
    where
      by : (b : Bool) → (j == k) ≡ b → b ≡ false
      by false e = refl
      by true e = clash (spot_eq here spot) (one_spot n here spot k at (found ∙ ap Some (same_number j k e))) apart

  apps_on : (n : Namespace) (apps : List StartedApp) (request : Request) (reply : Reply) (path : List ℕ) → folder_at n here ≡ Some k → Spares here request → is_apps_own (apps ++ option_to_list (app_started n request reply)) k path ≡ is_apps_own apps k path
  apps_on n apps (MakeFileIn i) Done path at spares = runs (is_run_or_later i.spot.area)
    where
      none : is_apps_own (apps ++ []) k path ≡ is_apps_own apps k path
      none = ap (λ (l : List StartedApp). is_apps_own l k path) (append-nil apps)

      marks : (j : ℕ) → folder_at n i.spot ≡ Some j → (b : Bool) → is_apps_own (apps ++ option_to_list (cond b (Some (record { folder = j; root = app_root (drop (length mark_prefix) i.path) })) None)) k path ≡ is_apps_own apps k path
      marks j found true =
          let a : StartedApp = record { folder = j; root = app_root (drop (length mark_prefix) i.path) } in
          any_last_not (λ x. (x.folder == k) && is_within x.root path) apps a (ap (λ b. b && is_within a.root path) (other n j i.spot at found (spares i.spot refl)))
      marks j found false = none

      by : (o : Option ℕ) → folder_at n i.spot ≡ o → is_apps_own (apps ++ option_to_list (marked_app o i.path)) k path ≡ is_apps_own apps k path
      by None found = none
      by (Some j) found = marks j found (is_mark i.path)

      runs : (b : Bool) → is_apps_own (apps ++ option_to_list (cond b (marked_app (folder_at n i.spot) i.path) None)) k path ≡ is_apps_own apps k path
      runs true = by (folder_at n i.spot) refl
      runs false = none
  apps_on n apps request reply path at spares = ap (λ (l : List StartedApp). is_apps_own l k path) (append-nil apps)

-- so the folder holds the same after the step
pub holds_on : (pod : PodId) (k : ℕ) (es : List Entry) (me : ℕ) (s : DirState) (request : Request) (reply : Reply) → Holds pod k es s → Spares (run_spot pod) request → folder_at (state_next s (event me request reply)).namespace (run_spot pod) ≡ Some k
    → Holds pod k es (state_next s (event me request reply))
holds_on pod k es me s request reply x spares at = record {
  here = at;
  holds = entries_on (run_spot pod) k s.namespace s.entries request reply x.here spares ∙ x.holds;
  unowned = λ path. apps_on (run_spot pod) k s.namespace s.apps request reply path x.here spares ∙ x.unowned path;
}
