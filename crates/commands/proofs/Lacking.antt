-- Who makes no folder, moves folders to garbage places alone and removes files there alone, takes no manifest away in prepared.
use Rattle.std.proofs.Common.{◌≡◌, ℕ, Bool, true, false, not, ◌&&◌, ◌||◌, ◌==◌, bytes_eq, codes, Option, Some, None, List, option_to_list, refl, sym, ap, ◌∙◌}
use Rattle.std.proofs.lemmas.Bool.{eqb-true}
use Rattle.plain_laws.proofs.Booleans.{or_nothing}
use Rattle.plain_laws.proofs.Lists.{any_left}
use Rattle.dir_model.specs.declared.area.Area.{Area}
use Rattle.dir_model.specs.declared.area.Area.TheVariants as area
use Rattle.dir_model.specs.declared.pod.PodId.{PodId}
use Rattle.dir_model.specs.declared.item.Inner.{Inner}
use Rattle.dir_model.specs.declared.spot.Spot.{Spot}
use Rattle.dir_model.specs.declared.tree.TreeEntry.{TreeEntry}
use Rattle.dir_model.specs.declared.request.Request.{Request}
use Rattle.dir_model.specs.declared.request.Request.TheVariants.{MakeFolder, MoveFolder, RemoveFolder, RemoveFileIn, RemoveDirIn}
use Rattle.dir_model.specs.declared.request.Reply.{Reply}
use Rattle.dir_model.specs.declared.request.Reply.TheVariants.{Done}
use Rattle.dir_model.specs.Areas.{rank}
use Rattle.dir_model.specs.Calls.{event, is_kill}
use Rattle.dir_model.specs.Pods.{pod_text}
use Rattle.dir_model.specs.State.{Namespace, DirState, spot_eq, folder_at}
use Rattle.dir_model.specs.Trace.{state_next, namespace_replied, entries_kept, entry_made, removed_in}
use Rattle.dir_model.specs.Trees.{is_file_entry, is_dir, is_within, has_file}
use Rattle.dir_model.proofs.Lists.{and_left, any_filter}
use Rattle.dir_rules.specs.Standing.{is_garbage}
use Rattle.lifecycle.proofs.Numbers.{one_spot}
use Rattle.lifecycle.proofs.Places.{moved_away, moved_elsewhere, removed_there, removed_elsewhere}
use Rattle.dir_model.specs.Spots.{pod_spot}
use Rattle.commands.proofs.OwnSteps.{in_process, same_folders}
use Rattle.commands.proofs.LateTurns.{Late}

pub garbage_apart : (a : Area) → is_garbage a ≡ true → (rank a == rank area.Prepared) ≡ false
garbage_apart area.ExitedGarbage is = refl
garbage_apart area.Garbage is = refl
garbage_apart a is = cc

unlike : (a b : Bool) → (a ≡ true → b ≡ true) → b ≡ false → a ≡ false
unlike true b f off = let clash : true ≡ false = sym (f refl) ∙ off in cc
unlike false b f off = refl

-- what is asked for so
pub record Aside (asks : Request → Bool) : Type 0 where
  pub late : Late asks
  pub files : (inner : Inner) → asks (RemoveFileIn inner) ≡ true → is_garbage inner.spot.area ≡ true
  pub dirs : (inner : Inner) → asks (RemoveDirIn inner) ≡ true → is_garbage inner.spot.area ≡ true

module _ (asks : Request → Bool) (l : Aside asks) (pod : PodId) (k : ℕ) where
  abbrev here : Spot
  here = pod_spot pod area.Prepared

  abbrev manifest : List ℕ
  manifest = codes "pod"

  -- what is taken away stands in another folder
  other_folder : (n : Namespace) (spot : Spot) (f : ℕ) → is_garbage spot.area ≡ true → folder_at n here ≡ Some k → folder_at n spot ≡ Some f → (k == f) ≡ false
  other_folder n spot f garbage at there = by (k == f) refl
    where
      by : (b : Bool) → (k == f) ≡ b → b ≡ false
      by false is = refl
      by true is =
          let same : k ≡ f = eqb-true k f is in
          let one = one_spot n spot here k (there ∙ ap Some (sym same)) at in
          let clash : true ≡ false = sym (and_left (rank spot.area == rank area.Prepared) (bytes_eq spot.name (pod_text pod.bytes)) one) ∙ garbage_apart spot.area garbage in cc

  keeps_entry : (f : ℕ) (path : List ℕ) → (k == f) ≡ false → (e : TreeEntry) → is_file_entry k manifest e ≡ true → not ((e.folder == f) && is_within path e.path) ≡ true
  keeps_entry f path apart e is =
      let its : (e.folder == k) ≡ true = and_left (e.folder == k) (bytes_eq e.path manifest) (and_left ((e.folder == k) && bytes_eq e.path manifest) (not (is_dir e.node)) is) in
      ap (λ b. not (b && is_within path e.path)) (ap (λ (x : ℕ). x == f) (eqb-true e.folder k its) ∙ apart)

  removed_other : (path : List ℕ) (es : List TreeEntry) (o : Option ℕ) → ((f : ℕ) → o ≡ Some f → (k == f) ≡ false) → has_file es k manifest ≡ true → has_file (removed_in o path es) k manifest ≡ true
  removed_other path es None apart is = is
  removed_other path es (Some f) apart is = any_filter (is_file_entry k manifest) (λ e. not ((e.folder == f) && is_within path e.path)) (keeps_entry f path (apart f refl)) es is

  kept_file : (s : DirState) (request : Request) (reply : Reply) → (is_kill request || in_process asks request) ≡ true → folder_at s.namespace here ≡ Some k → has_file s.entries k manifest ≡ true →
      has_file (entries_kept s.namespace s.entries request reply) k manifest ≡ true
  kept_file s (RemoveFileIn inner) Done h at is =
      removed_other inner.path s.entries (folder_at s.namespace inner.spot) (λ f there. other_folder s.namespace inner.spot f (l.files inner (or_nothing _ h)) at there) is
  kept_file s (RemoveDirIn inner) Done h at is =
      removed_other inner.path s.entries (folder_at s.namespace inner.spot) (λ f there. other_folder s.namespace inner.spot f (l.dirs inner (or_nothing _ h)) at there) is
  kept_file s request reply h at is = is

  -- its folder stood there
  module _ (me : ℕ) where
    pub folder_back : (s : DirState) (request : Request) (reply : Reply) → (is_kill request || in_process asks request) ≡ true → folder_at (namespace_replied s.namespace me request reply) here ≡ Some k → folder_at s.namespace here ≡ Some k
    folder_back s (MakeFolder spot) reply h at = absurd (l.late.makes spot (or_nothing (asks (MakeFolder spot)) h))
    folder_back s (MoveFolder from to) Done h at = by (spot_eq from here) refl
      where
        off : spot_eq to here ≡ false
        off = ap (λ b. b && bytes_eq to.name (pod_text pod.bytes)) (garbage_apart to.area (l.late.moves from to (or_nothing (asks (MoveFolder from to)) h)))

        by : (b : Bool) → spot_eq from here ≡ b → folder_at s.namespace here ≡ Some k
        by true is = let clash : None ≡ Some k = sym (moved_away s.namespace here from to off is) ∙ at in cc
        by false is = sym (moved_elsewhere s.namespace here from to off is) ∙ at
    folder_back s (MoveFolder from to) reply h at = at
    folder_back s (RemoveFolder gone) Done h at = by (spot_eq gone here) refl
      where
        by : (b : Bool) → spot_eq gone here ≡ b → folder_at s.namespace here ≡ Some k
        by true is = let clash : None ≡ Some k = sym (removed_there s.namespace here gone is) ∙ at in cc
        by false is = sym (removed_elsewhere s.namespace here gone is) ∙ at
    folder_back s (RemoveFolder gone) reply h at = at
    folder_back s request reply h at = ap (λ (fs : List (Option Spot)). folder_at (record s.namespace { folders = fs }) here) (sym (same_folders me s.namespace request reply refl (λ handle. refl))) ∙ at

    abbrev pub Lacks : DirState → Type 0
    Lacks s = (folder_at s.namespace here ≡ Some k) × (has_file s.entries k manifest ≡ false)

    pub lacks_back : (s : DirState) (request : Request) (reply : Reply) → (is_kill request || in_process asks request) ≡ true → Lacks (state_next s (event me request reply)) → Lacks s
    lacks_back s request reply h x =
        let at = folder_back s request reply h x.0 in
        (at, unlike (has_file s.entries k manifest) _ (λ is. any_left (is_file_entry k manifest) (entries_kept s.namespace s.entries request reply) (option_to_list (entry_made s.namespace request reply)) (kept_file s request reply h at is)) x.1)
