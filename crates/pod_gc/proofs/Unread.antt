-- The steps of a round read no phase, and where a step is refused no folder was removed in it.
use Rattle.std.proofs.Common.{◌≡◌, inl, inr, ◌||◌, ℕ, suc, Bool, true, false, not, Result, Ok, Err, IfErr, List, [], refl, sym, subst, append-nil, arith}
use Rattle.plain_laws.proofs.Booleans.{or_nothing}
use Rattle.dir_model.specs.declared.area.Area.{Area}
use Rattle.dir_model.specs.declared.area.Area.TheVariants.{ExitedGarbage, Garbage}
use Rattle.dir_model.specs.declared.area.Phase.{Phase}
use Rattle.dir_model.specs.declared.event.Event.{Event}
use Rattle.dir_model.specs.declared.pod.PodId.{PodId}
use Rattle.dir_model.specs.declared.request.Request.{Request}
use Rattle.dir_model.specs.declared.request.Request.TheVariants.{Open, RemoveFolder}
use Rattle.dir_model.specs.declared.request.Reply.{Reply}
use Rattle.dir_model.specs.declared.request.Reply.TheVariants.{Done}
use Rattle.dir_model.specs.declared.spot.Spot.{Spot}
use Rattle.dir_model.specs.Areas.{rank}
use Rattle.dir_model.specs.Calls.{Extends, is_foreign}
use Rattle.dir_model.proofs.Lists.{all_weaker, or_map}
use Rattle.dir_model.specs.Local.{Local}
use Rattle.dir_model.specs.Replies.{is_look_at}
use Rattle.dir_trait.specs.DirCalls.{DirAt, ExtendsBy}
use Rattle.dir_trait.specs.Effects.{OnlyAsks, LeavesOpen}
use Rattle.folder_removal.specs.Removal.{removes_folder, KeptFolders, KeepsFolders}
use Rattle.folder_removal.proofs.Keeping.{kept_by, kept_more}
use Rattle.phase_read.specs.Read.{is_pod_spot}
use Rattle.phase_read.specs.Often.{begins_read, ReadsAtMost}
use Rattle.phase_read.proofs.Often.{unread_by, opens_past}
use Rattle.pod_locks.specs.declared.setback.Setback.{Setback}
use Rattle.pod_locks.specs.declared.setback.Setback.TheVariants as stop
use Rattle.pod_locks.specs.Requests.{looks_at, moves_pod}
use Rattle.pod_locks.specs.Taking.{takes_away, TookNothing}
use Rattle.pod_gc.specs.RemovalRequests.{is_garbage_place, may_lie_dead, marks_at, deletes_in, puts_aside, aside, area_of_phase}
use Rattle.pod_gc.specs.Removals.{removal_round_of}
use Rattle.pod_gc.proofs.Dead.{dead_later}
use Rattle.pod_gc.specs.Found.{is_moved, PutAway, WasMissed, FoundAnd}

-- reads

pub unread_here : {observed : Bool} (pod : PodId) (a : DirAt) → ReadsAtMost 0 observed pod a a
unread_here pod a = record { reads = λ t. record { more = []; grown = sym (append-nil a.trace); counted = omega arith } }

looks_unread : (pod : PodId) (a : Area) (n : ℕ) → rank a ≡ suc n → (r : Request) → looks_at pod a r ≡ true → begins_read pod r ≡ false
looks_unread pod a n is (Open spot which) looks = opens_past pod a n is spot looks which
looks_unread pod a n is r looks = refl

moves_unread : (pod : PodId) (from to : Area) (r : Request) → moves_pod pod from to r ≡ true → begins_read pod r ≡ false
moves_unread pod from to (Open spot which) moved = cc
moves_unread pod from to r moved = refl

marks_unread : (pod : PodId) (now : ℕ) (r : Request) → marks_at pod now r ≡ true → begins_read pod r ≡ false
marks_unread pod now (Open spot which) marked = cc
marks_unread pod now r marked = refl

deletes_unread : (pod : PodId) (a : Area) (n : ℕ) → rank a ≡ suc n → (r : Request) → deletes_in pod a r ≡ true → begins_read pod r ≡ false
deletes_unread pod a n is (Open spot which) asked = opens_past pod a n is spot (or_nothing (looks_at pod a (Open spot which)) asked) which
deletes_unread pod a n is r asked = refl

pub unread_looks : {observed : Bool} {a b : DirAt} (pod : PodId) (area : Area) (n : ℕ) → rank area ≡ suc n → OnlyAsks observed (looks_at pod area) a b → ReadsAtMost 0 observed pod a b
unread_looks pod area n is w = unread_by (looks_unread pod area n is) (λ t. w.extends t)

pub unread_dead : {observed : Bool} {a b : DirAt} (pod : PodId) (area : Area) → may_lie_dead area ≡ true → OnlyAsks observed (looks_at pod area) a b → ReadsAtMost 0 observed pod a b
unread_dead pod area dead w = let later = dead_later area dead in unread_looks pod area later.0 later.1 w

pub unread_took : {observed : Bool} {l : Local} {a b : DirAt} (pod : PodId) (area : Area) (n : ℕ) → rank area ≡ suc n → LeavesOpen observed (looks_at pod area) l a b → ReadsAtMost 0 observed pod a b
unread_took pod area n is w = unread_by (looks_unread pod area n is) (λ t. w.extends t)

pub unread_move : {observed : Bool} {a b : DirAt} (pod : PodId) (from to : Area) → OnlyAsks observed (moves_pod pod from to) a b → ReadsAtMost 0 observed pod a b
unread_move pod from to w = unread_by (moves_unread pod from to) (λ t. w.extends t)

pub unread_mark : {observed : Bool} {a b : DirAt} (pod : PodId) (now : ℕ) → OnlyAsks observed (marks_at pod now) a b → ReadsAtMost 0 observed pod a b
unread_mark pod now w = unread_by (marks_unread pod now) (λ t. w.extends t)

pub unread_delete : {observed : Bool} {a b : DirAt} (pod : PodId) (area : Area) (n : ℕ) → rank area ≡ suc n → OnlyAsks observed (deletes_in pod area) a b → ReadsAtMost 0 observed pod a b
unread_delete pod area n is w = unread_by (deletes_unread pod area n is) (λ t. w.extends t)

-- both garbage places come late in a pod's life
pub garbage_rank : (area : Area) → is_garbage_place area ≡ true → (n : ℕ) × (rank area ≡ suc n)
garbage_rank ExitedGarbage is = (3, refl)
garbage_rank Garbage is = (4, refl)
garbage_rank _ is = cc

-- folders that are kept

looks_keep : (pod : PodId) (a : Area) (r : Request) (y : Reply) → looks_at pod a r ≡ true → not (removes_folder r y) ≡ true
looks_keep pod a (RemoveFolder spot) y is = cc
looks_keep pod a r y is = refl

aside_keep : (pod : PodId) (from to : Area) (r : Request) (y : Reply) → puts_aside pod from to r ≡ true → not (removes_folder r y) ≡ true
aside_keep pod from to (RemoveFolder spot) y is = cc
aside_keep pod from to r y is = refl

read_keep : (test : Spot → Bool) (r : Request) (y : Reply) → is_look_at test r ≡ true → not (removes_folder r y) ≡ true
read_keep test (RemoveFolder spot) y is = cc
read_keep test r y is = refl

pub kept_looks : {me : ℕ} {a b : List Event} (pod : PodId) (area : Area) → Extends (looks_at pod area) me a b → KeptFolders me a b
kept_looks pod area e = kept_by (looks_keep pod area) e

pub kept_read : {me : ℕ} {a b : List Event} (pod : PodId) → Extends (is_look_at (is_pod_spot pod)) me a b → KeptFolders me a b
kept_read pod e = kept_by (read_keep (is_pod_spot pod)) e

untaken : (r : Request) (y : Reply) → not (takes_away r y) ≡ true → not (removes_folder r y) ≡ true
untaken (RemoveFolder spot) Done is = cc
untaken (RemoveFolder spot) y is = refl
untaken r y is = refl

pub kept_untaken : {me : ℕ} {a b : List Event} → TookNothing me a b → KeptFolders me a b
kept_untaken {me} x = record {
  more = x.more;
  grown = x.grown;
  kept = all_weaker (λ e. (is_foreign me e || not (takes_away e.request e.reply)) ≡ true) (λ e. (is_foreign me e || not (removes_folder e.request e.reply)) ≡ true)
      (λ e. or_map (is_foreign me e) (not (takes_away e.request e.reply)) (not (removes_folder e.request e.reply)) (untaken e.request e.reply)) x.more x.still;
}

pub kept_aside : (pod : PodId) (p : Phase) {me : ℕ} {a b : List Event} → PutAway pod p me a b → KeptFolders me a b
kept_aside pod p {me} {a} {b} x = by (is_moved p) refl
  where
    by : (m : Bool) → is_moved p ≡ m → KeptFolders me a b
    by true is = kept_by (aside_keep pod (area_of_phase p) (aside p)) (x.only is)
    by false is = subst (λ (c : List Event). KeptFolders me a c) (sym (x.still is)) (record { more = []; grown = sym (append-nil a); kept = tt })

pub kept_missed : (pod : PodId) {me : ℕ} {a b : List Event} → FoundAnd pod (WasMissed pod) me a b → KeptFolders me a b
kept_missed pod {me} {a} {b} x = kept_more (kept_read pod x.looks) refl (by x.so)
  where
    by : WasMissed pod x.phase me x.between b → KeptFolders me x.between b
    by (inl here) = kept_untaken here.untaken
    by (inr there) = kept_more (kept_aside pod x.phase there.1) refl (kept_untaken there.2.untaken)

pub kept_round : {observed : Bool} (pod : PodId) (old mid new : DirAt) → (observed ≡ true → ExtendsBy (is_look_at (is_pod_spot pod)) old mid) → mid.process ≡ old.process
    → (r : Result (Unit {0}) Setback) → IfErr r (λ e. observed ≡ true → KeepsFolders mid new) → IfErr (removal_round_of pod r) (λ e. observed ≡ true → KeepsFolders old new)
kept_round pod old mid new looks same (Ok done) kept = tt
kept_round pod old mid new looks same (Err stop.Missing) kept = tt
kept_round pod old mid new looks same (Err stop.NoManifest) kept = λ t. kept_more (kept_read pod (looks t)) same (kept t)
kept_round pod old mid new looks same (Err (stop.Busy which)) kept = λ t. kept_more (kept_read pod (looks t)) same (kept t)
kept_round pod old mid new looks same (Err stop.DirFault) kept = λ t. kept_more (kept_read pod (looks t)) same (kept t)
kept_round pod old mid new looks same (Err stop.Stray) kept = λ t. kept_more (kept_read pod (looks t)) same (kept t)
kept_round pod old mid new looks same (Err stop.NoMemory) kept = λ t. kept_more (kept_read pod (looks t)) same (kept t)
