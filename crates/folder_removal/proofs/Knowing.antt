-- What a process knows, from one turn to the next.
use Rattle.std.proofs.Common.{◌≡◌, ℕ, Bool, true, false, List, [], ◌∷◌, ◌++◌, Result, Ok, refl, sym, subst}
use Rattle.dir_model.specs.declared.item.Item.{Item}
use Rattle.dir_model.specs.declared.item.ItemKind.{ItemKind}
use Rattle.dir_model.specs.declared.item.ItemKind.TheVariants as item
use Rattle.dir_model.specs.declared.spot.Spot.{Spot}
use Rattle.dir_model.specs.declared.request.DirError.{DirError}
use Rattle.dir_model.specs.declared.request.Request.TheVariants.{ListIn, RemoveFolder}
use Rattle.dir_model.specs.declared.request.Reply.TheVariants.{Done, Items, Refused}
use Rattle.dir_model.specs.Replies.{items_reply, done_reply}
use Rattle.dir_model.specs.Calls.{is_begin, is_kill}
use Rattle.dir_rules.specs.declared.seen.Seen.{Seen}
use Rattle.dir_rules.specs.Conforms.{seen_replied, seen_listed}
use Rattle.dir_trait.specs.DirCalls.{DirAt, DirCall, ListCall}
use Rattle.dir_trait.proofs.Knowing.{knows_call}
use Rattle.folder_removal.specs.declared.task.Task.{Task}
use Rattle.folder_removal.specs.Tasks.{with_listed, is_unlisted}
use Rattle.folder_removal.specs.Removal.{is_removal_area, task_inner, removal_by, removal_of}
use Rattle.folder_removal.specs.Known.{IsDeletionUnderWay, MayDelete, Learns, IsListedAsTasks, OnlyLists, OnlyRemoves, OnlyWorks, WorksOff, OnlyTries, Deletes}
use Rattle.folder_removal.proofs.Calls.{knows_list}
use Rattle.folder_removal.proofs.Steps.{only_same, only_more, only_listed, only_removed, only_folder, folder_gone, ready_at, ready_at_root, after_list, after_remove, may_remove_task}

-- a listing
pub lists_only : {observed : Bool} {old new : DirAt} (spot : Spot) (path : List ℕ) (r : Result (List Item) DirError) → is_removal_area spot.area ≡ true → observed ≡ true → ListCall observed old (ListIn (record { spot = spot; path = path })) (items_reply r) new → OnlyLists spot old new
lists_only spot path r area t c s k = record {
  known = seen_listed s (ListIn (record { spot = spot; path = path })) (items_reply r);
  only = only_listed spot path s area r;
  knows = knows_list (record { spot = spot; path = path }) r t k c;
}

-- a removal
removal_learned : {observed : Bool} {old new : DirAt} (spot : Spot) (t : Task) (r : Result (Unit {0}) DirError) → observed ≡ true → DirCall observed old (removal_of spot t) (done_reply r) new → Learns (removal_of spot t) (done_reply r) old new
removal_learned spot t r o c s k = knows_call o k (no_begin t.kind) (no_kill t.kind) c
  where
    no_begin : (kind : ItemKind) → is_begin (removal_by kind (task_inner spot t)) ≡ false
    no_begin item.Dir = refl
    no_begin item.File = refl
    no_begin item.Other = refl

    no_kill : (kind : ItemKind) → is_kill (removal_by kind (task_inner spot t)) ≡ false
    no_kill item.Dir = refl
    no_kill item.File = refl
    no_kill item.Other = refl

pub removal_done : {observed : Bool} {old new : DirAt} (spot : Spot) (t : Task) → observed ≡ true → DirCall observed old (removal_of spot t) Done new → Learns (removal_of spot t) Done old new
removal_done spot t o c = removal_learned spot t (Ok tt) o c

pub removes_only : {observed : Bool} {old new : DirAt} (spot : Spot) (t : Task) (r : Result (Unit {0}) DirError) → observed ≡ true → DirCall observed old (removal_of spot t) (done_reply r) new → OnlyRemoves spot t old new
removes_only spot t r o c s k may = record {
  known = seen_replied s (removal_of spot t) (done_reply r);
  only = only_removed spot t s r may;
  knows = removal_learned spot t r o c s k;
}

-- a turn that listed the last task
pub lists_off : {old new : DirAt} (spot : Spot) (xs : List Task) (t : Task) (children : List Task) → is_removal_area spot.area ≡ true → IsListedAsTasks spot t.path children old new → WorksOff spot (xs ++ t ∷ []) ((xs ++ with_listed t ∷ []) ++ children) old new
lists_off {old} {new} spot xs t children area l s k w =
    let seen : Seen = seen_listed s (ListIn (record { spot = spot; path = t.path })) (Items l.items) in
    record {
      known = seen;
      only = only_listed spot t.path s area (Ok l.items);
      work = subst (λ (ts : List Task). IsDeletionUnderWay spot ((xs ++ with_listed t ∷ []) ++ ts) seen) (sym l.are) (after_list spot t.path (xs ++ with_listed t ∷ []) l.items s area (ready_at spot xs t s w) l.plain l.once);
      knows = l.knows s k;
    }

-- or removed it
pub removes_off : {old new : DirAt} (spot : Spot) (xs : List Task) (t : Task) → is_unlisted t ≡ false → Learns (removal_of spot t) Done old new → WorksOff spot (xs ++ t ∷ []) xs old new
removes_off spot xs t done l s k w = record {
  known = seen_replied s (removal_of spot t) Done;
  only = only_removed spot t s (Ok tt) (may_remove_task spot xs t s w done);
  work = after_remove spot xs t s w done;
  knows = l s k;
}

pub tries_removal : {old new : DirAt} (spot : Spot) (xs : List Task) (t : Task) → is_unlisted t ≡ false → OnlyRemoves spot t old new → OnlyWorks spot (xs ++ t ∷ []) old new
tries_removal spot xs t done o s k w = o s k (may_remove_task spot xs t s w done)

-- several turns
pub works_none : {spot : Spot} {tasks : List Task} {d : DirAt} → WorksOff spot tasks tasks d d
works_none {spot} s k w = record { known = s; only = only_same spot s; work = w; knows = k }

pub works_more : {spot : Spot} {xs ys zs : List Task} {a b c : DirAt} → WorksOff spot xs ys a b → WorksOff spot ys zs b c → WorksOff spot xs zs a c
works_more f g s k w =
    let x = f s k w in
    let y = g x.known x.knows x.work in
    record { known = y.known; only = only_more x.only y.only; work = y.work; knows = y.knows }

pub works_then : {spot : Spot} {xs ys : List Task} {a b c : DirAt} → WorksOff spot xs ys a b → OnlyWorks spot ys b c → OnlyWorks spot xs a c
works_then f g s k w =
    let x = f s k w in
    let y = g x.known x.knows x.work in
    record { known = y.known; only = only_more x.only y.only; knows = y.knows }

pub works_only : {spot : Spot} {xs ys : List Task} {a b : DirAt} → WorksOff spot xs ys a b → OnlyWorks spot xs a b
works_only f s k w = let x = f s k w in record { known = x.known; only = x.only; knows = x.knows }

-- the whole
module _ (spot : Spot) (tasks : List Task) {a b : DirAt} (area : is_removal_area spot.area ≡ true) (l : IsListedAsTasks spot [] tasks a b) where
  abbrev pub seen_root : Seen → Seen
  seen_root s = seen_listed s (ListIn (record { spot = spot; path = [] })) (Items l.items)

  pub at_work : (s : Seen) → MayDelete spot s → IsDeletionUnderWay spot tasks (seen_root s)
  at_work s m = subst (λ (ts : List Task). IsDeletionUnderWay spot ts (seen_root s)) (sym l.are) (after_list spot [] [] l.items s area (ready_at_root m) l.plain l.once)

  pub tries_tasks : {c : DirAt} → OnlyWorks spot tasks b c → OnlyTries spot a c
  tries_tasks f s k m =
      let x = f (seen_root s) (l.knows s k) (at_work s m) in
      record { known = x.known; only = only_more (only_listed spot [] s area (Ok l.items)) x.only; knows = x.knows }

  pub tries_folder : {observed : Bool} {c d : DirAt} (error : DirError) → WorksOff spot tasks [] b c → observed ≡ true → DirCall observed c (RemoveFolder spot) (Refused error 0) d → OnlyTries spot a d
  tries_folder error f t call s k m =
      let x = f (seen_root s) (l.knows s k) (at_work s m) in
      record {
        known = seen_replied x.known (RemoveFolder spot) (Refused error 0);
        only = only_more (only_more (only_listed spot [] s area (Ok l.items)) x.only) (only_folder spot x.known x.work error);
        knows = knows_call t x.knows refl refl call;
      }

  pub deletes : {observed : Bool} {c d : DirAt} → WorksOff spot tasks [] b c → observed ≡ true → DirCall observed c (RemoveFolder spot) Done d → Deletes spot a d
  deletes f t call s k m =
      let x = f (seen_root s) (l.knows s k) (at_work s m) in
      record {
        known = seen_replied x.known (RemoveFolder spot) Done;
        is = folder_gone spot x.known x.work (only_more (only_listed spot [] s area (Ok l.items)) x.only);
        knows = knows_call t x.knows refl refl call;
      }
