-- What a process knew when it asked for what was answered so.
use Rattle.std.proofs.Common.{◌≡◌, ◌⊎◌, inl, inr, ℕ, Bool, true, false, not, ◌&&◌, List, [], ◌∷◌, ◌++◌, refl, sym, ap, subst, ◌∙◌}
use Rattle.dir_model.specs.declared.event.Event.{Event}
use Rattle.dir_model.specs.declared.item.Inner.{Inner}
use Rattle.dir_model.specs.declared.item.ItemKind.{ItemKind}
use Rattle.dir_model.specs.declared.item.ItemKind.TheVariants as item
use Rattle.dir_model.specs.declared.spot.Spot.{Spot}
use Rattle.dir_model.specs.declared.request.DirError.{DirError}
use Rattle.dir_model.specs.declared.request.Request.{Request}
use Rattle.dir_model.specs.declared.request.Request.TheVariants.{ListIn, RemoveFolder}
use Rattle.dir_model.specs.declared.request.Reply.{Reply}
use Rattle.dir_model.specs.declared.request.Reply.TheVariants.{Refused}
use Rattle.dir_model.specs.Calls.{CallStep, Listing, ListStep, Unlisted}
use Rattle.dir_model.proofs.Spots.{spot_self}
use Rattle.dir_rules.specs.declared.seen.Seen.{Seen}
use Rattle.dir_rules.specs.Conforms.{IsTied}
use Rattle.dir_rules.specs.LockRules.{may_remove}
use Rattle.dir_rules.specs.Rules.{root_of, is_item_shown, is_file_item}
use Rattle.dir_trait.specs.DirCalls.{DirAt}
use Rattle.dir_trait.specs.Knowledge.{Knows}
use Rattle.folder_removal.specs.declared.task.Task.{Task}
use Rattle.folder_removal.specs.Tasks.{is_unlisted, is_dir_item}
use Rattle.folder_removal.specs.Removal.{is_removal_area, inner_at, task_inner, removal_by, removal_of, is_stray_deletion, RemovesStray}
use Rattle.folder_removal.specs.Known.{MayDelete, IsDeletionUnderWay, WorksOff, IsListedAsTasks, IsListingDue, StrayKnowing, StrayAtWork, StrayDeleting, ListedStray}
use Rattle.folder_removal.proofs.Steps.{asks_removal, shown_as}
use Rattle.folder_removal.proofs.Strays.{in_time}
use Rattle.folder_removal.proofs.Knowing.{at_work, seen_root}

pub listed_stray : {me : ℕ} {old new : List Event} (inner : Inner) (reply : Reply) → is_stray_deletion (ListIn inner) reply ≡ true → ListStep me old (ListIn inner) reply new → ListedStray inner me old new
listed_stray inner reply stray step = record { reply = reply; stray = stray; step = step }

-- a directory was listed
listing_knew : (spot : Spot) (path : List ℕ) {me : ℕ} {old new : List Event} (s : Seen) → IsTied me old s → may_remove s.standing spot ≡ true → IsListingDue s (ListIn (inner_at spot path)) → ListedStray (inner_at spot path) me old new → StrayKnowing spot me new
listing_knew spot path {me} {old} {new} s tied lock due l = by l.step
  where
    by : Listing me old (ListIn (inner_at spot path)) l.reply new ⊎ Unlisted me old (ListIn (inner_at spot path)) l.reply new → StrayKnowing spot me new
    by (inl x) = record {
      asked = old;
      seen = s;
      knew = tied;
      lock = lock;
      request = ListIn (inner_at spot path);
      reply = l.reply;
      about = spot_self spot;
      stray = l.stray;
      due = due;
      before = x.between;
      begun = inr x.begins;
      last = x.ends;
    }
    by (inr u) = absurd (in_time (inner_at spot path) l.reply u.late.late l.stray)

removal_due : (s : Seen) (spot : Spot) (t : Task) → IsListingDue s (removal_of spot t)
removal_due s spot t = by t.kind
  where
    by : (kind : ItemKind) → IsListingDue s (removal_by kind (task_inner spot t))
    by item.Dir = tt
    by item.File = tt
    by item.Other = tt

is_dir : (t : Task) → is_unlisted t ≡ true → not (is_file_item t.kind) ≡ true
is_dir t h = by t.kind t.listed h
  where
    by : (kind : ItemKind) (listed : Bool) → (is_dir_item kind && not listed) ≡ true → not (is_file_item kind) ≡ true
    by item.Dir listed h = refl
    by item.File listed h = cc
    by item.Other listed h = cc

-- a turn
module _ (spot : Spot) (xs : List Task) (t : Task) (old new : DirAt) where
  pub turn_lists : is_unlisted t ≡ true → ListedStray (task_inner spot t) old.process old.trace new.trace → StrayAtWork spot (xs ++ t ∷ []) old new
  turn_lists unlisted l s k w = listing_knew spot t.path s k.tied w.lock (inr (shown_as spot xs t s w (λ kind. not (is_file_item kind)) (is_dir t unlisted))) l

  pub turn_removes : RemovesStray spot t old.process old.trace new.trace → StrayAtWork spot (xs ++ t ∷ []) old new
  turn_removes r s k w = record {
    asked = old.trace;
    seen = s;
    knew = k.tied;
    lock = w.lock;
    request = removal_of spot t;
    reply = r.reply;
    about = asks_removal spot t;
    stray = r.stray;
    due = removal_due s spot t;
    before = old.trace;
    begun = inl refl;
    last = r.last;
  }

-- after others
pub knew_then : {spot : Spot} {xs ys : List Task} (a b c : DirAt) → b.process ≡ a.process → WorksOff spot xs ys a b → StrayAtWork spot ys b c → StrayAtWork spot xs a c
knew_then {spot} {xs} {ys} a b c same f g s k w =
    let x = f s k w in
    subst (λ (p : ℕ). StrayKnowing spot p c.trace) same (g x.known x.knows x.work)

-- the whole
pub root_lists : (spot : Spot) (old new : DirAt) → ListedStray (inner_at spot []) old.process old.trace new.trace → StrayDeleting spot old new
root_lists spot old new l s k m = listing_knew spot [] s k.tied m.lock (inl refl) l

module _ (spot : Spot) (tasks : List Task) (a b c : DirAt) (area : is_removal_area spot.area ≡ true) (l : IsListedAsTasks spot [] tasks a b) (same : b.process ≡ a.process) where
  pub emptying_knew : StrayAtWork spot tasks b c → StrayDeleting spot a c
  emptying_knew g s k m = subst (λ (p : ℕ). StrayKnowing spot p c.trace) same (g (seen_root spot tasks area l s) (l.knows s k) (at_work spot tasks area l s m))

  pub folder_knew : (d : DirAt) (error : DirError) → is_stray_deletion (RemoveFolder spot) (Refused error 0) ≡ true → WorksOff spot tasks [] b c → c.process ≡ b.process → CallStep c.process c.trace (RemoveFolder spot) (Refused error 0) d.trace → StrayDeleting spot a d
  folder_knew d error stray f then last s k m =
      let x = f (seen_root spot tasks area l s) (l.knows s k) (at_work spot tasks area l s m) in
      subst (λ (p : ℕ). StrayKnowing spot p d.trace) (then ∙ same) record {
        asked = c.trace;
        seen = x.known;
        knew = x.knows.tied;
        lock = x.work.lock;
        request = RemoveFolder spot;
        reply = Refused error 0;
        about = spot_self spot;
        stray = stray;
        due = tt;
        before = c.trace;
        begun = inl refl;
        last = last;
      }
