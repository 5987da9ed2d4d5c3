-- Where a stray answer comes from.
use Rattle.std.proofs.Common.{◌≡◌, ◌⊎◌, inl, inr, ℕ, Bool, true, false, not, ◌&&◌, ◌==◌, bytes_eq, List, [], ◌∷◌, ◌++◌, map, refl, sym, ap, subst, ◌∙◌, append_assoc, append-nil}
use Rattle.std.specs.List.{list_any}
use Rattle.std.proofs.lemmas.Bool.{or_left}
use Rattle.plain_laws.proofs.Texts.{same_bytes, bytes_turned}
use Rattle.dir_model.specs.declared.event.Event.{Event}
use Rattle.dir_model.specs.declared.item.Inner.{Inner}
use Rattle.dir_model.specs.declared.item.ItemKind.{ItemKind}
use Rattle.dir_model.specs.declared.item.ItemKind.TheVariants as item
use Rattle.dir_model.specs.declared.spot.Spot.{Spot}
use Rattle.dir_model.specs.declared.request.DirError.{DirError}
use Rattle.dir_model.specs.declared.request.DirError.TheVariants.{Missing, Exists, NotEmpty, Locked, Failed, NoMemory}
use Rattle.dir_model.specs.declared.request.Request.{Request}
use Rattle.dir_model.specs.declared.request.Request.TheVariants.{ListIn, RemoveDirIn, RemoveFolder}
use Rattle.dir_model.specs.declared.request.Reply.{Reply}
use Rattle.dir_model.specs.declared.request.Reply.TheVariants.{Items, Refused}
use Rattle.dir_model.specs.Calls.{CallStep, ListStep, TookPlace, LeftNothing, Extends, AtOwnStep, event}
use Rattle.dir_model.specs.State.{spot_eq, stands}
use Rattle.dir_model.specs.Replies.{is_fault, may_refuse, is_late_reply}
use Rattle.dir_model.specs.declared.item.Item.{Item}
use Rattle.dir_model.proofs.Lists.{and_false, and_left, and_both, or_last, same_self, all_weaker, all_left, all_right, all_both, all_push, or_left_false, or_right_false}
use Rattle.dir_model.proofs.Spots.{spot_self}
use Rattle.dir_model.proofs.Moments.{at_within}
use Rattle.dir_trait.specs.DirCalls.{DirAt}
use Rattle.dir_rules.specs.Marks.{path_in}
use Rattle.dir_rules.specs.Rules.{root_of}
use Rattle.dir_model.proofs.Chains.{step_extends, extends_wider, nothing_yet, and_more}
use Rattle.folder_removal.specs.declared.task.Task.{Task}
use Rattle.folder_removal.specs.Tasks.{deletion_task_of, with_listed, is_dir_item, is_in_tasks, are_nested}
use Rattle.folder_removal.specs.Removal.{asks_deletion_at, inner_at, task_inner, removal_by, removal_of, is_stray_deletion, is_dir_named, spares_dir, DirectoryWasShown, IsCalledFor, WasCalledFor, ListsStray, WasStrayDeletion, WentUnasked, WentUnremoved, AsksRemoval, StrayTurn, spares_folders, lists_at, WasTaskShown, AreShown, AreAtHand, HandsOn, StrayAfter}
use Rattle.folder_removal.specs.Known.{IsListedAsTasks}
use Rattle.folder_removal.proofs.Steps.{asks_removal}
use Rattle.folder_removal.proofs.Nested.{nested_rest, last_new, nested_root, nested_with_children}

-- a refusal that is no fault
pub stray_listing : (inner : Inner) (e : DirError) → may_refuse (ListIn inner) e ≡ true → is_fault e ≡ false → is_stray_deletion (ListIn inner) (Refused e 0) ≡ true
stray_listing inner Missing may fault = refl
stray_listing inner Exists may fault = cc
stray_listing inner NotEmpty may fault = cc
stray_listing inner Locked may fault = cc
stray_listing inner Failed may fault = cc
stray_listing inner NoMemory may fault = cc

pub stray_removal : (spot : Spot) (t : Task) (e : DirError) → may_refuse (removal_of spot t) e ≡ true → is_fault e ≡ false → is_stray_deletion (removal_of spot t) (Refused e 0) ≡ true
stray_removal spot t e = by t.kind e
  where
    by : (kind : ItemKind) (e : DirError) → may_refuse (removal_by kind (task_inner spot t)) e ≡ true → is_fault e ≡ false → is_stray_deletion (removal_by kind (task_inner spot t)) (Refused e 0) ≡ true
    by item.Dir Missing may fault = refl
    by item.Dir NotEmpty may fault = refl
    by item.Dir _ may fault = cc
    by item.File Missing may fault = refl
    by item.File _ may fault = cc
    by item.Other Missing may fault = refl
    by item.Other _ may fault = cc

pub stray_folder : (spot : Spot) (e : DirError) → may_refuse (RemoveFolder spot) e ≡ true → is_fault e ≡ false → is_stray_deletion (RemoveFolder spot) (Refused e 0) ≡ true
stray_folder spot Missing may fault = refl
stray_folder spot NotEmpty may fault = refl
stray_folder spot _ may fault = cc

-- the folder's own removal was answered so after other calls
pub folder_stray : {spot : Spot} {me other : ℕ} {a b c : List Event} (e : DirError) → is_stray_deletion (RemoveFolder spot) (Refused e 0) ≡ true → Extends (asks_deletion_at spot) me a b → other ≡ me → CallStep other b (RemoveFolder spot) (Refused e 0) c → WasStrayDeletion spot me a c
folder_stray {spot} {me} {other} {a} {b} {c} e stray first same last = record {
  before = b;
  request = RemoveFolder spot;
  reply = Refused e 0;
  first = first;
  asked = spot_self spot;
  stray = stray;
  called = tt;
  last = subst (λ (p : ℕ). CallStep p b (RemoveFolder spot) (Refused e 0) c) same last;
}

pub in_time : (inner : Inner) (reply : Reply) → is_late_reply (ListIn inner) reply ≡ true → is_stray_deletion (ListIn inner) reply ≡ true → ⊥
in_time inner (Items items) late stray = cc
in_time inner (Refused Missing left) late stray = let e : false ≡ true = sym (and_false (left == 0)) ∙ late in cc
in_time inner (Refused _ left) late stray = cc
in_time inner _ late stray = cc

pub stray_list : {me : ℕ} {old new : List Event} (inner : Inner) (reply : Reply) → is_stray_deletion (ListIn inner) reply ≡ true → ListStep me old (ListIn inner) reply new → ListsStray inner me old new
stray_list {me} {old} {new} inner reply stray (inl l) =
    record { before = l.between; reply = reply; first = step_extends (lists_at inner.spot) me old (ListIn inner) _ l.between (spot_self inner.spot) l.begins; stray = stray; last = l.ends }
stray_list {me} {old} {new} inner reply stray (inr u) = absurd (in_time inner reply u.late.late stray)

-- no other removal asks that something was shown
pub removal_called : (spot : Spot) (t : Task) (reply : Reply) (me : ℕ) (old new : List Event) → IsCalledFor spot (removal_of spot t) reply me old new
removal_called spot t reply me old new = by t.kind
  where
    by : (kind : ItemKind) → IsCalledFor spot (removal_by kind (task_inner spot t)) reply me old new
    by item.Dir = tt
    by item.File = tt
    by item.Other = tt

list_called : (spot : Spot) (inner : Inner) (reply : Reply) (me : ℕ) (old new : List Event) → ((inner ≡ root_of spot) × Extends spares_folders me old new) ⊎ DirectoryWasShown inner me old new → IsCalledFor spot (ListIn inner) reply me old new
list_called spot inner (Refused Missing left) me old new c = c
list_called spot inner (Refused error left) me old new c = tt
list_called spot inner reply me old new c = tt

listing_deletes : (spot : Spot) (r : Request) → lists_at spot r ≡ true → asks_deletion_at spot r ≡ true
listing_deletes spot (ListIn inner) is = is
listing_deletes spot r is = cc

listing_spares : (spot : Spot) (r : Request) → lists_at spot r ≡ true → spares_folders r ≡ true
listing_spares spot (RemoveFolder at) is = cc
listing_spares spot r is = refl

-- nor does it ask for a directory's removal
listing_spares_dir : (inner : Inner) (spot : Spot) (r : Request) → lists_at spot r ≡ true → spares_dir inner r ≡ true
listing_spares_dir inner spot (RemoveDirIn at) is = cc
listing_spares_dir inner spot r is = refl

-- and a task's removal asks for none of another path
spares_other : (spot : Spot) (t other : Task) → bytes_eq other.path t.path ≡ false → spares_dir (task_inner spot other) (removal_of spot t) ≡ true
spares_other spot t other apart = by t.kind
  where
    by : (kind : ItemKind) → spares_dir (task_inner spot other) (removal_by kind (task_inner spot t)) ≡ true
    by item.Dir = ap (λ (b : Bool). not (spot_eq spot spot && b)) (bytes_turned other.path t.path ∙ apart) ∙ ap not (and_false (spot_eq spot spot))
    by item.File = refl
    by item.Other = refl

-- what was shown since some moment was shown since an earlier one, and was still not removed while nobody asked for that
pub shown_since : {inner : Inner} {me : ℕ} {a b c : List Event} (more : List Event) → b ≡ a ++ more → DirectoryWasShown inner me b c → DirectoryWasShown inner me a c
shown_since {inner} {me} {a} {b} {c} more ab w = record {
  before = w.before;
  step = w.step;
  later = more ++ w.later;
  begins = w.begins ∙ ap (λ (h : List Event). h ++ w.later) ab ∙ append_assoc a more w.later;
  own = w.own;
  showed = w.showed;
  spared = w.spared;
}

shown_still : {inner : Inner} {me : ℕ} {a b c : List Event} → DirectoryWasShown inner me a b → Extends (spares_dir inner) me b c → DirectoryWasShown inner me a c
shown_still {inner} {me} {a} {b} {c} w bc = record {
  before = w.before;
  step = w.step;
  later = w.later;
  begins = w.begins;
  own = w.own;
  showed = w.showed;
  spared = and_more w.spared refl bc;
}

-- a listing that was called for was answered so
pub listing_stray : {inner : Inner} {spot : Spot} {me : ℕ} {start old new : List Event} → inner.spot ≡ spot → Extends (asks_deletion_at spot) me start old → ((inner ≡ root_of spot) × Extends spares_folders me start old) ⊎ DirectoryWasShown inner me start old
    → ListsStray inner me old new → WasStrayDeletion spot me start new
listing_stray {inner} {spot} {me} {start} {old} {new} at first called l =
    let lists : Extends (lists_at spot) me old l.before = subst (λ (x : Spot). Extends (lists_at x) me old l.before) at l.first in
    record {
      before = l.before;
      request = ListIn inner;
      reply = l.reply;
      first = and_more first refl (extends_wider (listing_deletes spot) lists);
      asked = subst (λ (x : Spot). spot_eq inner.spot x ≡ true) at (spot_self inner.spot);
      stray = l.stray;
      called = list_called spot inner l.reply me start l.before (by called);
      last = l.last;
    }
  where
    by : ((inner ≡ root_of spot) × Extends spares_folders me start old) ⊎ DirectoryWasShown inner me start old → ((inner ≡ root_of spot) × Extends spares_folders me start l.before) ⊎ DirectoryWasShown inner me start l.before
    by (inl root) = inl (root.0, and_more root.1 refl (extends_wider (listing_spares inner.spot) l.first))
    by (inr w) = inr (shown_still w (extends_wider (listing_spares_dir inner inner.spot) l.first))

-- the tasks that a listing of their directory is
module _ (spot : Spot) (path : List ℕ) (items : List Item) {me : ℕ} {old new : List Event} where
  listed_at : (p : Item → Bool) → list_any p items ≡ true → (name : List ℕ) → p ≡ is_dir_named path name → ListStep me old (ListIn (inner_at spot path)) (Items items) new → DirectoryWasShown (inner_at spot name) me old new
  listed_at p any name is (inr u) = absurd (let clash : false ≡ true = u.late.late in cc)
  listed_at p any name is (inl l) = from l.ends.own
    where
      from : TookPlace l.ends.before me (ListIn (inner_at spot path)) (Items items) new ⊎ LeftNothing l.ends.before me (ListIn (inner_at spot path)) (Items items) new → DirectoryWasShown (inner_at spot name) me old new
      from (inr left) = absurd (let clash : false ≡ true = left.late in cc)
      from (inl took) =
          let first = step_extends (asks_deletion_at spot) me old (ListIn (inner_at spot path)) _ l.between (spot_self spot) l.begins in
          record {
            before = l.ends.before;
            step = event me (ListIn (inner_at spot path)) (Items items);
            later = first.more ++ l.ends.meanwhile.others;
            begins = l.ends.meanwhile.grown ∙ ap (λ (h : List Event). h ++ l.ends.meanwhile.others) first.grown ∙ append_assoc old first.more l.ends.meanwhile.others;
            own = rw (same_self me) refl;
            showed = and_both _ _ (spot_self spot) (subst (λ (q : Item → Bool). list_any q items ≡ true) is any);
            spared = subst (λ (h : List Event). Extends (spares_dir (inner_at spot name)) me (l.ends.before ++ event me (ListIn (inner_at spot path)) (Items items) ∷ []) h) (sym took.grown) nothing_yet;
          }

  shown_each : (rest : List Item) → ((p : Item → Bool) → list_any p rest ≡ true → list_any p items ≡ true) → ListStep me old (ListIn (inner_at spot path)) (Items items) new → AreShown spot (map (deletion_task_of path) rest) me old new
  shown_each [] lift s = tt
  shown_each (i ∷ rest) lift s = (
    λ unlisted. let name = path_in path i.name in listed_at (is_dir_named path name) (lift (is_dir_named path name) (or_left (is_dir_named path name i) _ (and_both (is_dir_item i.kind) _ (and_left (is_dir_item i.kind) true unlisted) (same_bytes name)))) name refl s,
    shown_each rest (λ p h. lift p (or_last (p i) (list_any p rest) h)) s,
  )

  pub listing_shown : ListStep me old (ListIn (inner_at spot path)) (Items items) new → AreShown spot (map (deletion_task_of path) items) me old new
  listing_shown s = shown_each items (λ p h. h) s

-- the tasks that are left were shown before
module _ (spot : Spot) (me : ℕ) (start old new : List Event) where
  listed_still : (tasks : List Task) → Extends (lists_at spot) me old new → AreShown spot tasks me start old → AreShown spot tasks me start new
  listed_still tasks more all = all_weaker (WasTaskShown spot me start old) (WasTaskShown spot me start new) (λ t shown unlisted. shown_still (shown unlisted) (extends_wider (listing_spares_dir (task_inner spot t) spot) more)) tasks all

  removed_still : (t : Task) (tasks : List Task) → is_in_tasks t.path tasks ≡ false → AsksRemoval spot t me old new → AreShown spot tasks me start old → AreShown spot tasks me start new
  removed_still t [] apart asked all = tt
  removed_still t (x ∷ xs) apart asked all = (
    λ unlisted. shown_still (all.0 unlisted) (step_extends (spares_dir (task_inner spot x)) me old (removal_of spot t) asked.reply new (spares_other spot t x (or_left_false (bytes_eq x.path t.path) _ apart)) asked.step),
    removed_still t xs (or_right_false (bytes_eq x.path t.path) (is_in_tasks t.path xs) apart) asked all.1,
  )

  all_since : (tasks : List Task) → Extends (asks_deletion_at spot) me start old → AreShown spot tasks me old new → AreShown spot tasks me start new
  all_since tasks first all = all_weaker (WasTaskShown spot me old new) (WasTaskShown spot me start new) (λ t shown unlisted. shown_since first.more first.grown (shown unlisted)) tasks all

-- a turn listed the last task's directory, or removed it
module _ (spot : Spot) (xs : List Task) (t : Task) (old new : DirAt) where
  pub turn_listed : (children : List Task) → Extends (lists_at spot) old.process old.trace new.trace → IsListedAsTasks spot t.path children old new → AreShown spot children old.process old.trace new.trace → HandsOn spot (xs ++ t ∷ []) ((xs ++ with_listed t ∷ []) ++ children) old new
  turn_listed children lists l shown start first hand = record {
    nested = subst (λ (ts : List Task). are_nested [] ((xs ++ with_listed t ∷ []) ++ ts) ≡ true) (sym l.are) (nested_with_children xs t hand.nested l.items l.plain l.once);
    shown = all_both (WasTaskShown spot old.process start new.trace) (xs ++ with_listed t ∷ []) children
        (all_push (WasTaskShown spot old.process start new.trace) xs (with_listed t) (listed_still spot old.process start old.trace new.trace xs lists (all_left (WasTaskShown spot old.process start old.trace) xs (t ∷ []) hand.shown))
        (λ unlisted. let clash : false ≡ true = sym (and_false (is_dir_item t.kind)) ∙ unlisted in cc))
        (all_since spot old.process start old.trace new.trace children first shown);
  }

  pub turn_removed : AsksRemoval spot t old.process old.trace new.trace → HandsOn spot (xs ++ t ∷ []) xs old new
  turn_removed asked start first hand = record {
    nested = nested_rest xs t hand.nested;
    shown = removed_still spot old.process start old.trace new.trace t xs (last_new xs t hand.nested) asked (all_left (WasTaskShown spot old.process start old.trace) xs (t ∷ []) hand.shown);
  }

-- a listing of the folder itself
pub root_at_hand : {old new : DirAt} (spot : Spot) (tasks : List Task) → IsListedAsTasks spot [] tasks old new → AreShown spot tasks old.process old.trace new.trace → AreAtHand spot tasks old.process old.trace new.trace
root_at_hand spot tasks l shown = record { nested = subst (λ (ts : List Task). are_nested [] ts ≡ true) (sym l.are) (nested_root l.items l.plain l.once); shown = shown }

-- one turn after others
module _ (spot : Spot) (a b c : DirAt) (same : b.process ≡ a.process) (ab : Extends (asks_deletion_at spot) a.process a.trace b.trace) where
  pub hands_more : (xs ys zs : List Task) → HandsOn spot xs ys a b → HandsOn spot ys zs b c → HandsOn spot xs zs a c
  hands_more xs ys zs f g start first hand =
      subst (λ (p : ℕ). AreAtHand spot zs p start c.trace) same
      (g start (subst (λ (p : ℕ). Extends (asks_deletion_at spot) p start b.trace) (sym same) (and_more first refl ab)) (subst (λ (p : ℕ). AreAtHand spot ys p start b.trace) (sym same) (f start first hand)))

  pub stray_more : (xs ys : List Task) (t : Task) → HandsOn spot xs (ys ++ t ∷ []) a b → StrayTurn spot t b.process b.trace c.trace → StrayAfter spot xs a c
  stray_more xs ys t f stray start first hand = by (subst (λ (p : ℕ). StrayTurn spot t p b.trace c.trace) same stray)
    where
      shown : AreShown spot (t ∷ []) a.process start b.trace
      shown = all_right (WasTaskShown spot a.process start b.trace) ys (t ∷ []) (f start first hand).shown

      by : StrayTurn spot t a.process b.trace c.trace → WasStrayDeletion spot a.process start c.trace
      by (inl x) = listing_stray refl (and_more first refl ab) (inr (shown.0 x.0)) x.1
      by (inr w) = record {
        before = b.trace;
        request = removal_of spot t;
        reply = w.reply;
        first = and_more first refl ab;
        asked = asks_removal spot t;
        stray = w.stray;
        called = removal_called spot t w.reply a.process start b.trace;
        last = w.last;
      }

  pub stray_emptied : (tasks : List Task) → AreAtHand spot tasks a.process a.trace b.trace → StrayAfter spot tasks b c → WasStrayDeletion spot a.process a.trace c.trace
  stray_emptied tasks hand stray =
      subst (λ (p : ℕ). WasStrayDeletion spot p a.trace c.trace) same
      (stray a.trace (subst (λ (p : ℕ). Extends (asks_deletion_at spot) p a.trace b.trace) (sym same) ab) (subst (λ (p : ℕ). AreAtHand spot tasks p a.trace b.trace) (sym same) hand))

-- that a listing was called for is known of longer times too
went_within : {spot : Spot} {me : ℕ} {a b c d : List Event} (more rest : List Event) → b ≡ a ++ more → d ≡ c ++ rest → WentUnasked spot me b c → WentUnasked spot me a d
went_within {spot} {me} {a} {b} {c} {d} more rest ab cd w = record {
  between = w.between;
  before = w.before;
  after = w.after;
  rest = w.rest ++ rest;
  left = w.left;
  stood = at_within more [] ab (sym (append-nil w.between)) w.stood;
  spared = w.spared;
  missed = w.missed;
  ends = cd ∙ ap (λ (h : List Event). h ++ rest) w.ends ∙ append_assoc w.after w.rest rest;
}

pub unremoved_within : {inner : Inner} {me : ℕ} {a b c d : List Event} (more rest : List Event) → b ≡ a ++ more → d ≡ c ++ rest → WentUnremoved inner me b c → WentUnremoved inner me a d
unremoved_within {inner} {me} {a} {b} {c} {d} more rest ab cd w = record {
  before = w.before;
  after = w.after;
  rest = w.rest ++ rest;
  left = w.left;
  shown = shown_since more ab w.shown;
  missed = w.missed;
  ends = cd ∙ ap (λ (h : List Event). h ++ rest) w.ends ∙ append_assoc w.after w.rest rest;
}

-- by the call that was answered so
pub unremoved_at : {inner : Inner} {me : ℕ} {old before new : List Event} (left : ℕ) → DirectoryWasShown inner me old before → CallStep me before (ListIn inner) (Refused Missing left) new → WentUnremoved inner me old new
unremoved_at {before = before} {new} left shown last = record { before = before; after = new; rest = []; left = left; shown = shown; missed = last; ends = sym (append-nil new) }

pub called_within : (request : Request) (reply : Reply) (me : ℕ) (a b c d more rest : List Event) → b ≡ a ++ more → d ≡ c ++ rest → WasCalledFor request reply me b c → WasCalledFor request reply me a d
called_within (ListIn inner) (Refused Missing left) me a b c d more rest ab cd (inl root) = inl (root.0, went_within more rest ab cd root.1)
called_within (ListIn inner) (Refused Missing left) me a b c d more rest ab cd (inr went) = inr (unremoved_within more rest ab cd went)
called_within (ListIn inner) (Refused error left) me a b c d more rest ab cd called = tt
called_within (ListIn inner) reply me a b c d more rest ab cd called = tt
called_within request reply me a b c d more rest ab cd called = tt

-- where the folder stood there before
module _ (spot : Spot) (me : ℕ) (old mid before new first : List Event) (begins : mid ≡ old ++ first) (stood : AtOwnStep me old mid (λ s. stands s.namespace spot ≡ true)) where
  stood_called : (request : Request) (reply : Reply) → IsCalledFor spot request reply me mid before → CallStep me before request reply new → WasCalledFor request reply me old new
  stood_called (ListIn inner) (Refused Missing left) (inl root) last =
      let at : inner.spot ≡ spot = ap (λ (i : Inner). i.spot) root.0 in
      let whole : inner ≡ root_of inner.spot = root.0 ∙ ap root_of (sym at) in
      inl (
        whole,
        record {
          between = mid;
          before = before;
          after = new;
          rest = [];
          left = left;
          stood = subst (λ (x : Spot). AtOwnStep me old mid (λ s. stands s.namespace x ≡ true)) (sym at) stood;
          spared = root.1;
          missed = subst (λ (i : Inner). CallStep me before (ListIn i) (Refused Missing left) new) whole last;
          ends = sym (append-nil new);
        },
      )
  stood_called (ListIn inner) (Refused Missing left) (inr shown) last = inr (unremoved_at left (shown_since first begins shown) last)
  stood_called (ListIn inner) (Refused error left) called last = tt
  stood_called (ListIn inner) reply called last = tt
  stood_called request reply called last = tt

pub stray_called : {spot : Spot} {me : ℕ} {mid new : List Event} (old first : List Event) → mid ≡ old ++ first → AtOwnStep me old mid (λ s. stands s.namespace spot ≡ true) → (w : WasStrayDeletion spot me mid new) → WasCalledFor w.request w.reply me old new
stray_called {spot} {me} {mid} {new} old first begins stood w = stood_called spot me old mid w.before new first begins stood w.request w.reply w.called w.last
