-- What a listing and a removal leave known.
use Rattle.std.proofs.Common.{◌≡◌, ℕ, Bool, true, false, not, ◌&&◌, ◌||◌, cond, bytes_eq, List, [], ◌∷◌, ◌++◌, map, filter, Result, Ok, Err, refl, sym, ap, subst, ◌∙◌, append_assoc, append-nil}
use Rattle.std.specs.List.{list_any, list_all}
use Rattle.std.proofs.lemmas.List.{map-append}
use Rattle.std.proofs.lemmas.List.Elements.{filter-append}
use Rattle.std.proofs.lemmas.List.Folds.{list_any-append, list_all-append}
use Rattle.std.proofs.lemmas.Bool.{or_left, or_right}
use Rattle.plain_laws.proofs.Lists.{filter_twice, filter_kept}
use Rattle.dir_model.specs.declared.area.Area.{Area}
use Rattle.dir_model.specs.declared.area.Area.TheVariants.{Images}
use Rattle.dir_model.specs.declared.spot.Spot.{Spot}
use Rattle.dir_model.specs.declared.item.Inner.{Inner}
use Rattle.dir_model.specs.declared.item.Item.{Item}
use Rattle.dir_model.specs.declared.item.ItemKind.{ItemKind}
use Rattle.dir_model.specs.declared.item.ItemKind.TheVariants as item
use Rattle.dir_model.specs.declared.request.DirError.{DirError}
use Rattle.dir_model.specs.declared.request.Request.{Request}
use Rattle.dir_model.specs.declared.request.Request.TheVariants.{ListIn, RemoveFolder}
use Rattle.dir_model.specs.declared.request.Reply.TheVariants.{Done, Begun, Items, Refused}
use Rattle.dir_model.specs.Paths.{is_empty}
use Rattle.dir_model.specs.State.{spot_eq}
use Rattle.dir_model.specs.Replies.{items_reply, done_reply}
use Rattle.dir_model.proofs.Lists.{and_left, and_right, and_both, any_last, any_fewer, or_none}
use Rattle.dir_model.proofs.Spots.{spot_self}
use Rattle.dir_rules.specs.declared.seen.Seen.{Seen}
use Rattle.dir_rules.specs.declared.seen.ShownItem.{ShownItem}
use Rattle.dir_rules.specs.Marks.{parent}
use Rattle.dir_rules.specs.Seen.{inner_eq, shown_in, is_item_at, is_item_in, with_items, listed_created, forget_listed, forget_items, moved_away}
use Rattle.dir_rules.specs.LockRules.{may_remove}
use Rattle.dir_rules.specs.Rules.{allows, root_of, may_read_area, is_file_item, is_item_shown, is_emptied}
use Rattle.dir_rules.specs.Conforms.{seen_replied, seen_listed}
use Rattle.dir_laws.proofs.Spots.{inner_self}
use Rattle.folder_removal.specs.declared.task.Task.{Task}
use Rattle.folder_removal.specs.Tasks.{deletion_task_of, with_listed, is_dir_item, is_unlisted, has_plain_name, are_distinct, is_in_tasks, are_nested}
use Rattle.folder_removal.specs.Removal.{is_removal_area, asks_deletion_at, task_inner, removal_by, removal_of}
use Rattle.folder_removal.specs.Known.{task_shown_at, is_there, OnlyThere, MayDelete, has_listed, IsDeletionUnderWay, ForgetsFolder}
use Rattle.folder_removal.proofs.Nested.{nested-append, nested_rest, last_new, last_childless, nested_listed, nested_children, all_new, is_known, is_childless}

filter_none : {X Y : Type 0} (p : X → Bool) (f : Y → X) → ((y : Y) → p (f y) ≡ false) → (ys : List Y) → filter p (map f ys) ≡ []
filter_none p f none [] = refl
filter_none p f none (y ∷ ys) = rw (none y) (filter_none p f none ys)

any_mapped : {X Y : Type 0} (p : X → Bool) (q : Y → Bool) (f : Y → X) → ((y : Y) → p (f y) ≡ q y) → (ys : List Y) → list_any p (map f ys) ≡ list_any q ys
any_mapped p q f same [] = refl
any_mapped p q f same (y ∷ ys) = rw (same y, any_mapped p q f same ys) refl

all_more : {X : Type 0} (p q : X → Bool) → ((x : X) → p x ≡ true → q x ≡ true) → (xs : List X) → list_all p xs ≡ true → list_all q xs ≡ true
all_more p q more [] h = refl
all_more p q more (x ∷ xs) h = and_both (q x) (list_all q xs) (more x (and_left (p x) (list_all p xs) h)) (all_more p q more xs (and_right (p x) (list_all p xs) h))

-- looking is allowed there
looks : (s : Seen) (area : Area) → is_removal_area area ≡ true → may_read_area s area ≡ true
looks s Images h = cc
looks s _ h = refl

-- what was known at other spots stays
not_both : (a b : Bool) → not a ≡ true → not (a && b) ≡ true
not_both true b h = cc
not_both false b h = refl

module _ (spot : Spot) (path : List ℕ) where
  abbrev there : Inner
  there = record { spot = spot; path = path }

  abbrev other : ShownItem → Bool
  other i = not (spot_eq i.inner.spot spot)

  abbrev other_place : Inner → Bool
  other_place l = not (spot_eq l.spot spot)

  item_forgets : (items : List ShownItem) → forget_items spot (filter (λ i. not (is_item_at there i)) items) ≡ forget_items spot items
  item_forgets items = filter_twice other (λ i. not (is_item_at there i)) (λ i h. not_both (spot_eq i.inner.spot spot) (bytes_eq i.inner.path path) h) items

  items_forget : (new : List Item) (items : List ShownItem) → forget_items spot (with_items there new items) ≡ forget_items spot items
  items_forget new items =
      filter-append other (filter (λ i. not (is_item_in there i)) items) (map (shown_in there) new)
      ∙ ap (λ (l : List ShownItem). filter other (filter (λ i. not (is_item_in there i)) items) ++ l) (filter_none other (shown_in there) (λ i. ap not (spot_self spot)) new)
      ∙ append-nil (filter other (filter (λ i. not (is_item_in there i)) items))
      ∙ filter_twice other (λ i. not (is_item_in there i)) (λ i h. not_both (spot_eq i.inner.spot spot) (bytes_eq (parent i.inner.path) path) h) items

  listing_forgets : (ls : List Inner) → forget_listed spot (there ∷ ls) ≡ forget_listed spot ls
  listing_forgets ls = ap (λ (b : Bool). cond (not b) (there ∷ filter other_place ls) (filter other_place ls)) (spot_self spot)

pub only_same : (spot : Spot) (s : Seen) → OnlyThere spot s s
only_same spot s = record { listed = refl; items = refl; same = refl }

pub only_more : {spot : Spot} {a b c : Seen} → OnlyThere spot a b → OnlyThere spot b c → OnlyThere spot a c
only_more {spot} {a} {b} {c} ab bc = record {
  listed = bc.listed ∙ ab.listed;
  items = bc.items ∙ ab.items;
  same = bc.same ∙ ap (λ (x : Seen). let r : Seen = record x { listed = c.listed; items = c.items; created = c.created } in r) ab.same;
}

-- a listing
module _ (spot : Spot) (path : List ℕ) (s : Seen) (area : is_removal_area spot.area ≡ true) where
  abbrev at : Inner
  at = record { spot = spot; path = path }

  abbrev asked : Request
  asked = ListIn at

  abbrev after_listing : Bool → List Item → Seen
  after_listing locked items = record s { listed = cond locked (at ∷ s.listed) s.listed; items = cond locked (with_items at items s.items) s.items; created = listed_created at items s.created }

  begun : seen_replied s asked Begun ≡ s
  begun = ap (λ (b : Bool). let r : Seen = record s { kept = b && s.kept } in r) (looks s spot.area area)

  pub listing_is : (items : List Item) → seen_listed s asked (Items items) ≡ after_listing (may_remove s.standing spot) items
  listing_is items = ap (λ (x : Seen). seen_replied x asked (Items items)) begun ∙ ap (λ (b : Bool). let r : Seen = record (after_listing (may_remove s.standing spot) items) { kept = b && s.kept } in r) (looks s spot.area area)

  refusal_is : (error : DirError) → seen_listed s asked (Refused error 0) ≡ s
  refusal_is error = ap (λ (x : Seen). seen_replied x asked (Refused error 0)) begun ∙ ap (λ (b : Bool). let r : Seen = record s { kept = b && s.kept } in r) (looks s spot.area area)

  only_after : (locked : Bool) (items : List Item) → OnlyThere spot s (after_listing locked items)
  only_after true items = record { listed = listing_forgets spot path s.listed; items = items_forget spot path items s.items; same = refl }
  only_after false items = record { listed = refl; items = refl; same = refl }

  pub only_listed : (r : Result (List Item) DirError) → OnlyThere spot s (seen_listed s asked (items_reply r))
  only_listed (Ok items) = subst (λ (x : Seen). OnlyThere spot s x) (sym (listing_is items)) (only_after (may_remove s.standing spot) items)
  only_listed (Err error) = subst (λ (x : Seen). OnlyThere spot s x) (sym (refusal_is error)) (only_same spot s)

-- a removal that is allowed
module _ (spot : Spot) (t : Task) (s : Seen) where
  abbrev after_removal : Seen
  after_removal = record s { items = filter (λ i. not (is_item_at (task_inner spot t) i)) s.items }

  pub removal_is : allows s (removal_of spot t) ≡ true → seen_replied s (removal_of spot t) Done ≡ after_removal
  removal_is may = by t.kind may
    where
      kept : (b : Bool) → b ≡ true → (let r : Seen = record after_removal { kept = b && s.kept } in r) ≡ after_removal
      kept b h = ap (λ (b : Bool). let r : Seen = record after_removal { kept = b && s.kept } in r) h

      by : (kind : ItemKind) → allows s (removal_by kind (task_inner spot t)) ≡ true → seen_replied s (removal_by kind (task_inner spot t)) Done ≡ after_removal
      by item.Dir may = kept _ may
      by item.File may = kept _ may
      by item.Other may = kept _ may

  not_removal : (error : DirError) → allows s (removal_of spot t) ≡ true → seen_replied s (removal_of spot t) (Refused error 0) ≡ s
  not_removal error may = by t.kind may
    where
      kept : (b : Bool) → b ≡ true → (let r : Seen = record s { kept = b && s.kept } in r) ≡ s
      kept b h = ap (λ (b : Bool). let r : Seen = record s { kept = b && s.kept } in r) h

      by : (kind : ItemKind) → allows s (removal_by kind (task_inner spot t)) ≡ true → seen_replied s (removal_by kind (task_inner spot t)) (Refused error 0) ≡ s
      by item.Dir may = kept _ may
      by item.File may = kept _ may
      by item.Other may = kept _ may

  pub only_removed : (r : Result (Unit {0}) DirError) → allows s (removal_of spot t) ≡ true → OnlyThere spot s (seen_replied s (removal_of spot t) (done_reply r))
  only_removed (Ok done) may = subst (λ (x : Seen). OnlyThere spot s x) (sym (removal_is may)) (record { listed = refl; items = item_forgets spot t.path s.items; same = refl })
  only_removed (Err error) may = subst (λ (x : Seen). OnlyThere spot s x) (sym (not_removal error may)) (only_same spot s)

-- before a listing
pub record IsReady (spot : Spot) (d : List ℕ) (tasks : List Task) (s : Seen) : Type 0 where
  pub others : List ShownItem
  pub apart : list_any (is_there spot) others ≡ false
  pub items : s.items ≡ others ++ map (task_shown_at spot) tasks
  pub lock : may_remove s.standing spot ≡ true
  pub nested : are_nested [] tasks ≡ true
  pub known : (is_empty d || is_in_tasks d tasks) ≡ true
  pub childless : list_any (λ e. bytes_eq (parent e.path) d) tasks ≡ false
  pub root : list_any (inner_eq (root_of spot)) (record { spot = spot; path = d } ∷ s.listed) ≡ true
  pub listed : list_all (has_listed spot (record { spot = spot; path = d } ∷ s.listed)) tasks ≡ true

shown_children : (spot : Spot) (d : List ℕ) (items : List Item) → map (task_shown_at spot) (map (deletion_task_of d) items) ≡ map (shown_in (record { spot = spot; path = d })) items
shown_children spot d [] = refl
shown_children spot d (i ∷ is) = ap (λ (l : List ShownItem). shown_in (record { spot = spot; path = d }) i ∷ l) (shown_children spot d is)

new_listed : (spot : Spot) (ls : List Inner) (d : List ℕ) (items : List Item) → list_all (has_listed spot ls) (map (deletion_task_of d) items) ≡ true
new_listed spot ls d [] = refl
new_listed spot ls d (i ∷ is) = new_listed spot ls d is

-- what stands in a directory of the folder was shown in the folder
apart_in : (spot : Spot) (path : List ℕ) (others : List ShownItem) → list_any (is_there spot) others ≡ false → list_any (is_item_in (record { spot = spot; path = path })) others ≡ false
apart_in spot path others apart = any_fewer (is_item_in (record { spot = spot; path = path })) (is_there spot) (λ i h. and_left (spot_eq i.inner.spot spot) (bytes_eq (parent i.inner.path) path) h) others apart

apart_at : (spot : Spot) (path : List ℕ) (others : List ShownItem) → list_any (is_there spot) others ≡ false → list_any (is_item_at (record { spot = spot; path = path })) others ≡ false
apart_at spot path others apart = any_fewer (is_item_at (record { spot = spot; path = path })) (is_there spot) (λ i h. and_left (spot_eq i.inner.spot spot) (bytes_eq i.inner.path path) h) others apart

-- the tasks that stand in a directory
shown_within : (spot : Spot) (path : List ℕ) (ts : List Task) → list_any (is_item_in (record { spot = spot; path = path })) (map (task_shown_at spot) ts) ≡ list_any (λ e. bytes_eq (parent e.path) path) ts
shown_within spot path ts = any_mapped (is_item_in (record { spot = spot; path = path })) (λ e. bytes_eq (parent e.path) path) (task_shown_at spot) (λ e. ap (λ (b : Bool). b && bytes_eq (parent e.path) path) (spot_self spot)) ts

module _ (spot : Spot) (d : List ℕ) (tasks : List Task) (items : List Item) (s : Seen) (area : is_removal_area spot.area ≡ true) (r : IsReady spot d tasks s) (plain : list_all has_plain_name items ≡ true) (once : are_distinct items ≡ true) where
  abbrev dir_at : Inner
  dir_at = record { spot = spot; path = d }

  none_there : list_any (is_item_in dir_at) s.items ≡ false
  none_there = ap (list_any (is_item_in dir_at)) r.items ∙ list_any-append (is_item_in dir_at) r.others (map (task_shown_at spot) tasks) ∙ or_none _ _ (apart_in spot d r.others r.apart) (shown_within spot d tasks ∙ r.childless)

  worked : IsDeletionUnderWay spot (tasks ++ map (deletion_task_of d) items) (after_listing spot d s area true items)
  worked = record {
    others = r.others;
    apart = r.apart;
    items = ap (λ (l : List ShownItem). l ++ map (shown_in dir_at) items) (filter_kept (is_item_in dir_at) s.items none_there ∙ r.items)
        ∙ append_assoc r.others (map (task_shown_at spot) tasks) (map (shown_in dir_at) items)
        ∙ ap (λ (l : List ShownItem). r.others ++ l) (ap (λ (l : List ShownItem). map (task_shown_at spot) tasks ++ l) (sym (shown_children spot d items)) ∙ sym (map-append (task_shown_at spot) tasks (map (deletion_task_of d) items)));
    lock = r.lock;
    nested = nested-append [] tasks (map (deletion_task_of d) items) ∙ and_both _ _ r.nested (nested_children d tasks items r.known plain once (all_new d tasks items plain r.childless));
    root = r.root;
    listed = list_all-append (has_listed spot (dir_at ∷ s.listed)) tasks (map (deletion_task_of d) items) ∙ and_both _ _ r.listed (new_listed spot (dir_at ∷ s.listed) d items);
  }

  pub after_list : IsDeletionUnderWay spot (tasks ++ map (deletion_task_of d) items) (seen_listed s (ListIn dir_at) (Items items))
  after_list = subst (λ (x : Seen). IsDeletionUnderWay spot (tasks ++ map (deletion_task_of d) items) x) (sym (listing_is spot d s area items ∙ ap (λ (b : Bool). after_listing spot d s area b items) r.lock)) worked

-- before the first listing
pub ready_at_root : {spot : Spot} {s : Seen} → MayDelete spot s → IsReady spot [] [] s
ready_at_root {spot} {s} m = record {
  others = s.items;
  apart = m.bare;
  items = sym (append-nil s.items);
  lock = m.lock;
  nested = refl;
  known = refl;
  childless = refl;
  root = or_left _ _ (inner_self (root_of spot));
  listed = refl;
}

-- and before that of the last task
module _ (spot : Spot) (xs : List Task) (t : Task) (s : Seen) (w : IsDeletionUnderWay spot (xs ++ t ∷ []) s) where
  more_listed : (e : Task) → has_listed spot s.listed e ≡ true → has_listed spot (task_inner spot t ∷ s.listed) e ≡ true
  more_listed e h = by (not e.listed) (inner_eq (task_inner spot e) (task_inner spot t)) h
    where
      by : (a b : Bool) → (a || list_any (inner_eq (task_inner spot e)) s.listed) ≡ true → (a || (b || list_any (inner_eq (task_inner spot e)) s.listed)) ≡ true
      by true b h = refl
      by false true h = refl
      by false false h = h

  pub ready_at : IsReady spot t.path (xs ++ with_listed t ∷ []) s
  ready_at = record {
    others = w.others;
    apart = w.apart;
    items = w.items ∙ ap (λ (l : List ShownItem). w.others ++ l) (map-append (task_shown_at spot) xs (t ∷ []) ∙ sym (map-append (task_shown_at spot) xs (with_listed t ∷ [])));
    lock = w.lock;
    nested = nested_listed xs t w.nested;
    known = is_known xs t w.nested;
    childless = is_childless xs t w.nested;
    root = or_right (inner_eq (root_of spot) (task_inner spot t)) _ w.root;
    listed = list_all-append (has_listed spot (task_inner spot t ∷ s.listed)) xs (with_listed t ∷ [])
        ∙ and_both _ _
        (all_more (has_listed spot s.listed) (has_listed spot (task_inner spot t ∷ s.listed)) more_listed xs (and_left _ _ (sym (list_all-append (has_listed spot s.listed) xs (t ∷ [])) ∙ w.listed)))
        (and_both _ true (or_left _ _ (inner_self (task_inner spot t))) refl);
  }

  -- the last task's removal
  last_shown : s.items ≡ (w.others ++ map (task_shown_at spot) xs) ++ task_shown_at spot t ∷ []
  last_shown = w.items ∙ ap (λ (l : List ShownItem). w.others ++ l) (map-append (task_shown_at spot) xs (t ∷ [])) ∙ sym (append_assoc w.others (map (task_shown_at spot) xs) (task_shown_at spot t ∷ []))

  pub shown_as : (test : ItemKind → Bool) → test t.kind ≡ true → is_item_shown test (task_inner spot t) s.items ≡ true
  shown_as test is = ap (list_any (λ i. is_item_at (task_inner spot t) i && test i.kind)) last_shown ∙ any_last (λ i. is_item_at (task_inner spot t) i && test i.kind) (w.others ++ map (task_shown_at spot) xs) (task_shown_at spot t) (and_both _ _ (inner_self (task_inner spot t)) is)

  was_listed : t.listed ≡ true → list_any (inner_eq (task_inner spot t)) s.listed ≡ true
  was_listed yes_listed = by t.listed yes_listed (and_left _ true (and_right _ _ (sym (list_all-append (has_listed spot s.listed) xs (t ∷ [])) ∙ w.listed)))
    where
      by : (b : Bool) → b ≡ true → (not b || list_any (inner_eq (task_inner spot t)) s.listed) ≡ true → list_any (inner_eq (task_inner spot t)) s.listed ≡ true
      by true is h = h
      by false is h = cc

  is_bare : list_any (is_item_in (task_inner spot t)) s.items ≡ false
  is_bare = ap (list_any (is_item_in (task_inner spot t))) w.items ∙ list_any-append (is_item_in (task_inner spot t)) w.others (map (task_shown_at spot) (xs ++ t ∷ [])) ∙ or_none _ _ (apart_in spot t.path w.others w.apart) (shown_within spot t.path (xs ++ t ∷ []) ∙ last_childless xs t w.nested)

  pub may_remove_task : is_unlisted t ≡ false → allows s (removal_of spot t) ≡ true
  may_remove_task done = by t.kind refl
    where
      listed_dir : (kind : ItemKind) → t.kind ≡ kind → is_dir_item kind ≡ true → t.listed ≡ true
      listed_dir kind is dir = flag t.listed (ap (λ (k : ItemKind). is_dir_item k && not t.listed) (sym is) ∙ done) dir
        where
          flag : (b : Bool) → (is_dir_item kind && not b) ≡ false → is_dir_item kind ≡ true → b ≡ true
          flag true h dir = refl
          flag false h dir = let e : (true && true) ≡ false = subst (λ (x : Bool). (x && true) ≡ false) dir h in cc

      by : (kind : ItemKind) → t.kind ≡ kind → allows s (removal_by kind (task_inner spot t)) ≡ true
      by item.Dir is =
          and_both (may_remove s.standing spot) (is_item_shown (λ k. not (is_file_item k)) (task_inner spot t) s.items && is_emptied s (task_inner spot t)) w.lock
          (and_both (is_item_shown (λ k. not (is_file_item k)) (task_inner spot t) s.items) (is_emptied s (task_inner spot t)) (shown_as (λ k. not (is_file_item k)) (ap (λ (k : ItemKind). not (is_file_item k)) is))
          (and_both (list_any (inner_eq (task_inner spot t)) s.listed) (not (list_any (is_item_in (task_inner spot t)) s.items)) (was_listed (listed_dir item.Dir is refl)) (ap not is_bare)))
      by item.File is = and_both (may_remove s.standing spot) (is_item_shown is_file_item (task_inner spot t) s.items) w.lock (shown_as is_file_item (ap is_file_item is))
      by item.Other is = and_both (may_remove s.standing spot) (is_item_shown is_file_item (task_inner spot t) s.items) w.lock (shown_as is_file_item (ap is_file_item is))

  abbrev elsewhere : ShownItem → Bool
  elsewhere i = not (is_item_at (task_inner spot t) i)

  none_left_at : list_any (is_item_at (task_inner spot t)) (w.others ++ map (task_shown_at spot) xs) ≡ false
  none_left_at = list_any-append (is_item_at (task_inner spot t)) w.others (map (task_shown_at spot) xs) ∙ or_none _ _ (apart_at spot t.path w.others w.apart)
      (any_mapped (is_item_at (task_inner spot t)) (λ e. bytes_eq e.path t.path) (task_shown_at spot) (λ e. ap (λ (b : Bool). b && bytes_eq e.path t.path) (spot_self spot)) xs ∙ last_new xs t w.nested)

  only_it : filter elsewhere s.items ≡ w.others ++ map (task_shown_at spot) xs
  only_it = ap (filter elsewhere) last_shown
      ∙ filter-append elsewhere (w.others ++ map (task_shown_at spot) xs) (task_shown_at spot t ∷ [])
      ∙ ap (λ (b : Bool). filter elsewhere (w.others ++ map (task_shown_at spot) xs) ++ cond (not b) (task_shown_at spot t ∷ []) []) (inner_self (task_inner spot t))
      ∙ append-nil (filter elsewhere (w.others ++ map (task_shown_at spot) xs))
      ∙ filter_kept (is_item_at (task_inner spot t)) (w.others ++ map (task_shown_at spot) xs) none_left_at

  removed : IsDeletionUnderWay spot xs (after_removal spot t s)
  removed = record {
    others = w.others;
    apart = w.apart;
    items = only_it;
    lock = w.lock;
    nested = nested_rest xs t w.nested;
    root = w.root;
    listed = and_left _ _ (sym (list_all-append (has_listed spot s.listed) xs (t ∷ [])) ∙ w.listed);
  }

  pub after_remove : is_unlisted t ≡ false → IsDeletionUnderWay spot xs (seen_replied s (removal_of spot t) Done)
  after_remove done = subst (λ (x : Seen). IsDeletionUnderWay spot xs x) (sym (removal_is spot t s (may_remove_task done))) removed

-- at the end
module _ (spot : Spot) (s : Seen) (w : IsDeletionUnderWay spot [] s) where
  emptied : list_any (is_item_in (root_of spot)) s.items ≡ false
  emptied = ap (list_any (is_item_in (root_of spot))) (w.items ∙ append-nil w.others) ∙ apart_in spot [] w.others w.apart

  may_remove_folder : allows s (RemoveFolder spot) ≡ true
  may_remove_folder = and_both (may_remove s.standing spot) (is_emptied s (root_of spot)) w.lock (and_both (list_any (inner_eq (root_of spot)) s.listed) (not (list_any (is_item_in (root_of spot)) s.items)) w.root (ap not emptied))

  abbrev without : Seen
  without = record s { listed = forget_listed spot s.listed; items = forget_items spot s.items; areas = map (moved_away spot) s.areas; put_away = filter (λ p. not (spot_eq p spot)) s.put_away }

  pub folder_gone : {old : Seen} → OnlyThere spot old s → ForgetsFolder spot old (seen_replied s (RemoveFolder spot) Done)
  folder_gone {old} o = record {
    created = s.created;
    same = ap (λ (b : Bool). let r : Seen = record without { kept = b && s.kept } in r) may_remove_folder
        ∙ ap (λ (l : List Inner). let r : Seen = record without { listed = l } in r) o.listed
        ∙ ap (λ (l : List ShownItem). let r : Seen = record without { listed = forget_listed spot old.listed; items = l } in r) o.items
        ∙ ap (λ (x : Seen). let r : Seen = record x { listed = forget_listed spot old.listed; items = forget_items spot old.items; areas = map (moved_away spot) x.areas; put_away = filter (λ p. not (spot_eq p spot)) x.put_away; created = s.created } in r) o.same;
  }

  pub only_folder : (error : DirError) → OnlyThere spot s (seen_replied s (RemoveFolder spot) (Refused error 0))
  only_folder error = subst (λ (x : Seen). OnlyThere spot s x) (sym (ap (λ (b : Bool). let r : Seen = record s { kept = b && s.kept } in r) may_remove_folder)) (only_same spot s)

-- what is asked for
pub asks_listing : (spot : Spot) (path : List ℕ) → asks_deletion_at spot (ListIn (record { spot = spot; path = path })) ≡ true
asks_listing spot path = spot_self spot

pub asks_removal : (spot : Spot) (t : Task) → asks_deletion_at spot (removal_of spot t) ≡ true
asks_removal spot t = by t.kind
  where
    by : (kind : ItemKind) → asks_deletion_at spot (removal_by kind (task_inner spot t)) ≡ true
    by item.Dir = spot_self spot
    by item.File = spot_self spot
    by item.Other = spot_self spot
