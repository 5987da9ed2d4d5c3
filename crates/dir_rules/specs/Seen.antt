-- What a process knows by its own answers, as far as the rules ask for it.
use Rattle.std.specs.Prelude.{ℕ, Bool, true, false, not, ◌&&◌, cond, bytes_eq, nat_le, Option, Some, None, option_map, List, [], ◌∷◌, ◌++◌, map, filter}
use Rattle.dir_model.specs.declared.area.Area.{Area}
use Rattle.dir_model.specs.declared.area.Area.TheVariants.{Embryo, Prepare, Run, Incoming, Removed}
use Rattle.dir_model.specs.declared.intent.Intent.{Intent}
use Rattle.dir_model.specs.declared.item.Inner.{Inner}
use Rattle.dir_model.specs.declared.item.Item.{Item}
use Rattle.dir_model.specs.declared.spot.Spot.{Spot}
use Rattle.dir_model.specs.declared.spot.Handle.{Handle}
use Rattle.dir_model.specs.declared.tree.TreeNode.{TreeNode}
use Rattle.dir_model.specs.declared.tree.TreeNode.TheVariants.{Dir, Piece}
use Rattle.dir_model.specs.declared.request.DirError.{DirError}
use Rattle.dir_model.specs.declared.request.DirError.TheVariants.{Exists}
use Rattle.dir_model.specs.declared.request.Request.{Request}
use Rattle.dir_model.specs.declared.request.Request.TheVariants.{MakeFolder, MoveFolder, Close, ListArea, ListIn, MakeDirIn, MakeFileIn, AppendIn, SyncIn, RemoveFileIn, RemoveDirIn, RemoveFolder, Finish}
use Rattle.dir_model.specs.declared.request.Reply.{Reply}
use Rattle.dir_model.specs.declared.request.Reply.TheVariants.{Done, Names, Items, Refused}
use Rattle.dir_model.specs.Areas.{is_stage}
use Rattle.dir_model.specs.Paths.{is_empty}
use Rattle.dir_model.specs.State.{spot_eq}
use Rattle.dir_rules.specs.declared.standing.Held.{Held}
use Rattle.dir_rules.specs.declared.seen.Making.{Making}
use Rattle.dir_rules.specs.declared.seen.Created.{Created}
use Rattle.dir_rules.specs.declared.seen.ShownItem.{ShownItem}
use Rattle.dir_rules.specs.declared.seen.ShownArea.{ShownArea}
use Rattle.dir_rules.specs.declared.seen.Seen.{Seen}
use Rattle.dir_rules.specs.Marks.{parent, path_in, marked_mark, created_moment}
use Rattle.dir_rules.specs.Standing.{is_in, is_gate_shared, is_gate_exclusive, shares_area, excludes_area, has_place, gives_up}
use Rattle.dir_rules.specs.LockRules.{is_removal_held, may_remove}

-- the two are one path
abbrev pub inner_eq : Inner → Inner → Bool
inner_eq a b = spot_eq a.spot b.spot && bytes_eq a.path b.path

-- what was listed under a lock, once a handle is given up
abbrev pub still_listed : Handle → List Held → List Inner → List Inner
still_listed handle hs seen_after_listing = filter (λ inner. not (gives_up (is_removal_held inner.spot) handle hs)) seen_after_listing

-- the items that are known still, after a handle is given up
abbrev pub still_shown : Handle → List Held → List ShownItem → List ShownItem
still_shown handle hs items = filter (λ i. not (gives_up (is_removal_held i.inner.spot) handle hs)) items

-- the areas that are known still, after a handle is given up
abbrev pub still_known : Handle → List Held → List ShownArea → List ShownArea
still_known handle hs areas = filter (λ a. not (gives_up (is_gate_exclusive a.area) handle hs)) areas

-- what is known after a handle is closed
abbrev pub closed : Seen → Handle → Seen
closed s handle = record s {
  image_under_lock = not (gives_up (is_gate_shared Incoming) handle s.standing.holdings) && s.image_under_lock;
  listed = still_listed handle s.standing.holdings s.listed;
  items = still_shown handle s.standing.holdings s.items;
  areas = still_known handle s.standing.holdings s.areas;
}

-- what was listed at this spot is out of date
abbrev pub forget_listed : Spot → List Inner → List Inner
forget_listed spot seen_after_listing = filter (λ inner. not (spot_eq inner.spot spot)) seen_after_listing

-- the items of other folders
abbrev pub forget_items : Spot → List ShownItem → List ShownItem
forget_items spot items = filter (λ i. not (spot_eq i.inner.spot spot)) items

-- the process made a folder in this area
abbrev pub folder_made : Seen → Spot → Seen
folder_made s spot = record s { image_under_lock = is_in Incoming spot.area && shares_area Incoming s.standing; making = Some (record { spot = spot; clean = true; entries = []; unsynced = [] }) }

-- the process moved a folder
abbrev pub moved_away : Spot → ShownArea → ShownArea
moved_away from a = cond (is_in from.area a.area) (record a { names = filter (λ n. not (bytes_eq n from.name)) a.names }) a

-- the folder that it makes, after a move
abbrev pub moved_making : Spot → Spot → Making → Making
moved_making from to m = cond (spot_eq m.spot from) (record m { spot = to }) m

-- a folder that was moved into removed is noted
abbrev pub put_in : Spot → List Spot → List Spot
put_in to spots = cond (is_in to.area Removed) (to ∷ spots) spots

-- what is known after a move
abbrev pub folder_moved : Seen → Spot → Spot → Seen
folder_moved s from to = record s { image_under_lock = not (is_in Incoming from.area) && s.image_under_lock; listed = forget_listed to s.listed; items = forget_items to s.items; areas = map (moved_away from) s.areas; making = option_map (moved_making from to) s.making; put_away = put_in to s.put_away }

-- a folder is made in these areas, until its maker moves it out
abbrev pub is_making_area : Area → Bool
is_making_area Embryo = true
is_making_area Prepare = true
is_making_area Incoming = true
is_making_area _ = false

-- the process makes the folder at this spot
abbrev pub makes_at : Option Making → Spot → Bool
makes_at None spot = false
makes_at (Some m) spot = spot_eq m.spot spot && is_making_area spot.area

-- something was made or appended there, or synced
abbrev pub making_with_entry : List ℕ → TreeNode → List ℕ → Making → Making
making_with_entry path node directory m = record m { entries = m.entries ++ record { path = path; node = node } ∷ []; unsynced = directory ∷ m.unsynced }

-- the path is synced
abbrev pub with_path_synced : List ℕ → Making → Making
with_path_synced path m = record m { unsynced = filter (λ p. not (bytes_eq p path)) m.unsynced }

-- a change in the folder wasn't answered Ok
abbrev pub spoilt : Making → Making
spoilt m = record m { clean = false }

-- a change in the folder that it makes, if the spot is that folder's
abbrev pub making_changed : Spot → (Making → Making) → Option Making → Option Making
making_changed spot change m = cond (makes_at m spot) (option_map change m) m

-- what is known after a change in the folder that it makes
abbrev pub in_making : Seen → Spot → (Making → Making) → Seen
in_making s spot change = record s { making = making_changed spot change s.making }

-- a shared lock of Own answered Ok there
abbrev pub is_free : Seen → Spot → Bool
is_free s spot = has_place spot.name spot.area s.standing.seen_unowned

-- the mark of its own moment
abbrev pub is_own_mark : Option Intent → List ℕ → Bool
is_own_mark None path = false
is_own_mark (Some intent) path = bytes_eq path (marked_mark intent.now)

-- it is the mark by which a remover says that the pod had no owner
abbrev pub marks : Seen → Inner → Bool
marks s inner = is_in inner.spot.area Run && is_own_mark s.standing.intent inner.path && is_free s inner.spot

-- the pod is noted as marked
abbrev pub with_mark : Bool → Spot → List Spot → List Spot
with_mark marked spot spots = cond marked (spot ∷ spots) spots

-- a file that was made in a pod in run is noted
abbrev pub with_note : Inner → List Inner → List Inner
with_note inner notes = cond (is_in inner.spot.area Run) (inner ∷ notes) notes

-- what is known after a file was made
abbrev pub file_made : Seen → Inner → Seen
file_made s inner = record s { making = making_changed inner.spot (making_with_entry inner.path (Piece []) (parent inner.path)) s.making; marked = with_mark (marks s inner) inner.spot s.marked; notes = with_note inner s.notes }

-- what is known after a file couldn't be made
abbrev pub file_refused : Seen → Inner → Bool → Seen
file_refused s inner exists = record s { making = making_changed inner.spot spoilt s.making; marked = with_mark (marks s inner && exists) inner.spot s.marked }

-- an item that a directory's listing shows
abbrev pub shown_in : Inner → Item → ShownItem
shown_in inner item = record { inner = record { spot = inner.spot; path = path_in inner.path item.name }; kind = item.kind }

-- the item at this path
abbrev pub is_item_at : Inner → ShownItem → Bool
is_item_at inner i = inner_eq i.inner inner

-- an item of this directory
abbrev pub is_item_in : Inner → ShownItem → Bool
is_item_in inner i = spot_eq i.inner.spot inner.spot && bytes_eq (parent i.inner.path) inner.path

-- a listing takes the place of an earlier one of that directory
abbrev pub with_items : Inner → List Item → List ShownItem → List ShownItem
with_items inner new items = filter (λ i. not (is_item_in inner i)) items ++ map (shown_in inner) new

-- the greatest moment of the created- marks among the items
abbrev pub later : Option ℕ → Option ℕ → Option ℕ
later None b = b
later (Some a) None = Some a
later (Some a) (Some b) = cond (nat_le a b) (Some b) (Some a)

-- the greatest moment of created- marks among the items
abbrev pub created_among : List Item → Option ℕ
created_among [] = None
created_among (item ∷ items) = later (created_moment item.name) (created_among items)

-- the moment of a pod's creation is noted
abbrev pub note_created : List ℕ → Option ℕ → List Created → List Created
note_created name None created = created
note_created name (Some moment) created = record { name = name; moment = moment } ∷ created

-- the same after a listing, if it is of a pod's own folder
abbrev pub listed_created : Inner → List Item → List Created → List Created
listed_created inner items created = cond (is_empty inner.path && is_stage inner.spot.area) (note_created inner.spot.name (created_among items) created) created

-- it is kept where it was made under the lock that a removal there needs
abbrev pub seen_after_listing : Seen → Inner → List Item → Seen
seen_after_listing s inner new = record s {
  listed = cond (may_remove s.standing inner.spot) (inner ∷ s.listed) s.listed;
  items = cond (may_remove s.standing inner.spot) (with_items inner new s.items) s.items;
  created = listed_created inner new s.created;
}

-- an area was listed under its gate
abbrev pub with_names : Area → List (List ℕ) → List ShownArea → List ShownArea
with_names area names areas = record { area = area; names = names } ∷ filter (λ a. not (is_in area a.area)) areas

-- what is known after the listing of an area: its names, if its lock is held exclusively
abbrev pub area_listed : Seen → Area → List (List ℕ) → Seen
area_listed s area names = record s { areas = cond (excludes_area area s.standing) (with_names area names s.areas) s.areas }

-- an item was removed: no listing shows it any more
abbrev pub item_removed : Seen → Inner → Seen
item_removed s inner = record s { items = filter (λ i. not (is_item_at inner i)) s.items }

-- what is known after a folder was removed
abbrev pub folder_removed : Seen → Spot → Seen
folder_removed s spot = record s { listed = forget_listed spot s.listed; items = forget_items spot s.items; areas = map (moved_away spot) s.areas; put_away = filter (λ p. not (spot_eq p spot)) s.put_away }

-- after a request that was answered Ok
abbrev pub learned_done : Seen → Request → Seen
learned_done s (MakeFolder spot) = folder_made s spot
learned_done s (MoveFolder from to) = folder_moved s from to
learned_done s (Close handle) = closed s handle
learned_done s (MakeDirIn inner) = in_making s inner.spot (making_with_entry inner.path Dir (parent inner.path))
learned_done s (MakeFileIn inner) = file_made s inner
learned_done s (AppendIn inner piece) = in_making s inner.spot (making_with_entry inner.path (Piece piece) inner.path)
learned_done s (SyncIn inner) = in_making s inner.spot (with_path_synced inner.path)
learned_done s (RemoveFileIn inner) = item_removed s inner
learned_done s (RemoveDirIn inner) = item_removed s inner
learned_done s (RemoveFolder spot) = folder_removed s spot
learned_done s Finish = record s { image_under_lock = false; listed = []; items = []; areas = [] }
learned_done s _ = s

-- the refusal says that something is there
abbrev pub is_exists : DirError → Bool
is_exists Exists = true
is_exists _ = false

-- after a request that was refused
abbrev pub learned_refused : Seen → Request → DirError → Seen
learned_refused s (MakeDirIn inner) error = in_making s inner.spot spoilt
learned_refused s (MakeFileIn inner) error = file_refused s inner (is_exists error)
learned_refused s (AppendIn inner piece) error = in_making s inner.spot spoilt
learned_refused s (SyncIn inner) error = in_making s inner.spot spoilt
learned_refused s _ error = s

-- after a listing
abbrev pub learned_items : Seen → Request → List Item → Seen
learned_items s (ListIn inner) items = seen_after_listing s inner items
learned_items s _ items = s

-- what is known after names were answered
abbrev pub learned_names : Seen → Request → List (List ℕ) → Seen
learned_names s (ListArea area) names = area_listed s area names
learned_names s _ names = s

-- what a reply tells beside what stands and is held. The beginning of a listing tells nothing
abbrev pub learned : Seen → Request → Reply → Seen
learned s request Done = learned_done s request
learned s request (Names names) = learned_names s request names
learned s request (Items items) = learned_items s request items
learned s request (Refused error left) = learned_refused s request error
learned s request _ = s
