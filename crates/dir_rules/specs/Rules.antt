-- The local rules: what a process may ask for, by what it knows.
use Rattle.std.specs.Prelude.{ℕ, Bool, true, false, not, ◌&&◌, ◌||◌, ◌-◌, bytes_eq, nat_le, Option, Some, None, find, List, [], length, codes}
use Rattle.std.specs.List.{list_any, list_all}
use Rattle.dir_model.specs.declared.area.Area.{Area}
use Rattle.dir_model.specs.declared.area.Area.TheVariants.{Embryo, Prepare, Prepared, Run, ExitedGarbage, Garbage, Incoming, Images, Removed}
use Rattle.dir_model.specs.declared.intent.Intent.{Intent}
use Rattle.dir_model.specs.declared.intent.Kind.{Kind}
use Rattle.dir_model.specs.declared.intent.Kind.TheVariants as kind
use Rattle.dir_model.specs.declared.item.Inner.{Inner}
use Rattle.dir_model.specs.declared.item.ItemKind.{ItemKind}
use Rattle.dir_model.specs.declared.item.ItemKind.TheVariants as item
use Rattle.dir_model.specs.declared.spot.Spot.{Spot}
use Rattle.dir_model.specs.declared.opening.Target.{Target}
use Rattle.dir_model.specs.declared.opening.Target.TheVariants.{Own, Gate}
use Rattle.dir_model.specs.declared.tree.TreeNode.{TreeNode}
use Rattle.dir_model.specs.declared.tree.TreeNode.TheVariants.{Dir, Piece}
use Rattle.dir_model.specs.declared.request.Request.{Request}
use Rattle.dir_model.specs.declared.request.Request.TheVariants.{MakeFolder, MoveFolder, ListArea, ListIn, MakeDirIn, MakeFileIn, AppendIn, ReadIn, SyncIn, RemoveFileIn, RemoveDirIn, RemoveFolder}
use Rattle.dir_model.specs.Areas.{is_stage}
use Rattle.dir_model.specs.Paths.{is_empty}
use Rattle.dir_model.specs.State.{spot_eq}
use Rattle.dir_rules.specs.declared.standing.Held.{Held}
use Rattle.dir_rules.specs.declared.seen.Entry.{Entry}
use Rattle.dir_rules.specs.declared.seen.Making.{Making}
use Rattle.dir_rules.specs.declared.seen.Created.{Created}
use Rattle.dir_rules.specs.declared.seen.ShownItem.{ShownItem}
use Rattle.dir_rules.specs.declared.seen.Seen.{Seen}
use Rattle.dir_rules.specs.Marks.{parent, begins, created_mark, is_started_mark, is_status_file, is_below_status, status_directory, is_later_mark}
use Rattle.dir_rules.specs.Standing.{is_in, is_garbage, is_own_held, is_gate_of, intends, draws, began_as, is_remover, holds_own, shares_area, excludes_area, last_move_of, area_of}
use Rattle.dir_rules.specs.LockRules.{on_spot, holds_pod, is_open_on, lock_rules_allow}
use Rattle.dir_rules.specs.Seen.{inner_eq, makes_at, is_free, is_own_mark, is_item_at, is_item_in}

-- the command imports an image
abbrev pub is_import : Kind → Bool
is_import kind.ImageImport = true
is_import _ = false

-- the process holds the pod, while it lives
abbrev pub owns_pod : Seen → List ℕ → Bool
owns_pod s name = holds_pod name s.standing

-- it holds Own of the pod, and has moved it to run last
abbrev pub runs : Seen → List ℕ → Bool
runs s name = holds_own name s.standing && on_spot (λ spot. is_in Run spot.area) (last_move_of name s.standing.moves)

-- it holds Own of the pod by an open in a garbage place
abbrev pub is_deleting : List ℕ → Held → Bool
is_deleting name h = is_own_held name h && is_garbage (area_of h.target)

-- the process deletes the pod with this name
abbrev pub deletes : Seen → List ℕ → Bool
deletes s name = list_any (is_deleting name) s.standing.holdings

-- what it made
abbrev pub of_making : (Making → Bool) → Option Making → Bool
of_making test None = false
of_making test (Some m) = test m

-- it is a directory
abbrev pub is_dir : TreeNode → Bool
is_dir Dir = true
is_dir (Piece bytes) = false

-- something was made at the path
abbrev pub has_path_among : List ℕ → List Entry → Bool
has_path_among path es = list_any (λ e. bytes_eq e.path path) es

-- a directory was made at the path
abbrev pub has_dir_among : List ℕ → List Entry → Bool
has_dir_among path es = list_any (λ e. is_dir e.node && bytes_eq e.path path) es

-- a file was made at the path
abbrev pub has_file_among : List ℕ → List Entry → Bool
has_file_among path es = list_any (λ e. not (is_dir e.node) && bytes_eq e.path path) es

-- it has made no folder
abbrev pub has_made_none : Option Making → Bool
has_made_none None = true
has_made_none (Some m) = false

-- a folder is made once, named by the draw: a pod in embryo, of which the rules on outlines speak, or an image in incoming
abbrev pub may_make_in : Seen → List ℕ → Area → Bool
may_make_in s name Embryo = has_made_none s.making
may_make_in s name Incoming = (began_as is_import s.standing && shares_area Incoming s.standing) && (draws name s.standing && has_made_none s.making)
may_make_in s name _ = false

-- the maker has done its work: each change was answered Ok, and everything is synced
abbrev pub is_all_done : Making → Bool
is_all_done m = m.clean && is_empty m.unsynced

-- an empty directory for statuses, and nothing that bears the name of a later mark
abbrev pub is_whole_pod : Making → Bool
is_whole_pod m = is_all_done m && (has_dir_among status_directory m.entries && (not (list_any (λ e. is_below_status e.path) m.entries) && not (list_any (λ e. is_later_mark e.path) m.entries)))

-- it makes the folder at this location, and has come so far with it
abbrev pub has_done : (Making → Bool) → Seen → Spot → Bool
has_done test s spot = makes_at s.making spot && of_making test s.making

-- an rm by its word, a gc by the age of the pod's created- mark
abbrev pub mark_age : ℕ → ℕ → ℕ
mark_age a b = a - b

-- the pod is older than what its intent waits for, by a mark that it knows
abbrev pub is_old : Intent → Option Created → Bool
is_old intent None = false
is_old intent (Some c) = nat_le intent.expire (mark_age intent.now c.moment)

-- a command asks for the removal of this pod
abbrev pub asks_for : Kind → Intent → List Created → List ℕ → Bool
asks_for kind.Rm intent created name = begins intent.word name
asks_for kind.Gc intent created name = is_old intent (find (λ c. bytes_eq c.name name) created)
asks_for _ intent created name = false

-- the process was asked to remove this pod
abbrev pub has_asked_for_removal : Seen → List ℕ → Bool
has_asked_for_removal s name = intends (λ i. asks_for i.kind i s.created name) s.standing.intent

-- the moves, by where from and where to: what the rules on outlines don't say of them
abbrev pub contents_allow_move : Seen → Spot → Spot → Area → Area → Bool
contents_allow_move s from to Embryo Prepare = makes_at s.making from
contents_allow_move s from to Embryo Garbage = true
contents_allow_move s from to Prepare Prepared = has_done is_whole_pod s from
contents_allow_move s from to Prepare Run = has_done is_whole_pod s from
contents_allow_move s from to Prepare Garbage = true
contents_allow_move s from to Prepared Run = true
contents_allow_move s from to Prepared Garbage = has_asked_for_removal s from.name
contents_allow_move s from to Run ExitedGarbage = list_any (spot_eq from) s.marked
contents_allow_move s from to Incoming Images = has_done is_all_done s from && s.image_under_lock
contents_allow_move s from to Incoming Removed = excludes_area Incoming s.standing
contents_allow_move s from to Images Removed = excludes_area Images s.standing && (draws to.name s.standing && not (list_any (spot_eq to) s.put_away))
contents_allow_move s from to _ _ = false

-- only what goes into images or out of it gets another name
abbrev pub keeps_name : Area → Area → Bool
keeps_name Images area = false
keeps_name area Images = false
keeps_name _ _ = true

-- a move as the rules on contents allow it
abbrev pub may_move_by_contents : Seen → Spot → Spot → Bool
may_move_by_contents s from to = contents_allow_move s from to from.area to.area && ((not (keeps_name from.area to.area) || bytes_eq from.name to.name) && not (is_stage from.area && deletes s from.name))

-- some handle is open on Own of that pod
abbrev pub has_opened_own : Seen → List ℕ → Bool
has_opened_own s name = is_open_on (Own (record { area = Prepare; name = name })) s.standing.holdings

-- the gate of another area
abbrev pub is_gate : Target → Bool
is_gate (Gate area) = true
is_gate _ = false

-- the handle is on the lock of another area
abbrev pub is_other_gate : Area → Held → Bool
is_other_gate area h = not (is_gate_of area h.target) && is_gate h.target

-- all these handles are on locks of other areas
abbrev pub are_other_gates : Area → List Held → Bool
are_other_gates area hs = list_all (is_other_gate area) hs

-- images are listed and read only under their gate
abbrev pub may_read_area : Seen → Area → Bool
may_read_area s Images = shares_area Images s.standing || excludes_area Images s.standing
may_read_area s _ = true

-- the changes. In a folder that it makes: where, and what
abbrev pub makes_here : Seen → Spot → Area → Bool
makes_here s spot Prepare = makes_at s.making spot && holds_own spot.name s.standing
makes_here s spot Incoming = makes_at s.making spot && s.image_under_lock
makes_here s spot _ = false

-- the path is in the folder itself, or in a directory that was made
abbrev pub is_in_directory : List ℕ → List Entry → Bool
is_in_directory path es = is_empty (parent path) || has_dir_among (parent path) es

-- a new path, not too long, in the folder itself or in a directory that it made
abbrev pub is_new_path : List ℕ → List Entry → Bool
is_new_path path es = nat_le (length path) 8192 && (not (is_empty path) && (not (has_path_among path es) && is_in_directory path es))

-- in a pod the created- mark comes first, and pod is the last file
abbrev pub is_in_order : Seen → Area → Bool → List ℕ → List Entry → Bool
is_in_order s Prepare file path es = (not (is_empty es) || (file && intends (λ i. bytes_eq path (created_mark i.now)) s.standing.intent)) && not (file && has_file_among (codes "pod") es)
is_in_order s _ file path es = true

-- a new path, and in order
abbrev pub may_make_entry : Seen → Bool → Inner → Making → Bool
may_make_entry s file inner m = is_new_path inner.path m.entries && is_in_order s inner.spot.area file inner.path m.entries

-- a directory is made only in the folder that the process makes
abbrev pub may_make_dir : Seen → Inner → Bool
may_make_dir s inner = makes_here s inner.spot inner.spot.area && of_making (may_make_entry s false inner) s.making

-- the folder itself, or something that was made
abbrev pub may_sync_entry : Inner → Making → Bool
may_sync_entry inner m = is_empty inner.path || has_path_among inner.path m.entries

-- in a pod in run: statuses and marks by the one that runs it, and the mark of a remover
abbrev pub has_note : Seen → Inner → Bool
has_note s inner = list_any (inner_eq inner) s.notes

-- a mark that an app is started or its status, once, by the one that runs the pod
abbrev pub may_note : Seen → Inner → Bool
may_note s inner = runs s inner.spot.name && ((is_started_mark inner.path || is_status_file inner.path) && not (has_note s inner))

-- the mark of its own moment, by a remover that found the pod without an owner
abbrev pub may_mark : Seen → Inner → Bool
may_mark s inner = began_as is_remover s.standing && (is_own_mark s.standing.intent inner.path && is_free s inner.spot)

-- a file is made in the folder that the process makes, or noted in a pod in run
abbrev pub may_make_file_in : Seen → Inner → Area → Bool
may_make_file_in s inner Run = may_note s inner || may_mark s inner
may_make_file_in s inner area = makes_here s inner.spot area && of_making (may_make_entry s true inner) s.making

-- bytes are appended to what it made
abbrev pub may_append_in : Seen → Inner → Area → Bool
may_append_in s inner Run = runs s inner.spot.name && (is_status_file inner.path && has_note s inner)
may_append_in s inner area = makes_here s inner.spot area && of_making (λ m. has_file_among inner.path m.entries) s.making

-- what it made is synced
abbrev pub may_sync_in : Seen → Inner → Area → Bool
may_sync_in s inner Run = runs s inner.spot.name && (is_empty inner.path || has_note s inner)
may_sync_in s inner area = makes_here s inner.spot area && of_making (may_sync_entry inner) s.making

-- a pod that it deletes isn't changed otherwise
abbrev pub spares_deleted_pod : Seen → Inner → Bool
spares_deleted_pod s inner = not (is_stage inner.spot.area && deletes s inner.spot.name)

-- the removals, after a listing: what is listed there is under the lock that a removal needs
abbrev pub is_file_item : ItemKind → Bool
is_file_item item.Dir = false
is_file_item _ = true

-- the last listing of the item's directory shows it, and it wasn't removed since
abbrev pub is_item_shown : (ItemKind → Bool) → Inner → List ShownItem → Bool
is_item_shown test inner items = list_any (λ i. is_item_at inner i && test i.kind) items

-- the directory was listed, and everything that its last listing showed was removed
abbrev pub is_emptied : Seen → Inner → Bool
is_emptied s inner = list_any (inner_eq inner) s.listed && not (list_any (is_item_in inner) s.items)

-- the folder itself
abbrev pub root_of : Spot → Inner
root_of spot = record { spot = spot; path = [] }

-- a file that the last listing showed
abbrev pub may_remove_file : Seen → Inner → Bool
may_remove_file s inner = is_item_shown is_file_item inner s.items

-- a directory that the last listing showed, once it is emptied
abbrev pub may_remove_dir : Seen → Inner → Bool
may_remove_dir s inner = is_item_shown (λ k. not (is_file_item k)) inner s.items && is_emptied s inner

-- the local rules on contents, and on what the store and the deletions need
abbrev pub content_rules_allow : Seen → Request → Bool
content_rules_allow s (MakeFolder spot) = may_make_in s spot.name spot.area
content_rules_allow s (MoveFolder from to) = may_move_by_contents s from to
content_rules_allow s (ListArea area) = may_read_area s area
content_rules_allow s (ListIn inner) = may_read_area s inner.spot.area
content_rules_allow s (MakeDirIn inner) = may_make_dir s inner && spares_deleted_pod s inner
content_rules_allow s (MakeFileIn inner) = may_make_file_in s inner inner.spot.area && spares_deleted_pod s inner
content_rules_allow s (AppendIn inner piece) = may_append_in s inner inner.spot.area && spares_deleted_pod s inner
content_rules_allow s (ReadIn inner at room) = may_read_area s inner.spot.area
content_rules_allow s (SyncIn inner) = may_sync_in s inner inner.spot.area && spares_deleted_pod s inner
content_rules_allow s (RemoveFileIn inner) = may_remove_file s inner
content_rules_allow s (RemoveDirIn inner) = may_remove_dir s inner
content_rules_allow s (RemoveFolder spot) = is_emptied s (root_of spot)
content_rules_allow s _ = true

-- the local rules
abbrev pub allows : Seen → Request → Bool
allows s request = lock_rules_allow s.standing request && content_rules_allow s request
