-- Replies that can't come while every process keeps the rules, and those by which a started app shows that it still writes.
use Rattle.std.specs.Prelude.{◌≡◌, ℕ, Bool, true, false, not, ◌&&◌, ◌||◌, nat_lt, Option, Some, None, length}
use Rattle.std.specs.List.{list_any}
use Rattle.dir_model.specs.declared.area.Area.{Area}
use Rattle.dir_model.specs.declared.area.Area.TheVariants.{Embryo, Prepare, Run, Incoming, Images, Trees, Removed}
use Rattle.dir_model.specs.declared.item.Item.{Item}
use Rattle.dir_model.specs.declared.opening.Target.{Target}
use Rattle.dir_model.specs.declared.opening.Target.TheVariants.{Own}
use Rattle.dir_model.specs.declared.spot.Spot.{Spot}
use Rattle.dir_model.specs.declared.spot.Which.TheVariants as which
use Rattle.dir_model.specs.declared.request.DirError.{DirError}
use Rattle.dir_model.specs.declared.request.DirError.TheVariants.{Missing, Exists, NotEmpty, Locked}
use Rattle.dir_model.specs.declared.request.Request.{Request}
use Rattle.dir_model.specs.declared.request.Request.TheVariants.{MakeFolder, MoveFolder, Open, TryLock, ListIn, MakeDirIn, MakeFileIn, AppendIn, SyncIn, RemoveFileIn, RemoveDirIn, RemoveFolder}
use Rattle.dir_model.specs.declared.request.Reply.{Reply}
use Rattle.dir_model.specs.declared.request.Reply.TheVariants.{Items, Refused}
use Rattle.dir_model.specs.Areas.{is_stage}
use Rattle.dir_model.specs.State.{DirState, spot_eq}
use Rattle.dir_model.specs.Replies.{is_apps_request}
use Rattle.dir_rules.specs.declared.standing.Held.{Held}
use Rattle.dir_rules.specs.declared.standing.Standing.{Standing}
use Rattle.dir_rules.specs.declared.seen.Seen.{Seen}
use Rattle.dir_rules.specs.Marks.{path_in}
use Rattle.dir_rules.specs.Standing.{is_in, is_garbage, draws, excludes_area, is_name_among, is_own_held, last_move_of, find_held}
use Rattle.dir_rules.specs.LockRules.{on_spot}
use Rattle.dir_rules.specs.Seen.{makes_at}
use Rattle.dir_rules.specs.Rules.{deletes, is_file_item, is_item_shown}

-- nothing stands there, something is in the way, or something stands inside
abbrev pub is_place_error : DirError → Bool
is_place_error Missing = true
is_place_error Exists = true
is_place_error NotEmpty = true
is_place_error error = false

-- the pod that it made stands there still, and it has held that area's lock since before
abbrev pub is_own_embryo : Standing → Spot → Bool
is_own_embryo s spot = is_in Embryo spot.area && (s.embryo_under_lock && draws spot.name s)

-- the handle is on the own lock of the pod that the process makes, in embryo
abbrev pub is_own_embryo_lock : Standing → Target → Bool
is_own_embryo_lock s (Own spot) = is_own_embryo s spot
is_own_embryo_lock s target = false

-- the same of a handle that may be none
abbrev pub is_own_embryo_held : Standing → Option Held → Bool
is_own_embryo_held s None = false
is_own_embryo_held s (Some h) = is_own_embryo_lock s h.target

-- a maker's lock of its own embryo is held by another, or the embryo is gone
abbrev pub loses_embryo : Standing → Request → Reply → Bool
loses_embryo s (TryLock handle mode) (Refused Locked left) = is_own_embryo_held s (find_held handle s)
loses_embryo s (Open spot which.Own) (Refused Missing left) = is_own_embryo s spot
loses_embryo s request reply = false

-- a pod, or what is put away, meets another folder; an image is made where one is made already
abbrev pub meets_another : Request → Reply → Bool
meets_another (MoveFolder from to) (Refused Exists left) = is_stage from.area || is_in Removed to.area
meets_another (MakeFolder spot) (Refused Exists left) = is_in Incoming spot.area
meets_another request reply = false

-- the folder that a change, a sync, a removal or a move is about
abbrev pub folder_of : Request → Option Spot
folder_of (MoveFolder from to) = Some from
folder_of (MakeDirIn inner) = Some inner.spot
folder_of (MakeFileIn inner) = Some inner.spot
folder_of (AppendIn inner piece) = Some inner.spot
folder_of (SyncIn inner) = Some inner.spot
folder_of (RemoveFileIn inner) = Some inner.spot
folder_of (RemoveDirIn inner) = Some inner.spot
folder_of (RemoveFolder spot) = Some spot
folder_of request = None

-- it holds the pod's own lock exclusively, and brought the pod there last, or opened the lock there among the garbage
abbrev pub is_brought : Standing → Spot → Bool
is_brought s spot = (is_in Prepare spot.area || is_in Run spot.area) && on_spot (spot_eq spot) (last_move_of spot.name s.moves)

-- the handle was opened on the own lock of a folder in a garbage place
abbrev pub is_opened_at : Spot → Target → Bool
is_opened_at spot (Own here) = is_garbage spot.area && spot_eq here spot
is_opened_at spot target = false

-- the process holds the own lock of the pod that it brought there, or that it opened there
abbrev pub owns_at : Standing → Spot → Bool
owns_at s spot = list_any (λ h. is_own_held spot.name h && (is_brought s spot || is_opened_at spot h.target)) s.holdings

-- it has listed the folder, or its area, under the lock that a removal or a move there needs, and hasn't removed or moved
-- it since; or it put the folder away itself
abbrev pub knows_folder : Seen → Spot → Bool
knows_folder s spot =
    list_any (λ inner. spot_eq inner.spot spot) s.listed
    || (list_any (λ a. is_in spot.area a.area && is_name_among spot.name a.names) s.areas || list_any (λ here. spot_eq here spot) s.put_away)

-- an area of the store in which folders are made or removed
abbrev pub is_store : Area → Bool
is_store Incoming = true
is_store Trees = true
is_store Removed = true
is_store area = false

-- it deletes the folder there: it knows of it, and holds the lock that a deletion there needs
abbrev pub deletes_at : Seen → Spot → Bool
deletes_at s spot = knows_folder s spot && ((is_garbage spot.area && owns_at s.standing spot) || (is_store spot.area && excludes_area spot.area s.standing))

-- it makes, owns or deletes the folder there
abbrev pub is_its_own : Seen → Spot → Bool
is_its_own s spot = makes_at s.making spot || ((not (is_garbage spot.area) && owns_at s.standing spot) || deletes_at s spot)

-- the location, if there is one, is that of a folder which is its own
abbrev pub is_its_folder : Seen → Option Spot → Bool
is_its_folder s None = false
is_its_folder s (Some spot) = is_its_own s spot

-- an image that is there already
abbrev pub is_import_again : Request → DirError → Bool
is_import_again (MoveFolder from to) Exists = is_in Images to.area
is_import_again request error = false

-- what it makes, owns or deletes is not as it left it
abbrev pub loses_own : Seen → Request → Reply → Bool
loses_own s request (Refused error left) = is_place_error error && (is_its_folder s (folder_of request) && not (is_import_again request error))
loses_own s request reply = false

-- something that is to be removed below a started app's root is gone, or something was put into it
abbrev pub is_gone_error : DirError → Bool
is_gone_error Missing = true
is_gone_error NotEmpty = true
is_gone_error error = false

-- it asks for the removal of a file or directory
abbrev pub is_removal : Request → Bool
is_removal (RemoveFileIn inner) = true
is_removal (RemoveDirIn inner) = true
is_removal request = false

-- a removal was answered as only what a started app wrote explains
abbrev pub meets_app : DirState → Request → Reply → Bool
meets_app state request (Refused error left) = is_gone_error error && (is_removal request && is_apps_request state request)
meets_app state request reply = false

-- a directory of a pod that it deletes, which the last listing of its parent showed, is gone
abbrev pub loses_directory : Seen → Request → Reply → Bool
loses_directory s (ListIn inner) (Refused Missing left) = deletes s inner.spot.name && is_item_shown (λ k. not (is_file_item k)) inner s.items
loses_directory s request reply = false

-- an item whose path is longer than any that a maker makes
abbrev pub most_path : ℕ
most_path = 8192

-- a listing showed a path that is longer than any that a process makes
abbrev pub shows_long : Request → Reply → Bool
shows_long (ListIn inner) (Items items) = list_any (λ (item : Item). nat_lt most_path (length (path_in inner.path item.name))) items
shows_long request reply = false

-- a reply that a started app's own writes bring about, to a process that knows this
abbrev pub is_foreign_write : DirState → Seen → Request → Reply → Bool
is_foreign_write state s request reply = meets_app state request reply || (loses_directory s request reply || shows_long request reply)

-- the reply tells of what a started app wrote
abbrev pub IsForeignWrite : DirState → Seen → Request → Reply → Type 0
IsForeignWrite state s request reply = is_foreign_write state s request reply ≡ true

-- a reply that no rule-keeping process brings about, to a process that knows this
abbrev pub is_impossible_reply : DirState → Seen → Request → Reply → Bool
is_impossible_reply state s request reply =
    not (is_foreign_write state s request reply) && (loses_embryo s.standing request reply || (meets_another request reply || loses_own s request reply))

-- the reply is one that no processes which keep the rules bring about
abbrev pub IsImpossibleReply : DirState → Seen → Request → Reply → Type 0
IsImpossibleReply state s request reply = is_impossible_reply state s request reply ≡ true
