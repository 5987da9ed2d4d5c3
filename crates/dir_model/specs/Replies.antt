-- Which answer a request gets.
use Rattle.std.specs.Prelude.{ℕ, Bool, true, false, not, ◌&&◌, ◌||◌, ◌==◌, nat_le, cond, Option, Some, None, is_some, find, List, [], length, take, drop, bytes_eq, codes, Result, Ok, Err}
use Rattle.std.specs.List.{list_any}
use Rattle.dir_model.specs.declared.item.Inner.{Inner}
use Rattle.dir_model.specs.declared.item.Item.{Item}
use Rattle.dir_model.specs.declared.spot.Handle.{Handle}
use Rattle.dir_model.specs.declared.spot.Mode.{Mode}
use Rattle.dir_model.specs.declared.spot.Mode.TheVariants.{Shared}
use Rattle.dir_model.specs.declared.spot.Spot.{Spot}
use Rattle.dir_model.specs.declared.spot.Which.{Which}
use Rattle.dir_model.specs.declared.spot.Which.TheVariants.{Own, Claim}
use Rattle.dir_model.specs.declared.opening.Opening.{Opening}
use Rattle.dir_model.specs.declared.tree.TreeEntry.{TreeEntry}
use Rattle.dir_model.specs.declared.request.DirError.{DirError}
use Rattle.dir_model.specs.declared.request.DirError.TheVariants.{Missing, Exists, NotEmpty, Locked, Failed, NoMemory}
use Rattle.dir_model.specs.declared.request.Request.{Request}
use Rattle.dir_model.specs.declared.request.Request.TheVariants.{Begin, MakeFolder, MoveFolder, Open, OpenArea, TryLock, Close, ListArea, ListIn, MakeDirIn, MakeFileIn, AppendIn, ReadIn, SyncIn, RemoveFileIn, RemoveDirIn, RemoveFolder, Finish, Kill}
use Rattle.dir_model.specs.declared.request.Reply.{Reply}
use Rattle.dir_model.specs.declared.request.Reply.TheVariants.{Done, Begun, Opened, Names, Items, Read, Refused}
use Rattle.dir_model.specs.Locks.{is_handle, is_same_lock, opposes}
use Rattle.dir_model.specs.Paths.{inner_of}
use Rattle.dir_model.specs.Trees.{has_file, has_any, has_parent, has_children, holds_any, is_dir_entry, content, is_apps_own}
use Rattle.dir_model.specs.Listings.{is_listing_request, is_listing, listing_of, is_open_listing, shows_area, shows_inside, shows_missing, ascend, item_names}
use Rattle.dir_model.specs.State.{Namespace, DirState, folder_at, stands, has_open}

-- another handle holds the lock of this opening, in a mode that conflicts
abbrev pub is_opposed : Namespace → ℕ → Handle → Mode → Option Opening → Bool
is_opposed n p handle mode None = false
is_opposed n p handle mode (Some here) = list_any (λ o. not (is_handle p handle o) && (is_same_lock here o && opposes mode o.lock)) n.openings

-- the lock that an open handle stands for can't be had in this mode
abbrev pub is_locked : Namespace → ℕ → Handle → Mode → Bool
is_locked n p handle mode = is_opposed n p handle mode (find (is_handle p handle) n.openings)

-- the folder that stands there refuses, or none stands there
abbrev pub refused_in : (List TreeEntry → ℕ → Option DirError) → List TreeEntry → Option ℕ → Option DirError
refused_in refuses es None = Some Missing
refused_in refuses es (Some folder) = refuses es folder

-- nothing is at the path, and its parent is a directory
abbrev pub make_refusal : List ℕ → List TreeEntry → ℕ → Option DirError
make_refusal path es folder = cond (has_any es folder path) (Some Exists) (cond (has_parent es folder path) None (Some Missing))

-- why no file can be used at a path of a folder
abbrev pub file_refusal : List ℕ → List TreeEntry → ℕ → Option DirError
file_refusal path es folder = cond (has_file es folder path) None (Some Missing)

-- why nothing can be synced there
abbrev pub sync_refusal : List ℕ → List TreeEntry → ℕ → Option DirError
sync_refusal path es folder = cond (has_any es folder path) None (Some Missing)

-- the empty path is no directory in the folder
abbrev pub dir_refusal : List ℕ → List TreeEntry → ℕ → Option DirError
dir_refusal path es folder = cond (list_any (is_dir_entry folder path) es) (cond (has_children es folder path) (Some NotEmpty) None) (Some Missing)

-- why a folder can't be removed: something stands in it
abbrev pub folder_refusal : List TreeEntry → ℕ → Option DirError
folder_refusal es folder = cond (holds_any es folder) (Some NotEmpty) None

-- the activation lock is that of the file `pod`
abbrev pub open_refusal : Which → List TreeEntry → ℕ → Option DirError
open_refusal Own es folder = None
open_refusal Claim es folder = file_refusal (codes "pod") es folder

-- how the state refuses a request, if it does. What a listing is refused is told at its end
abbrev pub refusal : DirState → ℕ → Request → Option DirError
refusal s p (MakeFolder spot) = cond (stands s.namespace spot) (Some Exists) None
refusal s p (MoveFolder from to) = cond (stands s.namespace from) (cond (stands s.namespace to) (Some Exists) None) (Some Missing)
refusal s p (Open spot which) = refused_in (open_refusal which) s.entries (folder_at s.namespace spot)
refusal s p (TryLock handle mode) = cond (is_locked s.namespace p handle mode) (Some Locked) None
refusal s p (MakeDirIn inner) = refused_in (make_refusal inner.path) s.entries (folder_at s.namespace inner.spot)
refusal s p (MakeFileIn inner) = refused_in (make_refusal inner.path) s.entries (folder_at s.namespace inner.spot)
refusal s p (AppendIn inner piece) = refused_in (file_refusal inner.path) s.entries (folder_at s.namespace inner.spot)
refusal s p (ReadIn inner at room) = refused_in (file_refusal inner.path) s.entries (folder_at s.namespace inner.spot)
refusal s p (SyncIn inner) = refused_in (sync_refusal inner.path) s.entries (folder_at s.namespace inner.spot)
refusal s p (RemoveFileIn inner) = refused_in (file_refusal inner.path) s.entries (folder_at s.namespace inner.spot)
refusal s p (RemoveDirIn inner) = refused_in (dir_refusal inner.path) s.entries (folder_at s.namespace inner.spot)
refusal s p (RemoveFolder spot) = refused_in folder_refusal s.entries (folder_at s.namespace spot)
refusal s p _ = None

abbrev error_number : DirError → ℕ
error_number Missing = 0
error_number Exists = 1
error_number NotEmpty = 2
error_number Locked = 3
error_number Failed = 4
error_number NoMemory = 5

-- the refusal is this one
abbrev pub is_error : DirError → Option DirError → Bool
is_error error None = false
is_error error (Some refusal) = error_number error == error_number refusal

-- these two may come at any step, and change nothing but what an append may leave
abbrev pub is_fault : DirError → Bool
is_fault Failed = true
is_fault NoMemory = true
is_fault _ = false

-- a call that has room for a fault in its answer. A begin that is refused is no event
abbrev pub is_fallible : Request → Bool
is_fallible (Begin intent) = false
is_fallible (Close handle) = false
is_fallible Finish = false
is_fallible Kill = false
is_fallible _ = true

-- it asks for a handle
abbrev pub asks_for_handle : Request → Bool
asks_for_handle (Open spot which) = true
asks_for_handle (OpenArea area) = true
asks_for_handle _ = false

-- its Ok carries nothing
abbrev pub asks_for_nothing : Request → Bool
asks_for_nothing (Open spot which) = false
asks_for_nothing (OpenArea area) = false
asks_for_nothing (ListArea area) = false
asks_for_nothing (ListIn inner) = false
asks_for_nothing (ReadIn inner at room) = false
asks_for_nothing _ = true

-- of an append that is refused, the first bytes of its piece may stand, where the file does
abbrev pub left_at : List ℕ → List ℕ → List TreeEntry → Option ℕ → ℕ
left_at path piece es None = 0
left_at path piece es (Some folder) = cond (has_file es folder path) (length piece) 0

-- how many bytes of a refused append may stand, at most
abbrev pub most_left : DirState → Request → ℕ
most_left s (AppendIn inner piece) = left_at inner.path piece s.entries (folder_at s.namespace inner.spot)
most_left s _ = 0

-- the bytes from a place on, as many as fit
abbrev pub bytes_at : List TreeEntry → List ℕ → ℕ → ℕ → Option ℕ → List ℕ
bytes_at es path at room None = []
bytes_at es path at room (Some folder) = take room (drop at (content es folder path))

-- the bytes are those that a read gives
abbrev pub is_read_answer : DirState → Request → List ℕ → Bool
is_read_answer s (ReadIn inner at room) bytes = bytes_eq bytes (bytes_at s.entries inner.path at room (folder_at s.namespace inner.spot))
is_read_answer s _ bytes = false

-- the names are an answer to the listing of an area
abbrev pub is_names : DirState → ℕ → Request → List (List ℕ) → Bool
is_names s p (ListArea area) names = shows_area area names (listing_of s p)
is_names s p _ names = false

-- the items are an answer to the listing of a directory
abbrev pub is_items : DirState → ℕ → Request → List Item → Bool
is_items s p (ListIn inner) items = shows_inside inner items (listing_of s p)
is_items s p _ items = false

-- a listing fails at its end, or tells that no directory stood there
abbrev pub is_listing_refused : DirState → ℕ → Request → DirError → Bool
is_listing_refused s p (ListIn inner) Missing = shows_missing inner (listing_of s p)
is_listing_refused s p request error = is_fault error && is_open_listing request (listing_of s p)

-- the refusal is one that the state gives
abbrev pub is_refused : DirState → ℕ → Request → DirError → ℕ → Bool
is_refused s p request error left = cond (is_listing_request request) ((left == 0) && is_listing_refused s p request error) ((is_fallible request && (is_fault error && nat_le left (most_left s request))) || ((left == 0) && is_error error (refusal s p request)))

-- the reply is one that the state gives
abbrev pub is_state_reply : DirState → ℕ → Request → Reply → Bool
is_state_reply s p request Done = not (is_some (refusal s p request)) && asks_for_nothing request
is_state_reply s p request Begun = is_listing_request request && not (is_listing s p)
is_state_reply s p request (Opened handle) = not (is_some (refusal s p request)) && (asks_for_handle request && not (has_open s.namespace p handle))
is_state_reply s p request (Names names) = is_names s p request names
is_state_reply s p request (Items items) = is_items s p request items
is_state_reply s p request (Read bytes) = not (is_some (refusal s p request)) && is_read_answer s request bytes
is_state_reply s p request (Refused error left) = is_refused s p request error left

-- the refusals that a call may give, whatever the directory
abbrev pub may_refuse : Request → DirError → Bool
may_refuse (Begin intent) NoMemory = true
may_refuse (MakeFolder spot) Exists = true
may_refuse (MoveFolder from to) Missing = true
may_refuse (MoveFolder from to) Exists = true
may_refuse (Open spot which) Missing = true
may_refuse (TryLock handle mode) Locked = true
may_refuse (ListIn inner) Missing = true
may_refuse (MakeDirIn inner) Missing = true
may_refuse (MakeDirIn inner) Exists = true
may_refuse (MakeFileIn inner) Missing = true
may_refuse (MakeFileIn inner) Exists = true
may_refuse (AppendIn inner piece) Missing = true
may_refuse (ReadIn inner at room) Missing = true
may_refuse (SyncIn inner) Missing = true
may_refuse (RemoveFileIn inner) Missing = true
may_refuse (RemoveDirIn inner) Missing = true
may_refuse (RemoveDirIn inner) NotEmpty = true
may_refuse (RemoveFolder spot) Missing = true
may_refuse (RemoveFolder spot) NotEmpty = true
may_refuse request error = is_fallible request && is_fault error

-- what stands at the path is a started app's own
abbrev pub is_own_at : DirState → List ℕ → Option ℕ → Bool
is_own_at s path None = false
is_own_at s path (Some folder) = is_apps_own s.apps folder path

-- it stands at or below the root of a started app
abbrev pub is_apps_inner : DirState → Option Inner → Bool
is_apps_inner s None = false
is_apps_inner s (Some inner) = is_own_at s inner.path (folder_at s.namespace inner.spot)

-- the request is about what a started app may change
abbrev pub is_apps_request : DirState → Request → Bool
is_apps_request s request = is_apps_inner s (inner_of request)

-- how many bytes are to be appended
abbrev pub piece_length : Request → ℕ
piece_length (AppendIn inner piece) = length piece
piece_length _ = 0

-- an answer of the call's signature. A listing has its beginning and its end there too
abbrev pub is_any_reply : DirState → ℕ → Request → Reply → Bool
is_any_reply s p request Done = asks_for_nothing request
is_any_reply s p request Begun = is_listing_request request && not (is_listing s p)
is_any_reply s p (ListIn inner) (Items items) = ascend (item_names items) && is_open_listing (ListIn inner) (listing_of s p)
is_any_reply s p (ReadIn inner at room) (Read bytes) = nat_le (length bytes) room
is_any_reply s p (ListIn inner) (Refused error left) = (left == 0) && (may_refuse (ListIn inner) error && is_open_listing (ListIn inner) (listing_of s p))
is_any_reply s p request (Refused error left) = may_refuse request error && nat_le left (piece_length request)
is_any_reply s p request _ = false

-- the reply may come in this state: at and below the root of a started app, which writes there itself, any
abbrev pub is_reply : DirState → ℕ → Request → Reply → Bool
is_reply s p request reply = cond (is_apps_request s request) (is_any_reply s p request reply) (is_state_reply s p request reply)

-- what a call may be answered that left no event: a fault, or that a handle or the process is given up
abbrev pub is_late_reply : Request → Reply → Bool
is_late_reply (Close handle) Done = true
is_late_reply Finish Done = true
is_late_reply request (Refused error left) = (left == 0) && (is_fault error && may_refuse request error)
is_late_reply request _ = false

-- the reply that an answer stands for
abbrev pub done_reply : {T : Type 0} → Result T DirError → Reply
done_reply (Ok value) = Done
done_reply (Err error) = Refused error 0

-- the reply to a request for a handle
abbrev pub opened_reply : Result Handle DirError → Reply
opened_reply (Ok handle) = Opened handle
opened_reply (Err error) = Refused error 0

-- the reply to the listing of an area
abbrev pub names_reply : Result (List (List ℕ)) DirError → Reply
names_reply (Ok names) = Names names
names_reply (Err error) = Refused error 0

-- the reply to the listing of a directory
abbrev pub items_reply : Result (List Item) DirError → Reply
items_reply (Ok items) = Items items
items_reply (Err error) = Refused error 0

-- a refused append may have left some of its bytes
abbrev pub append_reply : Result (Unit {0}) DirError → ℕ → Reply
append_reply (Ok value) left = Done
append_reply (Err error) left = Refused error left

-- what a read filled of the room
abbrev pub read_reply : List ℕ → Result ℕ DirError → Reply
read_reply room (Ok count) = Read (take count room)
read_reply room (Err error) = Refused error 0

-- a request that only looks, and opens nothing but what stands at such locations
abbrev pub is_look_at : (Spot → Bool) → Request → Bool
is_look_at test (Open spot which) = test spot
is_look_at test (TryLock handle Shared) = true
is_look_at test (Close handle) = true
is_look_at test _ = false

-- any location
abbrev pub is_any_spot : Spot → Bool
is_any_spot spot = true

-- a request that only looks
abbrev pub is_look : Request → Bool
is_look request = is_look_at is_any_spot request
