-- How events change the state, and the state that a trace leaves.
use Rattle.std.specs.Prelude.{ℕ, Bool, true, false, not, ◌&&◌, ◌==◌, nat_eq, cond, Option, Some, None, List, [], ◌∷◌, ◌++◌, map, filter, take, drop, length, option_to_list}
use Rattle.std.specs.List.{list_any, starts_with}
use Rattle.dir_model.specs.declared.area.Area.{Area}
use Rattle.dir_model.specs.declared.tree.TreeNode.{TreeNode}
use Rattle.dir_model.specs.declared.tree.TreeNode.TheVariants.{Dir, Piece}
use Rattle.dir_model.specs.declared.tree.TreeEntry.{TreeEntry}
use Rattle.dir_model.specs.declared.tree.StartedApp.{StartedApp}
use Rattle.dir_model.specs.declared.tree.OpenListing.{OpenListing}
use Rattle.dir_model.specs.declared.opening.Target.TheVariants.{Gate}
use Rattle.dir_model.specs.declared.spot.Spot.{Spot}
use Rattle.dir_model.specs.declared.spot.Which.{Which}
use Rattle.dir_model.specs.declared.spot.Handle.{Handle}
use Rattle.dir_model.specs.declared.spot.Mode.{Mode}
use Rattle.dir_model.specs.declared.event.Event.{Event}
use Rattle.dir_model.specs.declared.opening.Opening.{Opening}
use Rattle.dir_model.specs.declared.request.Request.{Request}
use Rattle.dir_model.specs.declared.request.Request.TheVariants.{Begin, MakeFolder, MoveFolder, Open, OpenArea, TryLock, Close, MakeDirIn, MakeFileIn, AppendIn, RemoveFileIn, RemoveDirIn, RemoveFolder, Finish, Kill}
use Rattle.dir_model.specs.declared.request.Reply.{Reply}
use Rattle.dir_model.specs.declared.request.Reply.TheVariants.{Done, Begun, Opened, Names, Items, Refused}
use Rattle.dir_model.specs.Areas.{is_run_or_later}
use Rattle.dir_model.specs.Locks.{target_of, is_handle}
use Rattle.dir_model.specs.State.{Namespace, DirState, empty_state, is_at, folder_at}
use Rattle.dir_model.specs.Paths.{is_slash}
use Rattle.dir_model.specs.Trees.{without_path, mark_prefix, app_root}
use Rattle.dir_model.specs.Listings.{noted_all, listing_begun, without_listing, is_listing_request}

-- a folder that stood there is at the other location
abbrev pub moved : Spot → Spot → Option Spot → Option Spot
moved from to place = cond (is_at from place) (Some to) place

-- a folder that stood there is gone
abbrev pub removed : Spot → Option Spot → Option Spot
removed spot place = cond (is_at spot place) None place

-- a new handle on a lock of the folder at the location
abbrev pub opened : Namespace → ℕ → Handle → Spot → Which → Opening
opened n process handle spot which = record { process = process; handle = handle; target = target_of spot which; folder = folder_at n spot; lock = None }

-- a new handle on the lock of an area
abbrev pub opened_gate : ℕ → Handle → Area → Opening
opened_gate process handle area = record { process = process; handle = handle; target = Gate area; folder = None; lock = None }

-- this handle holds the lock
abbrev pub locked : ℕ → Handle → Mode → Opening → Opening
locked process handle mode o = cond (is_handle process handle o) (record o { lock = Some mode }) o

-- the process is over, and its handles and locks with it
abbrev pub without_process : Namespace → ℕ → Namespace
without_process n process = record n { openings = filter (λ o. not (o.process == process)) n.openings; ended = n.ended ++ process ∷ [] }

-- after a request that was answered Ok. A move keeps a folder's number and its locks
abbrev pub namespace_done : Namespace → ℕ → Request → Namespace
namespace_done n p (Begin intent) = record n { begun = n.begun ++ record { process = p; intent = intent } ∷ [] }
namespace_done n p (MakeFolder spot) = record n { folders = n.folders ++ Some spot ∷ [] }
namespace_done n p (MoveFolder from to) = record n { folders = map (moved from to) n.folders }
namespace_done n p (TryLock handle mode) = record n { openings = map (locked p handle mode) n.openings }
namespace_done n p (Close handle) = record n { openings = filter (λ o. not (is_handle p handle o)) n.openings }
namespace_done n p (RemoveFolder spot) = record n { folders = map (removed spot) n.folders }
namespace_done n p Finish = without_process n p
namespace_done n p Kill = without_process n p
namespace_done n p _ = n

-- after a request that was answered with a handle
abbrev pub namespace_opened : Namespace → ℕ → Request → Handle → Namespace
namespace_opened n p (Open spot which) handle = record n { openings = n.openings ++ opened n p handle spot which ∷ [] }
namespace_opened n p (OpenArea area) handle = record n { openings = n.openings ++ opened_gate p handle area ∷ [] }
namespace_opened n p _ handle = n

-- after a reply; a refusal changes nothing
abbrev pub namespace_replied : Namespace → ℕ → Request → Reply → Namespace
namespace_replied n p request Done = namespace_done n p request
namespace_replied n p request (Opened handle) = namespace_opened n p request handle
namespace_replied n p request _ = n

-- an entry of a folder that stands
abbrev pub placed : Option ℕ → List ℕ → TreeNode → Option TreeEntry
placed None path node = None
placed (Some folder) path node = Some (record { folder = folder; path = path; node = node })

-- the entry that a request makes by its reply. A refused append may leave the first bytes of its piece
abbrev pub entry_made : Namespace → Request → Reply → Option TreeEntry
entry_made n (MakeDirIn inner) Done = placed (folder_at n inner.spot) inner.path Dir
entry_made n (MakeFileIn inner) Done = placed (folder_at n inner.spot) inner.path (Piece [])
entry_made n (AppendIn inner piece) Done = placed (folder_at n inner.spot) inner.path (Piece piece)
entry_made n (AppendIn inner piece) (Refused error left) = cond (left == 0) None (placed (folder_at n inner.spot) inner.path (Piece (take left piece)))
entry_made n _ _ = None

-- a removal takes what stands at the path and below it
abbrev pub removed_in : Option ℕ → List ℕ → List TreeEntry → List TreeEntry
removed_in None path es = es
removed_in (Some folder) path es = without_path folder path es

-- what stands in folders after a removal
abbrev pub entries_kept : Namespace → List TreeEntry → Request → Reply → List TreeEntry
entries_kept n es (RemoveFileIn inner) Done = removed_in (folder_at n inner.spot) inner.path es
entries_kept n es (RemoveDirIn inner) Done = removed_in (folder_at n inner.spot) inner.path es
entries_kept n es _ _ = es

-- a mark for an app, and the root that is then the app's own
abbrev pub is_mark : List ℕ → Bool
is_mark path = starts_with nat_eq path mark_prefix && not (list_any is_slash path)

-- the app that a mark made at this path starts
abbrev pub marked_app : Option ℕ → List ℕ → Option StartedApp
marked_app None path = None
marked_app (Some folder) path = cond (is_mark path) (Some (record { folder = folder; root = app_root (drop (length mark_prefix) path) })) None

-- an app is started in a pod that runs: what a maker names so before starts none
abbrev pub app_started : Namespace → Request → Reply → Option StartedApp
app_started n (MakeFileIn inner) Done = cond (is_run_or_later inner.spot.area) (marked_app (folder_at n inner.spot) inner.path) None
app_started n _ _ = None

-- a request that changes what stands in some directory or area
abbrev pub changes_names : Request → Bool
changes_names (MakeFolder spot) = true
changes_names (MoveFolder from to) = true
changes_names (MakeDirIn inner) = true
changes_names (MakeFileIn inner) = true
changes_names (RemoveFileIn inner) = true
changes_names (RemoveDirIn inner) = true
changes_names (RemoveFolder spot) = true
changes_names _ = false

-- the open listings: before a change they note what stands. A listing goes with its end, and with its process
abbrev pub listings_done : DirState → ℕ → Request → List OpenListing
listings_done s p Finish = without_listing p s.listings
listings_done s p Kill = without_listing p s.listings
listings_done s p request = cond (changes_names request) (noted_all s s.listings) s.listings

-- the listings that are going on after a request has its answer
abbrev pub listings_ended : DirState → ℕ → Request → List OpenListing
listings_ended s p request = cond (is_listing_request request) (without_listing p s.listings) s.listings

-- the same after any reply
abbrev pub listings_replied : DirState → ℕ → Request → Reply → List OpenListing
listings_replied s p request Done = listings_done s p request
listings_replied s p request Begun = s.listings ++ option_to_list (listing_begun s p request)
listings_replied s p request (Names names) = listings_ended s p request
listings_replied s p request (Items items) = listings_ended s p request
listings_replied s p request (Refused error left) = listings_ended s p request
listings_replied s p request _ = s.listings

-- after one event
abbrev pub state_next : DirState → Event → DirState
state_next s e = record {
  namespace = namespace_replied s.namespace e.process e.request e.reply;
  entries = entries_kept s.namespace s.entries e.request e.reply ++ option_to_list (entry_made s.namespace e.request e.reply);
  apps = s.apps ++ option_to_list (app_started s.namespace e.request e.reply);
  listings = listings_replied s e.process e.request e.reply;
}

-- after several, the oldest first
abbrev pub states_next : DirState → List Event → DirState
states_next s [] = s
states_next s (e ∷ es) = states_next (state_next s e) es

-- the state that a trace leaves
abbrev pub state_after : List Event → DirState
state_after trace = states_next empty_state trace
