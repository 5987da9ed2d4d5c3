-- What a removal of an image and a sweep ask the directory for, and which answers nothing explains.
use Rattle.std.specs.Prelude.{ℕ, Bool, true, false, ◌&&◌, ◌||◌, List}
use Rattle.ac_types.specs.declared.store_key.StoreKey.{StoreKey}
use Rattle.dir_model.specs.declared.area.Area.{Area}
use Rattle.dir_model.specs.declared.area.Area.TheVariants.{Incoming, Images, Removed}
use Rattle.dir_model.specs.declared.pod.PodId.{PodId}
use Rattle.dir_model.specs.declared.spot.Mode.TheVariants.{Shared, Exclusive}
use Rattle.dir_model.specs.declared.spot.Spot.{Spot}
use Rattle.dir_model.specs.declared.spot.Which.TheVariants.{Own, Claim}
use Rattle.dir_model.specs.declared.request.DirError.TheVariants.{Missing, Exists}
use Rattle.dir_model.specs.declared.request.Reply.{Reply}
use Rattle.dir_model.specs.declared.request.Reply.TheVariants.{Refused}
use Rattle.dir_model.specs.declared.request.Request.{Request}
use Rattle.dir_model.specs.declared.request.Request.TheVariants.{MoveFolder, Open, OpenArea, TryLock, Close, ListArea, ListIn, RemoveFileIn, RemoveDirIn, RemoveFolder}
use Rattle.dir_model.specs.Pods.{pod_text}
use Rattle.dir_model.specs.State.{spot_eq}
use Rattle.dir_rules.specs.Standing.{is_in}
use Rattle.dir_files.specs.AreaLocks.{is_taking_area}
use Rattle.folder_removal.specs.Removal.{asks_deletion_at, is_stray_deletion}
use Rattle.image_reading.specs.Places.{image_spot}

abbrev pub incoming_spot : List ℕ → Spot
incoming_spot name = record { area = Incoming; name = name }

abbrev pub removed_spot : List ℕ → Spot
removed_spot name = record { area = Removed; name = name }

-- where the process with this draw puts an image away
abbrev pub away_spot : PodId → Spot
away_spot draw = removed_spot (pod_text draw.bytes)

-- the image is moved there
abbrev pub puts_away : StoreKey → PodId → Request
puts_away key draw = MoveFolder (image_spot key) (away_spot draw)

-- the exclusive lock of one of two areas: opened, asked for, given up
abbrev pub locks_one : Area → Area → Request → Bool
locks_one first second (OpenArea area) = is_in first area || is_in second area
locks_one first second (TryLock handle Exclusive) = true
locks_one first second (TryLock handle Shared) = false
locks_one first second (Close handle) = true
locks_one first second request = false

-- whether a folder stands at the location
abbrev pub looks_at_folder : Spot → Request → Bool
looks_at_folder spot (Open here Own) = spot_eq here spot
looks_at_folder spot (Open here Claim) = false
looks_at_folder spot (Close handle) = true
looks_at_folder spot request = false

-- the folder's move from here to there
abbrev pub moves_folder : Spot → Spot → Request → Bool
moves_folder here there (MoveFolder from to) = spot_eq from here && spot_eq to there
moves_folder here there request = false

-- the lock of removed, a look at what was put away there, and its deletion
abbrev pub deletes_away : PodId → Request → Bool
deletes_away draw request = is_taking_area Removed Exclusive request || (looks_at_folder (away_spot draw) request || asks_deletion_at (away_spot draw) request)

-- a removal of an image: the locks of images and removed, the image's move, and in removed a look at what was moved, and
-- its deletion
abbrev pub removes_at : StoreKey → PodId → Request → Bool
removes_at key draw request =
    locks_one Images Removed request
    || (moves_folder (image_spot key) (away_spot draw) request || (looks_at_folder (away_spot draw) request || asks_deletion_at (away_spot draw) request))

-- the listing of an area
abbrev pub lists_store_area : Area → Request → Bool
lists_store_area area (ListArea here) = is_in here area
lists_store_area area request = false

-- a sweep: the locks of incoming and removed, their listings, moves from the first to the second, and deletions there
abbrev pub sweeps_store : Request → Bool
sweeps_store (ListArea area) = is_in area Incoming || is_in area Removed
sweeps_store (MoveFolder from to) = is_in from.area Incoming && is_in to.area Removed
sweeps_store (ListIn inner) = is_in inner.spot.area Removed
sweeps_store (RemoveFileIn inner) = is_in inner.spot.area Removed
sweeps_store (RemoveDirIn inner) = is_in inner.spot.area Removed
sweeps_store (RemoveFolder spot) = is_in spot.area Removed
sweeps_store request = locks_one Incoming Removed request

-- an answer that what the locks keep doesn't explain
abbrev pub is_stray_removal : Request → Reply → Bool
is_stray_removal (MoveFolder from to) (Refused Exists left) = true
is_stray_removal (MoveFolder from to) (Refused Missing left) = is_in from.area Incoming
is_stray_removal request reply = is_stray_deletion request reply
