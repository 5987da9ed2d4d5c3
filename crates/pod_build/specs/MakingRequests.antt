-- What the maker of a pod asks the directory for, and which answers its own making doesn't explain.
use Rattle.std.specs.Prelude.{Bool, true, false, ◌&&◌}
use Rattle.dir_model.specs.Spots.{pod_spot}
use Rattle.dir_model.specs.declared.area.Area.{Area}
use Rattle.dir_model.specs.declared.area.Area.TheVariants.{Embryo, Prepare, Prepared, Run}
use Rattle.dir_model.specs.declared.pod.PodId.{PodId}
use Rattle.dir_model.specs.declared.spot.Mode.TheVariants.{Exclusive}
use Rattle.dir_model.specs.declared.spot.Spot.{Spot}
use Rattle.dir_model.specs.declared.spot.Which.TheVariants as which
use Rattle.dir_model.specs.declared.request.DirError.TheVariants.{Missing, Exists, Locked}
use Rattle.dir_model.specs.declared.request.Reply.{Reply}
use Rattle.dir_model.specs.declared.request.Reply.TheVariants.{Done, Refused}
use Rattle.dir_model.specs.declared.request.Request.{Request}
use Rattle.dir_model.specs.declared.request.Request.TheVariants.{OpenArea, Open, TryLock, Close, MakeFolder, MoveFolder}
use Rattle.dir_model.specs.Pods.{pod_text}
use Rattle.dir_model.specs.State.{spot_eq}
use Rattle.dir_rules.specs.Standing.{is_in}
use Rattle.folder_building.specs.Sources.{reads_image_files}
use Rattle.folder_building.specs.Work.{either, builds_at, is_stray_building}

-- from which area the maker moves the pod to this one: it goes from embryo to prepare, and from there to prepared or to run
abbrev pub area_before : Area → Area
area_before Prepare = Embryo
area_before area = Prepare

-- the lock of embryo, the folder there, its own lock, and its move to prepare
abbrev pub begins_pod : PodId → Request → Bool
begins_pod draw (OpenArea area) = is_in Embryo area
begins_pod draw (TryLock handle mode) = true
begins_pod draw (Close handle) = true
begins_pod draw (MakeFolder spot) = spot_eq spot (pod_spot draw Embryo)
begins_pod draw (Open spot which.Own) = spot_eq spot (pod_spot draw Embryo)
begins_pod draw (MoveFolder from to) = spot_eq from (pod_spot draw Embryo) && spot_eq to (pod_spot draw Prepare)
begins_pod draw request = false

-- the changes in the folder in prepare, and reads of images
abbrev pub fills_pod : PodId → Request → Bool
fills_pod draw = either (builds_at (pod_spot draw Prepare)) reads_image_files

-- its last move
abbrev pub hands_pod : PodId → Area → Request → Bool
hands_pod draw to (MoveFolder from there) = spot_eq from (pod_spot draw Prepare) && spot_eq there (pod_spot draw to)
hands_pod draw to request = false

abbrev pub finishes_pod : PodId → Area → Request → Bool
finishes_pod draw to = either (hands_pod draw to) (fills_pod draw)

-- what it asks for in all
abbrev pub makes_pod : PodId → Area → Request → Bool
makes_pod draw to = either (begins_pod draw) (finishes_pod draw to)

-- the own lock of the folder in embryo
abbrev pub locks_own : PodId → Request → Bool
locks_own draw (Open spot which.Own) = spot_eq spot (pod_spot draw Embryo)
locks_own draw (TryLock handle mode) = true
locks_own draw request = false

-- an answer that shows that another took the folder that was just made: under the lock of embryo nobody else moves it or locks
-- it
abbrev pub shows_taken : PodId → Request → Reply → Bool
shows_taken draw (Open spot which.Own) (Refused Missing left) = spot_eq spot (pod_spot draw Embryo)
shows_taken draw (TryLock handle Exclusive) (Refused Locked left) = true
shows_taken draw (MoveFolder from to) (Refused Missing left) = spot_eq from (pod_spot draw Embryo)
shows_taken draw (MoveFolder from to) (Refused Exists left) = spot_eq from (pod_spot draw Embryo)
shows_taken draw request reply = false

-- the move of the folder to prepare
abbrev pub is_move_to_prepare : PodId → Request → Reply → Bool
is_move_to_prepare draw (MoveFolder from to) Done = spot_eq from (pod_spot draw Embryo) && spot_eq to (pod_spot draw Prepare)
is_move_to_prepare draw request reply = false

-- its move from there to prepared or to run
abbrev pub hands_on : PodId → Request → Bool
hands_on draw = either (hands_pod draw Prepared) (hands_pod draw Run)

-- an answer that shows that another changed it there, or moved it, or that its place is taken
abbrev pub shows_changed : PodId → Request → Reply → Bool
shows_changed draw (MoveFolder from to) (Refused Missing left) = hands_on draw (MoveFolder from to)
shows_changed draw (MoveFolder from to) (Refused Exists left) = hands_on draw (MoveFolder from to)
shows_changed draw request reply = fills_pod draw request && is_stray_building request reply
