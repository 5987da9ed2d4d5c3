-- What an import asks the directory for, and which answers nothing explains.
use Rattle.std.specs.Prelude.{Bool, true, false, ◌&&◌, ◌||◌}
use Rattle.dir_model.specs.declared.area.Area.TheVariants.{Incoming, Images}
use Rattle.dir_model.specs.declared.pod.PodId.{PodId}
use Rattle.dir_model.specs.declared.spot.Mode.TheVariants.{Shared, Exclusive}
use Rattle.dir_model.specs.declared.spot.Spot.{Spot}
use Rattle.dir_model.specs.declared.request.DirError.TheVariants.{Missing, Exists}
use Rattle.dir_model.specs.declared.request.Reply.{Reply}
use Rattle.dir_model.specs.declared.request.Reply.TheVariants.{Done, Refused}
use Rattle.dir_model.specs.declared.request.Request.{Request}
use Rattle.dir_model.specs.declared.request.Request.TheVariants.{OpenArea, TryLock, Close, MakeFolder, MoveFolder, MakeDirIn, MakeFileIn, AppendIn, SyncIn}
use Rattle.dir_model.specs.Pods.{pod_text}
use Rattle.dir_model.specs.State.{spot_eq}
use Rattle.dir_rules.specs.Standing.{is_in}
use Rattle.folder_building.specs.Work.{builds_at, is_stray_building}
use Rattle.image_reading.specs.Looks.{reads_images}

-- where the process with this draw builds an image
abbrev pub building_spot : PodId → Spot
building_spot draw = record { area = Incoming; name = pod_text draw.bytes }

-- the lock of incoming or of images, shared
abbrev pub takes_lock : Request → Bool
takes_lock (OpenArea area) = is_in Images area || is_in Incoming area
takes_lock (TryLock handle Shared) = true
takes_lock (TryLock handle Exclusive) = false
takes_lock (Close handle) = true
takes_lock request = false

-- the folder in which it builds, made and moved to images
abbrev pub brings : Spot → Request → Bool
brings spot (MakeFolder here) = spot_eq here spot
brings spot (MoveFolder from to) = spot_eq from spot && is_in Images to.area
brings spot request = false

-- what it asks for in all: the locks, looks at images, and changes of its own folder
abbrev pub imports_at : Spot → Request → Bool
imports_at spot request = takes_lock request || (reads_images request || (brings spot request || builds_at spot request))

-- the request is about a folder in incoming: its make, what is made in it, or its move to images
abbrev pub is_of_incoming : Request → Bool
is_of_incoming (MakeFolder spot) = is_in Incoming spot.area
is_of_incoming (MoveFolder from to) = is_in Incoming from.area && is_in Images to.area
is_of_incoming (MakeDirIn inner) = is_in Incoming inner.spot.area
is_of_incoming (MakeFileIn inner) = is_in Incoming inner.spot.area
is_of_incoming (AppendIn inner piece) = is_in Incoming inner.spot.area
is_of_incoming (SyncIn inner) = is_in Incoming inner.spot.area
is_of_incoming request = false

-- an answer that a folder of its own doesn't explain
abbrev pub is_stray_reply : Request → Reply → Bool
is_stray_reply (MakeFolder spot) (Refused Exists left) = true
is_stray_reply (MoveFolder from to) (Refused Missing left) = true
is_stray_reply request reply = is_stray_building request reply

-- and the request is about a folder in incoming
abbrev pub is_stray_import : Request → Reply → Bool
is_stray_import request reply = is_of_incoming request && is_stray_reply request reply

-- a folder came into images
abbrev pub brings_image : Request → Reply → Bool
brings_image (MoveFolder from to) Done = is_in Images to.area
brings_image request reply = false

abbrev pub is_close : Request → Bool
is_close (Close handle) = true
is_close request = false

-- what is asked for to build an image: the make of its folder, and the changes inside
abbrev pub makes_image : Spot → Request → Bool
makes_image spot (MakeFolder here) = spot_eq here spot
makes_image spot request = builds_at spot request
