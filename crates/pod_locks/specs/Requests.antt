-- What a step at a pod asks the directory for.
use Rattle.std.specs.Prelude.{Bool, true, false, ◌&&◌}
use Rattle.dir_model.specs.declared.area.Area.{Area}
use Rattle.dir_model.specs.declared.pod.PodId.{PodId}
use Rattle.dir_model.specs.declared.request.Request.{Request}
use Rattle.dir_model.specs.declared.request.Request.TheVariants.{Open, TryLock, Close, MoveFolder}
use Rattle.dir_model.specs.Replies.{is_look_at}
use Rattle.dir_model.specs.State.{spot_eq}
use Rattle.dir_model.specs.Spots.{pod_spot}

-- a lock of the pod's folder at this place is opened, asked for and given up
abbrev pub looks_at : PodId → Area → Request → Bool
looks_at pod area (Open spot which) = spot_eq (pod_spot pod area) spot
looks_at pod area (TryLock handle mode) = true
looks_at pod area (Close handle) = true
looks_at pod area _ = false

-- the same, and no lock is asked for but shared
abbrev pub peeks_at : PodId → Area → Request → Bool
peeks_at pod area request = is_look_at (spot_eq (pod_spot pod area)) request

-- it is moved from here to there
abbrev pub moves_pod : PodId → Area → Area → Request → Bool
moves_pod pod from to (MoveFolder here there) = spot_eq (pod_spot pod from) here && spot_eq (pod_spot pod to) there
moves_pod pod from to _ = false
