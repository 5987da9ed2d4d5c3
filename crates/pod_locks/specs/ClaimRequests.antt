-- What a claim asks the directory for.
use Rattle.std.specs.Prelude.{Bool, true, false, ◌&&◌}
use Rattle.dir_model.specs.declared.area.Area.TheVariants.{Prepared, Run}
use Rattle.dir_model.specs.declared.pod.PodId.{PodId}
use Rattle.dir_model.specs.declared.spot.Spot.{Spot}
use Rattle.dir_model.specs.declared.request.Request.{Request}
use Rattle.dir_model.specs.declared.request.Request.TheVariants.{Open, TryLock, Close, MoveFolder}
use Rattle.dir_model.specs.State.{spot_eq}
use Rattle.dir_model.specs.Spots.{pod_spot}
use Rattle.phase_read.specs.Read.{is_pod_spot}

-- where the pod waits to be run
abbrev pub in_prepared : PodId → Spot
in_prepared pod = pod_spot pod Prepared

-- where it runs
abbrev pub in_run : PodId → Spot
in_run pod = pod_spot pod Run

-- looks at the pod's locations, locks there, and the move from prepared to run
abbrev pub claims : PodId → Request → Bool
claims pod (Open spot which) = is_pod_spot pod spot
claims pod (TryLock handle mode) = true
claims pod (Close handle) = true
claims pod (MoveFolder from to) = spot_eq (in_prepared pod) from && spot_eq (in_run pod) to
claims pod _ = false
