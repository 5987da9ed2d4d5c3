-- Where a pod stands in an area.
use Rattle.dir_model.specs.declared.area.Area.{Area}
use Rattle.dir_model.specs.declared.pod.PodId.{PodId}
use Rattle.dir_model.specs.declared.spot.Spot.{Spot}
use Rattle.dir_model.specs.Pods.{pod_text}

-- the folder that has the pod's text as its name
abbrev pub pod_spot : PodId → Area → Spot
pod_spot pod area = record { area = area; name = pod_text pod.bytes }
