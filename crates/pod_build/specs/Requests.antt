-- What the maker of a pod asks the directory for, the reading of images and their lock with it.
use Rattle.std.specs.Prelude.{Bool}
use Rattle.dir_model.specs.declared.area.Area.{Area}
use Rattle.dir_model.specs.declared.area.Area.TheVariants.{Images}
use Rattle.dir_model.specs.declared.pod.PodId.{PodId}
use Rattle.dir_model.specs.declared.request.Request.{Request}
use Rattle.dir_model.specs.declared.spot.Mode.TheVariants.{Shared}
use Rattle.dir_files.specs.AreaLocks.{is_taking_area}
use Rattle.folder_building.specs.Work.{either}
use Rattle.image_reading.specs.Looks.{reads_images}
use Rattle.pod_build.specs.MakingRequests.{makes_pod}

-- under the lock of images: what it reads of them, and what makes the pod
abbrev pub prepares_under_lock : PodId → Area → Request → Bool
prepares_under_lock draw to = either reads_images (makes_pod draw to)

-- and the lock
abbrev pub prepares : PodId → Area → Request → Bool
prepares draw to = either (is_taking_area Images Shared) (prepares_under_lock draw to)
