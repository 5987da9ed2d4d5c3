-- What it means for the pod's removal that a step at it was set back for good.
use Rattle.dir_model.specs.declared.pod.PodId.{PodId}
use Rattle.pod_locks.specs.declared.setback.Setback.{Setback}
use Rattle.pod_locks.specs.declared.setback.Setback.TheVariants.{Missing, NoManifest, Busy, DirFault, Stray, NoMemory}
use Rattle.pod_gc.specs.declared.remove_error.RemoveError.{RemoveError}
use Rattle.pod_gc.specs.declared.remove_error.RemoveError.TheVariants as error

abbrev pub remove_error_of : PodId → Setback → RemoveError
remove_error_of pod Missing = error.Stray
remove_error_of pod NoManifest = error.NoManifest
remove_error_of pod (Busy which) = error.Busy pod which
remove_error_of pod DirFault = error.DirFault
remove_error_of pod Stray = error.Stray
remove_error_of pod NoMemory = error.NoMemory
