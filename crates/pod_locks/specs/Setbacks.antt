-- What the refusals of lower calls mean to a step at a pod.
use Rattle.dir_model.specs.declared.spot.Which.{Which}
use Rattle.dir_model.specs.declared.request.DirError.{DirError}
use Rattle.dir_model.specs.declared.request.DirError.TheVariants as dir
use Rattle.folder_removal.specs.declared.error.DeleteError.{DeleteError}
use Rattle.folder_removal.specs.declared.error.DeleteError.TheVariants as delete
use Rattle.phase_read.specs.declared.found.LookError.{LookError}
use Rattle.phase_read.specs.declared.found.LookError.TheVariants as look
use Rattle.pod_locks.specs.declared.setback.Setback.{Setback}
use Rattle.pod_locks.specs.declared.setback.Setback.TheVariants.{Missing, Busy, DirFault, Stray, NoMemory}

-- a lock was opened, the pod moved or marked
abbrev pub step_setback_of : DirError → Setback
step_setback_of dir.Missing = Missing
step_setback_of dir.Failed = DirFault
step_setback_of dir.NoMemory = NoMemory
step_setback_of _ = Stray

-- the lock was asked for
abbrev pub step_lock_setback : Which → DirError → Setback
step_lock_setback which dir.Locked = Busy which
step_lock_setback which error = step_setback_of error

-- a look at a pod gives DirFault or NoMemory
abbrev pub look_setback : LookError → Setback
look_setback look.DirFault = DirFault
look_setback _ = NoMemory

abbrev pub delete_setback : DeleteError → Setback
delete_setback delete.DirFault = DirFault
delete_setback delete.Stray = Stray
delete_setback delete.NoMemory = NoMemory
