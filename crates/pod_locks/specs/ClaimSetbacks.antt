-- What the refusals of lower calls mean to a claim.
use Rattle.dir_model.specs.declared.pod.PodId.{PodId}
use Rattle.dir_model.specs.declared.request.DirError.{DirError}
use Rattle.dir_model.specs.declared.request.DirError.TheVariants as dir
use Rattle.phase_read.specs.declared.found.LookError.{LookError}
use Rattle.phase_read.specs.declared.found.LookError.TheVariants as look
use Rattle.pod_locks.specs.declared.claim_error.ClaimError.{ClaimError}
use Rattle.pod_locks.specs.declared.claim_error.ClaimError.TheVariants.{Busy, NoManifest, DirFault, Stray, NoMemory}
use Rattle.pod_locks.specs.declared.setback.Setback.{Setback as StepSetback}
use Rattle.pod_locks.specs.declared.setback.Setback.TheVariants as step
use Rattle.pod_locks.specs.declared.claim_setback.Setback.{Setback}
use Rattle.pod_locks.specs.declared.claim_setback.Setback.TheVariants.{Missing, Refused}

-- a location that is missing sends the claim back to the read
abbrev pub claim_setback_of : DirError → Setback
claim_setback_of dir.Missing = Missing
claim_setback_of dir.Failed = Refused DirFault
claim_setback_of dir.NoMemory = Refused NoMemory
claim_setback_of _ = Refused Stray

-- a step at the pod was set back
abbrev pub claim_step_setback : PodId → StepSetback → Setback
claim_step_setback pod step.Missing = Missing
claim_step_setback pod step.NoManifest = Refused NoManifest
claim_step_setback pod (step.Busy which) = Refused (Busy pod which)
claim_step_setback pod step.DirFault = Refused DirFault
claim_step_setback pod step.Stray = Refused Stray
claim_step_setback pod step.NoMemory = Refused NoMemory

-- a look at a pod gives DirFault or NoMemory
abbrev pub look_refusal : LookError → ClaimError
look_refusal look.DirFault = DirFault
look_refusal _ = NoMemory

-- a claim that is set back for good
abbrev pub last_refusal : Setback → ClaimError
last_refusal Missing = Stray
last_refusal (Refused error) = error
