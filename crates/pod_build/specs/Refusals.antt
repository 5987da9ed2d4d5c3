-- The refusals of lower calls.
use Rattle.std.specs.Prelude.{◌≡◌, List}
use Rattle.dir_model.specs.declared.area.Area.TheVariants.{Images, Embryo}
use Rattle.dir_model.specs.declared.pod.PodId.{PodId}
use Rattle.dir_files.specs.declared.lock_error.LockError.{LockError}
use Rattle.dir_files.specs.declared.lock_error.LockError.TheVariants as lock
use Rattle.folder_building.specs.declared.plan.PlanEntry.{PlanEntry}
use Rattle.pod_plan.specs.declared.plan_error.PlanError.{PlanError}
use Rattle.pod_plan.specs.declared.plan_error.PlanError.TheVariants as plan
use Rattle.pod_build.specs.declared.make_error.MakeError.{MakeError}
use Rattle.pod_build.specs.declared.make_error.MakeError.TheVariants as make
use Rattle.pod_build.specs.declared.error.BuildError.{BuildError}
use Rattle.pod_build.specs.declared.error.BuildError.TheVariants.{Busy, Damaged, NoMatch, DepError, GenError, RenderError, ListingError, Taken, DirFault, Stray, NoMemory}
use Rattle.pod_build.specs.Origins.{IsOriginDamaged}

abbrev pub gate_refusal : LockError → BuildError
gate_refusal lock.Busy = Busy Images
gate_refusal lock.DirFault = DirFault
gate_refusal lock.NoMemory = NoMemory

abbrev pub plan_refusal : PlanError → BuildError
plan_refusal (plan.Damaged path) = Damaged path
plan_refusal (plan.NoMatch place) = NoMatch place
plan_refusal (plan.DepError fault) = DepError fault
plan_refusal (plan.GenError refusal) = GenError refusal
plan_refusal (plan.RenderError refusal) = RenderError refusal
plan_refusal (plan.ListingError refusal) = ListingError refusal
plan_refusal plan.DirFault = DirFault
plan_refusal plan.NoMemory = NoMemory

-- the pod wasn't made by the plan, and so this is answered
abbrev pub IsMakeRefusal : List PlanEntry → PodId → MakeError → BuildError → Type 0
IsMakeRefusal entries draw make.Busy error = error ≡ Busy Embryo
IsMakeRefusal entries draw make.Taken error = error ≡ Taken draw
IsMakeRefusal entries draw (make.Unlike place) error = IsOriginDamaged entries place error
IsMakeRefusal entries draw make.DirFault error = error ≡ DirFault
IsMakeRefusal entries draw make.Stray error = error ≡ Stray
IsMakeRefusal entries draw make.NoMemory error = error ≡ NoMemory
