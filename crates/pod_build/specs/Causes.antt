-- Why a pod isn't prepared, and by what it is.
use Rattle.std.specs.Prelude.{◌≡◌, ◌⊎◌, ℕ, Bool, true, List, ◌++◌}
use Rattle.ac_types.specs.declared.image_ref.ImageRef.{ImageRef}
use Rattle.dir_model.specs.declared.area.Area.{Area}
use Rattle.dir_model.specs.declared.area.Area.TheVariants.{Images}
use Rattle.dir_model.specs.declared.event.Event.{Event}
use Rattle.dir_model.specs.declared.intent.Draw.{Draw}
use Rattle.dir_model.specs.declared.pod.PodId.{PodId}
use Rattle.dir_model.specs.declared.spot.Mode.TheVariants.{Shared}
use Rattle.dir_trait.specs.DirCalls.{DirAt, HeldBetween}
use Rattle.dir_files.specs.declared.lock_error.LockError.{LockError}
use Rattle.dir_files.specs.declared.lock_error.LockError.TheVariants as lock
use Rattle.dir_files.specs.AreaLocks.{IsBusy, IsBusyElsewhere, IsFreeElsewhere}
use Rattle.folder_building.specs.declared.plan.PlanEntry.{PlanEntry}
use Rattle.folder_building.specs.Sources.{in_images}
use Rattle.folder_building.specs.Stored.{HadContents}
use Rattle.pod_manifest.specs.Wishes.{Wishes}
use Rattle.pod_plan.specs.declared.plan_error.PlanError.{PlanError}
use Rattle.pod_plan.specs.NoPlans.{IsNoPlan}
use Rattle.pod_plan.specs.FaithfulPods.{PlansFaithfully}
use Rattle.pod_build.specs.declared.make_error.MakeError.{MakeError}
use Rattle.pod_build.specs.MakingCauses.{MakeCause, HasMadeFolder}
use Rattle.pod_build.specs.declared.error.BuildError.{BuildError}
use Rattle.pod_build.specs.declared.error.BuildError.TheVariants.{Busy}
use Rattle.pod_build.specs.Refusals.{gate_refusal, plan_refusal, IsMakeRefusal}

-- the one stretch of time lies within the other
pub record IsStretchWithin (start end old new : DirAt) : Type 0 where
  pub same : start.process ≡ old.process
  pub before : List Event
  pub begins : start.trace ≡ old.trace ++ before
  pub after : List Event
  pub ends : new.trace ≡ end.trace ++ after

-- it was so in a part of the time
abbrev pub During : Bool → (DirAt → DirAt → Type 0) → DirAt → DirAt → Type 0
During observed P old new = (start : DirAt) × (end : DirAt) × (observed ≡ true → IsStretchWithin start end old new) × P start end

-- the lock of images wasn't had: it was held against it; or the directory failed, or memory ran out
abbrev pub FailsGate : Bool → BuildError → DirAt → DirAt → Type 0
FailsGate observed error old new = (reason : LockError) × (error ≡ gate_refusal reason) × (reason ≡ lock.Busy → observed ≡ true → HeldBetween old new (IsBusy Images Shared))

-- when the process took that lock, no other process held it exclusively
abbrev pub FindsImagesFree : Bool → DirAt → DirAt → Type 0
FindsImagesFree observed old new = observed ≡ true → HeldBetween old new (IsFreeElsewhere old.process Images Shared)

-- the store gave no plan
abbrev pub FailsPlan : Bool → List ImageRef → Wishes → BuildError → DirAt → DirAt → Type 0
FailsPlan observed refs options error old new = (reason : PlanError) × (error ≡ plan_refusal reason) × IsNoPlan observed refs options old new reason

-- the pod wasn't made by its plan
abbrev pub FailsMaking : Bool → PodId → List PlanEntry → BuildError → DirAt → DirAt → Type 0
FailsMaking observed draw plan error old new = (reason : MakeError) × IsMakeRefusal plan draw reason error × MakeCause observed draw plan reason old new

-- the store gave a plan of the pod, by which it then wasn't made
abbrev pub FailsAfterPlan : Bool → List ImageRef → Wishes → Draw → ℕ → BuildError → DirAt → DirAt → Type 0
FailsAfterPlan observed refs options draw now error old new = (plan : List PlanEntry)
    × During observed (λ a b. observed ≡ true → PlansFaithfully refs options now draw.token plan a b) old new
    × During observed (λ a b. FailsMaking observed draw.uuid plan error a b) old new

-- its folder was made in embryo, and each file of the images that the plan copies was read whole
abbrev pub FollowsPlan : PodId → List PlanEntry → DirAt → DirAt → Type 0
FollowsPlan draw plan old new = HasMadeFolder draw old new × HadContents in_images plan old new

-- the store gave a plan of the pod, by which it then was made
abbrev pub IsMadeByPlan : Bool → List ImageRef → Wishes → Draw → ℕ → DirAt → DirAt → Type 0
IsMadeByPlan observed refs options draw now old new = (plan : List PlanEntry)
    × During observed (λ a b. observed ≡ true → PlansFaithfully refs options now draw.token plan a b) old new
    × During observed (λ a b. observed ≡ true → FollowsPlan draw.uuid plan a b) old new

abbrev pub IsRefusedUnderLock : Bool → List ImageRef → Wishes → Draw → ℕ → BuildError → DirAt → DirAt → Type 0
IsRefusedUnderLock observed refs options draw now error old new =
    During observed (λ a b. FailsPlan observed refs options error a b) old new ⊎ FailsAfterPlan observed refs options draw now error old new

abbrev pub IsBuildRefused : Bool → List ImageRef → Wishes → Draw → ℕ → BuildError → DirAt → DirAt → Type 0
IsBuildRefused observed refs options draw now error old new =
    FailsGate observed error old new ⊎ (FindsImagesFree observed old new × IsRefusedUnderLock observed refs options draw now error old new)

-- the lock of the area that is told was another process's, held so that it conflicts
abbrev pub AreaHeldElsewhere : BuildError → DirAt → DirAt → Type 0
AreaHeldElsewhere error old new = (area : Area) → error ≡ Busy area → HeldBetween old new (IsBusyElsewhere old.process area Shared)
