-- Where every process keeps the local rules no prepare is refused as stray.
use Rattle.std.proofs.Common.{◌≡◌, inl, inr, ℕ, Bool, true, IfErr, IsErrOf, Result, List, refl, subst}
use Rattle.ac_types.specs.declared.image_ref.ImageRef.{ImageRef}
use Rattle.dir_files.specs.declared.lock_error.LockError.{LockError}
use Rattle.dir_files.specs.declared.lock_error.LockError.TheVariants as lock
use Rattle.dir_model.specs.declared.intent.Draw.{Draw}
use Rattle.dir_model.specs.declared.pod.PodId.{PodId}
use Rattle.dir_trait.specs.DirCalls.{DirAt}
use Rattle.folder_building.specs.declared.plan.PlanEntry.{PlanEntry}
use Rattle.lifecycle.specs.Executions.{IsConforming}
use Rattle.lifecycle.proofs.Draws.{conforming_left}
use Rattle.pod_manifest.specs.Wishes.{Wishes}
use Rattle.pod_build.specs.declared.make_error.MakeError.{MakeError}
use Rattle.pod_build.specs.declared.make_error.MakeError.TheVariants as make
use Rattle.pod_build.proofs.MakingLawful.{never_stray}
use Rattle.pod_plan.specs.declared.plan_error.PlanError.{PlanError}
use Rattle.pod_plan.specs.declared.plan_error.PlanError.TheVariants as plan
use Rattle.pod_build.specs.declared.built.Built.{Built}
use Rattle.pod_build.specs.declared.error.BuildError.{BuildError}
use Rattle.pod_build.specs.declared.error.BuildError.TheVariants.{Stray}
use Rattle.pod_build.specs.Causes.{IsStretchWithin, FailsMaking, IsBuildRefused}
use Rattle.pod_build.specs.Refusals.{gate_refusal, plan_refusal, IsMakeRefusal}

gate_never : (reason : LockError) → Stray ≡ gate_refusal reason → ⊥
gate_never lock.Busy is = cc
gate_never lock.DirFault is = cc
gate_never lock.NoMemory is = cc

plan_never : (reason : PlanError) → Stray ≡ plan_refusal reason → ⊥
plan_never (plan.Damaged path) is = cc
plan_never (plan.NoMatch place) is = cc
plan_never (plan.DepError fault) is = cc
plan_never (plan.GenError refusal) is = cc
plan_never (plan.RenderError refusal) is = cc
plan_never (plan.ListingError refusal) is = cc
plan_never plan.DirFault is = cc
plan_never plan.NoMemory is = cc

make_only : (entries : List PlanEntry) (draw : PodId) (reason : MakeError) → IsMakeRefusal entries draw reason Stray → reason ≡ make.Stray
make_only entries draw make.Busy is = cc
make_only entries draw make.Taken is = cc
make_only entries draw (make.Unlike place) is = absurd is
make_only entries draw make.DirFault is = cc
make_only entries draw make.Stray is = refl
make_only entries draw make.NoMemory is = cc

-- the making was refused, in a part of the time
made_never : {observed : Bool} {draw : PodId} {entries : List PlanEntry} {start end old new : DirAt} → FailsMaking observed draw entries Stray start end → (observed ≡ true → IsStretchWithin start end old new) → observed ≡ true → IsConforming new.trace → ⊥
made_never {observed} {draw} {entries} {start} {end} {old} {new} fails part t conforming =
    let p = part t in
    never_stray fails.2 (make_only entries draw fails.0 fails.1) t (conforming_left end.trace p.after (subst IsConforming p.ends conforming))

pub never_refused : {observed : Bool} {refs : List ImageRef} {options : Wishes} (draw : Draw) {now : ℕ} {old new : DirAt} → IsBuildRefused observed refs options draw now Stray old new → observed ≡ true → IsConforming new.trace → ⊥
never_refused draw (inl gate) t conforming = gate_never gate.0 gate.1
never_refused draw (inr (free, inl x)) t conforming = plan_never x.3.0 x.3.1
never_refused draw (inr (free, inr x)) t conforming = made_never x.2.3 x.2.2 t conforming

pub refused_stray : {observed : Bool} (refs : List ImageRef) (options : Wishes) (draw : Draw) (now : ℕ) (old new : DirAt) (r : Result Built BuildError) → IfErr r (λ e. IsBuildRefused observed refs options draw now e old new) → IsErrOf r Stray
    → observed ≡ true → IsConforming new.trace → ⊥
refused_stray {observed} refs options draw now old new r refused is t conforming =
    never_refused draw (subst (λ (x : Result Built BuildError). IfErr x (λ e. IsBuildRefused observed refs options draw now e old new)) is refused) t conforming
