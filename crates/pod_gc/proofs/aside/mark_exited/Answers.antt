use Rattle.std.proofs.Common.{◌≡◌, IfErr, sym, subst}
use Rattle.plain_laws.proofs.Results.{err_all}
use Rattle.dir_model.specs.declared.area.Area.{Area}
use Rattle.dir_model.specs.declared.area.Area.TheVariants.{Run}
use Rattle.folder_building.proofs.Working.{worked_none}
use Rattle.pod_locks.specs.Causes.{StepWasStopped, IsAbsentAt}
use Rattle.pod_gc.proofs.Retiring.{ready_unasked}
use Rattle.pod_gc.proofs.aside.mark_exited.Goals as goal

pub returns-in-Run-clause-elsewhere : goal.returns-in-Run-clause-elsewhere
returns-in-Run-clause-elsewhere g c apart = absurd (apart c.in-Run.is)

pub returns-in-Run-clause-only : goal.returns-in-Run-clause-only
returns-in-Run-clause-only g c = err_all (λ e. c.args.area ≡ Run) c.mark.result (λ e. c.in-Run.is)

pub returns-in-Run-clause-stopped : goal.returns-in-Run-clause-stopped
returns-in-Run-clause-stopped g c =
    let D = g.D.Dir in
    subst (λ (a : Area). IfErr c.mark.result (λ e. StepWasStopped D.observed c.args.pod (IsAbsentAt c.args.pod a) e (D.shown c.args.dir.now) (D.shown c.mark.new.dir))) (sym c.in-Run.is) c.mark.ensures.stopped

pub returns-in_default-clause-worked : goal.returns-in_default-clause-worked
returns-in_default-clause-worked g c = worked_none

pub returns-in_default-clause-marked : goal.returns-in_default-clause-marked
returns-in_default-clause-marked g c is = absurd (c.in_default.not-Run is)

pub returns-in_default-clause-noted : goal.returns-in_default-clause-noted
returns-in_default-clause-noted g c is = absurd (c.in_default.not-Run is)

pub returns-in_default-clause-left : goal.returns-in_default-clause-left
returns-in_default-clause-left g c t = ready_unasked c.args.pod c.args.now
