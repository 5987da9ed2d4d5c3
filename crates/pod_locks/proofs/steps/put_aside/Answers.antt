use Rattle.std.proofs.Common.{Ok, Err, refl, sym, ap, subst, ◌∙◌}
use Rattle.dir_trait.proofs.Calls.{with_spots}
use Rattle.pod_locks.proofs.Traces.{one_deed}
use Rattle.pod_locks.specs.declared.setback.Setback.{Setback}
use Rattle.pod_locks.specs.Causes.{StepWasStopped, IsAbsentAt}
use Rattle.pod_locks.proofs.Calls.{worked_move, move_stops}
use Rattle.pod_locks.proofs.Knowing.{never_busy, ready_moved, ready_unmoved}
use Rattle.pod_locks.proofs.Taking.{took_call}
use Rattle.pod_locks.proofs.Lawful.{move_lawful}
use Rattle.pod_locks.specs.Causes.{NeverStray}
use Rattle.pod_locks.proofs.steps.put_aside.Goals as goal

pub returns-in-Ok-clause-worked : goal.returns-in-Ok-clause-worked
returns-in-Ok-clause-worked g c = worked_move c.args.pod c.args.from c.args.to (Ok tt) (with_spots c.of_pod.ensures c.of_pod-2.ensures c.in-Ok.ensures.called)

pub returns-in-Ok-clause-done : goal.returns-in-Ok-clause-done
returns-in-Ok-clause-done g c t = one_deed ((with_spots c.of_pod.ensures c.of_pod-2.ensures c.in-Ok.ensures.called).step t)

pub returns-in-Ok-clause-ready : goal.returns-in-Ok-clause-ready
returns-in-Ok-clause-ready g c = ready_moved c.args.pod c.args.from c.args.to (with_spots c.of_pod.ensures c.of_pod-2.ensures c.in-Ok.ensures.called)

pub returns-in-Err-clause-worked : goal.returns-in-Err-clause-worked
returns-in-Err-clause-worked g c = worked_move c.args.pod c.args.from c.args.to (Err c.in-Err.error) (with_spots c.of_pod.ensures c.of_pod-2.ensures c.in-Err.ensures.called)

pub returns-in-Err-clause-stopped : goal.returns-in-Err-clause-stopped
returns-in-Err-clause-stopped g c =
    let D = g.D.Dir in
    subst (λ (x : Setback). StepWasStopped D.observed c.args.pod (IsAbsentAt c.args.pod c.args.from) x (D.shown c.args.dir.now) (D.shown c.move_folder.new.self)) (sym c.set_back.ensures)
    (move_stops c.in-Err.error c.in-Err.ensures.refusals (λ is. c.in-Err.ensures.cause (ap Err is)) (with_spots c.of_pod.ensures c.of_pod-2.ensures c.in-Err.ensures.called))

pub returns-in-Err-clause-ready : goal.returns-in-Err-clause-ready
returns-in-Err-clause-ready g c = ready_unmoved c.args.pod c.args.from c.args.to c.in-Err.error (with_spots c.of_pod.ensures c.of_pod-2.ensures c.in-Err.ensures.called)

pub returns-in-Err-clause-never_busy : goal.returns-in-Err-clause-never_busy
returns-in-Err-clause-never_busy g c which is = never_busy c.in-Err.error which (sym c.set_back.ensures ∙ is)

pub returns-in-Err-clause-takes_nothing : goal.returns-in-Err-clause-takes_nothing
returns-in-Err-clause-takes_nothing g c t = took_call refl ((with_spots c.of_pod.ensures c.of_pod-2.ensures c.in-Err.ensures.called).step t)

pub returns-in-Err-clause-lawful : goal.returns-in-Err-clause-lawful
returns-in-Err-clause-lawful g c stage =
    let D = g.D.Dir in
    subst (λ (x : Setback). NeverStray D.observed x (D.shown c.move_folder.new.self)) (sym c.set_back.ensures)
    (move_lawful c.args.pod c.args.from c.args.to c.in-Err.error c.in-Err.ensures.refusals (with_spots c.of_pod.ensures c.of_pod-2.ensures c.in-Err.ensures.called) stage)
