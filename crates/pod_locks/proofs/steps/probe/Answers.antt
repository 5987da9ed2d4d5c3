use Rattle.std.proofs.Common.{Err, sym, ap, subst, ◌∙◌}
use Rattle.dir_model.specs.declared.spot.Mode.TheVariants.{Shared}
use Rattle.dir_model.specs.declared.spot.Which.TheVariants.{Own}
use Rattle.dir_model.specs.declared.request.Request.TheVariants.{Open}
use Rattle.dir_model.specs.Local.{Local, IsUnlocked}
use Rattle.dir_model.specs.Locks.{target_of}
use Rattle.dir_model.proofs.Holdings.{unlocked_new}
use Rattle.dir_trait.proofs.Calls.{with_spot}
use Rattle.pod_locks.specs.declared.setback.Setback.{Setback}
use Rattle.pod_locks.specs.Causes.{StepWasStopped, IsAbsentAt}
use Rattle.pod_locks.proofs.Calls.{worked_tried, worked_unopened, peeked_tried, peeked_unopened, lock_stops, own_stops, stops_part, follows_call}
use Rattle.pod_locks.proofs.Knowing.{busy_probe, lock_named, never_busy, knows_probed, knows_unprobed, knows_unopened, told_probed, told_busy}
use Rattle.pod_locks.proofs.Lawful.{lock_never, open_never}
use Rattle.pod_locks.proofs.steps.probe.Goals as goal

pub try_lock-answer-requires-clause-unlocked : goal.try_lock-answer-requires-clause-unlocked
try_lock-answer-requires-clause-unlocked g c =
    subst (λ (m : Local). IsUnlocked m c.in-Ok.handle) (sym c.in-Ok.ensures.called.local)
    (unlocked_new (g.D.Dir.shown c.args.dir.now).local c.in-Ok.handle (target_of c.of_pod.result Own) c.in-Ok.ensures.unopened)

pub returns-in-Ok-answer-clause-worked : goal.returns-in-Ok-answer-clause-worked
returns-in-Ok-answer-clause-worked g c =
    worked_tried c.args.pod c.args.area Own Shared c.try_lock-answer.result c.in-Ok.ensures.unopened (with_spot (λ s. Open s Own) c.of_pod.ensures c.in-Ok.ensures.called) c.try_lock-answer.ensures.called c.close.ensures.called

pub returns-in-Ok-answer-clause-free : goal.returns-in-Ok-answer-clause-free
returns-in-Ok-answer-clause-free g c =
    knows_probed c.args.pod c.args.area c.in-Ok.ensures.unopened (with_spot (λ s. Open s Own) c.of_pod.ensures c.in-Ok.ensures.called) c.in-Ok-answer.ensures.called c.close.ensures.called

pub returns-in-Err-answer-clause-worked : goal.returns-in-Err-answer-clause-worked
returns-in-Err-answer-clause-worked g c =
    worked_tried c.args.pod c.args.area Own Shared c.try_lock-answer.result c.in-Ok.ensures.unopened (with_spot (λ s. Open s Own) c.of_pod.ensures c.in-Ok.ensures.called) c.try_lock-answer.ensures.called c.close.ensures.called

pub returns-in-Err-answer-clause-stopped : goal.returns-in-Err-answer-clause-stopped
returns-in-Err-answer-clause-stopped g c =
    let D = g.D.Dir in
    let asks = c.in-Err-answer.ensures in
    subst (λ (x : Setback). StepWasStopped D.observed c.args.pod (IsAbsentAt c.args.pod c.args.area) x (D.shown c.args.dir.now) (D.shown c.close.new.self)) (sym c.lock_setback.ensures)
    (stops_part (follows_call c.in-Ok.ensures.called) (follows_call c.close.ensures.called)
    (lock_stops Own c.in-Ok.handle Shared c.in-Err-answer.error asks.refusals (λ is. asks.cause (ap Err is))))

pub returns-in-Err-answer-clause-left : goal.returns-in-Err-answer-clause-left
returns-in-Err-answer-clause-left g c =
    knows_unprobed c.args.pod c.args.area c.in-Ok.ensures.unopened (with_spot (λ s. Open s Own) c.of_pod.ensures c.in-Ok.ensures.called) c.in-Err-answer.error c.in-Err-answer.ensures.called c.close.ensures.called

pub returns-in-Err-clause-worked : goal.returns-in-Err-clause-worked
returns-in-Err-clause-worked g c = worked_unopened c.args.pod c.args.area Own c.in-Err.error (with_spot (λ s. Open s Own) c.of_pod.ensures c.in-Err.ensures.called)

pub returns-in-Err-clause-stopped : goal.returns-in-Err-clause-stopped
returns-in-Err-clause-stopped g c =
    let D = g.D.Dir in
    subst (λ (x : Setback). StepWasStopped D.observed c.args.pod (IsAbsentAt c.args.pod c.args.area) x (D.shown c.args.dir.now) (D.shown c.«open».new.self)) (sym c.set_back.ensures)
    (own_stops c.args.pod c.args.area Own c.in-Err.error c.in-Err.ensures.refusals (λ is. c.in-Err.ensures.cause (ap Err is)) (with_spot (λ s. Open s Own) c.of_pod.ensures c.in-Err.ensures.called))

pub returns-in-Err-clause-left : goal.returns-in-Err-clause-left
returns-in-Err-clause-left g c = knows_unopened c.args.pod c.args.area c.in-Err.error (with_spot (λ s. Open s Own) c.of_pod.ensures c.in-Err.ensures.called)

pub returns-in-Err-answer-clause-by_other_process : goal.returns-in-Err-answer-clause-by_other_process
returns-in-Err-answer-clause-by_other_process g c t s k may which is =
    busy_probe c.args.pod c.args.area c.in-Ok.ensures.unopened c.in-Err-answer.error (with_spot (λ s. Open s Own) c.of_pod.ensures c.in-Ok.ensures.called) c.in-Err-answer.ensures.called c.close.ensures.called t s k may which (sym c.lock_setback.ensures ∙ is)

pub returns-in-Err-clause-by_other_process : goal.returns-in-Err-clause-by_other_process
returns-in-Err-clause-by_other_process g c t s k may which is = absurd (never_busy c.in-Err.error which (sym c.set_back.ensures ∙ is))

pub returns-in-Err-answer-clause-named : goal.returns-in-Err-answer-clause-named
returns-in-Err-answer-clause-named g c which is = lock_named Own c.in-Err-answer.error which (sym c.lock_setback.ensures ∙ is)

pub returns-in-Err-clause-named : goal.returns-in-Err-clause-named
returns-in-Err-clause-named g c which is = absurd (never_busy c.in-Err.error which (sym c.set_back.ensures ∙ is))

pub returns-in-Ok-answer-clause-answer_holds : goal.returns-in-Ok-answer-clause-answer_holds
returns-in-Ok-answer-clause-answer_holds g c = told_probed c.args.pod c.args.area (with_spot (λ s. Open s Own) c.of_pod.ensures c.in-Ok.ensures.called) c.close.ensures.called c.in-Ok-answer.ensures.called

pub returns-in-Err-answer-clause-owned : goal.returns-in-Err-answer-clause-owned
returns-in-Err-answer-clause-owned g c which is =
    told_busy c.args.pod c.args.area (with_spot (λ s. Open s Own) c.of_pod.ensures c.in-Ok.ensures.called) c.close.ensures.called c.in-Err-answer.error c.in-Err-answer.ensures.called which (sym c.lock_setback.ensures ∙ is)

pub returns-in-Err-clause-owned : goal.returns-in-Err-clause-owned
returns-in-Err-clause-owned g c which is t = absurd (never_busy c.in-Err.error which (sym c.set_back.ensures ∙ is))

pub returns-in-Ok-answer-clause-peeks : goal.returns-in-Ok-answer-clause-peeks
returns-in-Ok-answer-clause-peeks g c = peeked_tried c.args.pod c.args.area c.try_lock-answer.result (with_spot (λ s. Open s Own) c.of_pod.ensures c.in-Ok.ensures.called) c.try_lock-answer.ensures.called c.close.ensures.called

pub returns-in-Err-answer-clause-peeks : goal.returns-in-Err-answer-clause-peeks
returns-in-Err-answer-clause-peeks g c = peeked_tried c.args.pod c.args.area c.try_lock-answer.result (with_spot (λ s. Open s Own) c.of_pod.ensures c.in-Ok.ensures.called) c.try_lock-answer.ensures.called c.close.ensures.called

pub returns-in-Err-clause-peeks : goal.returns-in-Err-clause-peeks
returns-in-Err-clause-peeks g c = peeked_unopened c.args.pod c.args.area c.in-Err.error (with_spot (λ s. Open s Own) c.of_pod.ensures c.in-Err.ensures.called)

pub returns-in-Err-answer-clause-never : goal.returns-in-Err-answer-clause-never
returns-in-Err-answer-clause-never g c is = lock_never Own c.in-Ok.handle Shared c.in-Err-answer.error c.in-Err-answer.ensures.refusals (sym c.lock_setback.ensures ∙ is)

pub returns-in-Err-clause-never : goal.returns-in-Err-clause-never
returns-in-Err-clause-never g c is = open_never c.of_pod.result Own c.in-Err.error c.in-Err.ensures.refusals (sym c.set_back.ensures ∙ is)
