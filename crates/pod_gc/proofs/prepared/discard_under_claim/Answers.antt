use Rattle.std.proofs.Common.{◌≡◌, rules, true, false, refl, arith}
use Rattle.plain_laws.proofs.Results.{if_err, err_same, err_both, ok_all, err_all}
use Rattle.dir_model.specs.declared.area.Area.TheVariants.{Prepared, Garbage}
use Rattle.dir_model.specs.declared.spot.Mode.TheVariants.{Shared}
use Rattle.dir_model.specs.declared.spot.Which.{Which}
use Rattle.dir_model.specs.declared.spot.Which.TheVariants.{Own}
use Rattle.dir_trait.specs.DirCalls.{ExtendsBy, LockToldBetween}
use Rattle.dir_trait.specs.Effects.{Given}
use Rattle.folder_building.proofs.Working.{worked_more, worked_wider}
use Rattle.dir_model.specs.Spots.{pod_spot}
use Rattle.pod_locks.proofs.Traces.{grown_none}
use Rattle.pod_locks.specs.declared.setback.Setback.TheVariants as stop
use Rattle.pod_locks.specs.Holding.{MayLook}
use Rattle.pod_locks.specs.Causes.{StepWasStopped, IsAbsentAt, LockBusyElsewhere}
use Rattle.pod_locks.proofs.Calls.{follows_none, follows_work, stops_part}
use Rattle.pod_locks.proofs.Within.{told_within}
use Rattle.pod_gc.specs.RemovalHolding.{UnderClaim}
use Rattle.pod_gc.specs.RemovalCauses.{BusyInPrepared, BusyByLooks}
use Rattle.pod_gc.specs.RemovalRequests.{puts_aside}
use Rattle.pod_gc.proofs.CallKinds.{looks_remove, second_remove, put_aside}
use Rattle.pod_gc.proofs.Discarding.{looks_under, bare_under, ready_under, busy_own}
use Rattle.pod_locks.specs.Taking.{TakesNothing}
use Rattle.pod_locks.proofs.Taking.{took_looks, took_more}
use Rattle.phase_read.proofs.Often.{reads_more}
use Rattle.pod_gc.proofs.Unread.{unread_looks, unread_move}
use Rattle.pod_locks.specs.Causes.{NeverStray}
use Rattle.dir_model.specs.Areas.{is_stage}
use Rattle.pod_gc.proofs.prepared.discard_under_claim.Goals as goal

pub returns-in_err-probe-clause-worked : goal.returns-in_err-probe-clause-worked
returns-in_err-probe-clause-worked g c = worked_wider (looks_remove c.args.pod c.args.now Prepared (omega arith)) c.probe.ensures.worked

pub returns-in_err-probe-clause-stopped : goal.returns-in_err-probe-clause-stopped
returns-in_err-probe-clause-stopped g c =
    let D = g.D.Dir in
    err_same (λ e. StepWasStopped D.observed c.args.pod (IsAbsentAt c.args.pod Prepared) e (D.shown c.args.dir.now) (D.shown c.probe.new.dir)) c.probe.result c.from_residual.result
    (λ e h. search (rules, h, c.from_residual.ensures, c.in_err-probe.is)) c.probe.ensures.stopped

pub returns-in_err-probe-clause-by_other_process : goal.returns-in_err-probe-clause-by_other_process
returns-in_err-probe-clause-by_other_process g c =
    let D = g.D.Dir in
    let old = D.shown c.args.dir.now in
    let new = D.shown c.probe.new.dir in
    err_same (λ e. D.observed ≡ true → Given (UnderClaim c.args.pod c.args.now) old (λ s. BusyInPrepared c.args.pod e old new)) c.probe.result c.from_residual.result
    (λ e h. search (rules, h, c.from_residual.ensures, c.in_err-probe.is))
    (err_both (λ e. (which : Which) → e ≡ stop.Busy which → which ≡ Own)
    (λ e. D.observed ≡ true → Given (MayLook c.args.pod Prepared) old (λ s. LockBusyElsewhere c.args.pod Prepared Shared e old new))
    (λ e. D.observed ≡ true → Given (UnderClaim c.args.pod c.args.now) old (λ s. BusyInPrepared c.args.pod e old new))
    c.probe.result (λ e named busy t s k u. busy_own old new c.args.pod e named (busy t s k (looks_under c.args.pod u))) c.probe.ensures.named c.probe.ensures.by_other_process)

pub returns-in_err-probe-clause-ready : goal.returns-in_err-probe-clause-ready
returns-in_err-probe-clause-ready g c t s k u = bare_under u (c.in_err-probe.ensures.left t s k (looks_under c.args.pod u))

pub returns-clause-worked : goal.returns-clause-worked
returns-clause-worked g c = worked_more (worked_wider (looks_remove c.args.pod c.args.now Prepared (omega arith)) c.probe.ensures.worked) (worked_wider (second_remove c.args.pod c.args.now) c.put_aside.ensures.worked)

pub returns-clause-stopped : goal.returns-clause-stopped
returns-clause-stopped g c =
    let D = g.D.Dir in
    let old = D.shown c.args.dir.now in
    let mid = D.shown c.probe.new.dir in
    let new = D.shown c.put_aside.new.dir in
    if_err (λ e. StepWasStopped D.observed c.args.pod (IsAbsentAt c.args.pod Prepared) e mid new) (λ e. StepWasStopped D.observed c.args.pod (IsAbsentAt c.args.pod Prepared) e old new) c.put_aside.result
    (λ e x. stops_part (follows_work c.probe.ensures.worked) follows_none x) c.put_aside.ensures.stopped

pub returns-clause-by_other_process : goal.returns-clause-by_other_process
returns-clause-by_other_process g c =
    let D = g.D.Dir in
    let old = D.shown c.args.dir.now in
    let new = D.shown c.put_aside.new.dir in
    if_err (λ e. (which : Which) → e ≡ stop.Busy which → ⊥) (λ e. D.observed ≡ true → Given (UnderClaim c.args.pod c.args.now) old (λ s. BusyInPrepared c.args.pod e old new)) c.put_aside.result
    (λ e calm t s k may which is. absurd (calm which is)) c.put_aside.ensures.never_busy

pub returns-clause-ready : goal.returns-clause-ready
returns-clause-ready g c t = ready_under c.args.pod (c.in_ok-probe.ensures.free t) (c.put_aside.ensures.ready t)

pub returns-in_err-probe-clause-looks : goal.returns-in_err-probe-clause-looks
returns-in_err-probe-clause-looks g c =
    let D = g.D.Dir in
    err_all (λ e. BusyByLooks D.observed c.args.pod Prepared e (D.shown c.args.dir.now) (D.shown c.probe.new.dir)) c.from_residual.result (λ e which is t. c.probe.ensures.worked.extends t)

pub returns-clause-looks : goal.returns-clause-looks
returns-clause-looks g c =
    let D = g.D.Dir in
    if_err (λ e. (which : Which) → e ≡ stop.Busy which → ⊥) (λ e. BusyByLooks D.observed c.args.pod Prepared e (D.shown c.args.dir.now) (D.shown c.put_aside.new.dir)) c.put_aside.result
    (λ e calm which is t. absurd (calm which is)) c.put_aside.ensures.never_busy

pub returns-in_err-probe-clause-takes_nothing : goal.returns-in_err-probe-clause-takes_nothing
returns-in_err-probe-clause-takes_nothing g c =
    let D = g.D.Dir in
    err_all (λ e. TakesNothing D.observed (D.shown c.args.dir.now) (D.shown c.probe.new.dir)) c.from_residual.result (λ e t. took_looks c.args.pod Prepared (c.probe.ensures.worked.extends t))

pub returns-clause-takes_nothing : goal.returns-clause-takes_nothing
returns-clause-takes_nothing g c =
    let D = g.D.Dir in
    let new = D.shown c.put_aside.new.dir in
    if_err (λ e. TakesNothing D.observed (D.shown c.probe.new.dir) new) (λ e. TakesNothing D.observed (D.shown c.args.dir.now) new) c.put_aside.result
    (λ e x t. took_more (took_looks c.args.pod Prepared (c.probe.ensures.worked.extends t)) c.probe.ensures.worked.same (x t)) c.put_aside.ensures.takes_nothing

pub returns-clause-aside : goal.returns-clause-aside
returns-clause-aside g c =
    let D = g.D.Dir in
    ok_all (λ done. D.observed ≡ true → ExtendsBy (puts_aside c.args.pod Prepared Garbage) (D.shown c.args.dir.now) (D.shown c.put_aside.new.dir)) c.put_aside.result (λ done t. put_aside c.args.pod Prepared Garbage c.probe.ensures.worked c.put_aside.ensures.worked t)

pub returns-clause-free : goal.returns-clause-free
returns-clause-free g c =
    let D = g.D.Dir in
    ok_all (λ done. D.observed ≡ true → LockToldBetween (D.shown c.args.dir.now) (D.shown c.put_aside.new.dir) (pod_spot c.args.pod Prepared) false) c.put_aside.result
    (λ done t. told_within grown_none refl ((follows_work c.put_aside.ensures.worked).grown t) (c.in_ok-probe.ensures.answer_holds t))

pub returns-in_err-probe-clause-reads : goal.returns-in_err-probe-clause-reads
returns-in_err-probe-clause-reads g c = unread_looks c.args.pod Prepared 1 refl c.probe.ensures.worked

pub returns-clause-reads : goal.returns-clause-reads
returns-clause-reads g c = reads_more 0 (omega arith) (unread_looks c.args.pod Prepared 1 refl c.probe.ensures.worked) c.probe.ensures.worked.same (unread_move c.args.pod Prepared Garbage c.put_aside.ensures.worked)

pub returns-in_err-probe-clause-lawful : goal.returns-in_err-probe-clause-lawful
returns-in_err-probe-clause-lawful g c =
    let D = g.D.Dir in
    err_same (λ e. NeverStray D.observed e (D.shown c.probe.new.dir)) c.probe.result c.from_residual.result (λ e h. search (rules, h, c.from_residual.ensures, c.in_err-probe.is))
    (if_err (λ e. e ≡ stop.Stray → ⊥) (λ e. NeverStray D.observed e (D.shown c.probe.new.dir)) c.probe.result (λ e never is t conforming. never is) c.probe.ensures.never)

pub returns-clause-lawful : goal.returns-clause-lawful
returns-clause-lawful g c =
    let D = g.D.Dir in
    let new = D.shown c.put_aside.new.dir in
    if_err (λ e. is_stage Prepared ≡ true → NeverStray D.observed e new) (λ e. NeverStray D.observed e new) c.put_aside.result (λ e x. x refl) c.put_aside.ensures.lawful
