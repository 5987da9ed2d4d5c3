use Rattle.std.proofs.Common.{◌≡◌, rules, true, false, refl, arith, ◌∙◌, subst}
use Rattle.plain_laws.proofs.Results.{if_ok, if_err, err_same, ok_all, err_all}
use Rattle.dir_model.specs.declared.area.Area.{Area}
use Rattle.dir_model.specs.declared.area.Area.TheVariants.{Run}
use Rattle.dir_model.specs.declared.spot.Mode.TheVariants.{Shared}
use Rattle.dir_model.specs.declared.spot.Which.{Which}
use Rattle.dir_model.specs.declared.spot.Which.TheVariants.{Own}
use Rattle.dir_model.specs.declared.request.Request.TheVariants.{MoveFolder}
use Rattle.dir_model.specs.declared.request.Reply.TheVariants.{Done}
use Rattle.dir_trait.specs.DirCalls.{ExtendsBy, LockToldBetween}
use Rattle.dir_trait.specs.Effects.{OnlyAsks, Given}
use Rattle.folder_building.proofs.Working.{worked_more, worked_wider}
use Rattle.dir_model.specs.Spots.{pod_spot}
use Rattle.pod_locks.proofs.Times.{deeds_part}
use Rattle.pod_locks.proofs.Traces.{grown_none, grown_more}
use Rattle.pod_locks.proofs.Within.{told_within}
use Rattle.pod_locks.specs.declared.setback.Setback.TheVariants as stop
use Rattle.pod_locks.specs.Holding.{MayLook}
use Rattle.pod_locks.specs.Causes.{StepWasStopped, IsAbsentAt, LockBusyElsewhere, Did}
use Rattle.pod_locks.proofs.Calls.{follows_none, follows_work, stops_part}
use Rattle.pod_gc.specs.RemovalHolding.{MayRemove}
use Rattle.pod_gc.specs.RemovalCauses.{BusyByPeeks, MarkedFirst}
use Rattle.pod_locks.specs.Requests.{moves_pod}
use Rattle.pod_gc.specs.RemovalRequests.{puts_aside}
use Rattle.pod_gc.specs.Requests.{goes_to}
use Rattle.pod_gc.proofs.Dead.{dead_rank, dead_stage}
use Rattle.pod_gc.proofs.CallKinds.{looks_remove, marks_remove, dead_remove, took_marks, put_dead}
use Rattle.pod_gc.proofs.Stages.{looks_dead, same_ready}
use Rattle.pod_gc.proofs.Retiring.{ready_dead, ready_unmarked, marked_first}
use Rattle.pod_locks.specs.Taking.{TakesNothing}
use Rattle.pod_locks.proofs.Taking.{took_looks, took_more}
use Rattle.phase_read.proofs.Often.{reads_more}
use Rattle.pod_gc.proofs.Unread.{unread_dead, unread_mark, unread_move}
use Rattle.pod_locks.specs.Causes.{NeverStray}
use Rattle.dir_model.specs.Areas.{is_stage}
use Rattle.pod_gc.proofs.aside.put_dead_aside.Goals as goal

pub returns-in_err-probe-clause-worked : goal.returns-in_err-probe-clause-worked
returns-in_err-probe-clause-worked g c = worked_wider (looks_remove c.args.pod c.args.now c.args.area (dead_rank c.args.area c.requires.dead)) c.probe.ensures.worked

pub returns-in_err-probe-clause-stopped : goal.returns-in_err-probe-clause-stopped
returns-in_err-probe-clause-stopped g c =
    let D = g.D.Dir in
    err_same (λ e. StepWasStopped D.observed c.args.pod (IsAbsentAt c.args.pod c.args.area) e (D.shown c.args.dir.now) (D.shown c.probe.new.dir)) c.probe.result c.from_residual.result
    (λ e h. search (rules, h, c.from_residual.ensures, c.in_err-probe.is)) c.probe.ensures.stopped

pub returns-in_err-probe-clause-by_other_process : goal.returns-in_err-probe-clause-by_other_process
returns-in_err-probe-clause-by_other_process g c =
    let D = g.D.Dir in
    let old = D.shown c.args.dir.now in
    let new = D.shown c.probe.new.dir in
    err_same (λ e. D.observed ≡ true → Given (MayRemove c.args.now) old (λ s. LockBusyElsewhere c.args.pod c.args.area Shared e old new)) c.probe.result c.from_residual.result
    (λ e h. search (rules, h, c.from_residual.ensures, c.in_err-probe.is))
    (if_err (λ e. D.observed ≡ true → Given (MayLook c.args.pod c.args.area) old (λ s. LockBusyElsewhere c.args.pod c.args.area Shared e old new))
    (λ e. D.observed ≡ true → Given (MayRemove c.args.now) old (λ s. LockBusyElsewhere c.args.pod c.args.area Shared e old new))
    c.probe.result (λ e busy t s k may. busy t s k (looks_dead c.args.pod c.args.area c.requires.dead may)) c.probe.ensures.by_other_process)

pub returns-in_err-probe-clause-ready : goal.returns-in_err-probe-clause-ready
returns-in_err-probe-clause-ready g c t s k may = same_ready may (c.in_err-probe.ensures.left t s k (looks_dead c.args.pod c.args.area c.requires.dead may))

pub returns-in_err-mark_exited-clause-worked : goal.returns-in_err-mark_exited-clause-worked
returns-in_err-mark_exited-clause-worked g c =
    worked_more (worked_wider (looks_remove c.args.pod c.args.now c.args.area (dead_rank c.args.area c.requires.dead)) c.probe.ensures.worked) (worked_wider (marks_remove c.args.pod c.args.now) c.mark_exited.ensures.worked)

pub returns-in_err-mark_exited-clause-stopped : goal.returns-in_err-mark_exited-clause-stopped
returns-in_err-mark_exited-clause-stopped g c =
    let D = g.D.Dir in
    let old = D.shown c.args.dir.now in
    let mid = D.shown c.probe.new.dir in
    let new = D.shown c.mark_exited.new.dir in
    err_same (λ e. StepWasStopped D.observed c.args.pod (IsAbsentAt c.args.pod c.args.area) e old new) c.mark_exited.result c.from_residual-in_err-mark_exited.result
    (λ e h. search (rules, h, c.from_residual-in_err-mark_exited.ensures, c.in_err-mark_exited.is))
    (if_err (λ e. StepWasStopped D.observed c.args.pod (IsAbsentAt c.args.pod c.args.area) e mid new) (λ e. StepWasStopped D.observed c.args.pod (IsAbsentAt c.args.pod c.args.area) e old new) c.mark_exited.result
    (λ e x. stops_part (follows_work c.probe.ensures.worked) follows_none x) c.mark_exited.ensures.stopped)

pub returns-in_err-mark_exited-clause-by_other_process : goal.returns-in_err-mark_exited-clause-by_other_process
returns-in_err-mark_exited-clause-by_other_process g c =
    let D = g.D.Dir in
    let old = D.shown c.args.dir.now in
    let new = D.shown c.mark_exited.new.dir in
    err_same (λ e. D.observed ≡ true → Given (MayRemove c.args.now) old (λ s. LockBusyElsewhere c.args.pod c.args.area Shared e old new)) c.mark_exited.result c.from_residual-in_err-mark_exited.result
    (λ e h. search (rules, h, c.from_residual-in_err-mark_exited.ensures, c.in_err-mark_exited.is))
    (if_err (λ e. (which : Which) → e ≡ stop.Busy which → ⊥) (λ e. D.observed ≡ true → Given (MayRemove c.args.now) old (λ s. LockBusyElsewhere c.args.pod c.args.area Shared e old new)) c.mark_exited.result
    (λ e calm t s k may which is. absurd (calm which is)) c.mark_exited.ensures.never_busy)

pub returns-in_err-mark_exited-clause-ready : goal.returns-in_err-mark_exited-clause-ready
returns-in_err-mark_exited-clause-ready g c t = ready_unmarked c.args.pod c.args.area c.in_err-mark_exited.ensures.only (c.in_ok-probe.ensures.free t) (c.mark_exited.ensures.left t)

pub returns-clause-worked : goal.returns-clause-worked
returns-clause-worked g c =
    let moved = rw c.goes_to.ensures at c.put_aside.ensures in
    worked_more (worked_wider (looks_remove c.args.pod c.args.now c.args.area (dead_rank c.args.area c.requires.dead)) c.probe.ensures.worked)
    (worked_more (worked_wider (marks_remove c.args.pod c.args.now) c.mark_exited.ensures.worked) (worked_wider (dead_remove c.args.pod c.args.now c.args.area c.requires.dead) moved.worked))

pub returns-clause-stopped : goal.returns-clause-stopped
returns-clause-stopped g c =
    let D = g.D.Dir in
    let old = D.shown c.args.dir.now in
    let mid = D.shown c.probe.new.dir in
    let late = D.shown c.mark_exited.new.dir in
    let new = D.shown c.put_aside.new.dir in
    if_err (λ e. StepWasStopped D.observed c.args.pod (IsAbsentAt c.args.pod c.args.area) e late new) (λ e. StepWasStopped D.observed c.args.pod (IsAbsentAt c.args.pod c.args.area) e old new) c.put_aside.result
    (λ e x. stops_part (follows_work c.probe.ensures.worked) follows_none (stops_part (follows_work c.mark_exited.ensures.worked) follows_none x)) c.put_aside.ensures.stopped

pub returns-clause-by_other_process : goal.returns-clause-by_other_process
returns-clause-by_other_process g c =
    let D = g.D.Dir in
    let old = D.shown c.args.dir.now in
    let new = D.shown c.put_aside.new.dir in
    if_err (λ e. (which : Which) → e ≡ stop.Busy which → ⊥) (λ e. D.observed ≡ true → Given (MayRemove c.args.now) old (λ s. LockBusyElsewhere c.args.pod c.args.area Shared e old new)) c.put_aside.result
    (λ e calm t s k may which is. absurd (calm which is)) c.put_aside.ensures.never_busy

pub returns-clause-done : goal.returns-clause-done
returns-clause-done g c =
    let D = g.D.Dir in
    let old = D.shown c.args.dir.now in
    let mid = D.shown c.probe.new.dir in
    let late = D.shown c.mark_exited.new.dir in
    let new = D.shown c.put_aside.new.dir in
    let moved = rw c.goes_to.ensures at c.put_aside.ensures in
    let did = MoveFolder (pod_spot c.args.pod c.args.area) (pod_spot c.args.pod (goes_to c.args.area)) in
    if_ok (λ done. D.observed ≡ true → Did did Done late.process late.trace new.trace) (λ done. D.observed ≡ true → Did did Done old.process old.trace new.trace) c.put_aside.result
    (λ done x t. deeds_part ((follows_work c.probe.ensures.worked).grown t) c.probe.ensures.worked.same grown_none (deeds_part ((follows_work c.mark_exited.ensures.worked).grown t) c.mark_exited.ensures.worked.same grown_none (x t))) moved.done

pub returns-clause-ready : goal.returns-clause-ready
returns-clause-ready g c t =
    let moved = rw c.goes_to.ensures at c.put_aside.ensures in
    ready_dead c.args.pod c.args.area c.requires.dead (c.in_ok-probe.ensures.free t) (λ is. c.in_ok-mark_exited.ensures.marked is t) c.mark_exited.ensures.elsewhere (moved.ready t)

pub returns-in_err-probe-clause-owned : goal.returns-in_err-probe-clause-owned
returns-in_err-probe-clause-owned g c =
    let D = g.D.Dir in
    let old = D.shown c.args.dir.now in
    let new = D.shown c.probe.new.dir in
    err_same (λ e. (which : Which) → e ≡ stop.Busy which → D.observed ≡ true → LockToldBetween old new (pod_spot c.args.pod c.args.area) true) c.probe.result c.from_residual.result
    (λ e h. search (rules, h, c.from_residual.ensures, c.in_err-probe.is)) c.probe.ensures.owned

pub returns-clause-owned : goal.returns-clause-owned
returns-clause-owned g c =
    let D = g.D.Dir in
    let old = D.shown c.args.dir.now in
    let new = D.shown c.put_aside.new.dir in
    if_err (λ e. (which : Which) → e ≡ stop.Busy which → ⊥) (λ e. (which : Which) → e ≡ stop.Busy which → D.observed ≡ true → LockToldBetween old new (pod_spot c.args.pod c.args.area) true) c.put_aside.result
    (λ e calm which is t. absurd (calm which is)) c.put_aside.ensures.never_busy

pub returns-in_err-mark_exited-clause-owned : goal.returns-in_err-mark_exited-clause-owned
returns-in_err-mark_exited-clause-owned g c =
    let D = g.D.Dir in
    let old = D.shown c.args.dir.now in
    let new = D.shown c.mark_exited.new.dir in
    err_same (λ e. (which : Which) → e ≡ stop.Busy which → D.observed ≡ true → LockToldBetween old new (pod_spot c.args.pod c.args.area) true) c.mark_exited.result c.from_residual-in_err-mark_exited.result
    (λ e h. search (rules, h, c.from_residual-in_err-mark_exited.ensures, c.in_err-mark_exited.is))
    (if_err (λ e. (which : Which) → e ≡ stop.Busy which → ⊥) (λ e. (which : Which) → e ≡ stop.Busy which → D.observed ≡ true → LockToldBetween old new (pod_spot c.args.pod c.args.area) true) c.mark_exited.result
    (λ e calm which is t. absurd (calm which is)) c.mark_exited.ensures.never_busy)

pub returns-in_err-probe-clause-peeks : goal.returns-in_err-probe-clause-peeks
returns-in_err-probe-clause-peeks g c =
    let D = g.D.Dir in
    err_all (λ e. BusyByPeeks D.observed c.args.pod c.args.area e (D.shown c.args.dir.now) (D.shown c.probe.new.dir)) c.from_residual.result (λ e which is t. c.probe.ensures.peeks t)

pub returns-clause-peeks : goal.returns-clause-peeks
returns-clause-peeks g c =
    let D = g.D.Dir in
    if_err (λ e. (which : Which) → e ≡ stop.Busy which → ⊥) (λ e. BusyByPeeks D.observed c.args.pod c.args.area e (D.shown c.args.dir.now) (D.shown c.put_aside.new.dir)) c.put_aside.result
    (λ e calm which is t. absurd (calm which is)) c.put_aside.ensures.never_busy

pub returns-in_err-mark_exited-clause-peeks : goal.returns-in_err-mark_exited-clause-peeks
returns-in_err-mark_exited-clause-peeks g c =
    let D = g.D.Dir in
    let old = D.shown c.args.dir.now in
    let new = D.shown c.mark_exited.new.dir in
    err_same (λ e. BusyByPeeks D.observed c.args.pod c.args.area e old new) c.mark_exited.result c.from_residual-in_err-mark_exited.result
    (λ e h. search (rules, h, c.from_residual-in_err-mark_exited.ensures, c.in_err-mark_exited.is))
    (if_err (λ e. (which : Which) → e ≡ stop.Busy which → ⊥) (λ e. BusyByPeeks D.observed c.args.pod c.args.area e old new) c.mark_exited.result (λ e calm which is t. absurd (calm which is)) c.mark_exited.ensures.never_busy)

pub returns-in_err-probe-clause-takes_nothing : goal.returns-in_err-probe-clause-takes_nothing
returns-in_err-probe-clause-takes_nothing g c =
    let D = g.D.Dir in
    err_all (λ e. TakesNothing D.observed (D.shown c.args.dir.now) (D.shown c.probe.new.dir)) c.from_residual.result (λ e t. took_looks c.args.pod c.args.area (c.probe.ensures.worked.extends t))

pub returns-in_err-mark_exited-clause-takes_nothing : goal.returns-in_err-mark_exited-clause-takes_nothing
returns-in_err-mark_exited-clause-takes_nothing g c =
    let D = g.D.Dir in
    err_all (λ e. TakesNothing D.observed (D.shown c.args.dir.now) (D.shown c.mark_exited.new.dir)) c.from_residual-in_err-mark_exited.result
    (λ e t. took_more (took_looks c.args.pod c.args.area (c.probe.ensures.worked.extends t)) c.probe.ensures.worked.same (took_marks c.args.pod c.args.now (c.mark_exited.ensures.worked.extends t)))

pub returns-clause-takes_nothing : goal.returns-clause-takes_nothing
returns-clause-takes_nothing g c =
    let D = g.D.Dir in
    let new = D.shown c.put_aside.new.dir in
    let looked = c.probe.ensures.worked in
    let marked = c.mark_exited.ensures.worked in
    if_err (λ e. TakesNothing D.observed (D.shown c.mark_exited.new.dir) new) (λ e. TakesNothing D.observed (D.shown c.args.dir.now) new) c.put_aside.result
    (λ e x t. took_more (took_looks c.args.pod c.args.area (looked.extends t)) looked.same (took_more (took_marks c.args.pod c.args.now (marked.extends t)) marked.same (x t))) c.put_aside.ensures.takes_nothing

pub returns-clause-aside : goal.returns-clause-aside
returns-clause-aside g c =
    let D = g.D.Dir in
    let moved = rw c.goes_to.ensures at c.put_aside.ensures in
    ok_all (λ done. D.observed ≡ true → ExtendsBy (puts_aside c.args.pod c.args.area (goes_to c.args.area)) (D.shown c.args.dir.now) (D.shown c.put_aside.new.dir)) c.put_aside.result
    (λ done t. put_dead c.args.pod c.args.now c.args.area c.requires.dead c.mark_exited.ensures.elsewhere c.probe.ensures.worked c.mark_exited.ensures.worked moved.worked t)

pub returns-in_err-probe-clause-named : goal.returns-in_err-probe-clause-named
returns-in_err-probe-clause-named g c =
    err_same (λ e. (which : Which) → e ≡ stop.Busy which → which ≡ Own) c.probe.result c.from_residual.result (λ e h. search (rules, h, c.from_residual.ensures, c.in_err-probe.is)) c.probe.ensures.named

pub returns-clause-named : goal.returns-clause-named
returns-clause-named g c =
    if_err (λ e. (which : Which) → e ≡ stop.Busy which → ⊥) (λ e. (which : Which) → e ≡ stop.Busy which → which ≡ Own) c.put_aside.result (λ e calm which is. absurd (calm which is)) c.put_aside.ensures.never_busy

pub returns-in_err-mark_exited-clause-named : goal.returns-in_err-mark_exited-clause-named
returns-in_err-mark_exited-clause-named g c =
    err_same (λ e. (which : Which) → e ≡ stop.Busy which → which ≡ Own) c.mark_exited.result c.from_residual-in_err-mark_exited.result (λ e h. search (rules, h, c.from_residual-in_err-mark_exited.ensures, c.in_err-mark_exited.is))
    (if_err (λ e. (which : Which) → e ≡ stop.Busy which → ⊥) (λ e. (which : Which) → e ≡ stop.Busy which → which ≡ Own) c.mark_exited.result (λ e calm which is. absurd (calm which is)) c.mark_exited.ensures.never_busy)

pub returns-clause-free : goal.returns-clause-free
returns-clause-free g c =
    let D = g.D.Dir in
    ok_all (λ done. D.observed ≡ true → LockToldBetween (D.shown c.args.dir.now) (D.shown c.put_aside.new.dir) (pod_spot c.args.pod c.args.area) false) c.put_aside.result
    (λ done t. told_within grown_none refl (grown_more ((follows_work c.mark_exited.ensures.worked).grown t) ((follows_work c.put_aside.ensures.worked).grown t)) (c.in_ok-probe.ensures.answer_holds t))

pub returns-clause-noted : goal.returns-clause-noted
returns-clause-noted g c =
    let D = g.D.Dir in
    let old = D.shown c.args.dir.now in
    let new = D.shown c.put_aside.new.dir in
    let moved = rw c.goes_to.ensures at c.put_aside.ensures in
    ok_all (λ done. c.args.area ≡ Run → D.observed ≡ true → MarkedFirst c.args.pod c.args.now old.process old.trace new.trace) c.put_aside.result
    (λ done is t. marked_first c.args.pod c.args.now t (follows_work c.probe.ensures.worked) (c.in_ok-mark_exited.ensures.noted is t) c.mark_exited.ensures.worked.same
    (subst (λ (a : Area). OnlyAsks D.observed (moves_pod c.args.pod a (goes_to a)) (D.shown c.mark_exited.new.dir) new) is moved.worked))

pub returns-in_err-probe-clause-reads : goal.returns-in_err-probe-clause-reads
returns-in_err-probe-clause-reads g c = unread_dead c.args.pod c.args.area c.requires.dead c.probe.ensures.worked

pub returns-in_err-mark_exited-clause-reads : goal.returns-in_err-mark_exited-clause-reads
returns-in_err-mark_exited-clause-reads g c = reads_more 0 (omega arith) (unread_dead c.args.pod c.args.area c.requires.dead c.probe.ensures.worked) c.probe.ensures.worked.same (unread_mark c.args.pod c.args.now c.mark_exited.ensures.worked)

pub returns-clause-reads : goal.returns-clause-reads
returns-clause-reads g c = reads_more 0 (omega arith) (reads_more 0 (omega arith) (unread_dead c.args.pod c.args.area c.requires.dead c.probe.ensures.worked) c.probe.ensures.worked.same (unread_mark c.args.pod c.args.now c.mark_exited.ensures.worked)) (c.mark_exited.ensures.worked.same ∙ c.probe.ensures.worked.same) (unread_move c.args.pod c.args.area c.goes_to.result c.put_aside.ensures.worked)

pub returns-in_err-probe-clause-lawful : goal.returns-in_err-probe-clause-lawful
returns-in_err-probe-clause-lawful g c =
    let D = g.D.Dir in
    err_same (λ e. NeverStray D.observed e (D.shown c.probe.new.dir)) c.probe.result c.from_residual.result (λ e h. search (rules, h, c.from_residual.ensures, c.in_err-probe.is))
    (if_err (λ e. e ≡ stop.Stray → ⊥) (λ e. NeverStray D.observed e (D.shown c.probe.new.dir)) c.probe.result (λ e never is t conforming. never is) c.probe.ensures.never)

pub returns-in_err-mark_exited-clause-lawful : goal.returns-in_err-mark_exited-clause-lawful
returns-in_err-mark_exited-clause-lawful g c =
    let D = g.D.Dir in
    err_same (λ e. NeverStray D.observed e (D.shown c.mark_exited.new.dir)) c.mark_exited.result c.from_residual-in_err-mark_exited.result (λ e h. search (rules, h, c.from_residual-in_err-mark_exited.ensures, c.in_err-mark_exited.is))
    (if_err (λ e. e ≡ stop.Stray → ⊥) (λ e. NeverStray D.observed e (D.shown c.mark_exited.new.dir)) c.mark_exited.result (λ e never is t conforming. never is) c.mark_exited.ensures.never)

pub returns-clause-lawful : goal.returns-clause-lawful
returns-clause-lawful g c =
    let D = g.D.Dir in
    let new = D.shown c.put_aside.new.dir in
    if_err (λ e. is_stage c.args.area ≡ true → NeverStray D.observed e new) (λ e. NeverStray D.observed e new) c.put_aside.result (λ e x. x (dead_stage c.args.area c.requires.dead)) c.put_aside.ensures.lawful
