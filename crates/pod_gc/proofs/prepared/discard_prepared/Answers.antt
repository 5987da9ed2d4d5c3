use Rattle.std.proofs.Common.{◌≡◌, rules, true, false, refl, ap, subst, arith, ◌∙◌}
use Rattle.plain_laws.proofs.Results.{if_ok, if_err, ok_all, err_all}
use Rattle.dir_model.specs.declared.area.Area.TheVariants.{Prepared, Garbage}
use Rattle.dir_model.specs.declared.spot.Mode.TheVariants.{Exclusive}
use Rattle.dir_model.specs.declared.spot.Which.TheVariants.{Own, Claim}
use Rattle.dir_model.specs.declared.request.Request.TheVariants.{MoveFolder}
use Rattle.dir_model.specs.declared.request.Reply.TheVariants.{Done}
use Rattle.dir_model.specs.Local.{Local}
use Rattle.dir_trait.specs.DirCalls.{ExtendsBy, LockToldBetween}
use Rattle.dir_trait.specs.Effects.{LeavesOpen, Given}
use Rattle.dir_model.specs.Spots.{pod_spot}
use Rattle.pod_locks.proofs.Times.{deeds_part}
use Rattle.pod_locks.specs.Requests.{looks_at}
use Rattle.pod_locks.specs.Holding.{and_taken}
use Rattle.pod_locks.specs.declared.setback.Setback.TheVariants as stop
use Rattle.pod_locks.specs.Causes.{StepWasStopped, IsAbsentAt, FreeIfObserved, Did}
use Rattle.pod_locks.proofs.Traces.{grown_none, grown_more}
use Rattle.pod_locks.proofs.Calls.{follows_work, follows_went, follows_call, stops_part}
use Rattle.pod_locks.proofs.Within.{free_within, told_within}
use Rattle.pod_gc.specs.RemovalHolding.{MayDiscard, UnderClaim}
use Rattle.pod_gc.specs.RemovalCauses.{StoppedAlone, BusyInPrepared, BusyByLooks}
use Rattle.pod_gc.specs.RemovalRequests.{puts_aside}
use Rattle.pod_gc.proofs.CallKinds.{put_locked}
use Rattle.pod_gc.proofs.Discarding.{takes_claim, discards_under, busy_within, worked_claimed, worked_alone, alone_stops, alone_busy, ready_claimed, ready_looked, ready_left, busy_claim, worked_untaken, stops_else, stops_alone, looks_alone, looks_claimed, alone_calm, claim_calm}
use Rattle.pod_locks.specs.Taking.{TakesNothing}
use Rattle.pod_locks.proofs.Taking.{took_looks, took_more, took_closed}
use Rattle.phase_read.proofs.Often.{reads_more}
use Rattle.phase_read.proofs.Often.{unread_call}
use Rattle.pod_gc.proofs.Unread.{unread_took, unread_looks}
use Rattle.pod_locks.specs.Causes.{NeverStray}
use Rattle.pod_locks.proofs.Lawful.{breaks_part}
use Rattle.pod_gc.proofs.RemovalLawful.{alone_never}
use Rattle.pod_gc.proofs.prepared.discard_prepared.Goals as goal

pub returns-in-Ok-clause-worked : goal.returns-in-Ok-clause-worked
returns-in-Ok-clause-worked g c =
    let D = g.D.Dir in
    let a = D.shown c.args.dir.now in
    let w = subst (λ (l : Local). LeavesOpen D.observed (looks_at c.args.pod Prepared) l a (D.shown c.take.new.dir)) (ap (and_taken a.local c.args.pod Prepared Claim) c.in-Ok.is) c.take.ensures.went in
    worked_claimed c.args.pod c.args.now c.in-Ok.ensures.unopened w c.discard_under_claim-result.ensures.worked c.close.ensures.called

pub returns-in-Ok-clause-stopped : goal.returns-in-Ok-clause-stopped
returns-in-Ok-clause-stopped g c =
    let D = g.D.Dir in
    if_err (λ e. StepWasStopped D.observed c.args.pod (IsAbsentAt c.args.pod Prepared) e (D.shown c.take.new.dir) (D.shown c.discard_under_claim-result.new.dir))
    (λ e. StoppedAlone D.observed c.args.pod e (D.shown c.args.dir.now) (D.shown c.close.new.self)) c.discard_under_claim-result.result
    (λ e x. stops_alone (stops_part (follows_went c.take.ensures.went) (follows_call c.close.ensures.called) x)) c.discard_under_claim-result.ensures.stopped

pub returns-in-Ok-clause-by_other_process : goal.returns-in-Ok-clause-by_other_process
returns-in-Ok-clause-by_other_process g c =
    let D = g.D.Dir in
    let a = D.shown c.args.dir.now in
    let b = D.shown c.take.new.dir in
    let m = D.shown c.discard_under_claim-result.new.dir in
    let d = D.shown c.close.new.self in
    if_err (λ e. D.observed ≡ true → Given (UnderClaim c.args.pod c.args.now) b (λ s. BusyInPrepared c.args.pod e b m)) (λ e. D.observed ≡ true → Given (MayDiscard c.args.pod c.args.now) a (λ s. BusyInPrepared c.args.pod e a d))
    c.discard_under_claim-result.result
    (λ e busy t s k may. busy_within t (follows_went c.take.ensures.went) (follows_call c.close.ensures.called) (busy t _ (c.in-Ok.ensures.held t s k (takes_claim c.args.pod may)) (discards_under c.args.pod k c.in-Ok.ensures.unopened may)))
    c.discard_under_claim-result.ensures.by_other_process

pub returns-in-Ok-clause-done : goal.returns-in-Ok-clause-done
returns-in-Ok-clause-done g c =
    let D = g.D.Dir in
    let a = D.shown c.args.dir.now in
    let b = D.shown c.take.new.dir in
    let m = D.shown c.discard_under_claim-result.new.dir in
    let d = D.shown c.close.new.self in
    if_ok (λ done. D.observed ≡ true → Did (MoveFolder (pod_spot c.args.pod Prepared) (pod_spot c.args.pod Garbage)) Done b.process b.trace m.trace)
    (λ done. D.observed ≡ true → Did (MoveFolder (pod_spot c.args.pod Prepared) (pod_spot c.args.pod Garbage)) Done a.process a.trace d.trace) c.discard_under_claim-result.result
    (λ done did t. deeds_part ((follows_went c.take.ensures.went).grown t) c.take.ensures.went.same ((follows_call c.close.ensures.called).grown t) (did t)) c.discard_under_claim-result.ensures.done

pub returns-in-Ok-clause-ready : goal.returns-in-Ok-clause-ready
returns-in-Ok-clause-ready g c t = ready_claimed c.args.pod t c.in-Ok.ensures.unopened (c.in-Ok.ensures.held t) (c.discard_under_claim-result.ensures.ready t) c.close.ensures.called

pub returns-in-Err-Missing-clause-worked : goal.returns-in-Err-Missing-clause-worked
returns-in-Err-Missing-clause-worked g c =
    let D = g.D.Dir in
    let a = D.shown c.args.dir.now in
    let w = subst (λ (l : Local). LeavesOpen D.observed (looks_at c.args.pod Prepared) l a (D.shown c.take.new.dir)) (ap (and_taken a.local c.args.pod Prepared Claim) c.in-Err-Missing.is) c.take.ensures.went in
    worked_alone c.args.pod c.args.now w c.without_claim.ensures.worked

pub returns-in-Err-Missing-clause-stopped : goal.returns-in-Err-Missing-clause-stopped
returns-in-Err-Missing-clause-stopped g c =
    let e = rw c.in-Err-Missing.field-0-is at c.in-Err-Missing.ensures in
    alone_stops c.args.pod (follows_went c.take.ensures.went) e.stopped c.without_claim.ensures.stopped

pub returns-in-Err-Missing-clause-by_other_process : goal.returns-in-Err-Missing-clause-by_other_process
returns-in-Err-Missing-clause-by_other_process g c t s k may = alone_busy (g.D.Dir.shown c.args.dir.now) c.without_claim.ensures.stopped

pub returns-in-Err-Missing-clause-ready : goal.returns-in-Err-Missing-clause-ready
returns-in-Err-Missing-clause-ready g c t =
    let e = rw c.in-Err-Missing.field-0-is at c.in-Err-Missing.ensures in
    ready_looked (e.left t) (c.without_claim.ensures.known t)

pub returns-in-Err-clause-worked : goal.returns-in-Err-clause-worked
returns-in-Err-clause-worked g c =
    let D = g.D.Dir in
    let a = D.shown c.args.dir.now in
    let w = subst (λ (l : Local). LeavesOpen D.observed (looks_at c.args.pod Prepared) l a (D.shown c.take.new.dir)) (ap (and_taken a.local c.args.pod Prepared Claim) c.in-Err.is) c.take.ensures.went in
    worked_untaken c.args.pod c.args.now w

pub returns-in-Err-clause-stopped : goal.returns-in-Err-clause-stopped
returns-in-Err-clause-stopped g c = stops_else c.args.pod (λ is. search (rules, is, c.in-Err.stop-is)) c.in-Err.ensures.stopped

pub returns-in-Err-clause-by_other_process : goal.returns-in-Err-clause-by_other_process
returns-in-Err-clause-by_other_process g c t s k may =
    busy_claim (g.D.Dir.shown c.args.dir.now) (g.D.Dir.shown c.take.new.dir) c.args.pod c.in-Err.stop c.in-Err.ensures.named (c.in-Err.ensures.by_other_process t s k (takes_claim c.args.pod may))

pub returns-in-Err-clause-ready : goal.returns-in-Err-clause-ready
returns-in-Err-clause-ready g c t = ready_left (c.in-Err.ensures.left t)

pub returns-in-Ok-clause-looks : goal.returns-in-Ok-clause-looks
returns-in-Ok-clause-looks g c =
    let D = g.D.Dir in
    if_err (λ e. BusyByLooks D.observed c.args.pod Prepared e (D.shown c.take.new.dir) (D.shown c.discard_under_claim-result.new.dir)) (λ e. BusyByLooks D.observed c.args.pod Prepared e (D.shown c.args.dir.now) (D.shown c.close.new.self)) c.discard_under_claim-result.result
    (λ e x. looks_claimed c.args.pod c.take.ensures.went c.discard_under_claim-result.ensures.worked.same c.close.ensures.called x) c.discard_under_claim-result.ensures.looks

pub returns-in-Err-Missing-clause-looks : goal.returns-in-Err-Missing-clause-looks
returns-in-Err-Missing-clause-looks g c = looks_alone (g.D.Dir.shown c.args.dir.now) c.without_claim.ensures.stopped

pub returns-in-Err-clause-looks : goal.returns-in-Err-clause-looks
returns-in-Err-clause-looks g c which is t = c.take.ensures.went.extends t

pub returns-in-Ok-clause-takes_nothing : goal.returns-in-Ok-clause-takes_nothing
returns-in-Ok-clause-takes_nothing g c =
    let D = g.D.Dir in
    let mid = D.shown c.take.new.dir in
    let late = D.shown c.discard_under_claim-result.new.dir in
    if_err (λ e. TakesNothing D.observed mid late) (λ e. TakesNothing D.observed (D.shown c.args.dir.now) (D.shown c.close.new.self)) c.discard_under_claim-result.result
    (λ e x t. took_closed t c.args.pod Prepared c.take.ensures.went c.discard_under_claim-result.ensures.worked.same c.close.ensures.called (x t)) c.discard_under_claim-result.ensures.takes_nothing

pub returns-in-Err-Missing-clause-takes_nothing : goal.returns-in-Err-Missing-clause-takes_nothing
returns-in-Err-Missing-clause-takes_nothing g c t =
    took_more (took_looks c.args.pod Prepared (c.take.ensures.went.extends t)) c.take.ensures.went.same (took_looks c.args.pod Prepared (c.without_claim.ensures.worked.extends t))

pub returns-in-Err-clause-takes_nothing : goal.returns-in-Err-clause-takes_nothing
returns-in-Err-clause-takes_nothing g c t = took_looks c.args.pod Prepared (c.take.ensures.went.extends t)

pub returns-in-Ok-clause-aside : goal.returns-in-Ok-clause-aside
returns-in-Ok-clause-aside g c =
    let D = g.D.Dir in
    if_ok (λ done. D.observed ≡ true → ExtendsBy (puts_aside c.args.pod Prepared Garbage) (D.shown c.take.new.dir) (D.shown c.discard_under_claim-result.new.dir))
    (λ done. D.observed ≡ true → ExtendsBy (puts_aside c.args.pod Prepared Garbage) (D.shown c.args.dir.now) (D.shown c.close.new.self)) c.discard_under_claim-result.result
    (λ done x t. put_locked c.args.pod Prepared Garbage c.take.ensures.went c.discard_under_claim-result.ensures.worked.same c.close.ensures.called t (x t)) c.discard_under_claim-result.ensures.aside

pub returns-in-Ok-clause-claimed : goal.returns-in-Ok-clause-claimed
returns-in-Ok-clause-claimed g c =
    let D = g.D.Dir in
    ok_all (λ done. FreeIfObserved D.observed c.args.pod Prepared Claim Exclusive (D.shown c.args.dir.now) (D.shown c.close.new.self)) c.discard_under_claim-result.result
    (λ done t. free_within grown_none refl (grown_more ((follows_work c.discard_under_claim-result.ensures.worked).grown t) ((follows_call c.close.ensures.called).grown t)) (c.in-Ok.ensures.free t))

pub returns-in-Ok-clause-under_claim : goal.returns-in-Ok-clause-under_claim
returns-in-Ok-clause-under_claim g c =
    let D = g.D.Dir in
    err_all (λ e. e ≡ stop.Busy Own → FreeIfObserved D.observed c.args.pod Prepared Claim Exclusive (D.shown c.args.dir.now) (D.shown c.close.new.self)) c.discard_under_claim-result.result
    (λ e is t. free_within grown_none refl (grown_more ((follows_work c.discard_under_claim-result.ensures.worked).grown t) ((follows_call c.close.ensures.called).grown t)) (c.in-Ok.ensures.free t))

pub returns-in-Ok-clause-free : goal.returns-in-Ok-clause-free
returns-in-Ok-clause-free g c =
    let D = g.D.Dir in
    let mid = D.shown c.take.new.dir in
    let late = D.shown c.discard_under_claim-result.new.dir in
    if_ok (λ done. D.observed ≡ true → LockToldBetween mid late (pod_spot c.args.pod Prepared) false) (λ done. D.observed ≡ true → LockToldBetween (D.shown c.args.dir.now) (D.shown c.close.new.self) (pod_spot c.args.pod Prepared) false)
    c.discard_under_claim-result.result (λ done x t. told_within ((follows_went c.take.ensures.went).grown t) c.take.ensures.went.same ((follows_call c.close.ensures.called).grown t) (x t)) c.discard_under_claim-result.ensures.free

pub returns-in-Err-Missing-clause-under_claim : goal.returns-in-Err-Missing-clause-under_claim
returns-in-Err-Missing-clause-under_claim g c is = absurd (alone_calm c.without_claim.ensures.stopped is)

pub returns-in-Err-clause-under_claim : goal.returns-in-Err-clause-under_claim
returns-in-Err-clause-under_claim g c is = absurd (claim_calm (c.in-Err.ensures.named Own is))

pub returns-in-Ok-clause-reads : goal.returns-in-Ok-clause-reads
returns-in-Ok-clause-reads g c = reads_more 0 (omega arith) (reads_more 0 (omega arith) (unread_took c.args.pod Prepared 1 refl c.take.ensures.went) c.take.ensures.went.same c.discard_under_claim-result.ensures.reads) (c.discard_under_claim-result.ensures.worked.same ∙ c.take.ensures.went.same) (unread_call refl c.close.ensures.called)

pub returns-in-Err-Missing-clause-reads : goal.returns-in-Err-Missing-clause-reads
returns-in-Err-Missing-clause-reads g c = reads_more 0 (omega arith) (unread_took c.args.pod Prepared 1 refl c.take.ensures.went) c.take.ensures.went.same (unread_looks c.args.pod Prepared 1 refl c.without_claim.ensures.worked)

pub returns-in-Err-clause-reads : goal.returns-in-Err-clause-reads
returns-in-Err-clause-reads g c = unread_took c.args.pod Prepared 1 refl c.take.ensures.went

pub returns-in-Ok-clause-lawful : goal.returns-in-Ok-clause-lawful
returns-in-Ok-clause-lawful g c =
    let D = g.D.Dir in
    if_err (λ e. NeverStray D.observed e (D.shown c.discard_under_claim-result.new.dir)) (λ e. NeverStray D.observed e (D.shown c.close.new.self)) c.discard_under_claim-result.result
    (λ e x is. breaks_part (follows_call c.close.ensures.called) (x is)) c.discard_under_claim-result.ensures.lawful

pub returns-in-Err-Missing-clause-lawful : goal.returns-in-Err-Missing-clause-lawful
returns-in-Err-Missing-clause-lawful g c = alone_never c.without_claim.ensures.stopped

pub returns-in-Err-clause-lawful : goal.returns-in-Err-clause-lawful
returns-in-Err-clause-lawful g c is t conforming = c.in-Err.ensures.never is
