use Rattle.std.proofs.Common.{◌≡◌, ℕ, refl, sym, ap, subst, ◌∙◌, ⊎_elim, arith}
use Rattle.dir_model.specs.declared.area.Area.TheVariants.{Prepared}
use Rattle.dir_model.specs.declared.request.Request.TheVariants.{TryLock}
use Rattle.dir_model.specs.declared.request.Reply.TheVariants.{Done}
use Rattle.dir_model.specs.declared.spot.Mode.TheVariants.{Exclusive}
use Rattle.dir_model.specs.Calls.{CallStep}
use Rattle.dir_model.proofs.Spots.{spot_self}
use Rattle.phase_read.proofs.Often.{reads_more, unread_call, opens_past}
use Rattle.pod_locks.specs.declared.claim_setback.Setback.{Setback}
use Rattle.pod_locks.specs.ClaimCauses.{ClaimWasStopped, CannotOpen}
use Rattle.pod_locks.specs.ClaimRequests.{in_prepared}
use Rattle.pod_locks.specs.ClaimSetbacks.{claim_step_setback}
use Rattle.pod_locks.proofs.ClaimCalls.{went_taken, went_untaken, went_unopened, lock_stops, open_stops}
use Rattle.pod_locks.proofs.ClaimKnowing.{busy_elsewhere, never_opened_busy, busy_named, knows_taken, knows_untaken, knows_unopened}
use Rattle.pod_locks.proofs.ClaimOpposed.{alone_step}
use Rattle.pod_locks.proofs.Times.{follows_call, stops_part}
use Rattle.pod_locks.proofs.Traces.{deeds_then, one_deed, still_call, still_more}
use Rattle.pod_locks.proofs.locks.take_prepared.Goals as goal

pub returns-in-Ok-clause-went : goal.returns-in-Ok-clause-went
returns-in-Ok-clause-went g c = let k = c.in-Ok.ensures.calls in went_taken k.unopened k.opened k.locked

pub returns-in-Ok-clause-order : goal.returns-in-Ok-clause-order
returns-in-Ok-clause-order g c t = let k = c.in-Ok.ensures.calls in deeds_then (one_deed (k.opened.step t)) k.opened.same (one_deed (k.locked.step t))

pub returns-in-Ok-clause-held : goal.returns-in-Ok-clause-held
returns-in-Ok-clause-held g c = let k = c.in-Ok.ensures.calls in knows_taken c.args.pod c.args.which k.unopened k.opened k.locked

pub returns-in-Ok-clause-moves_nothing : goal.returns-in-Ok-clause-moves_nothing
returns-in-Ok-clause-moves_nothing g c t = let k = c.in-Ok.ensures.calls in still_more (still_call refl (k.opened.step t)) k.opened.same (still_call refl (k.locked.step t))

pub returns-in-Ok-clause-reads : goal.returns-in-Ok-clause-reads
returns-in-Ok-clause-reads g c =
    let k = c.in-Ok.ensures.calls in
    reads_more 0 (omega arith) (unread_call (opens_past c.args.pod Prepared 1 refl (in_prepared c.args.pod) (spot_self (in_prepared c.args.pod)) c.args.which) k.opened) k.opened.same (unread_call refl k.locked)

pub returns-in-Ok-clause-alone : goal.returns-in-Ok-clause-alone
returns-in-Ok-clause-alone g c t =
    let D = g.D.Dir in
    let k = c.in-Ok.ensures.calls in
    alone_step (D.shown c.args.dir.now).process (D.shown c.args.dir.now).trace k.between.trace (D.shown c.take.new.dir).trace c.in-Ok.handle c.args.pod c.args.which (k.opened.step t)
    (subst (λ (p : ℕ). CallStep p k.between.trace (TryLock c.in-Ok.handle Exclusive) Done (D.shown c.take.new.dir).trace) k.opened.same (k.locked.step t))

pub returns-in-Err-clause-went : goal.returns-in-Err-clause-went
returns-in-Err-clause-went g c = ⊎_elim
    (λ k. went_unopened {which = c.args.which} k.error k.opened)
    (λ k. went_untaken k.unopened k.opened k.error k.locked k.closed)
    c.in-Err.ensures.calls

pub returns-in-Err-clause-stopped : goal.returns-in-Err-clause-stopped
returns-in-Err-clause-stopped g c =
    let D = g.D.Dir in
    let pod = c.args.pod in
    let Stopped = λ (x : Setback). ClaimWasStopped D.observed pod (CannotOpen pod c.args.which) x (D.shown c.args.dir.now) (D.shown c.take.new.dir) in
    subst Stopped (sym c.step_setback.ensures) (⊎_elim
    (λ k. subst Stopped (ap (claim_step_setback pod) (sym k.stop_is)) (open_stops k.error k.may k.cause (λ t. still_call refl (k.opened.step t)) k.opened))
    (λ k. subst Stopped (ap (claim_step_setback pod) (sym k.stop_is))
    (stops_part (follows_call refl k.opened) k.locked.same (follows_call refl k.closed) (lock_stops c.args.which k.handle k.error k.may k.cause (λ t. still_call refl (k.locked.step t)))))
    c.in-Err.ensures.calls)

pub returns-in-Err-clause-left : goal.returns-in-Err-clause-left
returns-in-Err-clause-left g c = ⊎_elim
    (λ k. knows_unopened c.args.pod c.args.which k.error k.opened)
    (λ k. knows_untaken c.args.pod c.args.which k.error k.unopened k.opened k.locked k.closed)
    c.in-Err.ensures.calls

pub returns-in-Err-clause-by_other_process : goal.returns-in-Err-clause-by_other_process
returns-in-Err-clause-by_other_process g c t s may known which is =
    let told = sym c.step_setback.ensures ∙ is in
    ⊎_elim
    (λ k. absurd (never_opened_busy c.args.pod which k.error (sym (ap (claim_step_setback c.args.pod) k.stop_is) ∙ told)))
    (λ k. busy_elsewhere c.args.pod c.args.which k.error k.opened k.locked k.closed t s may known which (sym (ap (claim_step_setback c.args.pod) k.stop_is) ∙ told))
    c.in-Err.ensures.calls

pub returns-in-Err-clause-own : goal.returns-in-Err-clause-own
returns-in-Err-clause-own g c other named is = busy_named c.args.pod other c.args.which named c.in-Err.stop c.in-Err.ensures.named (sym c.step_setback.ensures ∙ is)

pub returns-in-Err-clause-reads : goal.returns-in-Err-clause-reads
returns-in-Err-clause-reads g c =
    let past = opens_past c.args.pod Prepared 1 refl (in_prepared c.args.pod) (spot_self (in_prepared c.args.pod)) c.args.which in
    ⊎_elim
    (λ k. unread_call past k.opened)
    (λ k. reads_more 0 (omega arith) (reads_more 0 (omega arith) (unread_call past k.opened) k.opened.same (unread_call refl k.locked)) (k.locked.same ∙ k.opened.same) (unread_call refl k.closed))
    c.in-Err.ensures.calls
