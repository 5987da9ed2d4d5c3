use Rattle.std.proofs.Common.{◌≡◌, rules, Ok, Err, refl, sym, ap, subst, arith, ◌∙◌}
use Rattle.dir_model.specs.declared.spot.Which.TheVariants.{Own}
use Rattle.dir_trait.proofs.Calls.{with_spots}
use Rattle.pod_locks.specs.declared.claim_setback.Setback.{Setback}
use Rattle.pod_locks.specs.ClaimCauses.{ClaimWasStopped, IsNotInPrepared}
use Rattle.pod_locks.proofs.ClaimCalls.{move_stops}
use Rattle.pod_locks.proofs.ClaimKnowing.{knows_moved, knows_unmoved}
use Rattle.pod_locks.proofs.Parts.{went_as, went_run, went_unrun, locked_ok, follows_taken}
use Rattle.pod_locks.proofs.Times.{follows_call, stops_part, alone_had}
use Rattle.pod_locks.proofs.Traces.{deeds_then, one_deed, still_call, grown_call, grown_none}
use Rattle.phase_read.proofs.Often.{reads_more, unread_call}
use Rattle.pod_locks.proofs.locks.run_under_claim.Goals as goal

pub returns-in-Ok-clause-went : goal.returns-in-Ok-clause-went
returns-in-Ok-clause-went g c =
    let ok : c.take_prepared.result ≡ Ok c.in_ok-own.own = search (rules, c.branch-own.ensures, c.in_ok-own.is) in
    went_run c.args.pod c.in_ok-own.own (went_as (locked_ok (g.D.Dir.shown c.args.dir.now).local c.args.pod Own c.take_prepared.result c.in_ok-own.own ok) c.take_prepared.ensures.went) (with_spots c.of_pod-from.ensures c.of_pod-to.ensures c.in-Ok.ensures.called)

pub returns-in-Ok-clause-order : goal.returns-in-Ok-clause-order
returns-in-Ok-clause-order g c t =
    deeds_then (c.in_ok-own.ensures.order t) c.take_prepared.ensures.went.same (one_deed ((with_spots c.of_pod-from.ensures c.of_pod-to.ensures c.in-Ok.ensures.called).step t))

pub returns-in-Ok-clause-held : goal.returns-in-Ok-clause-held
returns-in-Ok-clause-held g c = knows_moved c.in_ok-own.ensures.unopened c.in_ok-own.ensures.held (with_spots c.of_pod-from.ensures c.of_pod-to.ensures c.in-Ok.ensures.called)

pub returns-in-Err-clause-went : goal.returns-in-Err-clause-went
returns-in-Err-clause-went g c =
    let ok : c.take_prepared.result ≡ Ok c.in_ok-own.own = search (rules, c.branch-own.ensures, c.in_ok-own.is) in
    went_unrun c.args.pod c.in_ok-own.own (went_as (locked_ok (g.D.Dir.shown c.args.dir.now).local c.args.pod Own c.take_prepared.result c.in_ok-own.own ok) c.take_prepared.ensures.went) c.in-Err.error c.in_ok-own.ensures.unopened (with_spots c.of_pod-from.ensures c.of_pod-to.ensures c.in-Err.ensures.called) c.close.ensures.called

pub returns-in-Err-clause-stopped : goal.returns-in-Err-clause-stopped
returns-in-Err-clause-stopped g c =
    let D = g.D.Dir in
    let e = c.in-Err.error in
    let asks = c.in-Err.ensures in
    let moves = with_spots c.of_pod-from.ensures c.of_pod-to.ensures asks.called in
    subst (λ (x : Setback). ClaimWasStopped D.observed c.args.pod (IsNotInPrepared c.args.pod) x (D.shown c.args.dir.now) (D.shown c.close.new.self)) (sym c.set_back.ensures)
    (stops_part (follows_taken c.take_prepared.ensures.went c.in_ok-own.ensures.moves_nothing) asks.called.same (follows_call refl c.close.ensures.called)
    (move_stops e asks.refusals (λ is. asks.cause (ap Err is)) (λ t. still_call refl (asks.called.step t)) moves))

pub returns-in-Err-clause-left : goal.returns-in-Err-clause-left
returns-in-Err-clause-left g c = knows_unmoved c.in_ok-own.ensures.unopened c.in_ok-own.ensures.held c.in-Err.error (with_spots c.of_pod-from.ensures c.of_pod-to.ensures c.in-Err.ensures.called) c.close.ensures.called

pub returns-in-Ok-clause-reads : goal.returns-in-Ok-clause-reads
returns-in-Ok-clause-reads g c = reads_more 0 (omega arith) c.take_prepared.ensures.reads c.take_prepared.ensures.went.same (unread_call refl c.move_folder.ensures.called)

pub returns-in-Err-clause-reads : goal.returns-in-Err-clause-reads
returns-in-Err-clause-reads g c = reads_more 0 (omega arith) (reads_more 0 (omega arith) c.take_prepared.ensures.reads c.take_prepared.ensures.went.same (unread_call refl c.move_folder.ensures.called)) (c.move_folder.ensures.called.same ∙ c.take_prepared.ensures.went.same) (unread_call refl c.close.ensures.called)

pub returns-in-Ok-clause-alone : goal.returns-in-Ok-clause-alone
returns-in-Ok-clause-alone g c t = alone_had grown_none refl (grown_call (c.in-Ok.ensures.called.step t)) (c.in_ok-own.ensures.alone t)
