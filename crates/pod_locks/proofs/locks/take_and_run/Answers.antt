use Rattle.std.proofs.Common.{refl, ap, arith, ◌∙◌}
use Rattle.dir_model.specs.declared.spot.Which.TheVariants.{Claim}
use Rattle.pod_locks.specs.ClaimHolding.{and_locked}
use Rattle.pod_locks.proofs.Parts.{went_as, went_wider, went_more, locked_ok, follows_taken, went_under, fresh_under, order_under, alone_under, stopped_under, another_under, held_under, left_under, alone_stops}
use Rattle.pod_locks.proofs.Times.{follows_call, alone_had}
use Rattle.pod_locks.proofs.Traces.{grown_by, grown_call, grown_more, grown_none}
use Rattle.phase_read.proofs.Often.{reads_more, unread_call}
use Rattle.pod_locks.proofs.locks.take_and_run.Goals as goal

pub returns-in-Ok-clause-went : goal.returns-in-Ok-clause-went
returns-in-Ok-clause-went g c =
    let w = went_as (locked_ok (g.D.Dir.shown c.args.dir.now).local c.args.pod Claim c.take_prepared.result c.in-Ok.claim c.in-Ok.is) c.take_prepared.ensures.went in
    went_under c.run_under_claim-result.result c.in-Ok.ensures.unopened w c.run_under_claim-result.ensures.unopened c.close.ensures.called c.run_under_claim-result.ensures.went

pub returns-in-Ok-clause-unopened : goal.returns-in-Ok-clause-unopened
returns-in-Ok-clause-unopened g c =
    let w = went_as (locked_ok (g.D.Dir.shown c.args.dir.now).local c.args.pod Claim c.take_prepared.result c.in-Ok.claim c.in-Ok.is) c.take_prepared.ensures.went in
    fresh_under c.run_under_claim-result.result c.in-Ok.ensures.unopened w c.run_under_claim-result.ensures.unopened c.close.ensures.called

pub returns-in-Ok-clause-order : goal.returns-in-Ok-clause-order
returns-in-Ok-clause-order g c =
    let w = went_as (locked_ok (g.D.Dir.shown c.args.dir.now).local c.args.pod Claim c.take_prepared.result c.in-Ok.claim c.in-Ok.is) c.take_prepared.ensures.went in
    order_under c.run_under_claim-result.result c.in-Ok.ensures.unopened w c.run_under_claim-result.ensures.unopened c.close.ensures.called w.same c.in-Ok.ensures.order c.run_under_claim-result.ensures.order

pub returns-in-Ok-clause-stopped : goal.returns-in-Ok-clause-stopped
returns-in-Ok-clause-stopped g c =
    let w = went_as (locked_ok (g.D.Dir.shown c.args.dir.now).local c.args.pod Claim c.take_prepared.result c.in-Ok.claim c.in-Ok.is) c.take_prepared.ensures.went in
    stopped_under c.run_under_claim-result.result c.in-Ok.ensures.unopened w c.run_under_claim-result.ensures.unopened c.close.ensures.called (follows_taken w c.in-Ok.ensures.moves_nothing) c.run_under_claim-result.ensures.went.same (follows_call refl c.close.ensures.called) c.run_under_claim-result.ensures.stopped

pub returns-in-Ok-clause-by_other_process : goal.returns-in-Ok-clause-by_other_process
returns-in-Ok-clause-by_other_process g c =
    let w = went_as (locked_ok (g.D.Dir.shown c.args.dir.now).local c.args.pod Claim c.take_prepared.result c.in-Ok.claim c.in-Ok.is) c.take_prepared.ensures.went in
    another_under c.run_under_claim-result.result c.in-Ok.ensures.unopened w c.run_under_claim-result.ensures.unopened c.close.ensures.called c.in-Ok.ensures.held (follows_taken w c.in-Ok.ensures.moves_nothing) c.run_under_claim-result.ensures.went.same (follows_call refl c.close.ensures.called) c.run_under_claim-result.ensures.by_other_process
    (λ t. alone_had grown_none refl (grown_more (grown_by (c.run_under_claim-result.ensures.went.extends t)) (grown_call (c.close.ensures.called.step t))) (c.in-Ok.ensures.alone t))

pub returns-in-Ok-clause-held : goal.returns-in-Ok-clause-held
returns-in-Ok-clause-held g c =
    let w = went_as (locked_ok (g.D.Dir.shown c.args.dir.now).local c.args.pod Claim c.take_prepared.result c.in-Ok.claim c.in-Ok.is) c.take_prepared.ensures.went in
    held_under c.run_under_claim-result.result c.in-Ok.ensures.unopened w c.run_under_claim-result.ensures.unopened c.close.ensures.called c.in-Ok.ensures.held c.run_under_claim-result.ensures.held

pub returns-in-Ok-clause-left : goal.returns-in-Ok-clause-left
returns-in-Ok-clause-left g c =
    let w = went_as (locked_ok (g.D.Dir.shown c.args.dir.now).local c.args.pod Claim c.take_prepared.result c.in-Ok.claim c.in-Ok.is) c.take_prepared.ensures.went in
    left_under c.run_under_claim-result.result c.in-Ok.ensures.unopened w c.run_under_claim-result.ensures.unopened c.close.ensures.called c.in-Ok.ensures.held c.run_under_claim-result.ensures.left

pub returns-in-Err-Missing-clause-went : goal.returns-in-Err-Missing-clause-went
returns-in-Err-Missing-clause-went g c =
    let w = went_as (ap (and_locked (g.D.Dir.shown c.args.dir.now).local c.args.pod Claim) c.in-Err-Missing.is) c.take_prepared.ensures.went in
    went_as w.local_is (went_wider (omega arith) (went_more w c.without_claim.ensures.went))

pub returns-in-Err-Missing-clause-stopped : goal.returns-in-Err-Missing-clause-stopped
returns-in-Err-Missing-clause-stopped g c =
    let e = rw c.in-Err-Missing.field-0-is at c.in-Err-Missing.ensures in
    alone_stops e.stopped c.take_prepared.ensures.went.same c.take_prepared.ensures.went.faults (λ t. grown_by (c.take_prepared.ensures.went.extends t)) c.without_claim.ensures.stopped

pub returns-in-Ok-clause-reads : goal.returns-in-Ok-clause-reads
returns-in-Ok-clause-reads g c = reads_more 0 (omega arith) (reads_more 0 (omega arith) c.take_prepared.ensures.reads c.take_prepared.ensures.went.same c.run_under_claim-result.ensures.reads) (c.run_under_claim-result.ensures.went.same ∙ c.take_prepared.ensures.went.same) (unread_call refl c.close.ensures.called)

pub returns-in-Err-Missing-clause-reads : goal.returns-in-Err-Missing-clause-reads
returns-in-Err-Missing-clause-reads g c = reads_more 0 (omega arith) c.take_prepared.ensures.reads c.take_prepared.ensures.went.same c.without_claim.ensures.reads

pub returns-in-Ok-clause-alone : goal.returns-in-Ok-clause-alone
returns-in-Ok-clause-alone g c =
    let w = went_as (locked_ok (g.D.Dir.shown c.args.dir.now).local c.args.pod Claim c.take_prepared.result c.in-Ok.claim c.in-Ok.is) c.take_prepared.ensures.went in
    alone_under c.run_under_claim-result.result c.in-Ok.ensures.unopened w c.run_under_claim-result.ensures.unopened c.close.ensures.called
    (λ t. alone_had grown_none refl (grown_more (grown_by (c.run_under_claim-result.ensures.went.extends t)) (grown_call (c.close.ensures.called.step t))) (c.in-Ok.ensures.alone t))
    (λ t. grown_by (w.extends t)) w.same c.run_under_claim-result.ensures.alone
