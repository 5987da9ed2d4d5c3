use Rattle.std.proofs.Common.{rules}
use Rattle.plain_laws.proofs.Results.{err_same, any_err}
use Rattle.stage1.specs.Endings.{IsEndCut}
use Rattle.stage1.specs.Refusals.{RunCause}
use Rattle.stage1.proofs.Causes.{by_spawn, run_after}
use Rattle.stage1.proofs.OneEnd.{end_cut_early, end_cut_late, has_ended}
use Rattle.stage1.proofs.ending.end_running.Goals as goal

pub returns-in_err-status-clause-cause : goal.returns-in_err-status-clause-cause
returns-in_err-status-clause-cause g c =
    let D = g.D.Dir in
    let S = g.S.Spawner in
    err_same (λ f. RunCause D.observed f (D.shown c.args.dir.now) (D.shown c.wait_app.new.dir) (S.shown c.args.spawner.now) (S.shown c.wait_app.new.spawner)) c.wait_app.result c.from_residual.result (λ e h. search (rules, h, c.from_residual.ensures, c.in_err-status.is)) c.wait_app.ensures.cause

pub returns-in_err-status-clause-cut : goal.returns-in_err-status-clause-cut
returns-in_err-status-clause-cut g c =
    let S = g.S.Spawner in
    any_err (IsEndCut S.observed c.args.app.now c.args.child (S.shown c.args.spawner.now) (S.shown c.wait_app.new.spawner)) c.from_residual.result (end_cut_early c.args.child c.args.app.now c.in_err-status.ensures.waited)

pub run_handler-requires : goal.run_handler-requires
run_handler-requires g c = record { may = λ t. (c.wait_app.ensures.stays t).may c.args.app.now.root (c.requires.may t) }

pub returns-in-Ok-clause-ended : goal.returns-in-Ok-clause-ended
returns-in-Ok-clause-ended g c = has_ended c.args.child c.args.app.now c.in_ok-status.status (g.S.Spawner.shown c.wait_app.new.spawner) c.in-Ok.field-0 c.in_ok-status.ensures.asked c.in-Ok.ensures.ran

pub returns-in-Err-clause-cause : goal.returns-in-Err-clause-cause
returns-in-Err-clause-cause g c =
    let D = g.D.Dir in
    let S = g.S.Spawner in
    let old = D.shown c.args.dir.now in
    let new = D.shown c.wait_app.new.dir in
    let s = S.shown c.args.spawner.now in
    let s' = S.shown c.wait_app.new.spawner in
    let s'' = S.shown c.run_handler.new.spawner in
    run_after c.in-Err.fault old new new s s' s'' c.wait_app.ensures.worked c.in_ok-status.ensures.asked.faults (by_spawn D.observed c.in-Err.fault new new s' s'' c.in-Err.ensures.cause)

pub returns-in-Err-clause-cut : goal.returns-in-Err-clause-cut
returns-in-Err-clause-cut g c = end_cut_late c.args.child c.args.app.now c.in_ok-status.status (g.S.Spawner.shown c.wait_app.new.spawner) c.in_ok-status.ensures.asked c.in-Err.ensures.cut
