use Rattle.std.proofs.Common.{rules}
use Rattle.plain_laws.proofs.Results.{err_same, any_err}
use Rattle.stage1.specs.Endings.{EndsCut}
use Rattle.stage1.specs.Refusals.{RunCause}
use Rattle.stage1.proofs.OneEnd.{ends_cut}
use Rattle.stage1.proofs.ending.add_end.Goals as goal

pub returns-in_err-status-clause-cause : goal.returns-in_err-status-clause-cause
returns-in_err-status-clause-cause g c =
    let D = g.D.Dir in
    let S = g.S.Spawner in
    err_same (λ f. RunCause D.observed f (D.shown c.args.dir.now) (D.shown c.end_app.new.dir) (S.shown c.args.spawner.now) (S.shown c.end_app.new.spawner)) c.end_app.result c.from_residual.result (λ e h. search (rules, h, c.from_residual.ensures, c.in_err-status.is)) c.end_app.ensures.cause

pub returns-in_err-status-clause-cut : goal.returns-in_err-status-clause-cut
returns-in_err-status-clause-cut g c =
    let S = g.S.Spawner in
    any_err (EndsCut S.observed c.args.app.now c.args.stand (S.shown c.args.spawner.now) (S.shown c.end_app.new.spawner)) c.from_residual.result c.in_err-status.ensures.cut

pub returns-in-Ok-clause-added : goal.returns-in-Ok-clause-added
returns-in-Ok-clause-added g c =
    record { status = c.in_ok-status.status; added = search rules; ends = c.in_ok-status.ensures.ended }

pub returns-in-Ok-clause-wrote : goal.returns-in-Ok-clause-wrote
returns-in-Ok-clause-wrote g c t = record { status = c.in_ok-status.status; added = search rules; wrote = c.in_ok-status.ensures.wrote t }

pub returns-in-Err-clause-cut : goal.returns-in-Err-clause-cut
returns-in-Err-clause-cut g c = ends_cut g.S.Spawner.observed (g.S.Spawner.shown c.args.spawner.now) (g.S.Spawner.shown c.end_app.new.spawner) c.args.app.now c.args.stand c.in_ok-status.status c.in_ok-status.ensures.ended
