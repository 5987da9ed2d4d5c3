use Rattle.std.proofs.Common.{rules}
use Rattle.plain_laws.proofs.Results.{if_ok, if_err, err_same, any_err}
use Rattle.stage1.specs.Programs.{RanHandler, HandlerCut}
use Rattle.stage1.specs.Beginnings.{RanPrelude, PreludeCut}
use Rattle.stage1.specs.Refusals.{SpawnCause}
use Rattle.stage1.proofs.Causes.{spawn_after}
use Rattle.stage1.proofs.OneApp.{unready, ran_prelude, prelude_cut}
use Rattle.stage1.proofs.beginning.prelude.Goals as goal

pub returns-in_err-make_ready-clause-cut : goal.returns-in_err-make_ready-clause-cut
returns-in_err-make_ready-clause-cut g c =
    let S = g.S.Spawner in
    any_err (PreludeCut S.observed c.args.app.now (S.shown c.args.spawner.now) (S.shown c.make_ready.new.spawner)) c.from_residual.result (unready c.args.app.now c.in_err-make_ready.ensures.refused)

pub returns-in_err-make_ready-clause-cause : goal.returns-in_err-make_ready-clause-cause
returns-in_err-make_ready-clause-cause g c =
    let S = g.S.Spawner in
    err_same (λ f. SpawnCause f (S.shown c.args.spawner.now) (S.shown c.make_ready.new.spawner)) c.make_ready.result c.from_residual.result (λ e h. search (rules, h, c.from_residual.ensures, c.in_err-make_ready.is)) c.make_ready.ensures.cause

pub returns-clause-ran : goal.returns-clause-ran
returns-clause-ran g c =
    let S = g.S.Spawner in
    let app = c.args.app.now in
    let old = S.shown c.args.spawner.now in
    let mid = S.shown c.make_ready.new.spawner in
    let new = S.shown c.run_handler.new.spawner in
    if_ok (λ status. RanHandler S.observed app app.launch.pre_start status mid new) (λ status. RanPrelude S.observed app status old new) c.run_handler.result (λ status r. ran_prelude app status mid c.in_ok-make_ready.ensures.asked r) c.run_handler.ensures.ran

pub returns-clause-cut : goal.returns-clause-cut
returns-clause-cut g c =
    let S = g.S.Spawner in
    let app = c.args.app.now in
    let old = S.shown c.args.spawner.now in
    let mid = S.shown c.make_ready.new.spawner in
    let new = S.shown c.run_handler.new.spawner in
    if_err (λ f. HandlerCut S.observed app app.launch.pre_start mid new) (λ f. PreludeCut S.observed app old new) c.run_handler.result (λ f w. prelude_cut app mid c.in_ok-make_ready.ensures.asked w) c.run_handler.ensures.cut

pub returns-clause-cause : goal.returns-clause-cause
returns-clause-cause g c =
    let S = g.S.Spawner in
    let old = S.shown c.args.spawner.now in
    let mid = S.shown c.make_ready.new.spawner in
    let new = S.shown c.run_handler.new.spawner in
    if_err (λ f. SpawnCause f mid new) (λ f. SpawnCause f old new) c.run_handler.result (λ f is. spawn_after f old mid new c.in_ok-make_ready.ensures.asked.faults is) c.run_handler.ensures.cause
