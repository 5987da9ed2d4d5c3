use Rattle.std.proofs.Common.{[], ◌∷◌}
use Rattle.plain_laws.proofs.Results.{if_ok, if_err}
use Rattle.stage1.specs.Asking.{Asks}
use Rattle.stage1.specs.Sequences.{start_call, wait_call}
use Rattle.stage1.specs.Programs.{wait_request, SpawnWasRefused, RanProgram, ProgramCut}
use Rattle.stage1.specs.Refusals.{SpawnCause}
use Rattle.stage1.proofs.Asked.{asks_more}
use Rattle.stage1.proofs.Causes.{spawn_after}
use Rattle.stage1.proofs.OneApp.{unstarted, unwaited}
use Rattle.stage1.proofs.programs.run_program.Goals as goal

pub wait_for-requires : goal.wait_for-requires
wait_for-requires g c = record { may = λ t s. record { root = c.args.app.now.root; started = (c.in-Ok.ensures.started s).last; runs = (c.requires.may t).may.runs } }

pub returns-in-Ok-clause-ran : goal.returns-in-Ok-clause-ran
returns-in-Ok-clause-ran g c =
    let S = g.S.Spawner in
    let app = c.args.app.now in
    let argv = c.args.argv.now in
    let child = c.in-Ok.child in
    let old = S.shown c.args.spawner.now in
    let mid = S.shown c.start_program.new.spawner in
    let new = S.shown c.wait_for.new.spawner in
    if_ok (λ status. Asks S.observed mid (wait_call child status ∷ []) new) (λ status. RanProgram S.observed app argv status old new) c.wait_for.result
    (λ status a. record { child = child; asked = asks_more (start_call app argv child ∷ []) (wait_call child status ∷ []) c.in-Ok.ensures.asked a }) c.wait_for.ensures.asked

pub returns-in-Ok-clause-cut : goal.returns-in-Ok-clause-cut
returns-in-Ok-clause-cut g c =
    let S = g.S.Spawner in
    let app = c.args.app.now in
    let argv = c.args.argv.now in
    let child = c.in-Ok.child in
    let old = S.shown c.args.spawner.now in
    let mid = S.shown c.start_program.new.spawner in
    let new = S.shown c.wait_for.new.spawner in
    if_err (λ f. SpawnWasRefused S.observed (wait_request child) mid new) (λ f. ProgramCut S.observed app argv old new) c.wait_for.result (λ f w. unwaited app argv child mid c.in-Ok.ensures.asked w) c.wait_for.ensures.refused

pub returns-in-Ok-clause-cause : goal.returns-in-Ok-clause-cause
returns-in-Ok-clause-cause g c =
    let S = g.S.Spawner in
    let old = S.shown c.args.spawner.now in
    let mid = S.shown c.start_program.new.spawner in
    let new = S.shown c.wait_for.new.spawner in
    if_err (λ f. SpawnCause f mid new) (λ f. SpawnCause f old new) c.wait_for.result (λ f is. spawn_after f old mid new c.in-Ok.ensures.asked.faults is) c.wait_for.ensures.cause

pub returns-in-Err-clause-cut : goal.returns-in-Err-clause-cut
returns-in-Err-clause-cut g c = unstarted c.args.app.now c.args.argv.now c.in-Err.ensures.refused
