use Rattle.std.proofs.Common.{Option, ℕ, List, refl, sym, subst}
use Rattle.plain_laws.proofs.Results.{if_ok, if_err}
use Rattle.stage1.specs.Programs.{RanProgram, ProgramCut, RanHandler, HandlerCut}
use Rattle.stage1.proofs.Asked.{asks_none}
use Rattle.stage1.proofs.OneApp.{no_run}
use Rattle.stage1.proofs.programs.run_handler.Goals as goal

pub returns-in-Some-clause-ran : goal.returns-in-Some-clause-ran
returns-in-Some-clause-ran g c =
    let S = g.S.Spawner in
    let app = c.args.app.now in
    let old = S.shown c.args.spawner.now in
    let new = S.shown c.run_program.new.spawner in
    if_ok (λ status. RanProgram S.observed app c.in-Some.argv status old new) (λ status. RanHandler S.observed app c.args.handler.now status old new) c.run_program.result
    (λ status r. subst (λ (h : Option (List (List ℕ))). RanHandler S.observed app h status old new) (sym c.in-Some.is) (record { ran = record { child = r.child; status = status }; is = refl; asked = r.asked })) c.run_program.ensures.ran

pub returns-in-Some-clause-cut : goal.returns-in-Some-clause-cut
returns-in-Some-clause-cut g c =
    let S = g.S.Spawner in
    let app = c.args.app.now in
    let old = S.shown c.args.spawner.now in
    let new = S.shown c.run_program.new.spawner in
    if_err (λ f. ProgramCut S.observed app c.in-Some.argv old new) (λ f. HandlerCut S.observed app c.args.handler.now old new) c.run_program.result
    (λ f w. subst (λ (h : Option (List (List ℕ))). HandlerCut S.observed app h old new) (sym c.in-Some.is) w) c.run_program.ensures.cut

pub returns-in-None-clause-ran : goal.returns-in-None-clause-ran
returns-in-None-clause-ran g c =
    let S = g.S.Spawner in
    let s = S.shown c.args.spawner.now in
    subst (λ (h : Option (List (List ℕ))). RanHandler S.observed c.args.app.now h 0 s s) (sym c.in-None.is) (record { ran = no_run; is = refl; asked = asks_none })
