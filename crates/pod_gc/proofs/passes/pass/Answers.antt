use Rattle.std.proofs.Common.{◌≡◌, true, sym, subst, IfOk, IfErr}
use Rattle.plain_laws.proofs.Results.{if_ok, if_err}
use Rattle.dir_model.specs.declared.area.Area.{Area}
use Rattle.pod_gc.specs.Told.{AddsShown, AddsPassed}
use Rattle.pod_gc.proofs.Gates.{adds_plain}
use Rattle.pod_gc.specs.Ended.{EndsListingBetween, EndsPassBetween}
use Rattle.pod_gc.proofs.Ending.{ends_plain}
use Rattle.pod_gc.specs.Causes.{GcStrayByApp}
use Rattle.pod_gc.specs.Sweeping.{MayPassPods, MaySweepAll}
use Rattle.pod_gc.proofs.passes.pass.Goals as goal

pub returns-in-Embryo-clause-answer_holds : goal.returns-in-Embryo-clause-answer_holds
returns-in-Embryo-clause-answer_holds g c =
    let D = g.D.Dir in
    subst (λ (a : Area). IfOk c.pass_embryo.result (λ done. D.observed ≡ true → AddsPassed c.args.times a (D.shown c.args.dir.now) (D.shown c.pass_embryo.new.dir) c.args.lines.now.items c.pass_embryo.new.lines.items)) (sym c.in-Embryo.is) c.pass_embryo.ensures.answer_holds

pub returns-in_default-clause-answer_holds : goal.returns-in_default-clause-answer_holds
returns-in_default-clause-answer_holds g c =
    let D = g.D.Dir in
    let place = c.args.place in
    let old = D.shown c.args.dir.now in
    let new = D.shown c.pass_listed.new.dir in
    let before = c.args.lines.now.items in
    let after = c.pass_listed.new.lines.items in
    if_ok (λ done. D.observed ≡ true → AddsShown c.args.times place old new before after) (λ done. D.observed ≡ true → AddsPassed c.args.times place old new before after) c.pass_listed.result
    (λ done told t. adds_plain old new c.args.times place before after (λ is. c.in_default.not-Embryo is) (told t)) c.pass_listed.ensures.answer_holds

pub returns-in_default-clause-ready : goal.returns-in_default-clause-ready
returns-in_default-clause-ready g c t s k m = c.pass_listed.ensures.ready t s k (record { sweeps = m.sweeps; gate = λ is. absurd (c.in_default.not-Embryo is) })

pub returns-in-Embryo-clause-ended : goal.returns-in-Embryo-clause-ended
returns-in-Embryo-clause-ended g c =
    let D = g.D.Dir in
    subst (λ (a : Area). IfErr c.pass_embryo.result (λ e. D.observed ≡ true → EndsPassBetween c.args.times a (D.shown c.args.dir.now) (D.shown c.pass_embryo.new.dir))) (sym c.in-Embryo.is) c.pass_embryo.ensures.ended

pub returns-in_default-clause-ended : goal.returns-in_default-clause-ended
returns-in_default-clause-ended g c =
    let D = g.D.Dir in
    let place = c.args.place in
    let old = D.shown c.args.dir.now in
    let new = D.shown c.pass_listed.new.dir in
    if_err (λ e. D.observed ≡ true → EndsListingBetween c.args.times place old new) (λ e. D.observed ≡ true → EndsPassBetween c.args.times place old new) c.pass_listed.result
    (λ e x t. ends_plain old new c.args.times place (λ is. c.in_default.not-Embryo is) (x t)) c.pass_listed.ensures.ended

pub returns-in_default-clause-lawful : goal.returns-in_default-clause-lawful
returns-in_default-clause-lawful g c =
    let D = g.D.Dir in
    let old = D.shown c.args.dir.now in
    let new = D.shown c.pass_listed.new.dir in
    if_err (λ e. GcStrayByApp D.observed e (MayPassPods c.args.place c.args.times.now c.args.times.expire) old new) (λ e. GcStrayByApp D.observed e (MaySweepAll c.args.times.now c.args.times.expire) old new) c.pass_listed.result
    (λ e x is t s k m. x is t s k (record { sweeps = m.sweeps; gate = λ is. absurd (c.in_default.not-Embryo is) })) c.pass_listed.ensures.lawful
