use Rattle.std.proofs.Common.{Err, sym, ap, subst, ◌∙◌}
use Rattle.dir_model.specs.declared.area.Area.TheVariants.{Prepared}
use Rattle.pod_locks.specs.declared.setback.Setback.{Setback}
use Rattle.pod_gc.specs.RemovalCauses.{RemovalStopsAlone}
use Rattle.pod_gc.proofs.Looking.{worked_look, alone_there, alone_missing, alone_failed}
use Rattle.pod_gc.proofs.prepared.without_claim.Goals as goal

pub returns-in-Ok-true-clause-worked : goal.returns-in-Ok-true-clause-worked
returns-in-Ok-true-clause-worked g c = let l = c.look.ensures in worked_look c.args.pod Prepared (g.D.Dir.shown c.args.dir.now) (g.D.Dir.shown c.look.new.dir) c.of_pod.ensures l.same l.faults l.local l.extends

pub returns-in-Ok-false-clause-worked : goal.returns-in-Ok-false-clause-worked
returns-in-Ok-false-clause-worked g c = let l = c.look.ensures in worked_look c.args.pod Prepared (g.D.Dir.shown c.args.dir.now) (g.D.Dir.shown c.look.new.dir) c.of_pod.ensures l.same l.faults l.local l.extends

pub returns-in-Err-clause-worked : goal.returns-in-Err-clause-worked
returns-in-Err-clause-worked g c = let l = c.look.ensures in worked_look c.args.pod Prepared (g.D.Dir.shown c.args.dir.now) (g.D.Dir.shown c.look.new.dir) c.of_pod.ensures l.same l.faults l.local l.extends

pub returns-in-Ok-true-clause-stopped : goal.returns-in-Ok-true-clause-stopped
returns-in-Ok-true-clause-stopped g c =
    let e = rw c.in-Ok-true.field-0-test at c.in-Ok-true.ensures in
    alone_there c.args.pod (g.D.Dir.shown c.args.dir.now) (g.D.Dir.shown c.look.new.dir) c.of_pod.ensures e.there

pub returns-in-Ok-false-clause-stopped : goal.returns-in-Ok-false-clause-stopped
returns-in-Ok-false-clause-stopped g c =
    let e = rw c.in-Ok-false.field-0-test at c.in-Ok-false.ensures in
    alone_missing c.args.pod (g.D.Dir.shown c.args.dir.now) (g.D.Dir.shown c.look.new.dir) c.of_pod.ensures e.there

pub returns-in-Err-clause-stopped : goal.returns-in-Err-clause-stopped
returns-in-Err-clause-stopped g c =
    let D = g.D.Dir in
    subst (λ (x : Setback). RemovalStopsAlone D.observed c.args.pod x (D.shown c.args.dir.now) (D.shown c.look.new.dir)) (sym c.look_setback.ensures)
    (alone_failed c.args.pod (D.shown c.args.dir.now) (D.shown c.look.new.dir) c.in-Err.error (λ is. c.look.ensures.cause (c.in-Err.is ∙ ap Err is)))
