use Rattle.std.proofs.Common.{Err, sym, ap, subst, ◌∙◌}
use Rattle.pod_gc.proofs.Looking.{worked_look}
use Rattle.pod_gc.specs.declared.gc_error.GcError.{GcError}
use Rattle.pod_gc.specs.Causes.{GcCause}
use Rattle.pod_gc.proofs.Steps.{says_there, says_gone, look_cause, peeks_here}
use Rattle.pod_gc.proofs.Lawful.{look_never}
use Rattle.pod_gc.proofs.kept.kept.Goals as goal

pub returns-in-Ok-true-clause-worked : goal.returns-in-Ok-true-clause-worked
returns-in-Ok-true-clause-worked g c = let l = c.look.ensures in worked_look c.args.pod c.args.area (g.D.Dir.shown c.args.dir.now) (g.D.Dir.shown c.look.new.dir) c.of_pod.ensures l.same l.faults l.local l.extends

pub returns-in-Ok-false-clause-worked : goal.returns-in-Ok-false-clause-worked
returns-in-Ok-false-clause-worked g c = let l = c.look.ensures in worked_look c.args.pod c.args.area (g.D.Dir.shown c.args.dir.now) (g.D.Dir.shown c.look.new.dir) c.of_pod.ensures l.same l.faults l.local l.extends

pub returns-in-Err-clause-worked : goal.returns-in-Err-clause-worked
returns-in-Err-clause-worked g c = let l = c.look.ensures in worked_look c.args.pod c.args.area (g.D.Dir.shown c.args.dir.now) (g.D.Dir.shown c.look.new.dir) c.of_pod.ensures l.same l.faults l.local l.extends

pub returns-in-Ok-true-clause-said : goal.returns-in-Ok-true-clause-said
returns-in-Ok-true-clause-said g c =
    let e = rw c.in-Ok-true.field-0-test at c.in-Ok-true.ensures in
    says_there c.args.pod c.args.area c.args.phase (g.D.Dir.shown c.args.dir.now) (g.D.Dir.shown c.look.new.dir) c.of_pod.ensures e.there

pub returns-in-Ok-false-clause-said : goal.returns-in-Ok-false-clause-said
returns-in-Ok-false-clause-said g c =
    let e = rw c.in-Ok-false.field-0-test at c.in-Ok-false.ensures in
    says_gone c.args.pod c.args.area c.args.phase (g.D.Dir.shown c.args.dir.now) (g.D.Dir.shown c.look.new.dir) c.of_pod.ensures e.there

pub returns-in-Err-clause-cause : goal.returns-in-Err-clause-cause
returns-in-Err-clause-cause g c =
    let D = g.D.Dir in
    subst (λ (x : GcError). GcCause D.observed x (D.shown c.args.dir.now) (D.shown c.look.new.dir)) (sym c.look_fault.ensures)
    (look_cause c.in-Err.error (λ is. c.look.ensures.cause (c.in-Err.is ∙ ap Err is)))

pub returns-in-Ok-true-clause-peeks : goal.returns-in-Ok-true-clause-peeks
returns-in-Ok-true-clause-peeks g c = peeks_here c.args.pod c.args.area (g.D.Dir.shown c.args.dir.now) (g.D.Dir.shown c.look.new.dir) c.of_pod.ensures c.look.ensures.extends

pub returns-in-Ok-false-clause-peeks : goal.returns-in-Ok-false-clause-peeks
returns-in-Ok-false-clause-peeks g c = peeks_here c.args.pod c.args.area (g.D.Dir.shown c.args.dir.now) (g.D.Dir.shown c.look.new.dir) c.of_pod.ensures c.look.ensures.extends

pub returns-in-Err-clause-peeks : goal.returns-in-Err-clause-peeks
returns-in-Err-clause-peeks g c = peeks_here c.args.pod c.args.area (g.D.Dir.shown c.args.dir.now) (g.D.Dir.shown c.look.new.dir) c.of_pod.ensures c.look.ensures.extends

pub returns-in-Err-clause-never : goal.returns-in-Err-clause-never
returns-in-Err-clause-never g c is = look_never c.in-Err.error (sym c.look_fault.ensures ∙ is)
