use Rattle.std.proofs.Common.{◌≡◌, rules, Ok, Err, true, ℕ, List, sym, ap, subst, ◌∙◌}
use Rattle.dir_model.specs.declared.area.Area.TheVariants.{Run}
use Rattle.dir_model.specs.declared.request.DirError.TheVariants.{Exists}
use Rattle.dir_model.specs.Paths.{is_path}
use Rattle.folder_building.proofs.Working.{worked_none}
use Rattle.pod_locks.specs.declared.setback.Setback.{Setback}
use Rattle.pod_locks.specs.Causes.{StepWasStopped, IsAbsentAt}
use Rattle.pod_locks.proofs.Knowing.{never_busy}
use Rattle.pod_gc.proofs.MarkNames.{marked_is_path}
use Rattle.pod_gc.proofs.Retiring.{with_mark, noted_marked, noted_already, worked_mark, knows_marked, knows_there, ready_mark, mark_stops}
use Rattle.pod_gc.proofs.RemovalLawful.{mark_never}
use Rattle.pod_gc.proofs.aside.mark.Goals as goal

pub returns-in-Err-clause-worked : goal.returns-in-Err-clause-worked
returns-in-Err-clause-worked g c = worked_none

pub make_file_in-requires-clause-path : goal.make_file_in-requires-clause-path
make_file_in-requires-clause-path g c = subst (λ (p : List ℕ). is_path p ≡ true) (sym (c.as_str.ensures ∙ c.in-Ok.ensures)) (marked_is_path c.args.now)

pub returns-in-Ok-make_file_in-clause-worked : goal.returns-in-Ok-make_file_in-clause-worked
returns-in-Ok-make_file_in-clause-worked g c = worked_mark c.args.pod c.args.now (Ok tt) (with_mark c.args.pod c.args.now c.of_pod.ensures (c.as_str.ensures ∙ c.in-Ok.ensures) c.in-Ok-make_file_in.ensures.called)

pub returns-in-Ok-make_file_in-clause-marked : goal.returns-in-Ok-make_file_in-clause-marked
returns-in-Ok-make_file_in-clause-marked g c = knows_marked c.args.pod c.args.now (with_mark c.args.pod c.args.now c.of_pod.ensures (c.as_str.ensures ∙ c.in-Ok.ensures) c.in-Ok-make_file_in.ensures.called)

pub returns-in-Ok-make_file_in-clause-left : goal.returns-in-Ok-make_file_in-clause-left
returns-in-Ok-make_file_in-clause-left g c = ready_mark c.args.pod c.args.now (Ok tt) (with_mark c.args.pod c.args.now c.of_pod.ensures (c.as_str.ensures ∙ c.in-Ok.ensures) c.in-Ok-make_file_in.ensures.called)

pub returns-in-Err-Exists-clause-worked : goal.returns-in-Err-Exists-clause-worked
returns-in-Err-Exists-clause-worked g c =
    let e = rw c.in-Err-Exists.field-0-is at c.in-Err-Exists.ensures in
    worked_mark c.args.pod c.args.now (Err Exists) (with_mark c.args.pod c.args.now c.of_pod.ensures (c.as_str.ensures ∙ c.in-Ok.ensures) e.called)

pub returns-in-Err-Exists-clause-marked : goal.returns-in-Err-Exists-clause-marked
returns-in-Err-Exists-clause-marked g c =
    let e = rw c.in-Err-Exists.field-0-is at c.in-Err-Exists.ensures in
    knows_there c.args.pod c.args.now (with_mark c.args.pod c.args.now c.of_pod.ensures (c.as_str.ensures ∙ c.in-Ok.ensures) e.called)

pub returns-in-Err-Exists-clause-left : goal.returns-in-Err-Exists-clause-left
returns-in-Err-Exists-clause-left g c =
    let e = rw c.in-Err-Exists.field-0-is at c.in-Err-Exists.ensures in
    ready_mark c.args.pod c.args.now (Err Exists) (with_mark c.args.pod c.args.now c.of_pod.ensures (c.as_str.ensures ∙ c.in-Ok.ensures) e.called)

pub returns-clause-worked : goal.returns-clause-worked
returns-clause-worked g c =
    worked_mark c.args.pod c.args.now (Err c.in-Err-make_file_in.error) (with_mark c.args.pod c.args.now c.of_pod.ensures (c.as_str.ensures ∙ c.in-Ok.ensures) c.in-Err-make_file_in.ensures.called)

pub returns-clause-stopped : goal.returns-clause-stopped
returns-clause-stopped g c =
    let D = g.D.Dir in
    let made = c.in-Err-make_file_in.ensures in
    subst (λ (x : Setback). StepWasStopped D.observed c.args.pod (IsAbsentAt c.args.pod Run) x (D.shown c.args.dir.now) (D.shown c.make_file_in.new.self)) (sym c.set_back.ensures)
    (mark_stops (record { spot = c.of_pod.result; path = c.as_str.result.now }) c.args.pod c.args.now c.in-Err-make_file_in.error (λ is. search (rules, is, c.in-Err-make_file_in.error-is)) made.refusals (λ is. made.cause (ap Err is))
    (with_mark c.args.pod c.args.now c.of_pod.ensures (c.as_str.ensures ∙ c.in-Ok.ensures) made.called))

pub returns-clause-never_busy : goal.returns-clause-never_busy
returns-clause-never_busy g c which is = never_busy c.in-Err-make_file_in.error which (sym c.set_back.ensures ∙ is)

pub returns-clause-left : goal.returns-clause-left
returns-clause-left g c =
    ready_mark c.args.pod c.args.now (Err c.in-Err-make_file_in.error) (with_mark c.args.pod c.args.now c.of_pod.ensures (c.as_str.ensures ∙ c.in-Ok.ensures) c.in-Err-make_file_in.ensures.called)

pub returns-in-Ok-make_file_in-clause-noted : goal.returns-in-Ok-make_file_in-clause-noted
returns-in-Ok-make_file_in-clause-noted g c = noted_marked c.args.pod c.args.now (with_mark c.args.pod c.args.now c.of_pod.ensures (c.as_str.ensures ∙ c.in-Ok.ensures) c.in-Ok-make_file_in.ensures.called)

pub returns-in-Err-Exists-clause-noted : goal.returns-in-Err-Exists-clause-noted
returns-in-Err-Exists-clause-noted g c =
    let e = rw c.in-Err-Exists.field-0-is at c.in-Err-Exists.ensures in
    noted_already c.args.pod c.args.now (with_mark c.args.pod c.args.now c.of_pod.ensures (c.as_str.ensures ∙ c.in-Ok.ensures) e.called)

pub returns-clause-never : goal.returns-clause-never
returns-clause-never g c is =
    mark_never (record { spot = c.of_pod.result; path = c.as_str.result.now }) c.in-Err-make_file_in.error (λ is. search (rules, is, c.in-Err-make_file_in.error-is)) c.in-Err-make_file_in.ensures.refusals (sym c.set_back.ensures ∙ is)
