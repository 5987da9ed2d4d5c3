use Rattle.std.proofs.Common.{Ok, Err, []}
use Rattle.dir_model.specs.declared.request.DirError.TheVariants.{Missing}
use Rattle.pod_report.proofs.Asking.{looks_directory}
use Rattle.pod_report.proofs.TellingEnds.{marks_missing}
use Rattle.pod_report.proofs.created.created_at.Goals as goal

pub returns-in-Ok-clause-only : goal.returns-in-Ok-clause-only
returns-in-Ok-clause-only g c = looks_directory c.args.pod c.args.area [] (Ok c.in-Ok.items) c.of_pod.result c.of_pod.ensures c.requires.stage c.in-Ok.ensures.called

pub returns-in-Err-Missing-clause-only : goal.returns-in-Err-Missing-clause-only
returns-in-Err-Missing-clause-only g c =
    let e = rw c.in-Err-Missing.field-0-is at c.in-Err-Missing.ensures in
    looks_directory c.args.pod c.args.area [] (Err Missing) c.of_pod.result c.of_pod.ensures c.requires.stage e.called

pub returns-in-Err-Missing-clause-answer_holds : goal.returns-in-Err-Missing-clause-answer_holds
returns-in-Err-Missing-clause-answer_holds g c t =
    let e = rw c.in-Err-Missing.field-0-is at c.in-Err-Missing.ensures in
    marks_missing c.args.pod c.args.area c.of_pod.result (g.D.Dir.shown c.args.dir.now) (g.D.Dir.shown c.items_of.new.dir) c.of_pod.ensures t e.called

pub returns-in-Err-clause-only : goal.returns-in-Err-clause-only
returns-in-Err-clause-only g c = looks_directory c.args.pod c.args.area [] (Err c.in-Err.error) c.of_pod.result c.of_pod.ensures c.requires.stage c.in-Err.ensures.called
