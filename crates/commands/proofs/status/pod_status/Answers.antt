use Rattle.commands.proofs.Reports.{status_cause, status_refusals, status_says}
use Rattle.commands.proofs.status.pod_status.Goals as goal

pub returns-clause-cause : goal.returns-clause-cause
returns-clause-cause g c =
    let D = g.D.Dir in
    status_cause c.args.pod D.observed (D.shown c.args.dir.now) (D.shown c.status_of-found.new.dir) c.said.result c.status_of-found.result c.said.ensures.says c.said.ensures.refuses c.status_of-found.ensures.cause

pub returns-clause-refusals : goal.returns-clause-refusals
returns-clause-refusals g c =
    let D = g.D.Dir in
    status_refusals c.args.pod D.observed (D.shown c.args.dir.now) (D.shown c.status_of-found.new.dir) c.said.result c.status_of-found.result c.said.ensures.says c.said.ensures.refuses

pub returns-clause-says : goal.returns-clause-says
returns-clause-says g c =
    let D = g.D.Dir in
    status_says c.args.pod D.observed (D.shown c.args.dir.now) (D.shown c.status_of-found.new.dir) c.said.result c.status_of-found.result c.said.ensures.says c.said.ensures.refuses
    c.status_of-found.ensures.never c.status_of-found.ensures.seen c.status_of-found.ensures.answer_holds c.status_of-found.ensures.nowhere c.status_of-found.ensures.quiet c.status_of-found.ensures.stray
