use Rattle.commands.proofs.Reports.{cat_cause, cat_refusals, cat_says}
use Rattle.commands.proofs.cat_manifest.cat_manifest.Goals as goal

pub returns-clause-cause : goal.returns-clause-cause
returns-clause-cause g c =
    let D = g.D.Dir in
    cat_cause c.args.pod D.observed (D.shown c.args.dir.now) (D.shown c.manifest_of-found.new.dir) c.written.result c.manifest_of-found.result c.written.ensures.writes c.written.ensures.refuses c.manifest_of-found.ensures.cause

pub returns-clause-refusals : goal.returns-clause-refusals
returns-clause-refusals g c =
    let D = g.D.Dir in
    cat_refusals c.args.pod D.observed (D.shown c.args.dir.now) (D.shown c.manifest_of-found.new.dir) c.written.result c.manifest_of-found.result c.written.ensures.writes c.written.ensures.refuses

pub returns-clause-says : goal.returns-clause-says
returns-clause-says g c =
    let D = g.D.Dir in
    cat_says c.args.pod D.observed (D.shown c.args.dir.now) (D.shown c.manifest_of-found.new.dir) c.written.result c.manifest_of-found.result c.written.ensures.writes c.written.ensures.refuses
    c.manifest_of-found.ensures.seen c.manifest_of-found.ensures.read c.manifest_of-found.ensures.nowhere c.manifest_of-found.ensures.lacking c.manifest_of-found.ensures.quiet c.manifest_of-found.ensures.stray
