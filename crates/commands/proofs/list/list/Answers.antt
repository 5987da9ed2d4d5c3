use Rattle.commands.proofs.Reports.{list_cause, list_refusals, list_says}
use Rattle.commands.proofs.list.list.Goals as goal

pub returns-clause-cause : goal.returns-clause-cause
returns-clause-cause g c =
    let D = g.D.Dir in
    list_cause (λ v. v.items) D.observed (D.shown c.args.dir.now) (D.shown c.list_pods-found.new.dir) c.listed.result c.list_pods-found.result c.listed.ensures.lists c.listed.ensures.refuses c.list_pods-found.ensures.cause

pub returns-clause-refusals : goal.returns-clause-refusals
returns-clause-refusals g c =
    let D = g.D.Dir in
    list_refusals (λ v. v.items) D.observed (D.shown c.args.dir.now) (D.shown c.list_pods-found.new.dir) c.listed.result c.list_pods-found.result c.listed.ensures.lists c.listed.ensures.refuses

pub returns-clause-says : goal.returns-clause-says
returns-clause-says g c =
    let D = g.D.Dir in
    list_says (λ v. v.items) D.observed (D.shown c.args.dir.now) (D.shown c.list_pods-found.new.dir) c.listed.result c.list_pods-found.result c.listed.ensures.lists c.listed.ensures.refuses
    c.list_pods-found.ensures.kind c.list_pods-found.ensures.seen c.list_pods-found.ensures.snapshot c.list_pods-found.ensures.quiet c.list_pods-found.ensures.stray
