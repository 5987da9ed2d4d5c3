use Rattle.commands.proofs.Prepares.{nothing_keeps, nothing_says}
use Rattle.pod_build.proofs.Handing.{nothing_handed}
use Rattle.commands.proofs.prepare.prepare_pod.Goals as goal

pub returns-in-Err-clause-known : goal.returns-in-Err-clause-known
returns-in-Err-clause-known g c t intent began k =
    let D = g.D.Dir in
    nothing_keeps D.observed (D.shown c.args.dir.now) intent k

pub returns-in-Err-clause-says : goal.returns-in-Err-clause-says
returns-in-Err-clause-says g c =
    let D = g.D.Dir in
    nothing_says D.observed (D.shown c.args.dir.now) c.args.wanted.now c.args.now c.args.draw.now

pub returns-in-Err-clause-makers : goal.returns-in-Err-clause-makers
returns-in-Err-clause-makers g c t run intent hs began alone k = nothing_handed
