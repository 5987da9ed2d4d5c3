use Rattle.std.proofs.Common.{inr, refl}
use Rattle.commands.proofs.NewRuns.{unbegun_keeps}
use Rattle.pod_build.proofs.Handing.{nothing_handed}
use Rattle.commands.proofs.run.run.Goals as goal

pub returns-in-Ok-clause-says : goal.returns-in-Ok-clause-says
returns-in-Ok-clause-says g c = c.run_saying.ensures.says

pub returns-in-Err-clause-known : goal.returns-in-Err-clause-known
returns-in-Err-clause-known g c t intent began = unbegun_keeps intent (g.D.Dir.shown c.args.dir.now)

pub returns-in-Err-clause-says : goal.returns-in-Err-clause-says
returns-in-Err-clause-says g c = inr (inr (record { is = refl; same = refl; unasked = refl }))

pub returns-in-Err-clause-makers : goal.returns-in-Err-clause-makers
returns-in-Err-clause-makers g c t run intent hs began alone k = nothing_handed
