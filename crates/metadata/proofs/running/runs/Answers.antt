use Rattle.metadata.proofs.Asking.{asks_phase}
use Rattle.metadata.proofs.Views.{phase_told}
use Rattle.metadata.proofs.running.runs.Goals as goal

pub returns-in-Ok-clause-only : goal.returns-in-Ok-clause-only
returns-in-Ok-clause-only g c = let e = c.read_phase.ensures in asks_phase c.args.pod e.same e.faults e.local e.extends e.known

pub returns-in-Err-clause-only : goal.returns-in-Err-clause-only
returns-in-Err-clause-only g c = let e = c.read_phase.ensures in asks_phase c.args.pod e.same e.faults e.local e.extends e.known

pub returns-in-Ok-clause-tells : goal.returns-in-Ok-clause-tells
returns-in-Ok-clause-tells g c t =
    let D = g.D.Dir in
    phase_told c.args.pod c.in-Ok.found c.is_running.result (D.shown c.args.dir.now) (D.shown c.read_phase.new.dir) c.is_running.ensures (c.in-Ok.ensures.exact t)
