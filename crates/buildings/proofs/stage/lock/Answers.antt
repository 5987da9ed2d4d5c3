use Rattle.buildings.proofs.stage.lock.Goals as goal
use Rattle.dir_laws.proofs.Handles.{open_asked}

pub returns-clause-open : goal.returns-clause-open
returns-clause-open g c = open_asked (g.D.Dir.shown c.args.dir.now).local _ c.args.gate c.args.mode c.try_lock.result c.requires.open c.try_lock.ensures.called.local
