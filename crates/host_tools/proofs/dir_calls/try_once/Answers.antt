use Rattle.host_tools.proofs.dir_calls.try_once.Goals as goal
use Rattle.dir_laws.proofs.Handles.{open_asked}

pub close-requires-clause-open : goal.close-requires-clause-open
close-requires-clause-open g c = open_asked (g.D.Dir.shown c.args.dir.now).local _ c.args.handle c.args.mode c.before.try_lock-answer.result c.requires.open c.try_lock-answer.ensures.called.local
