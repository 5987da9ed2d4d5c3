use Rattle.std.proofs.Common.{sym, subst}
use Rattle.dir_model.specs.Local.{Local, IsUnlocked}
use Rattle.dir_model.specs.Locks.{target_of}
use Rattle.dir_model.proofs.Holdings.{unlocked_new}
use Rattle.histories.proofs.calls.hold.Goals as goal

pub try_lock-requires-clause-unlocked : goal.try_lock-requires-clause-unlocked
try_lock-requires-clause-unlocked g c =
    subst (λ (m : Local). IsUnlocked m c.in-Ok.handle) (sym c.in-Ok.ensures.called.local) (unlocked_new (g.D.Dir.shown c.args.dir.now).local c.in-Ok.handle (target_of c.args.spot c.args.which) c.in-Ok.ensures.unopened)
