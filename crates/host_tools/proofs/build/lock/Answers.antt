use Rattle.std.proofs.Common.{sym, subst}
use Rattle.dir_model.specs.declared.area.Area.TheVariants.{Incoming}
use Rattle.dir_model.specs.declared.opening.Target.TheVariants.{Gate}
use Rattle.dir_model.specs.Local.{Local, IsUnlocked}
use Rattle.dir_model.proofs.Holdings.{unlocked_new}
use Rattle.host_tools.proofs.build.lock.Goals as goal

pub try_lock-requires-clause-unlocked : goal.try_lock-requires-clause-unlocked
try_lock-requires-clause-unlocked g c =
    subst (λ (m : Local). IsUnlocked m c.in-Ok.gate) (sym c.in-Ok.ensures.called.local) (unlocked_new (g.D.Dir.shown c.args.dir.now).local c.in-Ok.gate (Gate Incoming) c.in-Ok.ensures.unopened)
