use Rattle.std.proofs.Common.{sym, subst}
use Rattle.dir_model.specs.declared.opening.Target.TheVariants.{Gate}
use Rattle.dir_model.specs.Local.{Local, IsUnlocked}
use Rattle.dir_model.proofs.Holdings.{unlocked_new}
use Rattle.buildings.proofs.stage.lock_gate.Goals as goal

pub locked-requires-clause-unlocked : goal.locked-requires-clause-unlocked
locked-requires-clause-unlocked g c =
    subst (λ (m : Local). IsUnlocked m c.in-Ok.gate) (sym c.in-Ok.ensures.called.local) (unlocked_new (g.D.Dir.shown c.args.dir.now).local c.in-Ok.gate (Gate c.args.area) c.in-Ok.ensures.unopened)
