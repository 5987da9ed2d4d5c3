use Rattle.std.proofs.Common.{arith}
use Rattle.std.proofs.lemmas.Grind.{common_steps}
use Rattle.std.proofs.lemmas.List.Edits.{map_over_more}
use Rattle.lifecycle.specs.Watch.{gripped}
use Rattle.lifecycle.proofs.grip.lock_all.Goals as goal

pub grips-preserved : goal.grips-preserved
grips-preserved c = rw c.gripped.ensures (grind (arith, common_steps, map_over_more (gripped c.args.process c.args.handle c.args.exclusive)))
