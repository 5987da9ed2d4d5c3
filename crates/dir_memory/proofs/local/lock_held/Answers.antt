use Rattle.std.proofs.Common.{arith}
use Rattle.std.proofs.lemmas.Grind.{common_steps}
use Rattle.std.proofs.lemmas.List.Edits.{map_over_more}
use Rattle.dir_model.specs.Local.{held_in}
use Rattle.dir_memory.proofs.local.lock_held.Goals as goal

pub loop-holding-preserved : goal.loop-holding-preserved
loop-holding-preserved c = rw c.held_by.ensures (grind (arith, common_steps, map_over_more (held_in c.args.handle c.args.mode)))
