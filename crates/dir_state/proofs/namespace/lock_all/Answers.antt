use Rattle.std.proofs.Common.{arith}
use Rattle.std.proofs.lemmas.Grind.{common_steps}
use Rattle.std.proofs.lemmas.List.Edits.{map_over_more}
use Rattle.dir_model.specs.Trace.{locked}
use Rattle.dir_state.proofs.namespace.lock_all.Goals as goal

pub loop-opening-preserved : goal.loop-opening-preserved
loop-opening-preserved c = rw c.locked_opening.ensures (grind (arith, common_steps, map_over_more (locked c.args.process c.args.handle c.args.mode)))
