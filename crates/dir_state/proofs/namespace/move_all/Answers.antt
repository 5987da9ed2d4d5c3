use Rattle.std.proofs.Common.{arith}
use Rattle.std.proofs.lemmas.Grind.{common_steps}
use Rattle.std.proofs.lemmas.List.Edits.{map_over_more}
use Rattle.dir_model.specs.Trace.{moved}
use Rattle.dir_state.proofs.namespace.move_all.Goals as goal

pub loop-place-preserved : goal.loop-place-preserved
loop-place-preserved c = rw c.moved_place.ensures (grind (arith, common_steps, map_over_more (moved c.args.from.now c.args.to.now)))
