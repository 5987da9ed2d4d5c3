use Rattle.std.proofs.Common.{arith}
use Rattle.std.proofs.lemmas.Grind.{common_steps}
use Rattle.std.proofs.lemmas.List.Edits.{map_over_more}
use Rattle.dir_rules.specs.Seen.{moved_away}
use Rattle.conformance.proofs.shown.move_all_away.Goals as goal

pub loop-area-preserved : goal.loop-area-preserved
loop-area-preserved c = rw c.move_away.ensures (grind (arith, common_steps, map_over_more (moved_away c.args.from.now)))
