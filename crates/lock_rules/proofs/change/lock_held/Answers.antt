use Rattle.std.proofs.Common.{arith}
use Rattle.std.proofs.lemmas.Grind.{common_steps}
use Rattle.std.proofs.lemmas.List.Edits.{map_over_more}
use Rattle.dir_rules.specs.Standing.{held_with_mode}
use Rattle.lock_rules.proofs.change.lock_held.Goals as goal

pub loop-held-preserved : goal.loop-held-preserved
loop-held-preserved c = rw c.held_in.ensures (grind (arith, common_steps, map_over_more (held_with_mode c.args.handle c.args.mode)))
