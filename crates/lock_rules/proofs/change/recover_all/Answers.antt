use Rattle.std.proofs.Common.{arith}
use Rattle.std.proofs.lemmas.Grind.{common_steps}
use Rattle.std.proofs.lemmas.List.Edits.{map_over_more}
use Rattle.dir_rules.specs.Standing.{uncovered_by_close}
use Rattle.lock_rules.proofs.change.recover_all.Goals as goal

pub loop-held-preserved : goal.loop-held-preserved
loop-held-preserved c = rw c.recover.ensures (grind (arith, common_steps, map_over_more (uncovered_by_close c.args.handle c.args.before.now)))
