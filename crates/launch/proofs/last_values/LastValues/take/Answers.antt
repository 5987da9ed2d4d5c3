use Rattle.std.proofs.Common.{None}
use Rattle.std.proofs.lemmas.Map.Text.{btree_map_updates_text}
use Rattle.launch.proofs.last_values.LastValues.take.Goals as goal

pub returns-clause-rest : goal.returns-clause-rest
returns-clause-rest c = btree_map_updates_text c.args.name.now c.args.self.now.values c.remove.new.self None c.remove.ensures.updates
