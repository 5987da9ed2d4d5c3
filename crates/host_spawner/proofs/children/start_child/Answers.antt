use Rattle.std.proofs.Common.{rules}
use Rattle.host_spawner.proofs.children.start_child.Goals as goal

pub returns-in-Ok-start-clause-kept : goal.returns-in-Ok-start-clause-kept
returns-in-Ok-start-clause-kept g c = record {
  place = search rules;
  child = c.in-Ok-start.started;
  behind = search rules;
}
