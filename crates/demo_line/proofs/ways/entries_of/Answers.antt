use Rattle.std.proofs.Common.{arith}
use Rattle.demo_line.proofs.WayLaws.{few_entries, way_down}
use Rattle.demo_line.proofs.ways.entries_of.Goals as goal

pub overflow_add-count : goal.overflow_add-count
overflow_add-count c = let few = few_entries c.args.image c.requires in omega arith

pub way-preserved : goal.way-preserved
way-preserved c = let down = way_down c.way.at c.way-test.true in record { counted = omega arith; below = omega arith }
