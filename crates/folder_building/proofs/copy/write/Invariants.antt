use Rattle.std.proofs.Common.{◌≤◌, ◌-◌, drop, length}
use Rattle.folder_building.specs.Work.{builds_at}
use Rattle.folder_building.specs.Making.{WritesBut}
use Rattle.folder_building.proofs.copy.write.Given as goal
use Rattle.dir_trait.specs.Effects.{OnlyAsks}

abbrev pub invariant-pieces : goal.invariant-pieces
invariant-pieces g l =
    let D = g.D.Dir in
    record {
      worked : OnlyAsks D.observed (builds_at l.spot) (D.shown l.fn.dir) (D.shown l.dir);
      within : l.at ≤ length l.bytes;
      written : WritesBut D.observed l.spot l.path l.bytes (drop l.at l.bytes) (D.shown l.fn.dir) (D.shown l.dir);
    }

abbrev pub decreases-pieces : goal.decreases-pieces
decreases-pieces g l = length l.bytes - l.at
