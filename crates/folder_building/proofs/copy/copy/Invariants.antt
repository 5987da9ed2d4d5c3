use Rattle.std.proofs.Common.{◌≡◌, true, ◌≤◌, ◌+◌, ◌-◌, cond, vec_len}
use Rattle.folder_building.specs.Work.{builds_at, either}
use Rattle.folder_building.specs.Sources.{Same}
use Rattle.folder_building.specs.Stored.{reads_stored}
use Rattle.folder_building.specs.Making.{CopiesOn}
use Rattle.folder_building.proofs.Copying.{Front}
use Rattle.folder_building.proofs.Stored.{SeenSoFar}
use Rattle.folder_building.proofs.copy.copy.Given as goal
use Rattle.dir_trait.specs.Effects.{OnlyAsks}

abbrev pub invariant-pieces : goal.invariant-pieces
invariant-pieces g l =
    let D = g.D.Dir in
    let S = g.S.Source in
    record {
      same : Same (S.shown l.fn.source) (S.shown l.source);
      worked : OnlyAsks D.observed (either (builds_at l.spot) (S.shown l.fn.source).asks) (D.shown l.fn.dir) (D.shown l.dir);
      copies : OnlyAsks D.observed (either (builds_at l.spot) (reads_stored (S.stored l.origin))) (D.shown l.fn.dir) (D.shown l.dir);
      within : l.at ≤ l.size;
      room : vec_len l.room ≡ 65536;
      front : Front (S.shown l.fn.source) l.origin l.more l.check l.size l.fn.sha l.at;
      seen : D.observed ≡ true → SeenSoFar (S.stored l.origin) l.more l.check l.size l.fn.sha l.at (D.shown l.fn.dir) (D.shown l.dir);
      copied : CopiesOn D.observed (S.shown l.fn.source) l.spot l.path l.at l.initial.check l.check (D.shown l.fn.dir) (D.shown l.dir);
    }

abbrev pub decreases-pieces : goal.decreases-pieces
decreases-pieces g l = (l.size - l.at) + cond l.more 1 0
