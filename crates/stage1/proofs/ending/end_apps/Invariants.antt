use Rattle.std.proofs.Common.{◌≡◌, true, take}
use Rattle.dir_model.specs.declared.spot.Spot.{Spot}
use Rattle.stage1.specs.Notes.{anything, notes_at, StaysAble}
use Rattle.stage1.specs.Beginnings.{AreAt}
use Rattle.stage1.specs.Endings.{HaveEnded}
use Rattle.stage1.specs.Runs.{AreWrittenAll}
use Rattle.stage1.specs.Keeping.{NotesAtMost, all_end_times}
use Rattle.stage1.proofs.ending.end_apps.Given as goal
use Rattle.dir_trait.specs.Effects.{OnlyAsks}

abbrev pub invariant-apps : goal.invariant-apps
invariant-apps g l =
    let D = g.D.Dir in
    let S = g.S.Spawner in
    record {
      went : OnlyAsks D.observed anything (D.shown l.fn.dir) (D.shown l.dir);
      worked : (spot : Spot) → AreAt spot l.apps → OnlyAsks D.observed (notes_at spot) (D.shown l.fn.dir) (D.shown l.dir);
      stays : D.observed ≡ true → StaysAble (D.shown l.fn.dir) (D.shown l.dir);
      ended : HaveEnded S.observed (take l.place l.apps) (take l.place l.stands) l.statuses.items (S.shown l.fn.spawner) (S.shown l.spawner);
      wrote : D.observed ≡ true → AreWrittenAll (D.shown l.dir) (take l.place l.apps) l.statuses.items;
      keeps : D.observed ≡ true → NotesAtMost (all_end_times (take l.place l.apps) (take l.place l.stands)) (D.shown l.fn.dir) (D.shown l.dir);
    }
