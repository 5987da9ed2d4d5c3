use Rattle.std.proofs.Common.{◌≡◌, true, take}
use Rattle.dir_model.specs.declared.spot.Spot.{Spot}
use Rattle.stage1.specs.Notes.{anything, notes_at, StaysAble}
use Rattle.stage1.specs.Beginnings.{AreAt, running}
use Rattle.stage1.specs.Endings.{WereWaitedFor}
use Rattle.stage1.specs.Keeping.{NotesAtMost, all_end_times}
use Rattle.stage1.proofs.ending.wait_rest.Given as goal
use Rattle.dir_trait.specs.Effects.{OnlyAsks}

abbrev pub invariant-stands : goal.invariant-stands
invariant-stands g l =
    let D = g.D.Dir in
    let S = g.S.Spawner in
    record {
      went : OnlyAsks D.observed anything (D.shown l.fn.dir) (D.shown l.dir);
      worked : (spot : Spot) → AreAt spot l.apps → OnlyAsks D.observed (notes_at spot) (D.shown l.fn.dir) (D.shown l.dir);
      stays : D.observed ≡ true → StaysAble (D.shown l.fn.dir) (D.shown l.dir);
      waited : WereWaitedFor S.observed (running (take l.place l.stands)) (S.shown l.fn.spawner) (S.shown l.spawner);
      keeps : D.observed ≡ true → NotesAtMost (all_end_times (take l.place l.apps) (take l.place l.stands)) (D.shown l.fn.dir) (D.shown l.dir);
    }
