use Rattle.std.proofs.Common.{◌≡◌, ◌≤◌, true, take, length, vec_len, vec_capacity}
use Rattle.dir_model.specs.declared.spot.Spot.{Spot}
use Rattle.stage1.specs.Notes.{anything, notes_at, StaysAble}
use Rattle.stage1.specs.Beginnings.{AreAt, AreMarked, AreStartedIn, AreStatusesWritten, HaveBegun}
use Rattle.stage1.specs.Keeping.{NotesAtMost, all_begun_times}
use Rattle.stage1.proofs.beginning.begin_apps.Given as goal
use Rattle.dir_trait.specs.Effects.{OnlyAsks}

abbrev pub invariant-apps : goal.invariant-apps
invariant-apps g l =
    let D = g.D.Dir in
    let S = g.S.Spawner in
    record {
      went : OnlyAsks D.observed anything (D.shown l.fn.dir) (D.shown l.dir);
      worked : (spot : Spot) → AreAt spot l.apps → OnlyAsks D.observed (notes_at spot) (D.shown l.fn.dir) (D.shown l.dir);
      stays : D.observed ≡ true → StaysAble (D.shown l.fn.dir) (D.shown l.dir);
      many : vec_len l.stands ≡ l.app-index;
      each : length l.stands.items ≡ l.app-index;
      room : length l.apps ≤ vec_capacity l.stands;
      begun : HaveBegun S.observed (take l.app-index l.apps) l.stands.items (S.shown l.fn.spawner) (S.shown l.spawner);
      may : D.observed ≡ true → AreMarked (D.shown l.dir) (take l.app-index l.apps);
      started : S.observed ≡ true → AreStartedIn (S.shown l.spawner).calls (take l.app-index l.apps) l.stands.items;
      wrote : D.observed ≡ true → AreStatusesWritten (D.shown l.dir) (take l.app-index l.apps) l.stands.items;
      keeps : D.observed ≡ true → NotesAtMost (all_begun_times (take l.app-index l.apps) l.stands.items) (D.shown l.fn.dir) (D.shown l.dir);
    }
