use Rattle.std.proofs.Common.{◌≡◌, true, drop}
use Rattle.folder_building.specs.Work.{builds_at}
use Rattle.folder_building.specs.Changes.{SyncedTo}
use Rattle.folder_building.proofs.build.sync_all.Given as goal
use Rattle.dir_trait.specs.Effects.{OnlyAsks}

abbrev pub invariant-entries : goal.invariant-entries
invariant-entries g l =
    let D = g.D.Dir in
    record {
      worked : OnlyAsks D.observed (builds_at l.spot) (D.shown l.fn.dir) (D.shown l.dir);
      synced : D.observed ≡ true → SyncedTo l.spot l.plan (drop l.entry-index l.plan) (D.shown l.fn.dir) (D.shown l.dir);
    }
