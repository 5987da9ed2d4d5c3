use Rattle.std.proofs.Common.{◌≡◌, true, take}
use Rattle.image_reading.specs.Looks.{OnlyReadsImages}
use Rattle.image_reading.specs.Trees.{ReadsNoTrees}
use Rattle.image_reading.specs.Store.{AreRead}
use Rattle.image_reading.proofs.store.read_each.Given as goal

abbrev pub invariant-names : goal.invariant-names
invariant-names g l =
    let D = g.D.Dir in
    record {
      only : OnlyReadsImages D.observed (D.shown l.initial.dir) (D.shown l.dir);
      trees : ReadsNoTrees D.observed (D.shown l.initial.dir) (D.shown l.dir);
      read : D.observed ≡ true → AreRead (take l.name-index l.names) l.images.items (D.shown l.initial.dir) (D.shown l.dir);
    }
