use Rattle.std.proofs.Common.{◌≡◌, ◌≤◌, true}
use Rattle.dir_trait.specs.DirCalls.{ExtendsBy}
use Rattle.folder_removal.specs.Weights.{weigh}
use Rattle.folder_removal.specs.Removal.{asks_deletion_at, spares_folders, HandsOn}
use Rattle.folder_removal.specs.Known.{WorksOff}
use Rattle.folder_removal.proofs.delete.empty.Given as goal

abbrev pub invariant-tasks : goal.invariant-tasks
invariant-tasks g l =
    let D = g.D.Dir in
    record {
      same : (D.shown l.dir).process ≡ (D.shown l.fn.dir).process;
      faults : (D.shown l.fn.dir).faults ≤ (D.shown l.dir).faults;
      local : (D.shown l.dir).local ≡ (D.shown l.fn.dir).local;
      extends : D.observed ≡ true → ExtendsBy (asks_deletion_at l.spot) (D.shown l.fn.dir) (D.shown l.dir);
      spares : D.observed ≡ true → ExtendsBy spares_folders (D.shown l.fn.dir) (D.shown l.dir);
      at_hand : D.observed ≡ true → HandsOn l.spot l.fn.tasks.items l.tasks.items (D.shown l.fn.dir) (D.shown l.dir);
      known : D.observed ≡ true → WorksOff l.spot l.fn.tasks.items l.tasks.items (D.shown l.fn.dir) (D.shown l.dir);
    }

abbrev pub decreases-tasks : goal.decreases-tasks
decreases-tasks g l = weigh l.tasks.items
