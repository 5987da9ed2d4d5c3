use Rattle.std.proofs.Common.{◌≡◌, true, take, map, length}
use Rattle.pod_files.specs.Looks.{OnlyReadsPod}
use Rattle.stage1.specs.AppFiles.{AreAppRoots}
use Rattle.stage1.proofs.root.read_roots.Given as goal

abbrev pub invariant-apps : goal.invariant-apps
invariant-apps g l =
    let D = g.D.Dir in
    record {
      only : OnlyReadsPod D.observed l.pod (D.shown l.initial.dir) (D.shown l.dir);
      each : length l.roots.items ≡ l.app-index;
      read : D.observed ≡ true → AreAppRoots l.pod (map (λ a. a.name) (take l.app-index l.apps)) l.roots.items (D.shown l.initial.dir) (D.shown l.dir);
    }
