use Rattle.std.proofs.Common.{◌≡◌, ◌++◌, true, take}
use Rattle.std.specs.List.{flat_map}
use Rattle.host_spawner.specs.Layout.{opening}
use Rattle.host_spawner.proofs.layout.open_directories.Given as goal

abbrev pub invariant-lines : goal.invariant-lines
invariant-lines g l =
    g.S.System.observed ≡ true → g.S.System.facts l.system ≡ g.S.System.facts l.initial.system ++ flat_map (opening l.root) (take l.line-index l.lines)
