use Rattle.std.proofs.Common.{◌≡◌, ◌++◌, true, take, drop}
use Rattle.host_spawner.specs.Layout.{way_from, way}
use Rattle.host_spawner.proofs.layout.check_way.Given as goal

abbrev pub invariant-way : goal.invariant-way
invariant-way g l =
    g.S.System.observed ≡ true → g.S.System.facts l.system ++ way_from (take l.end l.path) (drop l.end l.path) ≡ g.S.System.facts l.initial.system ++ way l.path l.start
