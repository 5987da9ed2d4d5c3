use Rattle.std.proofs.Common.{◌≡◌, ◌++◌, true, take, reverse}
use Rattle.std.specs.List.{flat_map}
use Rattle.host_spawner.specs.Layout.{closing}
use Rattle.host_spawner.proofs.layout.set_modes.Given as goal

abbrev pub invariant-lines : goal.invariant-lines
invariant-lines g l =
    g.S.System.observed ≡ true → g.S.System.facts l.system ≡ g.S.System.facts l.initial.system ++ flat_map (closing l.root) (take l.behind (reverse l.lines))
