use Rattle.std.proofs.Common.{◌≡◌, ◌++◌, true, take}
use Rattle.std.specs.List.{flat_map}
use Rattle.host_spawner.specs.Layout.{linking}
use Rattle.host_spawner.proofs.layout.make_links.Given as goal

abbrev pub invariant-lines : goal.invariant-lines
invariant-lines g l =
    g.S.System.observed ≡ true → g.S.System.facts l.system ≡ g.S.System.facts l.initial.system ++ flat_map (linking l.root) (take l.line-index l.lines)
