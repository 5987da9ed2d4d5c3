use Rattle.std.proofs.Common.{◌≡◌, take}
use Rattle.std.specs.List.{flat_map}
use Rattle.commands.specs.PodList.{name_behind}
use Rattle.commands.proofs.list.names_behind.Given as goal

abbrev pub invariant-names : goal.invariant-names
invariant-names l = l.text ≡ flat_map name_behind (take l.name-index l.names)
