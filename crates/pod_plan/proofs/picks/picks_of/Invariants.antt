use Rattle.std.proofs.Common.{take, length, ◌<◌}
use Rattle.std.specs.List.{All}
use Rattle.pod_plan.specs.Choices.{ArePicks}
use Rattle.pod_plan.proofs.picks.picks_of.Given as goal

abbrev pub invariant-refs : goal.invariant-refs
invariant-refs l = record {
  picked : ArePicks l.list (take l.wanted-index l.refs) l.picks;
  within : All (λ i. i < length l.list) l.picks;
}
