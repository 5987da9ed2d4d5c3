use Rattle.std.proofs.Common.{◌≡◌, ◌++◌}
use Rattle.dep_match.proofs.dependencies.joined.Given as goal

abbrev pub invariant-loop-node : goal.invariant-loop-node
invariant-loop-node l = l.all.items ≡ l.initial.all.items ++ l.yielded
