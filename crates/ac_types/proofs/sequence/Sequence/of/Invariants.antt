use Rattle.std.proofs.Common.{◌≡◌, take}
use Rattle.ac_types.proofs.sequence.Sequence.of.Given as goal

abbrev pub invariant-loop-item : goal.invariant-loop-item
invariant-loop-item g l = l.items.items ≡ take l.item-index l.slice
