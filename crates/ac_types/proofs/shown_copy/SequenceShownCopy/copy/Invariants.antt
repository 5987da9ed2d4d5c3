use Rattle.std.proofs.Common.{◌≡◌, map, take}
use Rattle.ac_types.proofs.shown_copy.SequenceShownCopy.copy.Given as goal

abbrev pub invariant-loop-item : goal.invariant-loop-item
invariant-loop-item g l = map g.T.ShownCopy.shown l.copies ≡ map g.T.ShownCopy.shown (take l.item-index l.self)
