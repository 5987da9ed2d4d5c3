use Rattle.ac_types.proofs.LabelPlaces.{AllOthers}
use Rattle.ac_types.proofs.labels.place_of.Given as goal

abbrev pub invariant-loop-i : goal.invariant-loop-i
invariant-loop-i l = AllOthers l.name l.labels l.i
