use Rattle.ac_types.proofs.LabelPlaces.{AllStand}
use Rattle.ac_types.proofs.labels.check_names.Given as goal

abbrev pub invariant-loop-i : goal.invariant-loop-i
invariant-loop-i l = AllStand l.labels l.i
