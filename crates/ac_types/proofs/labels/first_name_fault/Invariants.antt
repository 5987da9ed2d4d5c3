use Rattle.std.proofs.Common.{map, take}
use Rattle.ac_types.specs.SeenTexts.{HasSeen}
use Rattle.ac_types.specs.declared.label.Label.{Label}
use Rattle.ac_types.proofs.LabelPlaces.{AllStand}
use Rattle.ac_types.proofs.labels.first_name_fault.Given as goal

abbrev pub invariant-loop-i : goal.invariant-loop-i
invariant-loop-i l = record {
  stand : AllStand l.labels l.i;
  seen : HasSeen l.seen (map (λ (x : Label). x.name) (take l.i l.labels));
}
