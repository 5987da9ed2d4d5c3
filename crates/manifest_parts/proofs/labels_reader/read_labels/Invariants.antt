use Rattle.std.proofs.Common.{List}
use Rattle.ac_types.specs.declared.label.Label.{Label}
use Rattle.ac_types.proofs.EachElement.{IsReadUpTo}
use Rattle.manifest_parts.specs.LabelsForm.{label}
use Rattle.manifest_parts.proofs.labels_reader.read_labels.Given as goal

abbrev pub invariant-loop-i : goal.invariant-loop-i
invariant-loop-i l = IsReadUpTo (λ (before : List Label). label) l.at l.list l.labels l.i
