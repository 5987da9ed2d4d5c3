-- The labels of an image.
use Rattle.std.specs.Prelude.{ℕ, List, Option, Some, None, codes}
use Rattle.serde_json.specs.Data.{Data}
use Rattle.ac_types.specs.FieldForms.{required, text, list, an_object, each}
use Rattle.ac_types.specs.JsonPaths.{field_path, element_path}
use Rattle.ac_types.specs.Labels.{label_fault}
use Rattle.ac_types.specs.NameForms.{filled_identifier}
use Rattle.ac_types.specs.Outcomes.{Outcome, reads, fails, ◌>>=◌, ◌>>◌}
use Rattle.ac_types.specs.declared.fault.FaultKind.{FaultKind}
use Rattle.ac_types.specs.declared.fault.FaultKind.TheVariants as kind
use Rattle.ac_types.specs.declared.label.Label.{Label}
use Rattle.ac_types.specs.declared.label.LabelFault.{LabelFault}
use Rattle.ac_types.specs.declared.label.LabelFault.TheVariants.{LabelTwice, LabelName, BadOs, BadArch}

unfoldable pub label : List ℕ → Data → Outcome Label
label at d =
    an_object at d
    >> required filled_identifier at (codes "name") d >>= λ name.
    required text at (codes "value") d >>= λ value.
    reads (record { name = name; value = value })

-- the kind of a fault of a list of labels, the label's place and the field where it stands
abbrev pub label_fault_kind : LabelFault → FaultKind
label_fault_kind (LabelTwice k) = kind.LabelTwice
label_fault_kind (LabelName k) = kind.LabelName
label_fault_kind (BadOs k) = kind.BadOs
label_fault_kind (BadArch k) = kind.BadArch

abbrev pub label_place : LabelFault → ℕ
label_place (LabelTwice k) = k
label_place (LabelName k) = k
label_place (BadOs k) = k
label_place (BadArch k) = k

abbrev pub label_field : LabelFault → List ℕ
label_field (LabelTwice k) = codes "name"
label_field (LabelName k) = codes "name"
label_field (BadOs k) = codes "value"
label_field (BadArch k) = codes "value"

abbrev pub label_path : List ℕ → LabelFault → List ℕ
label_path at fault = field_path (element_path at (label_place fault)) (label_field fault)

-- labels that may stand beside one another
abbrev pub if_standing : List ℕ → List Label → Option LabelFault → Outcome (List Label)
if_standing at ls None = reads ls
if_standing at ls (Some fault) = fails (label_path at fault) (label_fault_kind fault)

-- the labels of a list: first each of them, then the rules on all
unfoldable pub labels_of : List ℕ → List Data → Outcome (List Label)
labels_of at ds = each label at ds >>= λ ls. if_standing at ls (label_fault ls)

abbrev pub labels : List ℕ → Data → Outcome (List Label)
labels at d = list at d >>= labels_of at
