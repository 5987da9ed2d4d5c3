use Rattle.std.proofs.Common.{List, map, sym, subst, ◌+◌}
use Rattle.serde_json.specs.View.{view}
use Rattle.ac_types.specs.JsonPaths.{element_path}
use Rattle.ac_types.specs.FieldForms.{each}
use Rattle.ac_types.specs.declared.label.Label.{Label}
use Rattle.ac_types.proofs.EachElement.{IsReadUpTo, read_next, read_fault, fault_kept}
use Rattle.manifest_parts.specs.LabelsForm.{label}
use Rattle.manifest_parts.proofs.labels_reader.read_labels.Goals as goal

pub returns-in-Err : goal.returns-in-Err
returns-in-Err c =
    fault_kept (label (element_path c.args.at.now c.loop-i.i) (view c.index-list-i.result))
    (each label c.args.at.now (map view c.args.list.now)) c.in-Err.error
    (λ path kind is. read_fault (λ (before : List Label). label) c.args.at.now c.args.list.now c.loop-i.labels
    c.loop-i.i c.index-list-i.result path kind c.loop-i-test.true c.index-list-i.is is c.loop-i.invariant)
    c.in-Err.ensures

pub loop-i-preserved : goal.loop-i-preserved
loop-i-preserved c =
    let P : List Label → Type 0 = λ xs. IsReadUpTo (λ (before : List Label). label) c.args.at.now c.args.list.now xs (c.loop-i.i + 1) in
    subst P (sym c.in_ok-labels-in-Ok.ensures)
    (read_next (λ (before : List Label). label) c.args.at.now c.args.list.now c.loop-i.labels c.loop-i.i c.index-list-i.result
    c.in-Ok.label c.loop-i-test.true c.index-list-i.is c.in-Ok.ensures c.loop-i.invariant)
