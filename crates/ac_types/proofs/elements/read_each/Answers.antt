use Rattle.std.proofs.Common.{map}
use Rattle.serde_json.specs.View.{view}
use Rattle.ac_types.specs.JsonPaths.{element_path}
use Rattle.ac_types.specs.FieldForms.{each}
use Rattle.ac_types.proofs.EachElement.{shown_next, read_fault, fault_kept}
use Rattle.ac_types.proofs.elements.read_each.Goals as goal

pub returns-in-Err : goal.returns-in-Err
returns-in-Err g c =
    let form = g.T.FromElement.form in
    fault_kept (form (element_path c.args.at.now c.loop-i.i) (view c.index-list-i.result))
    (each form c.args.at.now (map view c.args.list.now)) c.in-Err.error
    (λ path kind is. read_fault (λ _. form) c.args.at.now c.args.list.now (map g.T.FromElement.shown c.loop-i.items)
    c.loop-i.i c.index-list-i.result path kind c.loop-i-test.true c.index-list-i.is is c.loop-i.invariant)
    c.in-Err.ensures

pub loop-i-preserved : goal.loop-i-preserved
loop-i-preserved g c =
    shown_next g.T.FromElement.shown (λ _. g.T.FromElement.form) c.args.at.now c.args.list.now c.loop-i.items c.loop-i.i
    c.index-list-i.result c.in-Ok.item c.in_ok-items-in-Ok.items c.loop-i-test.true c.index-list-i.is c.in-Ok.ensures
    c.in_ok-items-in-Ok.ensures c.loop-i.invariant
