use Rattle.std.proofs.Common.{◌≡◌, ◌∙◌, List, ℕ, map, subst}
use Rattle.serde_json.specs.View.{view}
use Rattle.ac_types.specs.JsonPaths.{element_path}
use Rattle.ac_types.specs.FieldForms.{each_named, named_once}
use Rattle.ac_types.specs.Outcomes.{reads, IsFaultOf}
use Rattle.ac_types.proofs.EachElement.{shown_next, names_next, read_fault, fault_kept}
use Rattle.ac_types.proofs.elements.read_named.Goals as goal

pub returns-in-Err : goal.returns-in-Err
returns-in-Err g c =
    let form = named_once c.args.twice g.T.FromElement.name_of g.T.FromElement.form in
    let before = map g.T.FromElement.shown c.loop-i.items in
    let IsFaultAt : List ℕ → Type 0 = λ path. IsFaultOf (form before path (view c.index-list-i.result)) c.in-Err.error in
    fault_kept (form before (element_path c.args.at.now c.loop-i.i) (view c.index-list-i.result))
    (each_named c.args.twice g.T.FromElement.name_of g.T.FromElement.form c.args.at.now (map view c.args.list.now)) c.in-Err.error
    (λ path kind is. read_fault form c.args.at.now c.args.list.now before
    c.loop-i.i c.index-list-i.result path kind c.loop-i-test.true c.index-list-i.is is c.loop-i.invariant.read)
    (subst IsFaultAt (c.as_str.ensures.value ∙ c.in_ok-write_element_path.ensures.path) (c.in-Err.ensures.answers before c.loop-i.invariant.seen))

pub loop-i-preserved : goal.loop-i-preserved
loop-i-preserved g c =
    let form = named_once c.args.twice g.T.FromElement.name_of g.T.FromElement.form in
    let before = map g.T.FromElement.shown c.loop-i.items in
    let IsReadAt : List ℕ → Type 0 = λ path. form before path (view c.index-list-i.result) ≡ reads (g.T.FromElement.shown c.in-Ok.item) in
    record {
      read = shown_next g.T.FromElement.shown form c.args.at.now c.args.list.now c.loop-i.items c.loop-i.i
          c.index-list-i.result c.in-Ok.item c.in_ok-items-in-Ok.items c.loop-i-test.true c.index-list-i.is
          (subst IsReadAt (c.as_str.ensures.value ∙ c.in_ok-write_element_path.ensures.path) (c.in-Ok.ensures.answers before c.loop-i.invariant.seen))
          c.in_ok-items-in-Ok.ensures c.loop-i.invariant.read;
      seen = names_next g.T.FromElement.shown g.T.FromElement.name_of c.read_new.new.seen c.loop-i.items c.in-Ok.item
          c.in_ok-items-in-Ok.items c.in_ok-items-in-Ok.ensures
          (c.in-Ok.ensures.seen (map g.T.FromElement.name_of before) c.loop-i.invariant.seen);
    }
