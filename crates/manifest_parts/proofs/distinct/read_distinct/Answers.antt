use Rattle.std.proofs.Common.{map}
use Rattle.serde_json.specs.View.{view}
use Rattle.ac_types.specs.JsonPaths.{element_path}
use Rattle.ac_types.proofs.EachElement.{shown_next, names_next, read_fault, fault_kept}
use Rattle.manifest_parts.specs.DistinctForms.{after_names, each_distinct}
use Rattle.manifest_parts.proofs.distinct.read_distinct.Goals as goal

pub returns-in-Err : goal.returns-in-Err
returns-in-Err g c =
    let form = after_names g.T.DistinctElement.name_of g.T.DistinctElement.form in
    let before = map g.T.DistinctElement.shown c.loop-i.items in
    fault_kept (form before (element_path c.args.at.now c.loop-i.i) (view c.index-list-i.result))
    (each_distinct g.T.DistinctElement.name_of g.T.DistinctElement.form c.args.at.now (map view c.args.list.now)) c.in-Err.error
    (λ path kind is. read_fault form c.args.at.now c.args.list.now before
    c.loop-i.i c.index-list-i.result path kind c.loop-i-test.true c.index-list-i.is is c.loop-i.invariant.read)
    (c.in-Err.ensures.answers (map g.T.DistinctElement.name_of before) c.loop-i.invariant.seen)

pub loop-i-preserved : goal.loop-i-preserved
loop-i-preserved g c =
    let form = after_names g.T.DistinctElement.name_of g.T.DistinctElement.form in
    let names = map g.T.DistinctElement.name_of (map g.T.DistinctElement.shown c.loop-i.items) in
    record {
      read = shown_next g.T.DistinctElement.shown form c.args.at.now c.args.list.now c.loop-i.items c.loop-i.i
          c.index-list-i.result c.in-Ok.item c.in_ok-items-in-Ok.items c.loop-i-test.true c.index-list-i.is
          (c.in-Ok.ensures.answers names c.loop-i.invariant.seen) c.in_ok-items-in-Ok.ensures c.loop-i.invariant.read;
      seen = names_next g.T.DistinctElement.shown g.T.DistinctElement.name_of c.read_at.new.seen c.loop-i.items c.in-Ok.item
          c.in_ok-items-in-Ok.items c.in_ok-items-in-Ok.ensures
          (c.in-Ok.ensures.seen names c.loop-i.invariant.seen);
    }
