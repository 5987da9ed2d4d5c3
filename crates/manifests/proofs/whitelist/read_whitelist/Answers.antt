use Rattle.std.proofs.Common.{List, map, subst, sym}
use Rattle.serde_json.specs.View.{view}
use Rattle.ac_types.specs.JsonPaths.{element_path}
use Rattle.ac_types.proofs.EachElement.{fault_kept}
use Rattle.path_map.specs.declared.listed.Listed.{Listed}
use Rattle.manifests.specs.WhitelistForm.{listed, whitelist_of}
use Rattle.manifests.proofs.WhitelistSteps.{IsListedUpTo, listed_none, listed_next, listed_fault, listed_all}
use Rattle.manifests.proofs.whitelist.read_whitelist.Goals as goal

pub loop-i-init : goal.loop-i-init
loop-i-init c =
    let P : List Listed → Type 0 = λ ls. IsListedUpTo c.args.at.now c.args.list.now ls 0 in
    subst P (sym c.new-paths.ensures) (listed_none c.args.at.now c.args.list.now)

pub returns-in-Err : goal.returns-in-Err
returns-in-Err c =
    fault_kept (listed (element_path c.args.at.now c.loop-i.i) (view c.index-list-i.result))
    (whitelist_of c.args.at.now (map view c.args.list.now)) c.in-Err.error
    (λ path kind is. listed_fault c.args.at.now c.args.list.now c.loop-i.paths c.loop-i.i c.index-list-i.result path kind
    c.loop-i-test.true c.index-list-i.is is c.loop-i.invariant)
    c.in-Err.ensures

pub loop-i-preserved : goal.loop-i-preserved
loop-i-preserved c =
    listed_next c.args.at.now c.args.list.now c.loop-i.paths c.loop-i.i c.index-list-i.result c.in-Ok.entry
    c.in_ok-paths-in-Ok.paths c.loop-i-test.true c.index-list-i.is c.in-Ok.ensures c.in_ok-paths-in-Ok.ensures c.loop-i.invariant

pub returns : goal.returns
returns c = listed_all c.args.at.now c.args.list.now c.loop-i.paths c.loop-i.i c.loop-i-test.false c.loop-i.invariant
