use Rattle.std.proofs.Common.{◌≡◌, rules}
use Rattle.plain_laws.proofs.Results.{ok_three}
use Rattle.tree_digest.specs.Listings.{AreListable, entries_of}
use Rattle.path_map.specs.Entries.{entry_at, IsPathMap}
use Rattle.pod_plan.specs.Readings.{KnowsTree}
use Rattle.pod_plan.proofs.Lacks.{tree_lack}
use Rattle.pod_plan.proofs.Results.{ok_same}
use Rattle.pod_plan.proofs.laying.read_map.Goals as goal

pub returns-in-Ok-clause-known : goal.returns-in-Ok-clause-known
returns-in-Ok-clause-known g c =
    let D = g.D.Dir in
    let key = c.args.key in
    let old = D.shown c.args.dir.now in
    let new = D.shown c.read_listing.new.dir in
    let lines = c.in-Ok.listing in
    ok_same (λ map. KnowsTree D.observed key map old new) c.map_of.result c.map_err.result (λ a h. search (rules, h, c.map_err.ensures.cases))
    (ok_three (λ map. map ≡ entries_of lines) (λ map. IsPathMap map) (λ map. AreListable (entry_at map)) (λ map. KnowsTree D.observed key map old new) c.map_of.result
    (λ map is kind listable. record { kind = kind; listable = listable; read = λ t. (lines, c.in-Ok.ensures.read t, is) })
    c.map_of.ensures.map c.map_of.ensures.kind c.map_of.ensures.listable)

pub returns-in-Err-clause-lacks : goal.returns-in-Err-clause-lacks
returns-in-Err-clause-lacks g c = tree_lack c.args.key c.in-Err.error c.in-Err.ensures.refusals c.in-Err.ensures.damaged
