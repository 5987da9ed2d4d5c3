use Rattle.std.proofs.Common.{arith, ◌<◌, length}
use Rattle.stage1.proofs.Stops.{ends_next, ends_none}
use Rattle.stage1.proofs.running.ends_of.Goals as goal

pub apps-init : goal.apps-init
apps-init c = ends_none c.new-ends.result.items c.new-ends.ensures.items

pub apps-preserved : goal.apps-preserved
apps-preserved c =
    let within : c.apps.place < length c.args.statuses.now = omega (arith, c.apps-test.true, c.requires) in
    ends_next c.args.apps.now c.args.statuses.now c.apps.place c.index-apps-place.result c.apps.ends.items c.add_status.new.ends.items c.apps-test.true within c.index-apps-place.is c.apps.invariant c.in_ok-add_status.ensures.added
