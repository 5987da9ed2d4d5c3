use Rattle.std.proofs.Common.{rules}
use Rattle.pod_plan.proofs.Loops.{one_more}
use Rattle.pod_plan.proofs.pod_folder.apps_plan.Goals as goal

pub loop-app-preserved : goal.loop-app-preserved
loop-app-preserved c =
    one_more c.args.images.now c.args.apps.now c.loop-app.app-index c.app-item.result c.args.plan.items c.loop-app.plan.items c.in_ok-plan.plan.items (search (rules, c.loop-app-test.true)) c.loop-app.invariant
    (search (rules, c.app-item.is, c.in_ok-plan.ensures.entries)) (search (rules, c.app-item.is, c.in_ok-plan.ensures.kind))
