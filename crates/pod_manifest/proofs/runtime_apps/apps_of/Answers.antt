use Rattle.pod_manifest.proofs.Apps.{apps_more, ids_more}
use Rattle.pod_manifest.proofs.runtime_apps.apps_of.Goals as goal

pub loop-pick-preserved : goal.loop-pick-preserved
loop-pick-preserved c =
    let within = c.requires c.loop-pick.pick-index 0 c.loop-pick-test.true in
    record {
      made = apps_more c.args.list.now c.args.picks.now c.loop-pick.pick-index c.index-list-pick.result c.loop-pick-test.true within
          c.index-list-pick.is c.args.options.now c.loop-pick.apps c.in_ok-apps.apps c.in_ok-app_of.field-0 c.in_ok-apps.ensures
          c.in_ok-app_of.ensures.app c.loop-pick.invariant.made;
      ids = ids_more c.loop-pick.apps c.in_ok-apps.apps c.in_ok-app_of.field-0 c.in_ok-apps.ensures c.in_ok-app_of.ensures.id
          c.loop-pick.invariant.ids;
    }
