use Rattle.std.specs.Vec.Iter.{into_iter_items}
use Rattle.pod_plan.proofs.Picked.{AreMadeTo}
use Rattle.pod_plan.proofs.apps.apps_with.Given as goal

abbrev pub invariant-picks : goal.invariant-picks
invariant-picks l = AreMadeTo l.manifests l.picks l.named l.fn.roots.items l.place (into_iter_items l.left) l.apps.items
