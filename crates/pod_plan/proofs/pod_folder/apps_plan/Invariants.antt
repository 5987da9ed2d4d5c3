use Rattle.pod_plan.proofs.Loops.{AreDone}
use Rattle.pod_plan.proofs.pod_folder.apps_plan.Given as goal

abbrev pub invariant-loop-app : goal.invariant-loop-app
invariant-loop-app l = AreDone l.images l.apps l.app-index l.fn.plan.items l.plan.items
