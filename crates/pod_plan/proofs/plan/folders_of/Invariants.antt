use Rattle.std.proofs.Common.{◌≡◌, take}
use Rattle.pod_plan.specs.Plans.{folders}
use Rattle.pod_plan.proofs.plan.folders_of.Given as goal

abbrev pub invariant-images : goal.invariant-images
invariant-images l = l.names.items ≡ folders (take l.image-index l.images)
