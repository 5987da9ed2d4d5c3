use Rattle.std.proofs.Common.{◌≡◌, ◌&&◌, take, drop}
use Rattle.folder_building.specs.Plans.{is_plan, is_plan_after}
use Rattle.plan_check.proofs.check.is_plan.Given as goal

abbrev pub invariant-entries : goal.invariant-entries
invariant-entries l = is_plan l.entries ≡ (l.so && is_plan_after (take l.place l.entries) (drop l.place l.entries))
