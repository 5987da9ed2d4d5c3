use Rattle.std.proofs.Common.{◌≡◌, ◌++◌, take}
use Rattle.folder_building.specs.TreePlans.{tree_entries}
use Rattle.folder_building.proofs.listed.tree_plan.Given as goal

abbrev pub invariant-lines : goal.invariant-lines
invariant-lines l = l.plan.items ≡ l.fn.plan.items ++ tree_entries l.prefix l.folder l.from (take l.line-index l.lines)
