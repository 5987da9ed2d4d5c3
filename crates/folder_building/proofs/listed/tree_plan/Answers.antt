use Rattle.std.proofs.Common.{rules}
use Rattle.folder_building.proofs.Carries.{carries_on}
use Rattle.folder_building.proofs.Made.{makes_tree}
use Rattle.folder_building.proofs.Nexts.{next_entries}
use Rattle.folder_building.proofs.listed.tree_plan.Goals as goal

pub returns-clause-tree : goal.returns-clause-tree
returns-clause-tree c = makes_tree c.args.prefix.now c.args.folder.now c.args.from.now c.args.listing.now c.as_slice-lines.ensures.kind

pub lines-preserved : goal.lines-preserved
lines-preserved c =
    next_entries c.args.prefix.now c.args.folder.now c.args.from.now c.lines.plan.items c.add.new.plan.items c.args.plan.items c.as_slice-lines.result.now c.lines.line-index c.line-item.result
    (search (rules, c.lines-test.true)) c.lines.invariant (search (rules, c.line-item.is, c.in_ok-entry.ensures, c.in_ok-add.ensures))

pub returns-clause-plan : goal.returns-clause-plan
returns-clause-plan c = carries_on c.args.prefix.now c.args.folder.now c.args.from.now c.args.listing.now c.as_slice-lines.ensures.kind
