use Rattle.std.proofs.Common.{not, ap, ◌∙◌}
use Rattle.demo_tally.proofs.TreeNames.{told}
use Rattle.demo_tally.proofs.laws.tree_files.Goals as goal

pub returns-clause-of_each : goal.returns-clause-of_each
returns-clause-of_each c app flat = told app ∙ ap not flat
