use Rattle.folder_removal.proofs.Nested.{file_plain}
use Rattle.folder_removal.proofs.task.child.Goals as goal

pub returns-clause-plain : goal.returns-clause-plain
returns-clause-plain c = file_plain _ c.join.ensures.name
