use Rattle.std.proofs.Common.{rules}
use Rattle.stage1.proofs.resolving.add_start.Goals as goal

pub returns-in-Ok-clause-added : goal.returns-in-Ok-clause-added
returns-in-Ok-clause-added c = record { start = c.in_ok-start.start; added = search rules; is = c.in_ok-start.ensures.start }
