use Rattle.std.proofs.Common.{rules}
use Rattle.stage1.proofs.root.add_root.Goals as goal

pub returns-in-Ok-clause-added : goal.returns-in-Ok-clause-added
returns-in-Ok-clause-added g c t = record { root = c.in_ok-root.root; added = search rules; read = c.in_ok-root.ensures.read t }
