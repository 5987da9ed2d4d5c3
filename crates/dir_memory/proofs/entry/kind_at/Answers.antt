use Rattle.std.proofs.Common.{sym, ap, ◌∙◌}
use Rattle.dir_trait.specs.Bundles.{kind_at}
use Rattle.dir_memory.specs.MemoryBundles.{decided_node}
use Rattle.dir_memory.proofs.BundleTrees.{tree_decided}
use Rattle.dir_memory.proofs.entry.kind_at.Goals as goal

pub returns-in-Some : goal.returns-in-Some
returns-in-Some c = c.decided_kind.ensures ∙ (ap (λ found. kind_at (decided_node found c.args.path.now)) c.in-Some.ensures ∙ sym (ap kind_at (tree_decided c.args.entries.now c.args.path.now)))

pub returns-in-None : goal.returns-in-None
returns-in-None c = c.root_kind.ensures ∙ (ap (λ found. kind_at (decided_node found c.args.path.now)) c.in-None.ensures ∙ sym (ap kind_at (tree_decided c.args.entries.now c.args.path.now)))
