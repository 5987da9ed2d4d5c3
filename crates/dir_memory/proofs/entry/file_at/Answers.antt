use Rattle.std.proofs.Common.{sym, ap, ◌∙◌}
use Rattle.dir_trait.specs.Bundles.{bytes_of_node}
use Rattle.dir_memory.proofs.BundleTrees.{file_own}
use Rattle.dir_memory.proofs.entry.file_at.Goals as goal

pub returns-in_err-node : goal.returns-in_err-node
returns-in_err-node c = rw c.from_residual.ensures (ap bytes_of_node c.in_err-node.ensures ∙ sym (file_own c.args.entries.now c.args.path.now))

pub returns : goal.returns
returns c = c.bytes.ensures ∙ (ap bytes_of_node c.in_ok-node.ensures ∙ sym (file_own c.args.entries.now c.args.path.now))
