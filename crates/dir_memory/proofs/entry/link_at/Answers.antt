use Rattle.std.proofs.Common.{sym, ap, ◌∙◌}
use Rattle.dir_trait.specs.Bundles.{link_target}
use Rattle.dir_memory.proofs.BundleTrees.{link_own}
use Rattle.dir_memory.proofs.entry.link_at.Goals as goal

pub returns-in_err-node : goal.returns-in_err-node
returns-in_err-node c = rw c.from_residual.ensures (ap link_target c.in_err-node.ensures ∙ sym (link_own c.args.entries.now c.args.path.now))

pub returns : goal.returns
returns c = c.target.ensures ∙ (ap link_target c.in_ok-node.ensures ∙ sym (link_own c.args.entries.now c.args.path.now))
