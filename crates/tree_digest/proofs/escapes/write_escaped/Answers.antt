use Rattle.std.proofs.Common.{rules}
use Rattle.tree_digest.proofs.EscapedBytes.{escaped_is}
use Rattle.tree_digest.proofs.escapes.write_escaped.Goals as goal

pub returns : goal.returns
returns c =
    let is = escaped_is c.args.text.now in
    search rules
