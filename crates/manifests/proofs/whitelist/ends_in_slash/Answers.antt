use Rattle.std.proofs.Common.{not, ap, ◌∙◌}
use Rattle.manifests.proofs.LastByte.{no_slash, some_byte}
use Rattle.manifests.proofs.whitelist.ends_in_slash.Goals as goal

pub returns-else-not-is_empty-clause-value : goal.returns-else-not-is_empty-clause-value
returns-else-not-is_empty-clause-value c =
    ap not c.if-not-is_empty.false
    ∙ no_slash c.as_bytes-bytes.result.now c.args.text.now c.is_empty.result c.as_bytes-bytes.ensures.value c.is_empty.ensures
    c.if-not-is_empty.false

pub returns-then-not-is_empty-clause-room : goal.returns-then-not-is_empty-clause-room
returns-then-not-is_empty-clause-room c = λ is.
    some_byte c.as_bytes-bytes.result.now c.args.text.now c.is_empty.result c.as_bytes-bytes.ensures.value c.is_empty.ensures
    c.if-not-is_empty.true
