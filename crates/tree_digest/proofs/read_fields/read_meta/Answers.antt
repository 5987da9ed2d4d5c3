use Rattle.std.proofs.Common.{sym, ◌∙◌, arith}
use Rattle.tree_digest.specs.Fields.{octal_text, decimal_text, field}
use Rattle.tree_digest.proofs.Cuts.{cut_once, octal_clear, decimal_clear}
use Rattle.tree_digest.proofs.read_fields.read_meta.Goals as goal

pub returns-in_err-gid-clause-none : goal.returns-in_err-gid-clause-none
returns-in_err-gid-clause-none c =
    rw c.from_residual-in_err-gid.ensures (λ meta rest valid e.
    let first = cut_once 32 (octal_text c.in_ok-mode.mode) c.in_ok-mode.owners.now (octal_text meta.mode) (field (decimal_text meta.uid) (field (decimal_text meta.gid) rest)) (octal_clear 32 c.in_ok-mode.mode (omega arith)) (octal_clear 32 meta.mode (omega arith)) (sym c.in_ok-mode.ensures.some.0 ∙ e) in
    let second = cut_once 32 (decimal_text c.in_ok-uid.uid) c.in_ok-uid.group.now (decimal_text meta.uid) (field (decimal_text meta.gid) rest) (decimal_clear 32 c.in_ok-uid.uid (omega arith)) (decimal_clear 32 meta.uid (omega arith)) (sym c.in_ok-uid.ensures.some.0 ∙ first.1) in
    c.in_err-gid.ensures.none meta.gid rest valid.gid second.1)
