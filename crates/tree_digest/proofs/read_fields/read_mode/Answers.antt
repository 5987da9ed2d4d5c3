use Rattle.std.proofs.Common.{sym, ◌∙◌, arith}
use Rattle.tree_digest.specs.Fields.{octal_text}
use Rattle.tree_digest.proofs.Cuts.{cut_once, octal_clear}
use Rattle.tree_digest.proofs.read_fields.read_mode.Goals as goal

pub returns-in_err-mode-clause-none : goal.returns-in_err-mode-clause-none
returns-in_err-mode-clause-none c =
    rw c.from_residual-in_err-mode.ensures (λ n rest small e.
    let once = cut_once 32 c.in_ok-digits.digits.now c.in_ok-digits.rest.now (octal_text n) rest c.in_ok-digits.ensures.some.1 (octal_clear 32 n (omega arith)) (sym c.in_ok-digits.ensures.some.0 ∙ e) in
    c.in_err-mode.ensures.none n small once.0)
