use Rattle.std.proofs.Common.{sym, ◌∙◌, arith}
use Rattle.tree_digest.specs.Fields.{decimal_text}
use Rattle.tree_digest.proofs.Cuts.{cut_once, decimal_clear}
use Rattle.tree_digest.proofs.read_fields.read_number.Goals as goal

pub returns-in_err-number-clause-none : goal.returns-in_err-number-clause-none
returns-in_err-number-clause-none c =
    rw c.from_residual-in_err-number.ensures (λ n rest e.
    let once = cut_once 32 c.in_ok-digits.digits.now c.in_ok-digits.rest.now (decimal_text n) rest c.in_ok-digits.ensures.some.1 (decimal_clear 32 n (omega arith)) (sym c.in_ok-digits.ensures.some.0 ∙ e) in
    c.in_err-number.ensures.none n once.0)
