use Rattle.std.proofs.Common.{◌≡◌, sym, ◌∙◌, arith}
use Rattle.tree_digest.specs.Fields.{decimal_text}
use Rattle.tree_digest.proofs.Cuts.{cut_once, decimal_clear}
use Rattle.tree_digest.proofs.Decimals.{decimal_same}
use Rattle.tree_digest.proofs.read_fields.read_owner.Goals as goal

pub returns-then-number-from-clause-none : goal.returns-then-number-from-clause-none
returns-then-number-from-clause-none c = λ n rest small e.
    let read = c.in_ok-number.ensures.some in
    let once = cut_once 32 (decimal_text read.0) c.in_ok-number.rest.now (decimal_text n) rest (decimal_clear 32 read.0 (omega arith)) (decimal_clear 32 n (omega arith)) (sym read.2 ∙ e) in
    let same : read.0 ≡ n = decimal_same read.0 n once.0 in
    omega (arith, same, read.1, c.if-number-from.true, c.from.ensures)
