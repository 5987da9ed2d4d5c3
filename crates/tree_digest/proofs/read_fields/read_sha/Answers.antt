use Rattle.std.proofs.Common.{sym, ◌∙◌}
use Rattle.hex.specs.Hex.{encode_lower}
use Rattle.tree_digest.proofs.Cuts.{cut_once, hex_clear_space}
use Rattle.tree_digest.proofs.read_fields.read_sha.Goals as goal

pub returns-in_err-sha-clause-none : goal.returns-in_err-sha-clause-none
returns-in_err-sha-clause-none c =
    rw c.from_residual-in_err-sha.ensures (λ sha rest long small e.
    let once = cut_once 32 c.in_ok-digits.digits.now c.in_ok-digits.rest.now (encode_lower sha) rest c.in_ok-digits.ensures.some.1 (hex_clear_space sha) (sym c.in_ok-digits.ensures.some.0 ∙ e) in
    c.in_err-sha.ensures.none sha long small once.0)
