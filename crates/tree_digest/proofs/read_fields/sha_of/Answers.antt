use Rattle.std.proofs.Common.{◌≡◌, Ok, true, false, sym, refl, ap, ◌∙◌}
use Rattle.hex.specs.Hex.{encode_lower, decode_sized}
use Rattle.hex.proofs.HexLemmas.{decode_sized-encode_lower}
use Rattle.tree_digest.proofs.Texts.{byte_at}
use Rattle.tree_digest.proofs.read_fields.sha_of.Goals as goal

pub returns-then-is_err-clause-none : goal.returns-then-is_err-clause-none
returns-then-is_err-clause-none c = λ sha long small e.
    let decoded : decode_sized c.args.digits.now 64 ≡ Ok sha = ap (λ t. decode_sized t 64) e ∙ decode_sized-encode_lower sha 64 long (byte_at sha small) in
    let read = rw decoded at c.decode_to_slice.ensures.value in
    let bad : true ≡ false = sym c.if-is_err.true ∙ c.is_err.ensures.value ∙ rw read.0 refl in
    cc

pub returns-then-not-same-clause-none : goal.returns-then-not-same-clause-none
returns-then-not-same-clause-none c = λ sha long small e.
    let decoded : decode_sized c.args.digits.now 64 ≡ Ok sha = ap (λ t. decode_sized t 64) e ∙ decode_sized-encode_lower sha 64 long (byte_at sha small) in
    let read = rw decoded at c.decode_to_slice.ensures.value in
    let kept : c.lower_hex-again.result ≡ c.args.digits.now = c.lower_hex-again.ensures ∙ ap encode_lower read.1 ∙ sym e in
    let bad : false ≡ true = c.if-not-same.ensures.1 kept in
    cc
