use Rattle.std.proofs.Common.{ap, refl, sym, ◌≡◌, ◌∙◌, false, true}
use Rattle.percent_encoding.specs.Percent.{percent_decode}
use Rattle.tree_digest.proofs.EscapedBytes.{escaped_is}
use Rattle.tree_digest.proofs.Texts.{decoded}
use Rattle.std.proofs.Common.{rules}
use Rattle.tree_digest.proofs.escapes.unescaped.Goals as goal

pub returns-then-not-same-clause-none : goal.returns-then-not-same-clause-none
returns-then-not-same-clause-none c = λ text valid e.
    let back : percent_decode c.args.field.now ≡ text = ap percent_decode e ∙ decoded text valid in
    let kept : c.as_bytes.result.now ≡ c.args.field.now =
    rw (c.as_bytes.ensures.value, c.in_ok-append_to-2.ensures.ok, c.new-again.ensures.bytes, c.percent_encode.ensures.text, c.deref.ensures.value, c.in_ok-append_to.ensures.ok, c.new-bytes.ensures.items, c.percent_decode.ensures.bytes, back, escaped_is text) (sym e) in
    let bad : false ≡ true = c.if-not-same.ensures.1 kept in
    cc

pub returns-in-Ok-clause-some : goal.returns-in-Ok-clause-some
returns-in-Ok-clause-some c =
    let is = escaped_is c.append_to.new.out.items in
    search rules

pub returns-clause-none : goal.returns-clause-none
returns-clause-none c = λ text valid e.
    let back : percent_decode c.args.field.now ≡ text = ap percent_decode e ∙ decoded text valid in
    let given : c.append_to.new.out.items ≡ text = rw (c.in_ok-append_to.ensures.ok, c.new-bytes.ensures.items, c.percent_decode.ensures.bytes, back) refl in
    let bad : false ≡ true = c.in-Err.ensures.succeeds (rw given valid) in
    cc
