use Rattle.std.proofs.Common.{◌≡◌, subst, sym, ◌∙◌, rules}
use Rattle.tree_digest.specs.Fields.{escaped, IsTarget}
use Rattle.tree_digest.proofs.Texts.{escaped_same}
use Rattle.tree_digest.proofs.escapes.read_target.Goals as goal

pub returns-then-not-is_target-clause-bad : goal.returns-then-not-is_target-clause-bad
returns-then-not-is_target-clause-bad c = λ _ target valid e.
    let field : c.args.field.now ≡ escaped c.as_str.result.now = search rules in
    let same : c.as_str.result.now ≡ target = escaped_same _ target c.as_str.utf8 valid.text (sym field ∙ e) in
    let is = c.is_target.ensures.1 (subst IsTarget (sym same) valid) in
    cc
