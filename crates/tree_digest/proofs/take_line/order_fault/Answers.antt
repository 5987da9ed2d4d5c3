use Rattle.std.proofs.Common.{◌≡◌, ◌==◌, ◌||◌, true, false, length, sym, refl, ap, subst, ◌∙◌, inr, rules}
use Rattle.tree_digest.specs.Listings.{Rises, is_parent}
use Rattle.tree_digest.proofs.Cuts.{last_once}
use Rattle.tree_digest.proofs.take_line.order_fault.Goals as goal

pub returns-then-not-is_parent : goal.returns-then-not-is_parent
returns-then-not-is_parent c =
    let rises : Rises c.args.lines.now c.args.line.now = search rules in
    let ends = c.parent_text.ensures.1 in
    let missing : is_parent c.args.lines.now c.parent_text.result.now ≡ false =
    ap (λ b. (length c.parent_text.result.now == 0) || b) (sym (c.requires c.parent_text.result.now)) ∙ sym c.is_parent.ensures ∙ c.if-not-is_parent.true in
    inr (refl, rises, (c.parent_text.result.now, c.parent_text.ensures.0, ends, missing))

pub returns : goal.returns
returns c =
    let rises : Rises c.args.lines.now c.args.line.now = search rules in
    let ends = c.parent_text.ensures.1 in
    let there : is_parent c.args.lines.now c.parent_text.result.now ≡ true =
    ap (λ b. (length c.parent_text.result.now == 0) || b) (sym (c.requires c.parent_text.result.now)) ∙ sym c.is_parent.ensures ∙ c.if-not-is_parent.false in (
      rises,
      λ parent name other.
          let same = last_once 47 c.parent_text.result.now c.parent_text.ensures.0 parent name ends.last other.last (sym ends.text ∙ other.text) in
          subst (λ p. is_parent c.args.lines.now p ≡ true) same there,
    )
