use Rattle.std.proofs.Common.{◌≡◌, ◌++◌, ◌∷◌, [], length, subst, sym, ap, ◌∙◌, arith, append_assoc, length-append, rules}
use Rattle.tree_digest.specs.Lines.{line_text}
use Rattle.tree_digest.specs.Listings.{listing_text, AllFollow, Follows}
use Rattle.tree_digest.proofs.ListingTexts.{text_more, follow_more, line_some}
use Rattle.tree_digest.proofs.read_lines.read_lines.Goals as goal

pub loop-rest-smaller : goal.loop-rest-smaller
loop-rest-smaller c =
    omega (arith, ap length c.in-Ok.ensures.ok.1, length-append (line_text c.in-Ok.line) c.in-Ok.more.now, line_some c.in-Ok.line)

pub loop-rest-preserved : goal.loop-rest-preserved
loop-rest-preserved c =
    let lines = c.loop-rest.lines.items in
    let line = c.in-Ok.line in
    let more = c.in-Ok.more.now in
    let seen : c.deref.result.now ≡ lines = search rules in
    let added : c.add.new.lines.items ≡ lines ++ line ∷ [] = search rules in
    let next = subst (λ b. Follows b line) seen c.in-Ok.ensures.ok.0 in
    record {
      follow = subst (AllFollow []) (sym added) (follow_more [] lines line c.loop-rest.invariant.follow next);
      text = c.loop-rest.invariant.text ∙ ap (λ t. listing_text lines ++ t) c.in-Ok.ensures.ok.1 ∙ sym (append_assoc (listing_text lines) (line_text line) more) ∙ ap (λ t. t ++ more) (sym (text_more lines line)) ∙ ap (λ ls. listing_text ls ++ more) (sym added);
      directories = c.in_ok-add-in-Ok.ensures.directories;
    }
