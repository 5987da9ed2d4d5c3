use Rattle.std.proofs.Common.{◌≡◌, ◌++◌, ◌∷◌, ◌+◌, [], length, take, sym, ap, ◌∙◌, arith, length-append}
use Rattle.std.proofs.lemmas.List.{take_more}
use Rattle.tree_digest.specs.Lines.{line_text}
use Rattle.tree_digest.specs.Listings.{listing_text}
use Rattle.tree_digest.proofs.ListingTexts.{text_more}
use Rattle.tree_digest.proofs.MapFollow.{text_prefix}
use Rattle.tree_digest.proofs.maps.text_fits.Goals as goal

pub returns-then-bytes-total : goal.returns-then-bytes-total
returns-then-bytes-total c =
    let lines = c.args.lines.now in
    let i = c.loop-line.line-index in
    let line = c.line-item.result in
    let next : take (i + 1) lines ≡ take i lines ++ line ∷ [] = take_more lines i line c.loop-line-test.true ∙ ap (λ l. take i lines ++ l ∷ []) (sym c.line-item.is) in
    let grown = ap (λ ls. length (listing_text ls)) next ∙ ap length (text_more (take i lines) line) in
    (λ bad. cc, λ small. absurd (omega (arith, grown, c.in_ok-bytes.ensures, text_prefix lines (i + 1), length-append (listing_text (take i lines)) (line_text line), c.loop-line.invariant.total, c.loop-line.invariant.small, c.if-bytes-total.true)))
