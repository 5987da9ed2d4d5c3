use Rattle.std.proofs.Common.{length, count_by, ◌==◌, ap, ◌∙◌, arith}
use Rattle.tree_digest.proofs.ListingTexts.{lines_counted}
use Rattle.tree_digest.proofs.listing.Listing.read.Goals as goal

pub new-requires : goal.new-requires
new-requires c =
    let text = c.in-Ok.ensures.ok.1 in
    let counted = ap (count_by (λ b. b == 10)) text ∙ lines_counted c.in-Ok.lines.items in
    record {
      follow = c.in-Ok.ensures.ok.0;
      count = omega (arith, counted, c.in_default.ensures.0);
      size = omega (arith, ap length text, c.in_default.ensures.1);
    }
