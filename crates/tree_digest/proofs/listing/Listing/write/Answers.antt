use Rattle.std.proofs.Common.{subst, sym, []}
use Rattle.tree_digest.specs.Lines.{IsLine}
use Rattle.tree_digest.specs.Listings.{AllFollow}
use Rattle.tree_digest.proofs.ListingTexts.{valid_at, mode_fits}
use Rattle.tree_digest.proofs.listing.Listing.write.Goals as goal

pub write_line-requires : goal.write_line-requires
write_line-requires c =
    let lines = c.as_slice-lines.result.now in
    let all = subst (λ ls. AllFollow [] ls) (sym c.as_slice-lines.ensures.lines) c.as_slice-lines.ensures.kind.follow in
    let valid = valid_at [] lines c.loop-line.line-index c.line-item.result all c.loop-line-test.true in
    mode_fits c.line-item.result.entry (subst IsLine (sym c.line-item.is) valid).entry
