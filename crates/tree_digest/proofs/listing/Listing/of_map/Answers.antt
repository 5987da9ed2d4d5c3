use Rattle.std.proofs.Common.{◌≡◌, [], get_or, subst, sym, rules}
use Rattle.tree_digest.specs.Listings.{AllFollow}
use Rattle.tree_digest.proofs.ListingTexts.{valid_at, mode_fits}
use Rattle.tree_digest.proofs.listing.Listing.of_map.Goals as goal

pub text_fits-requires : goal.text_fits-requires
text_fits-requires c = λ k d inside.
    let seen : c.deref.result.now ≡ c.in_ok-lines.lines.items = search rules in
    let all = subst (AllFollow []) (sym seen) c.in_ok-lines.ensures.follow in
    mode_fits (get_or c.deref.result.now k d).entry (valid_at [] c.deref.result.now k d all inside).entry
