use Rattle.std.proofs.Common.{◌≡◌, Ok, Err, sym, ap, ⊎_elim, ◌∙◌, rules, subst}
use Rattle.tree_digest.specs.Listings.{listing_text, Fails}
use Rattle.listing_laws.proofs.OneText.{no_two_listings_have_one_text}
use Rattle.listing_laws.proofs.Faults.{a_listing_has_no_fault}
use Rattle.listing_laws.proofs.read_again.Goals as goal

pub returns-in-Ok : goal.returns-in-Ok
returns-in-Ok c =
    let written : c.deref.result.now ≡ listing_text c.args.listing.now = search rules in
    no_two_listings_have_one_text c.in-Ok.read c.args.listing.now c.in-Ok.ensures.kind.follow c.as_slice-lines.ensures.kind.follow
    (sym c.in-Ok.ensures.ok ∙ written)

pub unreachable-requires : goal.unreachable-requires
unreachable-requires c =
    let written : c.deref.result.now ≡ listing_text c.args.listing.now = search rules in
    ⊎_elim
    (λ memory. c.in_default.not-NoMemory memory)
    (λ fails. a_listing_has_no_fault c.args.listing.now c.in-Err.error c.as_slice-lines.ensures.kind (subst (λ t. Fails t c.in-Err.error) written fails))
    c.in-Err.ensures.fault
