use Rattle.listing_laws.proofs.Prefixes.{an_ended_beginning_is_a_listing, another_beginning_has_a_bad_last_line}
use Rattle.listing_laws.proofs.beginnings.Goals as goal

pub returns-clause-ended : goal.returns-clause-ended
returns-clause-ended c = λ front back is ended. an_ended_beginning_is_a_listing c.args.listing.now front back c.as_slice-lines.ensures.kind is ended

pub returns-clause-broken : goal.returns-clause-broken
returns-clause-broken c = λ front back is unended. another_beginning_has_a_bad_last_line c.args.listing.now front back c.as_slice-lines.ensures.kind is unended
