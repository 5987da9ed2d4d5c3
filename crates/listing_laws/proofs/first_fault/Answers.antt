use Rattle.std.proofs.Common.{subst}
use Rattle.tree_digest.specs.Listings.{Fails}
use Rattle.listing_laws.proofs.Faults.{a_listing_has_no_fault}
use Rattle.listing_laws.proofs.OneFault.{one_first_fault}
use Rattle.listing_laws.proofs.first_fault.Goals as goal

pub returns-clause-once : goal.returns-clause-once
returns-clause-once c = λ error other first second. one_first_fault c.args.text.now error other first second

pub returns-clause-never : goal.returns-clause-never
returns-clause-never c = λ lines error listing is fails. a_listing_has_no_fault lines error listing (subst (λ t. Fails t error) is fails)
