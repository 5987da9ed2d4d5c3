use Rattle.std.proofs.Common.{◌≡◌, [], drop}
use Rattle.dir_state.specs.Answers.{inserted_in_order}
use Rattle.dir_state.proofs.listings.names_in_order.Given as goal

abbrev pub invariant-names : goal.invariant-names
invariant-names l = inserted_in_order l.ordered.keys (drop l.name-index l.names) ≡ inserted_in_order [] l.names
