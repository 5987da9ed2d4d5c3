use Rattle.std.proofs.Common.{◌≡◌, [], drop}
use Rattle.dir_model.specs.Listings.{item_names}
use Rattle.dir_state.specs.Answers.{inserted_in_order}
use Rattle.dir_state.proofs.listings.file_names_in_order.Given as goal

abbrev pub invariant-items : goal.invariant-items
invariant-items l = inserted_in_order l.ordered.keys (item_names (drop l.item-index l.items)) ≡ inserted_in_order [] (item_names l.items)
