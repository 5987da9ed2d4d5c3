use Rattle.std.proofs.Common.{◌∙◌}
use Rattle.host_files.proofs.Shown.{none_ordered}
use Rattle.host_files.proofs.listings.list_none.Goals as goal

pub returns-clause-ordered : goal.returns-clause-ordered
returns-clause-ordered g c = none_ordered c.from_vec.result (c.from_vec.ensures ∙ c.new.ensures.items)
