use Rattle.std.proofs.Common.{◌∙◌, sym, subst}
use Rattle.std.specs.Ordering.{nat_cmp}
use Rattle.std.specs.Cmp.Lexicographic.{slice_cmp}
use Rattle.std.specs.List.Sorted.{IsStrictlySortedBy}
use Rattle.host_files.proofs.Shown.{folders_ordered}
use Rattle.host_files.proofs.listings.shown_folders.Goals as goal

pub returns-in-Ok-clause-ordered : goal.returns-in-Ok-clause-ordered
returns-in-Ok-clause-ordered c = subst (λ ns. IsStrictlySortedBy (slice_cmp nat_cmp) ns) (sym (c.from_vec.ensures ∙ c.in-Ok.ensures)) (folders_ordered c.args.listing.now c.requires)
