-- What the steps of the choice of an image answer.
use Rattle.std.specs.Prelude.{ℕ, Bool, true, List, Option, Some, None, slice_index_or}
use Rattle.dep_match.specs.declared.stored.Stored.{Stored}
use Rattle.dep_match.specs.declared.wanted.Wanted.{Wanted}
use Rattle.dep_match.specs.declared.wanted.Wanted.TheVariants.{Reference, Dependent}
use Rattle.dep_match.specs.Selection.{matches, matches_dependency, outranks}

-- an image outranks the one at a place, where a place is given
abbrev pub outranks_place : List Stored → Option ℕ → Stored → Bool
outranks_place images None image = true
outranks_place images (Some place) image = outranks image (slice_index_or images place image)

-- what is looked for, of either kind
abbrev pub accepts : Wanted → Stored → Bool
accepts (Reference r) = matches r.now
accepts (Dependent d) = matches_dependency d.now
