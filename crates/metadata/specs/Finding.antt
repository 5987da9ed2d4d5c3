-- What is told of the pods of some names, one after the other.
use Rattle.std.specs.Prelude.{ℕ, List, Option, Some, None}
use Rattle.std.specs.List.{AllByRecursion}
use Rattle.dir_model.specs.declared.pod.PodId.{PodId}
use Rattle.dir_trait.specs.DirCalls.{DirAt}
use Rattle.metadata_reply.specs.Views.{ViewData}
use Rattle.metadata.specs.PodViews.{IsViewOf, TellsNamed}

-- none of them is a pod with a view for these digits
abbrev pub NoneOf : List (List ℕ) → List ℕ → DirAt → DirAt → Type 0
NoneOf names digits old new = AllByRecursion (λ name. TellsNamed name digits None old new) names

abbrev pub TellsAll : List (List ℕ) → List ℕ → Option ViewData → DirAt → DirAt → Type 0
TellsAll names digits None old new = NoneOf names digits old new
TellsAll names digits (Some v) old new = (pod : PodId) × IsViewOf pod digits v old new
