-- The targets of links.
use Rattle.std.specs.Prelude.{◌≡◌, ℕ, List, Option, Some, None}
use Rattle.tree_digest.specs.Fields.{IsTarget}

-- the target that some bytes are; none where they are no target
abbrev pub IsTargetOf : List ℕ → Option (List ℕ) → Type 0
IsTargetOf bytes None = ¬ IsTarget bytes
IsTargetOf bytes (Some target) = IsTarget bytes × (target ≡ bytes)

-- a target, if there is one
abbrev pub IsSound : Option (List ℕ) → Type 0
IsSound None = Unit {0}
IsSound (Some target) = IsTarget target
