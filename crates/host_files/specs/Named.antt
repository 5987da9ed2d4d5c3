-- The path that the user named, and what lies behind it.
use Rattle.std.specs.Prelude.{ℕ, ◌+◌, cond, bytes_eq, List, length}
use Rattle.dir_model.specs.Paths.{lies_below}

-- from which byte on each name of the way to a path is looked at
abbrev pub way_start : List ℕ → List ℕ → ℕ
way_start path named = cond (bytes_eq path named) (length path) (cond (lies_below path named) (length named + 1) 1)
