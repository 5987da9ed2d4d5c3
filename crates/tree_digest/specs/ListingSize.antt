-- How much of a listing's file is read.
use Rattle.std.specs.Prelude.{ℕ}

-- one byte more than a listing may have, so that a longer one is told from the longest
abbrev pub most_of_tree : ℕ
most_of_tree = 33554433
