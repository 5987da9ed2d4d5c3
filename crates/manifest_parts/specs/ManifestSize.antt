-- How much of a manifest's file is read.
use Rattle.std.specs.Prelude.{ℕ}

-- one byte more than a manifest may have, so that a longer one is told from the longest
abbrev pub most_of_manifest : ℕ
most_of_manifest = 1048577
