-- The bytes that may stand between the words of each kind of name.
use Rattle.std.specs.Prelude.{ℕ, Bool}
use Rattle.ac_types.specs.Names.{is_hyphen, is_separator}
use Rattle.ac_types.specs.declared.word_scan.Separators.{Separators}
use Rattle.ac_types.specs.declared.word_scan.Separators.TheVariants.{Hyphen, Any}

-- names have hyphens, identifiers any separator
abbrev pub separates : Separators → ℕ → Bool
separates Hyphen b = is_hyphen b
separates Any b = is_separator b
