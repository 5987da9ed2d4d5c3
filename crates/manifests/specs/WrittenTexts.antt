-- The bytes of a manifest, and when they are read again.
use Rattle.std.specs.Prelude.{◌≡◌, ◌≤◌, ℕ, false, List, length, Some, IsUtf8}
use Rattle.serde_json.specs.Data.{Data, depth}
use Rattle.serde_json.specs.Read.{read}
use Rattle.serde_json.specs.Written.{has_float, compact_text}

-- the bytes are the JSON without spaces, where each of its numbers is whole
abbrev pub IsCompactText : Data → List ℕ → Type 0
IsCompactText d bytes = has_float d ≡ false → bytes ≡ compact_text d

-- the text of a JSON value, in UTF-8: the value is read from it again, where it is nested 127 deep at most
pub record IsTextOf (d : Data) (bytes : List ℕ) : Type 0 where
  pub compact : IsCompactText d bytes
  pub utf8 : IsUtf8 bytes
  pub back : depth d ≤ 127 → read bytes ≡ Some d

-- a document may have 1,048,576 bytes and be nested 127 deep
pub record KeepsLimits (d : Data) (bytes : List ℕ) : Type 0 where
  pub short : length bytes ≤ 1048576
  pub flat : depth d ≤ 127
