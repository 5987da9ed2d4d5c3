-- Image IDs and store keys: the bytes of a text, and the text of bytes.
use Rattle.std.specs.Prelude.{◌≡◌, ◌⊎◌, ℕ, List, ◌++◌, take, drop, length, Option, Some, None, Result, Ok, Err, codes, if◌then◌else◌}
use Rattle.std.specs.Option.{option_or}
use Rattle.std.specs.Str.{bytes_eq}
use Rattle.hex.specs.Hex.{decode_sized, encode_lower, IsBytes}
use Rattle.hex.specs.declared.error.FromHexError.{FromHexError}

-- the text of some bytes: `sha512-`, and two lower-case hex digits for each
unfoldable pub id_text : List ℕ → List ℕ
id_text bytes = codes "sha512-" ++ encode_lower bytes

-- n numbers below 256
abbrev pub AreBytes : ℕ → List ℕ → Type 0
AreBytes n bytes = (length bytes ≡ n) × IsBytes bytes

-- the bytes that were decoded, where these are their lower-case digits
abbrev pub written_as : List ℕ → Result (List ℕ) FromHexError → Option (List ℕ)
written_as digits (Ok bytes) = if bytes_eq digits (encode_lower bytes) then Some bytes else None
written_as digits (Err e) = None

-- the n bytes whose lower-case hex digits these are
abbrev pub hex_read : ℕ → List ℕ → Option (List ℕ)
hex_read n digits = written_as digits (decode_sized digits n)

-- the n bytes whose text this is
unfoldable pub id_read : ℕ → List ℕ → Option (List ℕ)
id_read n text = if bytes_eq (take 7 text) (codes "sha512-") then hex_read n (drop 7 text) else None

-- the first half of the digits
abbrev pub half : Option (List ℕ) → Option (List ℕ)
half None = None
half (Some bytes) = Some (take 32 bytes)

-- the 32 bytes of a store key: those of 64 digits, or the first half of an image ID's 128
unfoldable pub key_read : List ℕ → Option (List ℕ)
key_read text = option_or (half (id_read 64 text)) (id_read 32 text)

-- the text is that of a key: of its bytes alone, or with as many more behind them
abbrev pub IsKeyText : List ℕ → List ℕ → Type 0
IsKeyText key text = (text ≡ id_text key) ⊎ ((more : List ℕ) × AreBytes 32 more × (text ≡ id_text (key ++ more)))
