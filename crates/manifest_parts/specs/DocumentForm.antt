-- A document: a JSON object in UTF-8, of a limited length.
use Rattle.std.specs.Prelude.{ℕ, Bool, true, false, nat_le, List, length, Option, Some, None, codes, if◌then◌else◌}
use Rattle.std.specs.Str.{is_utf8}
use Rattle.serde_json.specs.Data.{Data}
use Rattle.serde_json.specs.Read.{read}
use Rattle.ac_types.specs.FieldForms.{an_object}
use Rattle.ac_types.specs.Outcomes.{Outcome, reads, fails, ◌>>=◌}
use Rattle.ac_types.specs.declared.fault.FaultKind.TheVariants.{TooLong, NotJson}

-- the value of the JSON that some bytes are, where they are UTF-8
unfoldable pub json_of : List ℕ → Option Data
json_of bytes = if is_utf8 bytes then read bytes else None

abbrev pub known_json : Option Data → Outcome Data
known_json None = fails (codes "$") NotJson
known_json (Some d) = reads d

-- at most 1,048,576 bytes
abbrev pub if_short : Bool → List ℕ → Outcome (List ℕ)
if_short true bytes = reads bytes
if_short false bytes = fails (codes "$") TooLong

unfoldable pub document : List ℕ → Outcome Data
document bytes =
    if_short (nat_le (length bytes) 1048576) bytes >>= λ text.
    known_json (json_of text) >>= λ d.
    an_object (codes "$") d
