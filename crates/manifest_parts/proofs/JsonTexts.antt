-- The JSON that some bytes are, where they are UTF-8.
use Rattle.std.proofs.Common.{◌≡◌, ℕ, Bool, true, false, List, Some, None, refl}
use Rattle.std.specs.Prelude.{if◌then◌else◌}
use Rattle.std.specs.Str.{IsUtf8, is_utf8}
use Rattle.std.proofs.lemmas.Str.{IsUtf8-from_is_utf8, is_utf8-from_IsUtf8}
use Rattle.serde_json.specs.Data.{Data}
use Rattle.serde_json.specs.Read.{read}
use Rattle.manifest_parts.specs.DocumentForm.{json_of}

pub json_read : (bytes : List ℕ) (d : Data) → IsUtf8 bytes → read bytes ≡ Some d → json_of bytes ≡ Some d
unfolding json_of
json_read bytes d utf8 is = rw (is_utf8-from_IsUtf8 bytes utf8) is

pub json_refused : (bytes : List ℕ) → (IsUtf8 bytes → read bytes ≡ None) → json_of bytes ≡ None
unfolding json_of
json_refused bytes none = by_text (is_utf8 bytes) refl
  where
    by_text : (b : Bool) → is_utf8 bytes ≡ b → (if b then read bytes else None) ≡ None
    by_text true is = none (IsUtf8-from_is_utf8 bytes is)
    by_text false is = refl
