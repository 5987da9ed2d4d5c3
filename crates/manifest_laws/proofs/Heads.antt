-- The manifest of an image, of which one byte more is read than there may be.
use Rattle.std.proofs.Common.{◌≡◌, nat_le, ℕ, Bool, true, false, codes, List, ◌++◌, length, take, refl, sym, ap, ◌∙◌}
use Rattle.std.specs.Prelude.{IsUtf8}
use Rattle.std.proofs.lemmas.Str.{IsUtf8-from_ascii, IsAscii-append}
use Rattle.hex.specs.Hex.{encode_with, lower_digits}
use Rattle.hex.proofs.HexLemmas.{IsAscii-encode_with}
use Rattle.plain_laws.proofs.Fronts.{take_short, take_long}
use Rattle.plain_laws.proofs.Texts.{ascii_from}
use Rattle.ac_types.specs.declared.fault.FaultKind.TheVariants.{TooLong}
use Rattle.ac_types.specs.Ids.{id_text}
use Rattle.ac_types.specs.Outcomes.{reads, fails}
use Rattle.manifest_parts.specs.DocumentForm.{document}
use Rattle.manifests.specs.ImageData.{ImageData}
use Rattle.manifests.specs.ImageForm.{image_manifest}

pub document_too_long : (bytes : List ℕ) → nat_le (length bytes) 1048576 ≡ false → image_manifest bytes ≡ fails (codes "$") TooLong
unfolding image_manifest document
document_too_long bytes long = rw long

pub manifest_so : (bytes : List ℕ) → image_manifest (take 1048577 bytes) ≡ image_manifest bytes
manifest_so bytes = by (nat_le (length bytes) 1048576) refl
  where
    by : (short : Bool) → nat_le (length bytes) 1048576 ≡ short → image_manifest (take 1048577 bytes) ≡ image_manifest bytes
    by true short = ap image_manifest (take_short 1048576 bytes short)
    by false long = document_too_long (take 1048577 bytes) (take_long 1048576 bytes long) ∙ sym (document_too_long bytes long)

pub manifest_whole : (bytes : List ℕ) (read : ImageData) → image_manifest (take 1048577 bytes) ≡ reads read → take 1048577 bytes ≡ bytes
manifest_whole bytes read is = by (nat_le (length bytes) 1048576) refl
  where
    by : (short : Bool) → nat_le (length bytes) 1048576 ≡ short → take 1048577 bytes ≡ bytes
    by true short = take_short 1048576 bytes short
    by false long =
        let bad : reads read ≡ fails (codes "$") TooLong = sym is ∙ document_too_long (take 1048577 bytes) (take_long 1048576 bytes long) in
        cc

-- an image's id is a text
pub id_utf8 : (id : List ℕ) → IsUtf8 (id_text id)
unfolding id_text
id_utf8 id =
    IsUtf8-from_ascii (codes "sha512-" ++ encode_with lower_digits id)
    (IsAscii-append (codes "sha512-") (encode_with lower_digits id) (ascii_from (codes "sha512-") refl) (IsAscii-encode_with lower_digits id (ascii_from lower_digits refl)))
