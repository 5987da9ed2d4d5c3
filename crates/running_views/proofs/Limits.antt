-- What fits the room that a file is read in is the whole file.
use Rattle.std.proofs.Common.{arith, ◌≡◌, ℕ, Bool, true, false, nat_le, Some, None, Result, Ok, Err, List, take, drop, length, length-take, codes, refl, sym, ap, ◌∙◌}
use Rattle.std.specs.Prelude.{if◌then◌else◌}
use Rattle.std.specs.Str.{bytes_eq}
use Rattle.std.proofs.lemmas.Slice.Eq.{bytes_eq-Decides}
use Rattle.plain_laws.proofs.Fronts.{taken_past, take_short, take_long}
use Rattle.hex.specs.Hex.{decode_sized, encode_lower, lower_digits}
use Rattle.hex.specs.declared.error.FromHexError.{FromHexError}
use Rattle.hex.proofs.HexLemmas.{decode_sized-ok, length-encode_with}
use Rattle.ac_types.specs.declared.fault.FaultKind.TheVariants.{TooLong}
use Rattle.ac_types.specs.Ids.{written_as, hex_read}
use Rattle.ac_types.specs.Outcomes.{reads, fails}
use Rattle.manifest_laws.proofs.Heads.{document_too_long}
use Rattle.metadata_request.specs.declared.request.Request.{Request}
use Rattle.metadata_reply.specs.Targets.{token_of}
use Rattle.metadata_reply.specs.Views.{HasReading}
use Rattle.metadata.specs.Serving.{sought}

-- ---- the manifest of an image

-- what has a reading isn't longer than a manifest may be
read_within : (bytes : List ℕ) → HasReading bytes → nat_le (length bytes) 1048576 ≡ true
read_within bytes read = by (nat_le (length bytes) 1048576) refl
  where
    by : (b : Bool) → nat_le (length bytes) 1048576 ≡ b → b ≡ true
    by true is = refl
    by false is = let clash : reads read.0 ≡ fails (codes "$") TooLong = sym read.1 ∙ document_too_long bytes is in cc

pub short_image : (bytes : List ℕ) → HasReading bytes → take 1048577 bytes ≡ bytes
short_image bytes read = take_short 1048576 bytes (read_within bytes read)

pub whole_image : (file : List ℕ) → HasReading (take 1048577 file) → take 1048577 file ≡ file
whole_image file read = by (nat_le (length file) 1048576) refl
  where
    by : (b : Bool) → nat_le (length file) 1048576 ≡ b → take 1048577 file ≡ file
    by true short = take_short 1048576 file short
    by false long = let clash : true ≡ false = sym (read_within (take 1048577 file) read) ∙ take_long 1048576 file long in cc

-- ---- a token

pub digits_length : (token : List ℕ) → length token ≡ 16 → length (encode_lower token) ≡ 32
digits_length token long = let e = length-encode_with lower_digits token in omega (arith, e, long)

pub short_token : (file digits : List ℕ) → length digits ≡ 32 → file ≡ digits → take 33 file ≡ digits
short_token file digits long is = let e : length file ≡ length digits = ap length is in taken_past 33 file (omega (arith, e, long)) ∙ is

pub whole_token : (file digits : List ℕ) → length digits ≡ 32 → take 33 file ≡ digits → file ≡ digits
whole_token file digits long is =
    let e : length (take 33 file) ≡ length digits = ap length is in
    let m = length-take 33 file in
    sym (taken_past 33 file (omega (arith, e, m, long))) ∙ is

-- the token that is read of 32 digits has 16 bytes
decoded : (digits bytes : List ℕ) (r : Result (List ℕ) FromHexError) → decode_sized digits 16 ≡ r → written_as digits r ≡ Some bytes → length bytes ≡ 16
decoded digits bytes (Ok b) d h = by (bytes_eq digits (encode_lower b)) refl h
  where
    by : (t : Bool) → bytes_eq digits (encode_lower b) ≡ t → (if t then Some b else None) ≡ Some bytes → length bytes ≡ 16
    by true e k =
        let same : b ≡ bytes = cc in
        let twice = decode_sized-ok digits 16 b d in
        let text : length digits ≡ length (encode_lower b) = ap length ((bytes_eq-Decides digits (encode_lower b)).0 e) in
        let len = length-encode_with lower_digits b in
        let last : length b ≡ length bytes = ap length same in
        omega (arith, twice, text, len, last)
    by false e k = cc
decoded digits bytes (Err e) d h = cc

target_token : (target token : List ℕ) → token_of target ≡ Some token → length token ≡ 16
unfolding token_of
target_token target token h = by (bytes_eq (take 1 target) (codes "/")) h
  where
    by : (t : Bool) → (if t then hex_read 16 (take 32 (drop 1 target)) else None) ≡ Some token → length token ≡ 16
    by true k = decoded (take 32 (drop 1 target)) token (decode_sized (take 32 (drop 1 target)) 16) refl k
    by false k = cc

pub sought_token : (request : Request) (token : List ℕ) → sought request ≡ Some token → length token ≡ 16
sought_token request token h = by request.flavor h
  where
    by : (f : Bool) → (if f then token_of request.target else None) ≡ Some token → length token ≡ 16
    by true k = target_token request.target token k
    by false k = cc
