-- The text of some bytes is the text of no others.
use Rattle.std.proofs.Common.{◌≡◌, ◌≢◌, ◌⊎◌, ℕ, ◌+◌, ◌-◌, ◌≤◌, Bool, true, false, List, ◌++◌, take, drop, length, Some, None, Result, Ok, Err, codes, refl, sym, ◌∙◌, ap, subst, inl, inr, arith, get_or, ◌<◌}
use Rattle.std.specs.Prelude.{if◌then◌else◌}
use Rattle.std.specs.Str.{bytes_eq}
use Rattle.std.proofs.lemmas.Slice.Eq.{bytes_eq-Decides}
use Rattle.std.proofs.Math.ListN.{get_or-append}
use Rattle.std.proofs.Math.Seq.{get_or-append_right}
use Rattle.std.proofs.lemmas.Bool.{cases_lt}
use Rattle.std.proofs.lemmas.List.{take-append-drop, length-drop, get_or-drop, length-append}
use Rattle.hex.specs.Hex.{decode_sized, encode_lower}
use Rattle.hex.specs.declared.error.FromHexError.{FromHexError}
use Rattle.hex.proofs.HexLemmas.{decode_sized-encode_lower, decode_sized-ok, decode_sized-twice, decode_of-ok}
use Rattle.ac_types.specs.Ids.{id_text, AreBytes, written_as, hex_read, id_read, key_read, IsKeyText}

-- what was read is written so
exact : (digits bytes : List ℕ) (r : Result (List ℕ) FromHexError) → written_as digits r ≡ Some bytes → digits ≡ encode_lower bytes
exact digits bytes (Ok b) h = by_test (bytes_eq digits (encode_lower b)) refl h
  where
    by_test : (t : Bool) → bytes_eq digits (encode_lower b) ≡ t → (if t then Some b else None) ≡ Some bytes → digits ≡ encode_lower bytes
    by_test true e k = (bytes_eq-Decides digits (encode_lower b)).0 e ∙ ap encode_lower (cc)
    by_test false e k = cc
exact digits bytes (Err e) h = cc

pub read_text : (n : ℕ) (text bytes : List ℕ) → id_read n text ≡ Some bytes → text ≡ id_text bytes
unfolding id_read id_text
read_text n text bytes h = by_test (bytes_eq (take 7 text) (codes "sha512-")) refl h
  where
    by_test : (t : Bool) → bytes_eq (take 7 text) (codes "sha512-") ≡ t
        → (if t then hex_read n (drop 7 text) else None) ≡ Some bytes → text ≡ id_text bytes
    by_test true e k =
        sym (take-append-drop 7 text)
        ∙ ap (λ (f : List ℕ). f ++ drop 7 text) ((bytes_eq-Decides (take 7 text) (codes "sha512-")).0 e)
        ∙ ap (λ (r : List ℕ). codes "sha512-" ++ r) (exact (drop 7 text) bytes (decode_sized (drop 7 text) n) k)
    by_test false e k = cc

-- and what is written so is read
pub text_read : (n : ℕ) (bytes : List ℕ) → AreBytes n bytes → id_read n (id_text bytes) ≡ Some bytes
unfolding id_read id_text
text_read n bytes are =
    let same : bytes_eq (encode_lower bytes) (encode_lower bytes) ≡ true =
    (bytes_eq-Decides (encode_lower bytes) (encode_lower bytes)).1 refl in
    rw (decode_sized-encode_lower bytes n are.0 are.1, same) refl

pub no_text : (n : ℕ) (text : List ℕ) → id_read n text ≡ None → (bytes : List ℕ) → AreBytes n bytes → text ≢ id_text bytes
no_text n text h bytes are e =
    let read : id_read n text ≡ Some bytes = ap (id_read n) e ∙ text_read n bytes are in cc

-- what was read are bytes
bytes_of : (n : ℕ) (digits bytes : List ℕ) (r : Result (List ℕ) FromHexError) → decode_sized digits n ≡ r
    → written_as digits r ≡ Some bytes → AreBytes n bytes
bytes_of n digits bytes (Ok b) d h = by_test (bytes_eq digits (encode_lower b)) refl h
  where
    by_test : (t : Bool) → bytes_eq digits (encode_lower b) ≡ t → (if t then Some b else None) ≡ Some bytes → AreBytes n bytes
    by_test true e k =
        let same : b ≡ bytes = cc in
        let long = decode_sized-ok digits n b d in
        let whole = decode_of-ok digits b (sym (decode_sized-twice digits n long) ∙ d) in
        let len : length b ≡ n = omega (arith, long, whole.2) in
        let P : List ℕ → Type 0 = λ x. AreBytes n x in
        subst P same (len, whole.3)
    by_test false e k = cc
bytes_of n digits bytes (Err e) d h = cc

pub read_are : (n : ℕ) (text bytes : List ℕ) → id_read n text ≡ Some bytes → AreBytes n bytes
unfolding id_read
read_are n text bytes h = by_test (bytes_eq (take 7 text) (codes "sha512-")) h
  where
    by_test : (t : Bool) → (if t then hex_read n (drop 7 text) else None) ≡ Some bytes → AreBytes n bytes
    by_test true k = bytes_of n (drop 7 text) bytes (decode_sized (drop 7 text) n) refl k
    by_test false k = cc

-- a text of 64 digits, and one of 128
pub short_key : (text key : List ℕ) → id_read 32 text ≡ Some key → IsKeyText key text
short_key text key h = inl (read_text 32 text key h)

pub long_key : (text id : List ℕ) → id_read 64 text ≡ Some id → IsKeyText (take 32 id) text
long_key text id h =
    let are = read_are 64 text id h in
    let is : take 32 id ++ drop 32 id ≡ id = take-append-drop 32 id in
    let len : length (drop 32 id) ≡ 32 = omega (arith, length-drop 32 id, are.0) in
    inr (drop 32 id, (len, λ k. rw (get_or-drop 32 id k 0) (are.1 (32 + k))), read_text 64 text id h ∙ ap id_text (sym is))

pub no_key : (text : List ℕ) → id_read 64 text ≡ None → id_read 32 text ≡ None
    → (key : List ℕ) → AreBytes 32 key → IsKeyText key text → ⊥
no_key text long short key are (inl is) = no_text 32 text short key are is
no_key text long short key are (inr (more, m, is)) =
    no_text 64 text long (key ++ more) (len, small) is
  where
    len : length (key ++ more) ≡ 64
    len = omega (arith, length-append key more, are.0, m.0)

    small : (k : ℕ) → get_or (key ++ more) k 0 < 256
    small k = by_side k (cases_lt k (length key))
      where
        by_side : (k : ℕ) → (k < length key) ⊎ (length key ≤ k) → get_or (key ++ more) k 0 < 256
        by_side k (inl lt) = rw (get_or-append key more 0 k lt) (are.1 k)
        by_side k (inr le) = rw (get_or-append_right key more k 0 le) (m.1 (k - length key))

-- the key that is read, by which of the two lengths was read
pub key_of_id : (text id : List ℕ) → id_read 64 text ≡ Some id → key_read text ≡ Some (take 32 id)
unfolding key_read
key_of_id text id h = rw h refl

pub key_alone : (text key : List ℕ) → id_read 64 text ≡ None → id_read 32 text ≡ Some key → key_read text ≡ Some key
unfolding key_read
key_alone text key long short = rw (long, short) refl

pub key_none : (text : List ℕ) → id_read 64 text ≡ None → id_read 32 text ≡ None → key_read text ≡ None
unfolding key_read
key_none text long short = rw (long, short) refl
