-- The names of the folders of images, and of their files.
use Rattle.std.proofs.Common.{arith, ◌≡◌, ◌<◌, ◌≤◌, ◌+◌, ◌*◌, ◌/◌, ◌%◌, ℕ, suc, true, ◌&&◌, Option, Some, None, List, [], ◌∷◌, ◌++◌, length, slice_index, codes, refl, sym, ap, ◌∙◌, length-append}
use Rattle.std.specs.List.{list_all}
use Rattle.std.specs.Prelude.{nat_lt}
use Rattle.std.specs.Str.{is_utf8}
use Rattle.std.proofs.lemmas.Str.{IsUtf8-from_ascii, is_utf8-from_IsUtf8}
use Rattle.std.proofs.lemmas.List.Sums.{AllPass-from_list_all}
use Rattle.std.proofs.lemmas.List.Folds.{list_all-append}
use Rattle.plain_laws.proofs.Texts.{ascii_from}
use Rattle.hex.specs.Hex.{IsBytes, encode_with, lower_digits}
use Rattle.hex.proofs.HexLemmas.{length-encode_with}
use Rattle.ac_types.specs.declared.store_key.StoreKey.{StoreKey}
use Rattle.ac_types.specs.Ids.{AreBytes, id_text, id_read, key_read}
use Rattle.ac_types.proofs.IdTexts.{read_text, read_are}
use Rattle.dir_model.specs.Names.{is_name_byte, IsName}
use Rattle.dir_model.specs.Paths.{is_path}
use Rattle.dir_model.proofs.Lists.{and_both}
use Rattle.image_reading.specs.Places.{manifest_name, id_name, tree_name, some_key, key_of_name}

digit_name : (i : ℕ) → i < 16 → is_name_byte (slice_index lower_digits i) ≡ true
digit_name i small = AllPass-from_list_all is_name_byte lower_digits refl i 0 small

digits_name : (bytes : List ℕ) → IsBytes bytes → list_all is_name_byte (encode_with lower_digits bytes) ≡ true
unfolding encode_with
digits_name [] small = refl
digits_name (b ∷ rest) small =
    let high : b / 16 < 16 = let s : b < 256 = small 0 in omega arith in
    let low : b % 16 < 16 = omega arith in
    and_both (is_name_byte (slice_index lower_digits (b / 16))) (is_name_byte (slice_index lower_digits (b % 16)) && list_all is_name_byte (encode_with lower_digits rest)) (digit_name (b / 16) high)
    (and_both (is_name_byte (slice_index lower_digits (b % 16))) (list_all is_name_byte (encode_with lower_digits rest)) (digit_name (b % 16) low) (digits_name rest (λ k. small (suc k))))

pub text_length : (n : ℕ) (bytes : List ℕ) → AreBytes n bytes → length (id_text bytes) ≡ 7 + 2 * n
unfolding id_text
text_length n bytes are = omega (arith, length-append (codes "sha512-") (encode_with lower_digits bytes), length-encode_with lower_digits bytes, are.0)

-- a key's text is a name
pub key_is_name : (bytes : List ℕ) → AreBytes 32 bytes → IsName (id_text bytes)
unfolding id_text
key_is_name bytes are =
    let long = text_length 32 bytes are in
    let all : list_all is_name_byte (codes "sha512-" ++ encode_with lower_digits bytes) ≡ true = list_all-append is_name_byte (codes "sha512-") (encode_with lower_digits bytes) ∙ digits_name bytes are.1 in
    (omega (arith, long), omega (arith, long), AllPass-from_list_all is_name_byte (codes "sha512-" ++ encode_with lower_digits bytes) all)

-- a name is no ID's text, which is too long
no_id : (name : List ℕ) → length name ≤ 71 → id_read 64 name ≡ None
no_id name short = by (id_read 64 name) refl
  where
    by : (o : Option (List ℕ)) → id_read 64 name ≡ o → o ≡ None
    by None is = refl
    by (Some bytes) is = absurd (omega (arith, short, ap length (read_text 64 name bytes is), text_length 64 bytes (read_are 64 name bytes is)))

read_alone : (name : List ℕ) → length name ≤ 71 → key_read name ≡ id_read 32 name
unfolding key_read
read_alone name short = rw (no_id name short) refl

pub name_key : (name : List ℕ) (key : StoreKey) → length name ≤ 71 → key_read name ≡ Some key.bytes → Some key ≡ key_of_name name
name_key name key short is = ap some_key (sym is ∙ read_alone name short)

pub name_no_key : (name : List ℕ) → length name ≤ 71 → key_read name ≡ None → None ≡ key_of_name name
name_no_key name short is = ap some_key (sym is ∙ read_alone name short)

ascii_utf8 : (bytes : List ℕ) → list_all (λ b. nat_lt b 128) bytes ≡ true → is_utf8 bytes ≡ true
ascii_utf8 bytes all = is_utf8-from_IsUtf8 bytes (IsUtf8-from_ascii bytes (ascii_from bytes all))

-- the names of the files are paths
pub manifest_path : is_path manifest_name ≡ true
manifest_path = ascii_utf8 manifest_name refl

pub id_path : is_path id_name ≡ true
id_path = ascii_utf8 id_name refl

pub tree_path : is_path tree_name ≡ true
tree_path = ascii_utf8 tree_name refl
