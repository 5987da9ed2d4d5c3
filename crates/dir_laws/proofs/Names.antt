-- Names of apps as names of files, the paths that names are joined to, and those of a pod's files.
use Rattle.std.proofs.Common.{◌≡◌, ◌==◌, ◌+◌, ◌/◌, ◌%◌, ◌≤◌, ◌<◌, nat_le, nat_lt, ℕ, zero, suc, Bool, true, false, not, ◌&&◌, ◌||◌, cond, codes, List, [], ◌∷◌, ◌++◌, length, refl, sym, ap, subst, arith, append_assoc, append-nil}
use Rattle.std.specs.List.{list_all}
use Rattle.std.specs.Str.{is_utf8, IsAscii}
use Rattle.std.proofs.lemmas.Bool.Decides.{nat_tests}
use Rattle.std.proofs.lemmas.Str.{IsUtf8-from_ascii, is_utf8-from_IsUtf8}
use native.Mathlib.Nat.{mod-lt}
use Rattle.plain_laws.proofs.Numbers.{small}
use Rattle.dir_model.specs.Names.{is_file_byte, IsFileName}
use Rattle.dir_model.specs.Paths.{is_empty, is_slash, is_file_name, are_names, is_path}
use Rattle.dir_model.proofs.Lists.{and_left, and_right, and_both, or_none, not_true}
use Rattle.dir_model.proofs.Paths.{IsFileName-from_test}
use Rattle.dir_rules.specs.Marks.{has_slash, parent, digits, created_mark, status_directory}
use Rattle.ac_types.specs.Names.{is_word_byte, is_hyphen, are_words, IsAcName}

-- a byte of a plain name
abbrev is_plain : ℕ → Bool
is_plain b = not (b == 47) && (not (b == 0) && nat_lt b 128)

abbrev pub ArePlain : List ℕ → Type 0
ArePlain bs = list_all is_plain bs ≡ true

no_slash : (b : ℕ) → is_plain b ≡ true → (b == 47) ≡ false
no_slash b p = not_true (b == 47) (and_left (not (b == 47)) (not (b == 0) && nat_lt b 128) p)

pub no_slashes : (bs : List ℕ) → ArePlain bs → has_slash bs ≡ false
no_slashes [] p = refl
no_slashes (b ∷ bs) p = or_none (is_slash b) (has_slash bs) (no_slash b (and_left (is_plain b) (list_all is_plain bs) p)) (no_slashes bs (and_right (is_plain b) (list_all is_plain bs) p))

file_byte : (b : ℕ) → is_plain b ≡ true → is_file_byte b ≡ true
file_byte b p = and_both (not (b == 47)) (not (b == 0)) (and_left (not (b == 47)) (not (b == 0) && nat_lt b 128) p) (and_left (not (b == 0)) (nat_lt b 128) (and_right (not (b == 47)) (not (b == 0) && nat_lt b 128) p))

file_bytes : (bs : List ℕ) → ArePlain bs → list_all is_file_byte bs ≡ true
file_bytes [] p = refl
file_bytes (b ∷ bs) p = and_both (is_file_byte b) (list_all is_file_byte bs) (file_byte b (and_left (is_plain b) (list_all is_plain bs) p)) (file_bytes bs (and_right (is_plain b) (list_all is_plain bs) p))

ascii_byte : (b : ℕ) → is_plain b ≡ true → b < 128
ascii_byte b p = small b (and_right (not (b == 0)) (nat_lt b 128) (and_right (not (b == 47)) (not (b == 0) && nat_lt b 128) p))

ascii : (bs : List ℕ) → ArePlain bs → IsAscii bs
ascii [] p i = omega arith
ascii (b ∷ bs) p zero = ascii_byte b (and_left (is_plain b) (list_all is_plain bs) p)
ascii (b ∷ bs) p (suc i) = ascii bs (and_right (is_plain b) (list_all is_plain bs) p) i

pub plain_name : (bs : List ℕ) → is_empty bs ≡ false → nat_le (length bs) 255 ≡ true → ArePlain bs → is_file_name bs ≡ true
plain_name bs some short plain =
    and_both (not (is_empty bs)) (nat_le (length bs) 255 && (list_all is_file_byte bs && is_utf8 bs)) (ap not some)
    (and_both (nat_le (length bs) 255) (list_all is_file_byte bs && is_utf8 bs) short
    (and_both (list_all is_file_byte bs) (is_utf8 bs) (file_bytes bs plain) (is_utf8-from_IsUtf8 bs (IsUtf8-from_ascii bs (ascii bs plain)))))

-- names without a slash are one name
pub one_name : (name bs : List ℕ) → has_slash bs ≡ false → is_file_name (name ++ bs) ≡ true → are_names name bs ≡ true
one_name name [] none is = subst (λ (l : List ℕ). is_file_name l ≡ true) (append-nil name) is
one_name name (b ∷ bs) none is = by (is_slash b) none (λ h. one_name (name ++ b ∷ []) bs h (subst (λ (l : List ℕ). is_file_name l ≡ true) (sym (append_assoc name (b ∷ []) bs)) is))
  where
    by : (s : Bool) → (s || has_slash bs) ≡ false → (has_slash bs ≡ false → are_names (name ++ b ∷ []) bs ≡ true) → cond s (is_file_name name && are_names [] bs) (are_names (name ++ b ∷ []) bs) ≡ true
    by true h rest = cc
    by false h rest = rest h

-- names, a slash and names
pub more_names : (name d n : List ℕ) → are_names name d ≡ true → are_names [] n ≡ true → are_names name (d ++ 47 ∷ n) ≡ true
more_names name [] n p q = and_both (is_file_name name) (are_names [] n) p q
more_names name (b ∷ bs) n p q = by (is_slash b) p (λ r. more_names [] bs n r q) (λ r. more_names (name ++ b ∷ []) bs n r q)
  where
    by : (slash : Bool) → cond slash (is_file_name name && are_names [] bs) (are_names (name ++ b ∷ []) bs) ≡ true → (are_names [] bs ≡ true → are_names [] (bs ++ 47 ∷ n) ≡ true) → (are_names (name ++ b ∷ []) bs ≡ true → are_names (name ++ b ∷ []) (bs ++ 47 ∷ n) ≡ true) → cond slash (is_file_name name && are_names [] (bs ++ 47 ∷ n)) (are_names (name ++ b ∷ []) (bs ++ 47 ∷ n)) ≡ true
    by true h f g = and_both (is_file_name name) (are_names [] (bs ++ 47 ∷ n)) (and_left (is_file_name name) (are_names [] bs) h) (f (and_right (is_file_name name) (are_names [] bs) h))
    by false h f g = g h

-- a name without a slash, as a path and behind one
pub is_one : (n : List ℕ) → has_slash n ≡ false → is_file_name n ≡ true → is_path n ≡ true
is_one [] none name = refl
is_one (b ∷ bs) none name = one_name [] (b ∷ bs) none name

pub is_behind : (d n : List ℕ) → is_path d ≡ true → is_empty d ≡ false → has_slash n ≡ false → is_file_name n ≡ true → is_path (d ++ 47 ∷ n) ≡ true
is_behind [] n p some none name = cc
is_behind (c ∷ cs) n p some none name = more_names [] (c ∷ cs) n p (one_name [] n none name)

-- a name of plain bytes
pub plain_path : (n : List ℕ) → is_empty n ≡ false → nat_le (length n) 255 ≡ true → ArePlain n → is_path n ≡ true
plain_path n some short plain = is_one n (no_slashes n plain) (plain_name n some short plain)

pub plain_behind : (d n : List ℕ) → is_path d ≡ true → is_empty d ≡ false → is_empty n ≡ false → nat_le (length n) 255 ≡ true → ArePlain n → is_path (d ++ 47 ∷ n) ≡ true
plain_behind d n p in_it some short plain = is_behind d n p in_it (no_slashes n plain) (plain_name n some short plain)

-- names of apps
plain_word : (b : ℕ) → is_word_byte b ≡ true → is_plain b ≡ true
plain_word b h = grind (arith, nat_tests)

plain_hyphen : (b : ℕ) → is_hyphen b ≡ true → is_plain b ≡ true
plain_hyphen b h = grind (arith, nat_tests)

either_way : {P : Type 0} (w h v : Bool) → (w ≡ true → P) → (h ≡ true → v ≡ true → P) → (w || (h && v)) ≡ true → P
either_way true h v f g is = f refl
either_way false true v f g is = g refl is
either_way false false v f g is = cc

plain_words : (bs : List ℕ) → are_words is_hyphen bs ≡ true → ArePlain bs
plain_words [] h = cc
plain_words (b ∷ []) h = and_both (is_plain b) true (plain_word b h) refl
plain_words (b ∷ c ∷ cs) h =
    and_both (is_plain b) (list_all is_plain (c ∷ cs)) (plain_word b (and_left (is_word_byte b) (are_words is_hyphen (c ∷ cs) || (is_hyphen c && are_words is_hyphen cs)) h))
    (either_way {P = ArePlain (c ∷ cs)} (are_words is_hyphen (c ∷ cs)) (is_hyphen c) (are_words is_hyphen cs) (λ w. plain_words (c ∷ cs) w)
    (λ s v. and_both (is_plain c) (list_all is_plain cs) (plain_hyphen c s) (plain_words cs v))
    (and_right (is_word_byte b) (are_words is_hyphen (c ∷ cs) || (is_hyphen c && are_words is_hyphen cs)) h))

some_words : (bs : List ℕ) → are_words is_hyphen bs ≡ true → is_empty bs ≡ false
some_words [] h = cc
some_words (b ∷ bs) h = refl

within : (n : ℕ) → n ≤ 200 → nat_le n 255 ≡ true
within n h = grind (arith, nat_tests)

-- an app's name is a file name, and may stand behind a directory
pub record IsAppName (name : List ℕ) : Type 0 where
  pub some : is_empty name ≡ false
  pub small : length name ≤ 200
  pub short : nat_le (length name) 255 ≡ true
  pub plain : ArePlain name
  pub no_slash : has_slash name ≡ false
  pub file : IsFileName name

pub app_name : (name : List ℕ) → IsAcName name → IsAppName name
app_name name is =
    let some = some_words name is.0 in
    let short = within (length name) is.1 in
    let plain = plain_words name is.0 in
    record { some = some; small = is.1; short = short; plain = plain; no_slash = no_slashes name plain; file = IsFileName-from_test name (plain_name name some short plain) }

-- the mark of a pod's creation
plain_digit : (n : ℕ) → n < 10 → is_plain (48 + n) ≡ true
plain_digit n h = grind (arith, nat_tests)

plain_push : (bs : List ℕ) (b : ℕ) → ArePlain bs → is_plain b ≡ true → ArePlain (bs ++ b ∷ [])
plain_push [] b p q = and_both (is_plain b) true q refl
plain_push (x ∷ bs) b p q = and_both (is_plain x) (list_all is_plain (bs ++ b ∷ [])) (and_left (is_plain x) (list_all is_plain bs) p) (plain_push bs b (and_right (is_plain x) (list_all is_plain bs) p) q)

plain_digits : (k n : ℕ) → ArePlain (digits k n)
plain_digits zero n = refl
plain_digits (suc k) n = plain_push (digits k (n / 10)) (48 + n % 10) (plain_digits k (n / 10)) (plain_digit (n % 10) (mod-lt n (omega arith)))

pub created_has_no_slash : (now : ℕ) → has_slash (created_mark now) ≡ false
created_has_no_slash now = no_slashes (created_mark now) (plain_digits 20 now)

pub created_is_path : (now : ℕ) → is_path (created_mark now) ≡ true
created_is_path now = plain_path (created_mark now) refl refl (plain_digits 20 now)

pub no_parent : (b : ℕ) (bs : List ℕ) → has_slash bs ≡ false → parent (b ∷ bs) ≡ []
no_parent b bs none = rw none refl

pub created_parent : (now : ℕ) → parent (created_mark now) ≡ []
created_parent now = no_parent 99 (codes "reated-" ++ digits 20 now) (no_slashes (codes "reated-" ++ digits 20 now) (plain_digits 20 now))

-- the directories of roots
pub stage1_path : is_path (codes "stage1") ≡ true
stage1_path = plain_path (codes "stage1") refl refl refl

pub rootfs_path : is_path (codes "stage1/rootfs") ≡ true
rootfs_path = plain_behind (codes "stage1") (codes "rootfs") stage1_path refl refl refl refl

pub opt_path : is_path (codes "stage1/rootfs/opt") ≡ true
opt_path = plain_behind (codes "stage1/rootfs") (codes "opt") rootfs_path refl refl refl refl

pub stage2_path : is_path (codes "stage1/rootfs/opt/stage2") ≡ true
stage2_path = plain_behind (codes "stage1/rootfs/opt") (codes "stage2") opt_path refl refl refl refl

pub rkt_path : is_path (codes "stage1/rootfs/rkt") ≡ true
rkt_path = plain_behind (codes "stage1/rootfs") (codes "rkt") rootfs_path refl refl refl refl

pub status_path : is_path status_directory ≡ true
status_path = plain_behind (codes "stage1/rootfs/rkt") (codes "status") rkt_path refl refl refl refl

-- the files of every pod
pub token_form : is_path (codes "token") ≡ true
token_form = plain_path (codes "token") refl refl refl

pub manifest_form : is_path (codes "pod") ≡ true
manifest_form = plain_path (codes "pod") refl refl refl

pub info_path : is_path (codes "appsinfo") ≡ true
info_path = plain_path (codes "appsinfo") refl refl refl
