-- The name of a mark is a path of one segment.
use Rattle.std.proofs.Common.{◌≡◌, ◌+◌, ◌/◌, ◌%◌, ◌<◌, ◌==◌, nat_le, ℕ, zero, suc, true, false, ◌&&◌, codes, List, [], ◌∷◌, ◌++◌, length, refl, arith}
use Rattle.std.specs.List.{list_all, AllByRecursion}
use Rattle.std.specs.Str.{is_utf8, IsAscii}
use Rattle.std.proofs.lemmas.Bool.Decides.{nat_tests}
use Rattle.std.proofs.lemmas.Str.{IsUtf8-from_ascii, is_utf8-from_IsUtf8}
use native.Mathlib.Nat.{mod-lt}
use Rattle.dir_model.specs.Names.{is_file_byte}
use Rattle.dir_model.specs.Paths.{is_slash, is_file_name, is_path}
use Rattle.dir_model.proofs.Lists.{and_both, or_none, all_both, all_push}
use Rattle.dir_rules.specs.Marks.{has_slash, parent, digits}
use Rattle.dir_laws.proofs.Names.{one_name, no_parent}
use Rattle.folder_building.specs.ImagePlans.{imported_mark}

-- a byte of a plain name
pub record IsPlain (b : ℕ) : Type 0 where
  pub no_slash : (b == 47) ≡ false
  pub no_nul : (b == 0) ≡ false
  pub ascii : b < 128

pub plain_digit : (n : ℕ) → n < 10 → IsPlain (48 + n)
plain_digit n small = record { no_slash = grind (arith, nat_tests); no_nul = grind (arith, nat_tests); ascii = omega (arith, small) }

pub plain_digits : (k n : ℕ) → AllByRecursion IsPlain (digits k n)
plain_digits zero n = tt
plain_digits (suc k) n = all_push IsPlain (digits k (n / 10)) (48 + n % 10) (plain_digits k (n / 10)) (plain_digit (n % 10) (mod-lt n (omega arith)))

pub letter : (b : ℕ) → (b == 47) ≡ false → (b == 0) ≡ false → b < 128 → IsPlain b
letter b s n a = record { no_slash = s; no_nul = n; ascii = a }

plain_front : AllByRecursion IsPlain (codes "imported-")
plain_front = (letter 105 refl refl (omega arith), (letter 109 refl refl (omega arith), (letter 112 refl refl (omega arith), (letter 111 refl refl (omega arith), (letter 114 refl refl (omega arith), (letter 116 refl refl (omega arith), (letter 101 refl refl (omega arith), (letter 100 refl refl (omega arith), (letter 45 refl refl (omega arith), tt)))))))))

plain_mark : (now : ℕ) → AllByRecursion IsPlain (imported_mark now)
plain_mark now = all_both IsPlain (codes "imported-") (digits 20 now) plain_front (plain_digits 20 now)

pub no_slashes : (bs : List ℕ) → AllByRecursion IsPlain bs → has_slash bs ≡ false
no_slashes [] p = refl
no_slashes (b ∷ bs) p = or_none (is_slash b) (has_slash bs) p.0.no_slash (no_slashes bs p.1)

pub file_bytes : (bs : List ℕ) → AllByRecursion IsPlain bs → list_all is_file_byte bs ≡ true
file_bytes [] p = refl
file_bytes (b ∷ bs) p = and_both (is_file_byte b) (list_all is_file_byte bs) (rw (p.0.no_slash, p.0.no_nul) refl) (file_bytes bs p.1)

pub ascii : (bs : List ℕ) → AllByRecursion IsPlain bs → IsAscii bs
ascii [] p i = omega arith
ascii (b ∷ bs) p zero = p.0.ascii
ascii (b ∷ bs) p (suc i) = ascii bs p.1 i

plain_path : (b : ℕ) (bs : List ℕ) → nat_le (length (b ∷ bs)) 255 ≡ true → AllByRecursion IsPlain (b ∷ bs) → is_path (b ∷ bs) ≡ true
plain_path b bs short plain = one_name [] (b ∷ bs) (no_slashes (b ∷ bs) plain) name
  where
    name : is_file_name (b ∷ bs) ≡ true
    name = and_both (nat_le (length (b ∷ bs)) 255) (list_all is_file_byte (b ∷ bs) && is_utf8 (b ∷ bs)) short
        (and_both (list_all is_file_byte (b ∷ bs)) (is_utf8 (b ∷ bs)) (file_bytes (b ∷ bs) plain) (is_utf8-from_IsUtf8 (b ∷ bs) (IsUtf8-from_ascii (b ∷ bs) (ascii (b ∷ bs) plain))))

pub mark_is_path : (now : ℕ) → is_path (imported_mark now) ≡ true
mark_is_path now = plain_path 105 (codes "mported-" ++ digits 20 now) refl (plain_mark now)

-- the other names in an image's folder
pub manifest_path : is_path (codes "manifest") ≡ true
manifest_path = plain_path 109 (codes "anifest") refl (letter 109 refl refl (omega arith), (letter 97 refl refl (omega arith), (letter 110 refl refl (omega arith), (letter 105 refl refl (omega arith), (letter 102 refl refl (omega arith), (letter 101 refl refl (omega arith), (letter 115 refl refl (omega arith), (letter 116 refl refl (omega arith), tt))))))))

pub id_path : is_path (codes "id") ≡ true
id_path = plain_path 105 (codes "d") refl (letter 105 refl refl (omega arith), (letter 100 refl refl (omega arith), tt))

pub tree_path : is_path (codes "tree") ≡ true
tree_path = plain_path 116 (codes "ree") refl (letter 116 refl refl (omega arith), (letter 114 refl refl (omega arith), (letter 101 refl refl (omega arith), (letter 101 refl refl (omega arith), tt))))

pub root_path : is_path (codes "rootfs") ≡ true
root_path = plain_path 114 (codes "ootfs") refl (letter 114 refl refl (omega arith), (letter 111 refl refl (omega arith), (letter 111 refl refl (omega arith), (letter 116 refl refl (omega arith), (letter 102 refl refl (omega arith), (letter 115 refl refl (omega arith), tt))))))

pub mark_parent : (now : ℕ) → parent (imported_mark now) ≡ []
mark_parent now = no_parent 105 (codes "mported-" ++ digits 20 now) (no_slashes (codes "mported-" ++ digits 20 now) (plain_mark now).1)
