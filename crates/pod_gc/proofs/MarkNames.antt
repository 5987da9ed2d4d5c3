-- The name of a remover's mark: a path of one name, outside every started app's root.
use Rattle.std.proofs.Common.{◌≡◌, ◌+◌, ◌/◌, ◌%◌, ◌<◌, ◌==◌, ℕ, true, false, not, codes, List, [], ◌∷◌, ◌++◌, length, refl, ap, arith}
use Rattle.std.specs.List.{AllByRecursion}
use Rattle.std.proofs.lemmas.List.Sums.{AllPass-from_list_all}
use Rattle.std.proofs.lemmas.Str.{IsUtf8-from_ascii}
use Rattle.plain_laws.proofs.Texts.{not_empty}
use Rattle.dir_model.specs.Names.{is_file_byte, IsFileName}
use Rattle.dir_model.specs.Paths.{is_path, is_directly_in, lies_below}
use Rattle.dir_model.proofs.Lists.{and_both, all_both}
use Rattle.dir_rules.specs.Marks.{has_slash, digits, marked_mark}
use Rattle.folder_removal.proofs.Paths.{path_of}
use Rattle.gate_reading.specs.Files.{is_outside_stage1}
use Rattle.folder_building.proofs.Marks.{IsPlain, file_bytes, plain_digits, no_slashes, letter, ascii}

plain_front : AllByRecursion IsPlain (codes "marked-")
plain_front = (letter 109 refl refl (omega arith), (letter 97 refl refl (omega arith), (letter 114 refl refl (omega arith), (letter 107 refl refl (omega arith), (letter 101 refl refl (omega arith), (letter 100 refl refl (omega arith), (letter 45 refl refl (omega arith), tt)))))))

plain_mark : (now : ℕ) → AllByRecursion IsPlain (marked_mark now)
plain_mark now = all_both IsPlain (codes "marked-") (digits 20 now) plain_front (plain_digits 20 now)

mark_length : (now : ℕ) → length (marked_mark now) ≡ 27
mark_length now = refl

mark_is_name : (now : ℕ) → IsFileName (marked_mark now)
mark_is_name now =
    let long = mark_length now in
    (omega (arith, long), omega (arith, long), AllPass-from_list_all is_file_byte (marked_mark now) (file_bytes (marked_mark now) (plain_mark now)), IsUtf8-from_ascii (marked_mark now) (ascii (marked_mark now) (plain_mark now)))

pub marked_is_path : (now : ℕ) → is_path (marked_mark now) ≡ true
marked_is_path now = path_of [] (marked_mark now) refl (mark_is_name now)

one_name : (b : ℕ) (bs : List ℕ) → has_slash (b ∷ bs) ≡ false → is_directly_in [] (b ∷ bs) ≡ true
unfolding lies_below
one_name b bs none = and_both (not (length (b ∷ bs) == 0)) (not (has_slash (b ∷ bs))) (ap not (not_empty b bs)) (ap not none)

-- it stands in the folder itself
pub marked_directly : (now : ℕ) → is_directly_in [] (marked_mark now) ≡ true
marked_directly now = one_name 109 (codes "arked-" ++ digits 20 now) (no_slashes (marked_mark now) (plain_mark now))

-- not below `stage1`
pub marked_plain : (now : ℕ) → is_outside_stage1 (marked_mark now) ≡ true
marked_plain now = refl
