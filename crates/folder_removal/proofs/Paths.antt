-- A path and a file name in it are a path.
use Rattle.std.proofs.Common.{◌≡◌, ◌==◌, ℕ, true, not, List, [], ◌∷◌, ◌++◌, sym, ap, ◌∙◌, append_assoc, append-nil}
use Rattle.std.specs.List.{list_all}
use Rattle.std.proofs.lemmas.List.Sums.{list_all-from_AllPass}
use Rattle.dir_model.specs.Names.{is_file_byte, IsFileName}
use Rattle.dir_model.specs.Paths.{is_slash, is_empty, is_file_name, are_names, is_path}
use Rattle.dir_model.proofs.Lists.{and_left, and_right, not_true, or_last}
use Rattle.dir_model.proofs.Paths.{is_file_name-true}
use Rattle.dir_rules.specs.Marks.{path_in}
use Rattle.dir_laws.proofs.Names.{more_names}

-- bytes without a slash go to the name
one_name : (name bs : List ℕ) → list_all is_file_byte bs ≡ true → are_names name bs ≡ is_file_name (name ++ bs)
one_name name [] all = ap is_file_name (sym (append-nil name))
one_name name (b ∷ bs) all =
    rw (not_true (is_slash b) (and_left (not (b == 47)) (not (b == 0)) (and_left (is_file_byte b) (list_all is_file_byte bs) all)))
    (one_name (name ++ b ∷ []) bs (and_right (is_file_byte b) (list_all is_file_byte bs) all) ∙ ap is_file_name (append_assoc name (b ∷ []) bs))

file_names : (n : List ℕ) → IsFileName n → are_names [] n ≡ true
file_names n h = one_name [] n (list_all-from_AllPass is_file_byte n h.2) ∙ is_file_name-true n h

pub path_of : (d n : List ℕ) → is_path d ≡ true → IsFileName n → is_path (path_in d n) ≡ true
path_of [] n p h = or_last (is_empty n) (are_names [] n) (file_names n h)
path_of (b ∷ bs) n p h = more_names [] (b ∷ bs) n p (file_names n h)
