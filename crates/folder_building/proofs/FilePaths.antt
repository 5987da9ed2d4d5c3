-- Absolute paths as paths in a folder.
use Rattle.std.proofs.Common.{◌≡◌, ◌+◌, ◌==◌, ◌<◌, ℕ, Bool, true, false, not, ◌&&◌, ◌||◌, cond, nat_le, nat_lt, bytes_eq, List, [], ◌∷◌, ◌++◌, length, take, drop, get_or, refl, sym, ap, subst, ◌∙◌, arith, append_assoc, append-nil}
use Rattle.std.specs.List.{list_any, list_all, onto_first}
use Rattle.std.specs.Str.{is_utf8, IsUtf8}
use Rattle.std.proofs.lemmas.Bool.{or_parts, or_from, eqb-true, ne_eqb}
use Rattle.std.proofs.lemmas.Bool.Decides.{nat_tests}
use Rattle.std.proofs.lemmas.Grind.{common_steps}
use Rattle.std.proofs.lemmas.List.{get_or_at, drop_more}
use Rattle.std.proofs.lemmas.Str.{IsUtf8-take, IsUtf8-drop, IsCharBoundary-before_ascii, IsCharBoundary-after_ascii, is_utf8-from_IsUtf8}
use Rattle.dir_model.specs.Names.{is_file_byte}
use Rattle.dir_model.specs.Paths.{is_empty, is_slash, is_file_name, are_names, is_path, lies_below}
use Rattle.dir_model.proofs.Lists.{and_both}
use Rattle.dir_rules.specs.Marks.{parent}
use Rattle.path_map.specs.Paths.{lies_below as lies_below_path, is_dot_segment, has_bad_length, IsAbsPath, HasNone}
use Rattle.path_map.proofs.Below.{below_from}
use Rattle.path_map.proofs.Segments.{parts, parts_at_slash, sound_from, path_some}
use Rattle.dir_laws.proofs.Names.{more_names}
use Rattle.dir_laws.proofs.Paths.{slash_in}

-- a text without a slash is one part
parts_one : (name : List ℕ) → HasNone 47 name → parts name ≡ name ∷ []
parts_one [] none = refl
parts_one (x ∷ xs) none = rw (or_parts (x == 47) (list_any (λ b. b == 47) xs) none).0 (ap (onto_first x) (parts_one xs (or_parts (x == 47) (list_any (λ b. b == 47) xs) none).1))

none_push : (name : List ℕ) (b : ℕ) → HasNone 47 name → is_slash b ≡ false → HasNone 47 (name ++ b ∷ [])
none_push [] b none off = or_from (b == 47) false off refl
none_push (x ∷ xs) b none off = or_from (x == 47) (list_any (λ y. y == 47) (xs ++ b ∷ [])) (or_parts (x == 47) (list_any (λ y. y == 47) xs) none).0 (none_push xs b (or_parts (x == 47) (list_any (λ y. y == 47) xs) none).1 off)

file_bytes_all : (name : List ℕ) → HasNone 47 name → list_any (λ b. b == 0) name ≡ false → list_all is_file_byte name ≡ true
file_bytes_all [] none nul = refl
file_bytes_all (x ∷ xs) none nul =
    let a = or_parts (x == 47) (list_any (λ b. b == 47) xs) none in
    let b = or_parts (x == 0) (list_any (λ y. y == 0) xs) nul in
    and_both (is_file_byte x) (list_all is_file_byte xs) (and_both (not (x == 47)) (not (x == 0)) (ap not a.0) (ap not b.0)) (file_bytes_all xs a.1 b.1)

some_length : (name : List ℕ) → (length name == 0) ≡ false → not (is_empty name) ≡ true
some_length [] h = cc
some_length (x ∷ xs) h = refl

within_length : (n : ℕ) → nat_lt 255 n ≡ false → nat_le n 255 ≡ true
within_length n h = grind (arith, nat_tests)

-- a segment is a file name
segment_name : (name : List ℕ) → HasNone 47 name → IsUtf8 name → is_dot_segment name ≡ false → has_bad_length name ≡ false → is_file_name name ≡ true
segment_name name none utf8 dots bad =
    let d = or_parts (bytes_eq name (46 ∷ [])) (bytes_eq name (46 ∷ 46 ∷ []) || list_any (λ b. b == 0) name) dots_is in
    let nul = (or_parts (bytes_eq name (46 ∷ 46 ∷ [])) (list_any (λ b. b == 0) name) d.1).1 in
    let l = or_parts (length name == 0) (nat_lt 255 (length name)) bad in
    and_both (not (is_empty name)) (nat_le (length name) 255 && (list_all is_file_byte name && is_utf8 name)) (some_length name l.0)
    (and_both (nat_le (length name) 255) (list_all is_file_byte name && is_utf8 name) (within_length (length name) l.1)
    (and_both (list_all is_file_byte name) (is_utf8 name) (file_bytes_all name none nul) (is_utf8-from_IsUtf8 name utf8)))
  where
    either_way : (a b c : Bool) → ((a || b) || c) ≡ false → (a || (b || c)) ≡ false
    either_way true b c h = h
    either_way false b c h = h

    dots_is : (bytes_eq name (46 ∷ []) || (bytes_eq name (46 ∷ 46 ∷ []) || list_any (λ b. b == 0) name)) ≡ false
    dots_is = either_way (bytes_eq name (46 ∷ [])) (bytes_eq name (46 ∷ 46 ∷ [])) (list_any (λ b. b == 0) name) dots

front_of : (name bs : List ℕ) → take (length name) (name ++ bs) ≡ name
front_of name bs = grind (arith, common_steps)

inside_of : (name : List ℕ) (b : ℕ) (bs : List ℕ) → length name < length (name ++ b ∷ bs)
inside_of name b bs = grind (arith, common_steps)

back_of : (name bs : List ℕ) → drop (length name) (name ++ bs) ≡ bs
back_of name bs = grind (arith, common_steps)

after_of : (name : List ℕ) (b : ℕ) (bs : List ℕ) → drop (length name + 1) (name ++ b ∷ bs) ≡ bs
after_of name b bs =
    let e : get_or (name ++ b ∷ bs) (length name) 0 ∷ drop (length name + 1) (name ++ b ∷ bs) ≡ b ∷ bs = sym (drop_more (name ++ b ∷ bs) (length name) 0 (inside_of name b bs)) ∙ back_of name (b ∷ bs) in
    cc

-- what stands before a slash, and what stands after it, is UTF-8
module _ (name bs : List ℕ) (utf8 : IsUtf8 (name ++ 47 ∷ bs)) where
  slash_there : get_or (name ++ 47 ∷ bs) (length name) 0 ≡ 47
  slash_there = get_or_at name 47 bs 0 (length name) refl

  ascii_there : get_or (name ++ 47 ∷ bs) (length name) 0 < 128
  ascii_there = omega (arith, slash_there)

  utf8_front : IsUtf8 name
  utf8_front = subst IsUtf8 (front_of name (47 ∷ bs)) (IsUtf8-take (name ++ 47 ∷ bs) (length name) utf8 (IsCharBoundary-before_ascii (name ++ 47 ∷ bs) (length name) (inside_of name 47 bs) ascii_there))

  utf8_after : IsUtf8 bs
  utf8_after = subst IsUtf8 (after_of name 47 bs) (IsUtf8-drop (name ++ 47 ∷ bs) (length name + 1) utf8 (IsCharBoundary-after_ascii (name ++ 47 ∷ bs) (length name) utf8 (inside_of name 47 bs) ascii_there))

-- segments are file names
record AreSegments (text : List ℕ) : Type 0 where
  utf8 : IsUtf8 text
  dots : list_any is_dot_segment (parts text) ≡ false
  lengths : list_any has_bad_length (parts text) ≡ false

module _ (name bs : List ℕ) (none : HasNone 47 name) (s : AreSegments (name ++ 47 ∷ bs)) where
  parts_are : parts (name ++ 47 ∷ bs) ≡ name ∷ parts bs
  parts_are = parts_at_slash name bs ∙ ap (λ ps. ps ++ parts bs) (parts_one name none)

  two_dots : (is_dot_segment name ≡ false) × (list_any is_dot_segment (parts bs) ≡ false)
  two_dots = or_parts (is_dot_segment name) (list_any is_dot_segment (parts bs)) (sym (ap (list_any is_dot_segment) parts_are) ∙ s.dots)

  two_lengths : (has_bad_length name ≡ false) × (list_any has_bad_length (parts bs) ≡ false)
  two_lengths = or_parts (has_bad_length name) (list_any has_bad_length (parts bs)) (sym (ap (list_any has_bad_length) parts_are) ∙ s.lengths)

  first_name : is_file_name name ≡ true
  first_name = segment_name name none (utf8_front name bs s.utf8) two_dots.0 two_lengths.0

  other_segments : AreSegments bs
  other_segments = record { utf8 = utf8_after name bs s.utf8; dots = two_dots.1; lengths = two_lengths.1 }

last_name : (name : List ℕ) → HasNone 47 name → AreSegments name → is_file_name name ≡ true
last_name name none s =
    segment_name name none s.utf8
    (or_parts (is_dot_segment name) false (sym (ap (list_any is_dot_segment) (parts_one name none)) ∙ s.dots)).0
    (or_parts (has_bad_length name) false (sym (ap (list_any has_bad_length) (parts_one name none)) ∙ s.lengths)).0

names_of : (name bs : List ℕ) → HasNone 47 name → AreSegments (name ++ bs) → are_names name bs ≡ true
names_of name [] none s = last_name name none (subst AreSegments (append-nil name) s)
names_of name (b ∷ bs) none s =
    by (is_slash b) refl
    (λ is. let t : AreSegments (name ++ 47 ∷ bs) = subst (λ (x : ℕ). AreSegments (name ++ x ∷ bs)) (eqb-true b 47 is) s in
    and_both (is_file_name name) (are_names [] bs) (first_name name bs none t) (names_of [] bs refl (other_segments name bs none t)))
    (λ off. names_of (name ++ b ∷ []) bs (none_push name b none off) (subst AreSegments (sym (append_assoc name (b ∷ []) bs)) s))
  where
    by : (x : Bool) → is_slash b ≡ x → (is_slash b ≡ true → (is_file_name name && are_names [] bs) ≡ true) → (is_slash b ≡ false → are_names (name ++ b ∷ []) bs ≡ true) → cond x (is_file_name name && are_names [] bs) (are_names (name ++ b ∷ []) bs) ≡ true
    by true is f g = f is
    by false is f g = g is

-- an absolute path begins with a slash
pub begins_with : (path : List ℕ) → IsAbsPath path → (rest : List ℕ) × (path ≡ 47 ∷ rest)
begins_with [] p = let some = path_some [] (sound_from [] p.sound) in absurd (omega (arith, some))
begins_with (c ∷ rest) p = let first : c ≡ 47 = (sound_from (c ∷ rest) p.sound).absolute in (rest, ap (λ x. x ∷ rest) first)

-- an absolute path behind a folder's path is one
pub below_is_path : (prefix path : List ℕ) → is_path prefix ≡ true → is_empty prefix ≡ false → IsAbsPath path → is_path (prefix ++ path) ≡ true
below_is_path [] path p some abs = cc
below_is_path (c ∷ cs) path p some abs =
    let b = begins_with path abs in
    let q : IsAbsPath (47 ∷ b.0) = subst IsAbsPath b.1 abs in
    let s = sound_from (47 ∷ b.0) q.sound in
    let t : AreSegments b.0 = record { utf8 = utf8_after [] b.0 q.text; dots = s.no_dots; lengths = s.lengths } in
    subst (λ (x : List ℕ). is_path ((c ∷ cs) ++ x) ≡ true) (sym b.1) (more_names [] (c ∷ cs) b.0 p (names_of [] b.0 refl t))

pub parent_of : (a name : List ℕ) → HasNone 47 name → parent (a ++ 47 ∷ name) ≡ a
parent_of [] name none = rw none refl
parent_of (x ∷ a) name none = rw (slash_in a name) (ap (λ p. x ∷ p) (parent_of a name none))

pub no_length : (p : List ℕ) → is_empty p ≡ false → (length p == 0) ≡ false
no_length [] h = cc
no_length (x ∷ p) h = ne_eqb (length (x ∷ p)) 0 (λ e. omega (arith, e))

-- what lies behind the prefix lies below it
pub lies_there : (prefix rest : List ℕ) → is_empty prefix ≡ false → lies_below (prefix ++ 47 ∷ rest) prefix ≡ true
unfolding lies_below lies_below_path
lies_there prefix rest some = rw (no_length prefix some) (below_from prefix rest)
