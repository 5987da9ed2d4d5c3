-- File names by a test, and the names of a path byte by byte.
use Rattle.std.proofs.Common.{◌≡◌, ◌≤◌, ◌<◌, ◌+◌, ◌-◌, ℕ, Bool, true, false, not, ◌&&◌, cond, nat_le, List, [], ◌∷◌, ◌++◌, length, take, drop, slice_index, Option, Some, None, IsSome, IfSome, is_some, ◌↔◌, arith, refl, sym, ap, ◌∙◌}
use Rattle.std.specs.List.{list_all}
use Rattle.std.specs.Str.{is_utf8, IsUtf8}
use Rattle.std.proofs.lemmas.Bool.Decides.{nat_tests}
use Rattle.std.proofs.lemmas.Grind.{common_steps}
use Rattle.std.proofs.lemmas.List.{take_more}
use Rattle.std.proofs.lemmas.List.Sums.{AllPass-from_list_all, list_all-from_AllPass}
use Rattle.std.proofs.lemmas.Str.{IsUtf8-from_is_utf8, is_utf8-from_IsUtf8}
use Rattle.dir_model.specs.Names.{is_file_byte, IsFileName}
use Rattle.dir_model.specs.Paths.{is_empty, is_slash, is_file_name, are_names, part}
use Rattle.dir_model.proofs.Lists.{and_left, and_right, and_both}

within : (n : ℕ) → n ≤ 255 → nat_le n 255 ≡ true
within n h = grind (arith, nat_tests)

from_within : (n : ℕ) → nat_le n 255 ≡ true → n ≤ 255
from_within n h = grind (arith, nat_tests)

pub filled : (bs : List ℕ) → 1 ≤ length bs → not (is_empty bs) ≡ true
filled [] h = absurd (omega (arith, h))
filled (b ∷ bs) h = refl

from_filled : (bs : List ℕ) → not (is_empty bs) ≡ true → 1 ≤ length bs
from_filled [] h = cc
from_filled (b ∷ bs) h = omega arith

pub is_file_name-true : (bs : List ℕ) → IsFileName bs → is_file_name bs ≡ true
is_file_name-true bs h =
    and_both (not (is_empty bs)) (nat_le (length bs) 255 && (list_all is_file_byte bs && is_utf8 bs)) (filled bs h.0)
    (and_both (nat_le (length bs) 255) (list_all is_file_byte bs && is_utf8 bs) (within (length bs) h.1)
    (and_both (list_all is_file_byte bs) (is_utf8 bs) (list_all-from_AllPass is_file_byte bs h.2) (is_utf8-from_IsUtf8 bs h.3)))

pub IsFileName-from_test : (bs : List ℕ) → is_file_name bs ≡ true → IsFileName bs
IsFileName-from_test bs h =
    let a = and_right (not (is_empty bs)) (nat_le (length bs) 255 && (list_all is_file_byte bs && is_utf8 bs)) h in
    let b = and_right (nat_le (length bs) 255) (list_all is_file_byte bs && is_utf8 bs) a in (
      from_filled bs (and_left (not (is_empty bs)) (nat_le (length bs) 255 && (list_all is_file_byte bs && is_utf8 bs)) h),
      from_within (length bs) (and_left (nat_le (length bs) 255) (list_all is_file_byte bs && is_utf8 bs) a),
      AllPass-from_list_all is_file_byte bs (and_left (list_all is_file_byte bs) (is_utf8 bs) b),
      IsUtf8-from_is_utf8 bs (and_right (list_all is_file_byte bs) (is_utf8 bs) b),
    )

module _ (path : List ℕ) (start i : ℕ) (from : start ≤ i) (inside : i < length path) where
  next_byte : drop i path ≡ slice_index path i ∷ drop (i + 1) path
  next_byte = grind (arith, common_steps)

  next_part : part start (i + 1) path ≡ part start i path ++ slice_index path i ∷ []
  next_part =
      let more : i + 1 - start ≡ (i - start) + 1 = omega (arith, from) in
      let room : i - start < length (drop start path) = grind (arith, common_steps) in
      let at : slice_index (drop start path) (i - start) ≡ slice_index path i = grind (arith, common_steps) in
      ap (λ n. take n (drop start path)) more ∙ (take_more (drop start path) (i - start) 0 room ∙ ap (λ b. take (i - start) (drop start path) ++ b ∷ []) at)

  -- a byte that is no slash goes to the name so far
  pub name_goes_on : is_slash (slice_index path i) ≡ false → are_names (part start (i + 1) path) (drop (i + 1) path) ≡ are_names (part start i path) (drop i path)
  name_goes_on other = rw (next_part, next_byte, other) refl

  -- a slash ends it
  pub name_ends : is_slash (slice_index path i) ≡ true → are_names (part start i path) (drop i path) ≡ (is_file_name (part start i path) && are_names [] (drop (i + 1) path))
  name_ends is = rw (next_byte, is) refl

-- what `FileName::of` answers, as a function
pub named : (bs : List ℕ) (o : Option (List ℕ)) → (IsSome o ↔ IsFileName bs) → IfSome o (λ n. n ≡ bs) → o ≡ cond (is_file_name bs) (Some bs) None
named bs (Some n) iff is = rw (is_file_name-true bs (iff.0 refl)) (ap Some is)
named bs None iff is = by (is_file_name bs) (λ h. iff.1 (IsFileName-from_test bs h))
  where
    by : (b : Bool) → (b ≡ true → is_some {T = List ℕ} None ≡ true) → None ≡ cond b (Some bs) None
    by true h = let clash : false ≡ true = h refl in cc
    by false h = refl

-- bytes that aren't UTF-8 are no name
pub unnamed : (bs : List ℕ) → (IsUtf8 bs → ⊥) → None ≡ cond (is_file_name bs) (Some bs) None
unnamed bs never = by (is_file_name bs) (λ h. never (IsFileName-from_test bs h).3)
  where
    by : (b : Bool) → (b ≡ true → ⊥) → None ≡ cond b (Some bs) None
    by true h = absurd (h refl)
    by false h = refl

pub not_slash : (b : ℕ) → (b ≡ 47 → ⊥) → is_slash b ≡ false
not_slash b h = grind (arith, nat_tests)

pub slash : (b : ℕ) → b ≡ 47 → is_slash b ≡ true
slash b h = grind (arith, nat_tests)

pub part_none : (n : ℕ) (path : List ℕ) → part n n path ≡ []
part_none n path = grind (arith, common_steps)

pub part_whole : (n : ℕ) (path : List ℕ) → part n (length path) path ≡ drop n path
part_whole n path = grind (arith, common_steps)

-- where the test is what was found
pub found_name : {X : Type 0} (bs : List ℕ) (n : X) (x : X) (o : Option X) → o ≡ cond (is_file_name bs) (Some x) None → o ≡ Some n → is_file_name bs ≡ true
found_name {X} bs n x o is some = by (is_file_name bs) (sym is ∙ some)
  where
    by : (b : Bool) → cond b (Some x) None ≡ Some n → b ≡ true
    by true h = refl
    by false h = cc

pub lost_name : {X : Type 0} (bs : List ℕ) (x : X) (o : Option X) → o ≡ cond (is_file_name bs) (Some x) None → o ≡ None → is_file_name bs ≡ false
lost_name {X} bs x o is none = by (is_file_name bs) (sym is ∙ none)
  where
    by : (b : Bool) → cond b (Some x) None ≡ None → b ≡ false
    by true h = cc
    by false h = refl

pub is_some_test : {X : Type 0} (bs : List ℕ) (x : X) (o : Option X) → o ≡ cond (is_file_name bs) (Some x) None → is_some o ≡ is_file_name bs
is_some_test {X} bs x o is = ap is_some is ∙ by (is_file_name bs)
  where
    by : (b : Bool) → is_some {T = X} (cond b (Some x) None) ≡ b
    by true = refl
    by false = refl
