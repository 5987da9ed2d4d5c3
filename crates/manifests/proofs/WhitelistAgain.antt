-- A whitelist is read again from what is written for it.
use Rattle.std.proofs.Common.{◌≡◌, ℕ, ◌+◌, ◌-◌, ◌<◌, ◌≤◌, ◌==◌, Bool, true, false, ◌||◌, List, [], ◌∷◌, ◌++◌, map, length, take, get_or, slice_index, Option, Some, None, codes, refl, sym, ◌∙◌, ap, true≢false, arith, length-append}
use Rattle.std.specs.List.{All, list_any}
use Rattle.std.specs.Str.{bytes_eq}
use Rattle.std.proofs.lemmas.Bool.{eqb-true, or_parts, false_from_ne_true}
use Rattle.std.proofs.lemmas.List.{drop_all}
use Rattle.std.proofs.lemmas.List.Elements.{All-map}
use Rattle.std.proofs.lemmas.List.Folds.{list_any-append}
use Rattle.std.proofs.lemmas.Slice.Eq.{bytes_eq-Decides}
use Rattle.serde_json.specs.Data.{Data, null}
use Rattle.serde_json.specs.Written.{has_float}
use Rattle.ac_types.specs.FieldForms.{each, unless_null}
use Rattle.ac_types.specs.Outcomes.{reads}
use Rattle.path_map.specs.Paths.{path_fault, segments, has_bad_length}
use Rattle.path_map.specs.declared.listed.Listed.{Listed}
use Rattle.path_map.proofs.Segments.{at_slash, path_some, parts, segments_below, sound_from}
use Rattle.app_section.specs.Objects.{list_data, if_filled}
use Rattle.app_section.proofs.Fields.{IsWholeField}
use Rattle.app_section.proofs.Readings.{Rereads, then_reads, all_again}
use Rattle.manifests.specs.ManifestRules.{IsListed}
use Rattle.manifests.specs.WhitelistForm.{listed, listed_text, listed_path, if_path, ends_in_slash, entries, whitelist_of}
use Rattle.manifests.specs.ElementObjects.{listed_bytes, listed_data}

-- ---- slashes at the end

-- no path ends with a slash
no_slash_behind : (p : List ℕ) → path_fault (p ++ 47 ∷ []) ≡ None → ⊥
no_slash_behind [] is = true≢false (sound_from (47 ∷ []) is).lengths
no_slash_behind (b ∷ bs) is =
    let p = b ∷ bs in
    let split : list_any has_bad_length (segments (p ++ 47 ∷ [])) ≡ (list_any has_bad_length (segments p) || true) =
    ap (list_any has_bad_length) (segments_below p [] (omega arith)) ∙ list_any-append has_bad_length (segments p) (parts []) in
    let good = or_parts (list_any has_bad_length (segments p)) true (sym split ∙ (sound_from (p ++ 47 ∷ []) is).lengths) in
    true≢false good.1

-- a text that ends with a slash is what stands before it, and the slash
with_its_slash : (t : List ℕ) → ends_in_slash t ≡ true → take (length t - 1) t ++ codes "/" ≡ t
with_its_slash [] h = absurd (true≢false (sym h))
with_its_slash (b ∷ bs) h =
    let n = length (b ∷ bs) - 1 in
    let within : n < length (b ∷ bs) = omega arith in
    let last : get_or (b ∷ bs) n 0 ≡ 47 = eqb-true (slice_index (b ∷ bs) n) 47 h in
    let past : length (b ∷ bs) ≤ n + 1 = omega arith in
    sym (at_slash (b ∷ bs) n within last ∙ ap (λ (r : List ℕ). take n (b ∷ bs) ++ 47 ∷ r) (drop_all (n + 1) (b ∷ bs) past))

no_slash_in : (path : List ℕ) → path_fault path ≡ None → ends_in_slash path ≡ false
no_slash_in path is = false_from_ne_true (ends_in_slash path) λ ends.
    let before = take (length path - 1) path in
    no_slash_behind before (ap path_fault (with_its_slash path ends) ∙ is)

not_the_root : (path : List ℕ) → path_fault path ≡ None → bytes_eq path (codes "/") ≡ false
not_the_root path is = false_from_ne_true (bytes_eq path (codes "/")) λ same.
    no_slash_behind [] (ap path_fault (sym ((bytes_eq-Decides path (codes "/")).0 same)) ∙ is)

last_of : (xs : List ℕ) → get_or (xs ++ 47 ∷ []) (length xs) 0 ≡ 47
last_of [] = refl
last_of (x ∷ xs) = last_of xs

first_of_both : (xs : List ℕ) → take (length xs) (xs ++ 47 ∷ []) ≡ xs
first_of_both [] = refl
first_of_both (x ∷ xs) = ap (λ (ys : List ℕ). x ∷ ys) (first_of_both xs)

one_less : (xs : List ℕ) → length (xs ++ 47 ∷ []) - 1 ≡ length xs
one_less xs = omega (arith, length-append xs (47 ∷ []))

slash_behind : (path : List ℕ) → ends_in_slash (path ++ codes "/") ≡ true
slash_behind path = ap (λ (n : ℕ). get_or (path ++ 47 ∷ []) n 0 == 47) (one_less path) ∙ ap (λ (b : ℕ). b == 47) (last_of path)

before_slash : (path : List ℕ) → take (length (path ++ codes "/") - 1) (path ++ codes "/") ≡ path
before_slash path = ap (λ (n : ℕ). take n (path ++ 47 ∷ [])) (one_less path) ∙ first_of_both path

not_the_root_alone : (path : List ℕ) → path_fault path ≡ None → bytes_eq (path ++ codes "/") (codes "/") ≡ false
not_the_root_alone path is = false_from_ne_true (bytes_eq (path ++ codes "/") (codes "/")) λ same.
    let alone : length (path ++ 47 ∷ []) ≡ 1 = ap length ((bytes_eq-Decides (path ++ codes "/") (codes "/")).0 same) in
    let none : ⊥ = omega (arith, alone, length-append path (47 ∷ []), path_some path (sound_from path is)) in
    none

-- ---- one path

path_read : (at : List ℕ) (slash : Bool) (path : List ℕ) → path_fault path ≡ None
    → listed_path at slash path ≡ reads (Some (record { path = path; empty = slash }))
unfolding listed_path
path_read at slash path is = ap (λ o. if_path at o (record { path = path; empty = slash })) is

by_slash : (at path : List ℕ) (slash : Bool) → path_fault path ≡ None
    → listed_text at (listed_bytes (record { path = path; empty = slash })) ≡ reads (Some (record { path = path; empty = slash }))
unfolding listed_text
by_slash at path true is =
    rw (not_the_root_alone path is, slash_behind path, before_slash path) (path_read at true path is)
by_slash at path false is = rw (not_the_root path is, no_slash_in path is) (path_read at false path is)

-- ---- the list

-- an entry, which is written always
abbrev IsEntry : Option Listed → Type 0
IsEntry None = ⊥
IsEntry (Some l) = IsListed l

abbrev entry_data : Option Listed → Data
entry_data None = null
entry_data (Some l) = listed_data l

entry_again : Rereads IsEntry listed entry_data
unfolding listed_data
entry_again = record { law = law; shown = shown; whole = whole }
  where
    law : (at : List ℕ) (o : Option Listed) → IsEntry o → listed at (entry_data o) ≡ reads o
    law at None is = absurd is
    law at (Some l) is = by_slash at l.path l.empty is

    shown : (o : Option Listed) → IsEntry o → unless_null (Some (entry_data o)) ≡ Some (entry_data o)
    shown None is = absurd is
    shown (Some l) is = refl

    whole : (o : Option Listed) → IsEntry o → has_float (entry_data o) ≡ false
    whole None is = absurd is
    whole (Some l) is = refl

each_data : (ls : List Listed) → map entry_data (map (λ (l : Listed). Some l) ls) ≡ map listed_data ls
each_data [] = refl
each_data (l ∷ ls) = ap (λ (ds : List Data). listed_data l ∷ ds) (each_data ls)

entries_of : (ls : List Listed) → entries (map (λ (l : Listed). Some l) ls) ≡ ls
entries_of [] = refl
entries_of (l ∷ ls) = ap (λ (es : List Listed). l ∷ es) (entries_of ls)

pub whitelist_again : (at : List ℕ) (ls : List Listed) → All IsListed ls → whitelist_of at (map listed_data ls) ≡ reads ls
whitelist_again at ls are =
    let found = map (λ (l : Listed). Some l) ls in
    let read = all_again entry_again at found (All-map IsEntry (λ (l : Listed). Some l) ls are) in
    then_reads _ _ found ls (ap (each listed at) (sym (each_data ls)) ∙ read) (ap reads (entries_of ls))

-- texts are written alone
texts_are_whole : (ls : List Listed) → has_float (list_data listed_data ls) ≡ false
unfolding listed_data
texts_are_whole [] = refl
texts_are_whole (l ∷ ls) = texts_are_whole ls

pub whitelist_is_whole : (ls : List Listed) → IsWholeField (if_filled listed_data ls)
whitelist_is_whole [] = tt
whitelist_is_whole (l ∷ ls) = texts_are_whole (l ∷ ls)
