-- The entries of a map as the lines of a listing.
use Rattle.std.proofs.Common.{◌≡◌, ℕ, ◌≤◌, true, false, ◌&&◌, eqb, List, [], ◌∷◌, ◌++◌, length, get_or, take, drop, Option, Some, None, IsSome, nat_cmp, Less, sym, refl, ap, subst, ◌∙◌, ⊎_elim, arith, append_assoc, length-append}
use Rattle.std.specs.Cmp.{Equal-is}
use Rattle.std.specs.Cmp.Lexicographic.{slice_cmp}
use Rattle.std.specs.List.{All, AllByRecursion, list_any}
use Rattle.std.specs.List.Sorted.{IsStrictlySortedBy}
use Rattle.std.specs.Map.{keys_of}
use Rattle.std.specs.BTreeMap.{is_at}
use Rattle.std.specs.Ordering.{is_eq, ordering_reverse}
use Rattle.std.specs.Str.{bytes_eq}
use Rattle.std.proofs.lemmas.Bool.{cases_Bool, or_left, or_right, or_cases, and_parts, and_from, cond-true, cond-false, le-ltb}
use Rattle.std.proofs.lemmas.Cmp.{nat_list_cmp_total, tied_itself}
use Rattle.std.proofs.lemmas.List.{map-append, get_or_at, take-append-drop, get_or-map, length-map}
use Rattle.std.proofs.lemmas.Grind.{flat_map-append}
use Rattle.std.proofs.lemmas.List.Folds.{list_any-append}
use Rattle.std.proofs.lemmas.Map.Keys.{sorted_head, sorted_tail}
use Rattle.std.proofs.lemmas.Map.Lookups.{exact_bytes}
use Rattle.std.proofs.lemmas.Slice.Eq.{bytes_eq-Decides}
use Rattle.path_map.specs.declared.entry.Entry.{Entry}
use Rattle.path_map.specs.declared.entry.Entry.TheVariants.{Dir, File, Link}
use Rattle.path_map.specs.Entries.{Entries, entry_at, is_directory, is_directory_at, IsPathMap}
use Rattle.path_map.proofs.Below.{below_at}
use Rattle.path_map.proofs.OverlayLaws.{ancestor_from}
use Rattle.path_map.proofs.Segments.{sound_from, path_some}
use Rattle.tree_digest.specs.declared.line.ListingLine.{ListingLine}
use Rattle.tree_digest.specs.Lines.{IsEntry, is_too_long, line_text}
use Rattle.tree_digest.specs.Listings.{AllFollow, last_path, has_directory, lines_of, listing_text, IsListable}
use Rattle.tree_digest.proofs.MapLines.{last_push, before_below, differ_if_less}

-- the line of an entry
abbrev line_of : List ℕ × Entry → ListingLine
line_of e = record { path = e.0; entry = e.1 }

pub listable_short : (entry : Entry) → IsListable entry → is_too_long entry ≡ false
listable_short (Dir meta) h = refl
listable_short (File meta size sha) h = le-ltb 1073741824 size h.1
listable_short (Link meta target) h = refl

-- a text is no shorter than that of its first lines
pub text_prefix : (lines : List ListingLine) (n : ℕ) → length (listing_text (take n lines)) ≤ length (listing_text lines)
text_prefix lines n =
    let whole = flat_map-append line_text (take n lines) (drop n lines) in
    omega (arith, ap (λ ls. length (listing_text ls)) (take-append-drop n lines), ap length whole, length-append (listing_text (take n lines)) (listing_text (drop n lines)))

all_here : {X : Type 0} (P : X → Type 0) (xs ys : List X) (x : X) → All P (xs ++ x ∷ ys) → P x
all_here P xs ys x h =
    subst P (get_or_at xs x ys x (length xs) refl) (h (length xs) x (omega (arith, length-append xs (x ∷ ys))))

key_here : (P : List ℕ → Type 0) (es rest : Entries) (e : List ℕ × Entry) → AllByRecursion P (keys_of (es ++ e ∷ rest)) → P e.0
key_here P [] rest e h = h.0
key_here P (f ∷ es) rest e h = key_here P es rest e h.1

sorted_rest : (es rest : Entries) → IsStrictlySortedBy (slice_cmp nat_cmp) (keys_of (es ++ rest)) → IsStrictlySortedBy (slice_cmp nat_cmp) (keys_of rest)
sorted_rest [] rest s = s
sorted_rest (e ∷ es) rest s = sorted_rest es rest (sorted_tail (slice_cmp nat_cmp) e.0 (keys_of (es ++ rest)) s)

-- what stands among entries in order is found
found : (es rest : Entries) (e : List ℕ × Entry) → IsStrictlySortedBy (slice_cmp nat_cmp) (keys_of (es ++ e ∷ rest)) → entry_at (es ++ e ∷ rest) e.0 ≡ Some e.1
found [] rest e s = cond-true (is_at (slice_cmp nat_cmp e.0) e.0) (Some e.1) (entry_at rest e.0) (ap is_eq (tied_itself nat_list_cmp_total e.0))
found (f ∷ es) rest e s =
    let less = key_here (λ k. slice_cmp nat_cmp f.0 k ≡ Less) es rest e (sorted_head (slice_cmp nat_cmp) f.0 (keys_of (es ++ e ∷ rest)) s) in
    cond-false (is_at (slice_cmp nat_cmp e.0) f.0) (Some f.1) (entry_at (es ++ e ∷ rest) e.0) (ap is_eq (nat_list_cmp_total.antisymm e.0 f.0 ∙ ap ordering_reverse less))
    ∙ found es rest e (sorted_tail (slice_cmp nat_cmp) f.0 (keys_of (es ++ e ∷ rest)) s)

-- a directory of a map is a line
dir_listed : (es : Entries) (q : List ℕ) → is_directory_at (entry_at es q) ≡ true → has_directory (lines_of es) q ≡ true
dir_listed [] q h = h
dir_listed (e ∷ es) q h =
    ⊎_elim
    (λ at.
    let path : q ≡ e.0 = exact_bytes q e.0 ((Equal-is _).0 at) in
    or_left _ _ (and_from _ _ ((bytes_eq-Decides e.0 q).1 (sym path)) (sym (ap is_directory_at (cond-true (is_at (slice_cmp nat_cmp q) e.0) (Some e.1) (entry_at es q) at)) ∙ h)))
    (λ off. or_right _ _ (dir_listed es q (sym (ap is_directory_at (cond-false (is_at (slice_cmp nat_cmp q) e.0) (Some e.1) (entry_at es q) off)) ∙ h)))
    (cases_Bool (is_at (slice_cmp nat_cmp q) e.0))

not_later : (es : Entries) (q : List ℕ) → AllByRecursion (λ k. slice_cmp nat_cmp q k ≡ Less) (keys_of es) → has_directory (lines_of es) q ≡ true → ⊥
not_later [] q all h = cc
not_later (e ∷ es) q all h =
    ⊎_elim
    (λ here. differ_if_less q e.0 all.0 (sym ((bytes_eq-Decides e.0 q).0 (and_parts (bytes_eq e.0 q) (is_directory e.1) here).0)))
    (λ later. not_later es q all.1 later)
    (or_cases (bytes_eq e.0 q && is_directory e.1) (has_directory (lines_of es) q) h)

all_after : (es : Entries) (q k : List ℕ) → slice_cmp nat_cmp q k ≡ Less → AllByRecursion (λ l. slice_cmp nat_cmp k l ≡ Less) (keys_of es) → AllByRecursion (λ l. slice_cmp nat_cmp q l ≡ Less) (keys_of es)
all_after [] q k less all = tt
all_after (e ∷ es) q k less all = (nat_list_cmp_total.trans q k e.0 less all.0, all_after es q k less all.1)

nil_less : (p : List ℕ) → 1 ≤ length p → slice_cmp nat_cmp [] p ≡ Less
nil_less [] h = absurd (omega arith)
nil_less (c ∷ p) h = refl

is_some_at : (o : Option Entry) (e : Entry) → o ≡ Some e → IsSome o
is_some_at None e h = cc
is_some_at (Some x) e h = refl

-- entries that fit their types wherever they are listable
pub valid_entries : (es : Entries) (lines : List ListingLine) → lines ≡ lines_of es → All (λ (l : ListingLine). IsListable l.entry → IsEntry l.entry) lines
    → All (λ (e : List ℕ × Entry). IsListable e.1) es → All (λ (e : List ℕ × Entry). IsEntry e.1) es
valid_entries es lines is fits listable = λ k d inside.
    let read = get_or-map line_of es k d (line_of d) inside in
    let fit = fits k (line_of d) (omega (arith, ap length is, length-map es line_of)) in
    let at : get_or lines k (line_of d) ≡ line_of (get_or es k d) = ap (λ ls. get_or ls k (line_of d)) is ∙ read in
    subst (λ (l : ListingLine). IsListable l.entry → IsEntry l.entry) at fit (listable k d inside)

-- a path comes before the first of some entries
abbrev HeadAbove : List ℕ → Entries → Type 0
HeadAbove path [] = Unit {0}
HeadAbove path (e ∷ es) = slice_cmp nat_cmp path e.0 ≡ Less

head_above : (e : List ℕ × Entry) (es : Entries) → IsStrictlySortedBy (slice_cmp nat_cmp) (keys_of (e ∷ es)) → HeadAbove e.0 es
head_above e [] s = tt
head_above e (f ∷ es) s = (sorted_head (slice_cmp nat_cmp) e.0 (keys_of (f ∷ es)) s).0

module _ (es : Entries) (good : IsPathMap es) (valid : All (λ (e : List ℕ × Entry). IsEntry e.1) es) (listable : All (λ (e : List ℕ × Entry). IsListable e.1) es) where
  follow_rest : (before rest : Entries) → before ++ rest ≡ es → HeadAbove (last_path (lines_of before)) rest → AllFollow (lines_of before) (lines_of rest)
  follow_rest before [] eq above = tt
  follow_rest before (e ∷ rest) eq above =
      let sorted = subst (λ fs. IsStrictlySortedBy (slice_cmp nat_cmp) (keys_of fs)) (sym eq) good.rising in
      let here : entry_at es e.0 ≡ Some e.1 = subst (λ fs. entry_at fs e.0 ≡ Some e.1) eq (found before rest e sorted) in
      let some = is_some_at _ e.1 here in
      let from = sorted_rest before (e ∷ rest) sorted in
      let later = sorted_head (slice_cmp nat_cmp) e.0 (keys_of rest) from in
      let more : lines_of (before ++ e ∷ []) ≡ lines_of before ++ line_of e ∷ [] = map-append line_of before (e ∷ []) in
      let last : last_path (lines_of (before ++ e ∷ [])) ≡ e.0 = ap last_path more ∙ last_push (lines_of before) (line_of e) in (
        record {
          line = record {
            path = good.paths e.0 some;
            entry = all_here (λ (f : List ℕ × Entry). IsEntry f.1) before rest e (subst (All (λ (f : List ℕ × Entry). IsEntry f.1)) (sym eq) valid);
          };
          short = listable_short e.1 (all_here (λ (f : List ℕ × Entry). IsListable f.1) before rest e (subst (All (λ (f : List ℕ × Entry). IsListable f.1)) (sym eq) listable));
          rises = above;
          parents = λ parent name ends.
              ⊎_elim
              (λ root. or_left _ _ root)
              (λ below.
              let lies = below_at e.0 parent name ends.text in
              let dir = dir_listed es parent (good.parents parent e.0 some (ancestor_from parent e.0 below lies)) in
              let parts = sym (list_any-append (λ (l : ListingLine). bytes_eq l.path parent && is_directory l.entry) (lines_of before) (lines_of (e ∷ rest))) ∙ ap (list_any (λ (l : ListingLine). bytes_eq l.path parent && is_directory l.entry)) (sym (map-append line_of before (e ∷ rest)) ∙ ap lines_of eq) ∙ dir in
              let less = before_below e.0 parent lies in
              or_right _ _ (⊎_elim
              (λ there. there)
              (λ no. absurd (not_later (e ∷ rest) parent (less, all_after rest parent e.0 less later) no))
              (or_cases (has_directory (lines_of before) parent) (has_directory (lines_of (e ∷ rest)) parent) parts)))
              (cases_Bool (eqb (length parent) 0));
        },
        subst (λ b. AllFollow b (lines_of rest)) more
            (follow_rest (before ++ e ∷ []) rest (append_assoc before (e ∷ []) rest ∙ eq) (subst (λ p. HeadAbove p rest) (sym last) (head_above e rest from))),
      )

  first_above : (fs : Entries) → fs ≡ es → HeadAbove [] fs
  first_above [] eq = tt
  first_above (e ∷ fs) eq =
      let sorted = subst (λ gs. IsStrictlySortedBy (slice_cmp nat_cmp) (keys_of gs)) (sym eq) good.rising in
      let here : entry_at es e.0 ≡ Some e.1 = subst (λ gs. entry_at gs e.0 ≡ Some e.1) eq (found [] fs e sorted) in
      nil_less e.0 (path_some e.0 (sound_from e.0 (good.paths e.0 (is_some_at _ e.1 here)).sound))

  -- the entries of a map follow each other
  pub map_follows : AllFollow [] (lines_of es)
  map_follows = follow_rest [] es refl (first_above es refl)
