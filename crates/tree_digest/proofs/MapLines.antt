-- The lines of a listing as the entries of a map.
use Rattle.std.proofs.Common.{◌≡◌, ◌≢◌, ℕ, zero, suc, ◌-◌, ◌<◌, Bool, true, false, cond, ◌&&◌, ◌||◌, eqb, List, [], ◌∷◌, ◌++◌, length, get_or, take, Option, Some, None, IsSome, nat_cmp, Less, Equal, Greater, sym, refl, ap, subst, ◌∙◌, ⊎_elim, arith, append_assoc, length-append}
use Rattle.std.specs.Cmp.Lexicographic.{slice_cmp}
use Rattle.std.specs.List.{AllByRecursion, list_any, slice_get, All}
use Rattle.std.specs.List.Sorted.{IsStrictlySortedBy}
use Rattle.std.specs.Map.{keys_of}
use Rattle.std.specs.BTreeMap.{is_at}
use Rattle.std.specs.Cmp.{Equal-is}
use Rattle.std.specs.Ordering.{is_eq, ordering_reverse}
use Rattle.std.specs.declared.cmp.Ordering.{Ordering}
use Rattle.std.specs.Option.{option_map_or}
use Rattle.std.specs.Str.{bytes_eq}
use Rattle.std.proofs.Math.Bool.{or-false}
use Rattle.std.proofs.lemmas.Bool.{ltb-false, cases_Bool, or_left, or_right, or_cases, and_parts, cond-true, cond-false, both_ways, false_from_ne_true, eqb-true}
use Rattle.std.proofs.lemmas.Cmp.{nat_list_cmp_total, nat_cmp_total, tied_itself}
use Rattle.std.proofs.lemmas.List.{append-nil}
use Rattle.std.proofs.lemmas.List.Folds.{list_any-append}
use Rattle.std.proofs.lemmas.Map.Lookups.{exact_bytes}
use Rattle.std.proofs.lemmas.Slice.Eq.{bytes_eq-Decides}
use Rattle.path_map.specs.declared.entry.Entry.{Entry}
use Rattle.path_map.specs.Entries.{Tree, entry_at, is_directory, is_directory_at, HasParents}
use Rattle.path_map.specs.Paths.{lies_below, is_ancestor}
use Rattle.path_map.specs.Overlay.{overlaid}
use Rattle.path_map.specs.declared.entry.Entry.TheVariants.{Dir, File, Link}
use Rattle.std.proofs.lemmas.List.Elements.{All-nil, All-cons}
use Rattle.tree_digest.specs.Lines.{IsEntry, is_too_long}
use Rattle.tree_digest.specs.Listings.{IsListable, AreListable, AllFollow, Follows, last_path, has_directory, entries_of}
use Rattle.path_map.proofs.EachEntries.{each_in_list}
use Rattle.path_map.proofs.Below.{below_rest, below_at}
use Rattle.path_map.proofs.OverlayLaws.{by_place, laid_here, laid_below, laid_above, laid_apart, directory_stays, below_ancestor, ancestor_some, ancestor_from}
use Rattle.tree_digest.specs.declared.line.ListingLine.{ListingLine}
use Rattle.tree_digest.proofs.Cuts.{has_none_or_last}

-- each path of the lines is below another
abbrev pub AllBelow : List ListingLine → List ℕ → Type 0
AllBelow [] path = Unit {0}
AllBelow (line ∷ lines) path = (slice_cmp nat_cmp line.path path ≡ Less) × AllBelow lines path

below_more : (lines : List ListingLine) (a b : List ℕ) → AllBelow lines a → slice_cmp nat_cmp a b ≡ Less → AllBelow lines b
below_more [] a b h less = tt
below_more (line ∷ lines) a b h less = (nat_list_cmp_total.trans line.path a b h.0 less, below_more lines a b h.1 less)

below_push : (lines : List ListingLine) (line : ListingLine) (path : List ℕ) → AllBelow lines path → slice_cmp nat_cmp line.path path ≡ Less → AllBelow (lines ++ line ∷ []) path
below_push [] line path h less = (less, tt)
below_push (l ∷ lines) line path h less = (h.0, below_push lines line path h.1 less)

-- nothing stands at a path that all lines come before
none_at_later : (lines : List ListingLine) (q : List ℕ) → AllBelow lines q → entry_at (entries_of lines) q ≡ None
none_at_later [] q h = refl
none_at_later (line ∷ lines) q h =
    cond-false (is_at (slice_cmp nat_cmp q) line.path) (Some line.entry) (entry_at (entries_of lines) q)
    (ap is_eq (nat_list_cmp_total.antisymm q line.path ∙ ap ordering_reverse h.0))
    ∙ none_at_later lines q h.1

-- a line more stands at its path alone
pub at_more : (lines : List ListingLine) (line : ListingLine) (q : List ℕ) → line.path ≢ q → entry_at (entries_of (lines ++ line ∷ [])) q ≡ entry_at (entries_of lines) q
at_more [] line q other =
    cond-false (is_at (slice_cmp nat_cmp q) line.path) (Some line.entry) None (false_from_ne_true _ (λ e. other (sym (exact_bytes q line.path ((Equal-is _).0 e)))))
at_more (l ∷ lines) line q other = ap (λ o. cond (is_at (slice_cmp nat_cmp q) l.path) (Some l.entry) o) (at_more lines line q other)

at_last : (lines : List ListingLine) (line : ListingLine) → AllBelow lines line.path → entry_at (entries_of (lines ++ line ∷ [])) line.path ≡ Some line.entry
at_last [] line h = cond-true (is_at (slice_cmp nat_cmp line.path) line.path) (Some line.entry) None (ap is_eq (tied_itself nat_list_cmp_total line.path))
at_last (l ∷ lines) line h =
    cond-false (is_at (slice_cmp nat_cmp line.path) l.path) (Some l.entry) (entry_at (entries_of (lines ++ line ∷ [])) line.path)
    (ap is_eq (nat_list_cmp_total.antisymm line.path l.path ∙ ap ordering_reverse h.0))
    ∙ at_last lines line h.1

-- a text comes before what goes on after it
before_longer : (p : List ℕ) (c : ℕ) (rest : List ℕ) → slice_cmp nat_cmp p (p ++ c ∷ rest) ≡ Less
before_longer [] c rest = refl
before_longer (x ∷ p) c rest =
    let same : nat_cmp x x ≡ Equal = tied_itself nat_cmp_total x in
    rw same (before_longer p c rest)

pub before_below : (q p : List ℕ) → lies_below q p ≡ true → slice_cmp nat_cmp p q ≡ Less
before_below q p h =
    let rest = below_rest q p h in
    subst (λ t. slice_cmp nat_cmp p t ≡ Less) (sym rest.1) (before_longer p 47 rest.0)

pub differ_if_less : (a b : List ℕ) → slice_cmp nat_cmp a b ≡ Less → a ≢ b
differ_if_less a b less e =
    let equal : slice_cmp nat_cmp a b ≡ Equal = subst (λ t. slice_cmp nat_cmp a t ≡ Equal) e (tied_itself nat_list_cmp_total a) in
    let bad : Less ≡ Equal = sym less ∙ equal in
    cc

pub last_push : (lines : List ListingLine) (line : ListingLine) → last_path (lines ++ line ∷ []) ≡ line.path
last_push lines line =
    ap (λ (o : Option ListingLine). option_map_or (λ (l : ListingLine). l.path) o []) (get_last lines line)
  where
    at : (ls : List ListingLine) (n : ℕ) → n ≡ length ls → slice_get (ls ++ line ∷ []) n ≡ Some line
    at [] zero e = refl
    at [] (suc n) e = absurd (omega arith)
    at (l ∷ ls) zero e = absurd (omega arith)
    at (l ∷ ls) (suc n) e = at ls n (omega arith)

    get_last : (ls : List ListingLine) (l : ListingLine) → slice_get (lines ++ line ∷ []) (length (lines ++ line ∷ []) - 1) ≡ Some line
    get_last ls l = at lines (length (lines ++ line ∷ []) - 1) (omega (arith, length-append lines (line ∷ [])))

-- some line is at a path
abbrev pub has_line : List ListingLine → List ℕ → Bool
has_line lines path = list_any (λ line. bytes_eq line.path path) lines

directory_line : (lines : List ListingLine) (path : List ℕ) → has_directory lines path ≡ true → has_line lines path ≡ true
directory_line [] path h = h
directory_line (line ∷ lines) path h =
    ⊎_elim
    (λ here. or_left (bytes_eq line.path path) (has_line lines path) (and_parts (bytes_eq line.path path) (is_directory line.entry) here).0)
    (λ later. or_right (bytes_eq line.path path) (has_line lines path) (directory_line lines path later))
    (or_cases (bytes_eq line.path path && is_directory line.entry) (has_directory lines path) h)

-- what is known of lines each of which may follow those before it
pub record IsKnown (lines : List ListingLine) : Type 0 where
  pub below : (path : List ℕ) → slice_cmp nat_cmp (last_path lines) path ≡ Less → AllBelow lines path
  pub parents : (q path : List ℕ) → has_line lines path ≡ true → is_ancestor q path ≡ true → has_directory lines q ≡ true
  pub directories : (q : List ℕ) → has_directory lines q ≡ true → is_directory_at (entry_at (entries_of lines) q) ≡ true

pub none_known : IsKnown []
none_known = record { below = λ path less. tt; parents = λ q path h up. cc; directories = λ q h. cc }

-- the ancestors of a line that may follow are directories of the lines before
ancestors_there : (lines : List ListingLine) (line : ListingLine) → IsKnown lines → Follows lines line → (q : List ℕ) → is_ancestor q line.path ≡ true → has_directory lines q ≡ true
ancestors_there lines line known next q up =
    let some = ancestor_some q line.path up in
    let rest = below_rest line.path q (below_ancestor q line.path up) in
    ⊎_elim
    (λ none.
    ⊎_elim (λ root. absurd (both_ways _ some root)) (λ there. there)
    (or_cases (eqb (length q) 0) (has_directory lines q) (next.parents q rest.0 (record { text = rest.1; last = none }))))
    (λ last.
    let parent = q ++ 47 ∷ last.0 in
    let text : line.path ≡ parent ++ 47 ∷ last.1 = rest.1 ∙ ap (λ t. q ++ 47 ∷ t) last.2 ∙ sym (append_assoc q (47 ∷ last.0) (47 ∷ last.1)) in
    ⊎_elim
    (λ root. absurd (omega (arith, eqb-true (length parent) 0 root, length-append q (47 ∷ last.0))))
    (λ there. known.parents q parent (directory_line lines parent there) (ancestor_from q parent some (below_at parent q last.0 refl)))
    (or_cases (eqb (length parent) 0) (has_directory lines parent) (next.parents parent last.1 (record { text = text; last = last.3 }))))
    (has_none_or_last 47 rest.0)

has_more : (f : ListingLine → Bool) (lines : List ListingLine) (line : ListingLine) → list_any f (lines ++ line ∷ []) ≡ (list_any f lines || (f line || false))
has_more f lines line = list_any-append f lines (line ∷ [])

known_more : (lines : List ListingLine) (line : ListingLine) → IsKnown lines → Follows lines line → IsKnown (lines ++ line ∷ [])
known_more lines line known next = record {
  below = λ path less.
      let later : slice_cmp nat_cmp line.path path ≡ Less = ap (λ t. slice_cmp nat_cmp t path) (sym (last_push lines line)) ∙ less in
      below_push lines line path (below_more lines line.path path (known.below line.path next.rises) later) later;
  parents = λ q path there up.
      sym_or (λ l. bytes_eq l.path q && is_directory l.entry)
      (⊎_elim
      (λ old. known.parents q path old up)
      (λ new. ancestors_there lines line known next q (subst (λ t. is_ancestor q t ≡ true) (sym ((bytes_eq-Decides line.path path).0 (sym (or-false _) ∙ new))) up))
      (or_cases _ _ (sym (has_more (λ l. bytes_eq l.path path) lines line) ∙ there)));
  directories = λ q there.
      ⊎_elim
      (λ old.
      let dir = known.directories q old in
      let other : line.path ≢ q = λ e.
      not_none (entry_at (entries_of lines) q) dir (subst (λ t. entry_at (entries_of lines) t ≡ None) e (none_at_later lines line.path (known.below line.path next.rises))) in
      ap is_directory_at (at_more lines line q other) ∙ dir)
      (λ new.
      let both = and_parts _ _ (sym (or-false _) ∙ new) in
      let here : line.path ≡ q = (bytes_eq-Decides line.path q).0 both.0 in
      ap is_directory_at (ap (entry_at (entries_of (lines ++ line ∷ []))) (sym here) ∙ at_last lines line (known.below line.path next.rises)) ∙ both.1)
      (or_cases _ _ (sym (has_more (λ l. bytes_eq l.path q && is_directory l.entry) lines line) ∙ there));
}
  where
    sym_or : (f : ListingLine → Bool) → list_any f lines ≡ true → list_any f (lines ++ line ∷ []) ≡ true
    sym_or f h = has_more f lines line ∙ or_left _ _ h

    not_none : (o : Option Entry) → is_directory_at o ≡ true → o ≡ None → ⊥
    not_none None h e = cc
    not_none (Some x) h e = cc

-- what is known before each line
pub known_at : (before lines : List ListingLine) (i : ℕ) (d : ListingLine) → IsKnown before → AllFollow before lines → i < length lines
    → IsKnown (before ++ take i lines) × Follows (before ++ take i lines) (get_or lines i d)
known_at before [] i d known all inside = absurd (omega arith)
known_at before (l ∷ lines) zero d known all inside =
    (subst IsKnown (sym (append-nil before)) known, subst (λ b. Follows b l) (sym (append-nil before)) all.0)
known_at before (l ∷ lines) (suc i) d known all inside =
    let down = known_at (before ++ l ∷ []) lines i d (known_more before l known all.0) all.1 (omega arith) in
    (subst IsKnown (append_assoc before (l ∷ []) (take i lines)) down.0, subst (λ b. Follows b (get_or lines i d)) (append_assoc before (l ∷ []) (take i lines)) down.1)

-- laying a line that may follow adds it at the end
pub lay_next : (lines : List ListingLine) (line : ListingLine) → IsKnown lines → Follows lines line → (tree : Tree) → ((q : List ℕ) → tree q ≡ entry_at (entries_of lines) q)
    → (q : List ℕ) → overlaid tree line.path line.entry q ≡ entry_at (entries_of (lines ++ line ∷ [])) q
lay_next lines line known next tree so q =
    let all = known.below line.path next.rises in
    by_place line.path line.entry q
    (λ here. laid_here tree line.path line.entry q here ∙ sym (ap (entry_at (entries_of (lines ++ line ∷ []))) (sym here) ∙ at_last lines line all))
    (λ kind below.
    let less = before_below q line.path below in
    laid_below tree line.path line.entry q kind below ∙ sym (at_more lines line q (differ_if_less line.path q less) ∙ none_at_later lines q (below_more lines line.path q all less)))
    (λ up.
    let dir = ap is_directory_at (so q) ∙ known.directories q (ancestors_there lines line known next q up) in
    let less = before_below line.path q (below_ancestor q line.path up) in
    laid_above tree line.path line.entry q up ∙ directory_stays (tree q) dir ∙ so q ∙ sym (at_more lines line q (λ e. differ_if_less q line.path less (sym e))))
    (λ other clear apart. laid_apart tree line.path line.entry q other clear apart ∙ so q ∙ sym (at_more lines line q other))

-- the paths of lines rise
all_above : (path : List ℕ) (before lines : List ListingLine) → AllFollow before lines
    → ((p : List ℕ) → slice_cmp nat_cmp (last_path before) p ≡ Less → slice_cmp nat_cmp path p ≡ Less)
    → AllByRecursion (λ p. slice_cmp nat_cmp path p ≡ Less) (keys_of (entries_of lines))
all_above path before [] all reach = tt
all_above path before (l ∷ lines) all reach =
    let here = reach l.path all.0.rises in (
      here,
      all_above path (before ++ l ∷ []) lines all.1 (λ p less.
          nat_list_cmp_total.trans path l.path p here (ap (λ t. slice_cmp nat_cmp t p) (sym (last_push before l)) ∙ less)),
    )

pub rising_lines : (before lines : List ListingLine) → AllFollow before lines → IsStrictlySortedBy (slice_cmp nat_cmp) (keys_of (entries_of lines))
unfolding IsStrictlySortedBy
rising_lines before [] all = tt
rising_lines before (l ∷ lines) all = (
  all_above l.path (before ++ l ∷ []) lines all.1 (λ p less. ap (λ t. slice_cmp nat_cmp t p) (sym (last_push before l)) ∙ less),
  rising_lines (before ++ l ∷ []) lines all.1,
)

known_all : (before lines : List ListingLine) → IsKnown before → AllFollow before lines → IsKnown (before ++ lines)
known_all before [] known all = subst IsKnown (sym (append-nil before)) known
known_all before (l ∷ lines) known all =
    subst IsKnown (append_assoc before (l ∷ []) lines) (known_all (before ++ l ∷ []) lines (known_more before l known all.0) all.1)

some_listed : (lines : List ListingLine) (path : List ℕ) → IsSome (entry_at (entries_of lines) path) → has_line lines path ≡ true
some_listed [] path h = cc
some_listed (line ∷ lines) path h =
    ⊎_elim
    (λ at. or_left _ _ ((bytes_eq-Decides line.path path).1 (sym (exact_bytes path line.path ((Equal-is _).0 at)))))
    (λ off. or_right _ _ (some_listed lines path (subst IsSome (cond-false (is_at (slice_cmp nat_cmp path) line.path) (Some line.entry) (entry_at (entries_of lines) path) off) h)))
    (cases_Bool (is_at (slice_cmp nat_cmp path) line.path))

-- the map of a listing has the parents of its entries
pub listing_has_parents : (lines : List ListingLine) → AllFollow [] lines → HasParents (entry_at (entries_of lines))
listing_has_parents lines all =
    let known = known_all [] lines none_known all in
    λ q path some up. known.directories q (known.parents q path (some_listed lines path some) up)

entry_listable : (entry : Entry) → IsEntry entry → is_too_long entry ≡ false → IsListable entry
entry_listable (Dir meta) h short = h.mode
entry_listable (File meta size sha) h short = (h.0.mode, ltb-false 1073741824 size short)
entry_listable (Link meta target) h short = (h.0.mode, h.1.some, h.1.short, h.1.no_nul)

listed_entries : (before lines : List ListingLine) → AllFollow before lines → All (λ (e : List ℕ × Entry). IsListable e.1) (entries_of lines)
listed_entries before [] all = All-nil (λ (e : List ℕ × Entry). IsListable e.1)
listed_entries before (l ∷ lines) all =
    All-cons (λ (e : List ℕ × Entry). IsListable e.1) (l.path, l.entry) (entries_of lines) (entry_listable l.entry all.0.line.entry all.0.short) (listed_entries (before ++ l ∷ []) lines all.1)

-- and only entries that a listing may hold
pub listing_is_listable : (lines : List ListingLine) → AllFollow [] lines → AreListable (entry_at (entries_of lines))
listing_is_listable lines all = each_in_list (λ path entry. IsListable entry) (entries_of lines) (listed_entries [] lines all)
