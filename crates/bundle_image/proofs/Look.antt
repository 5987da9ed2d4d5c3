-- What stands at a path among the lines of a walk.
use Rattle.std.proofs.Common.{◌≡◌, ◌≢◌, ℕ, true, false, cond, List, [], ◌∷◌, ◌++◌, Some, None, IsSome, nat_cmp, sym, refl, ap, subst, ◌∙◌, inl, inr, ⊎_elim}
use Rattle.std.specs.Cmp.Lexicographic.{slice_cmp}
use Rattle.std.specs.List.{AllByRecursion}
use Rattle.std.specs.BTreeMap.{is_at}
use Rattle.std.specs.Cmp.{Equal-is}
use Rattle.std.specs.Ordering.{is_eq}
use Rattle.std.proofs.lemmas.Bool.{cases_Bool, cond-true, cond-false, false_from_ne_true}
use Rattle.std.proofs.lemmas.Cmp.{nat_list_cmp_total, tied_itself}
use Rattle.std.proofs.lemmas.Map.Lookups.{exact_bytes}
use Rattle.dir_trait.specs.Bundles.{BundleTree}
use Rattle.path_map.specs.declared.entry.Entry.{Entry}
use Rattle.path_map.specs.Entries.{entry_at, is_directory_at}
use Rattle.tree_digest.specs.declared.line.ListingLine.{ListingLine}
use Rattle.tree_digest.specs.Listings.{entries_of}
use Rattle.tree_digest.proofs.MapLines.{at_more}
use Rattle.bundle_image.specs.Entries.{IsEntryOf}
use Rattle.bundle_image.specs.Walks.{Stands, IsAtOrBelow, ComesBefore, IsLinePath, IsLineOfBundle, IsWalked}
use Rattle.bundle_image.proofs.Paths.{before_apart}

is_here : (q path : List ℕ) → is_at (slice_cmp nat_cmp q) path ≡ true → q ≡ path
is_here q path at = exact_bytes q path ((Equal-is _).0 at)

here_is : (path : List ℕ) → is_at (slice_cmp nat_cmp path) path ≡ true
here_is path = ap is_eq (tied_itself nat_list_cmp_total path)

pub elsewhere : (q path : List ℕ) → path ≢ q → is_at (slice_cmp nat_cmp q) path ≡ false
elsewhere q path other = false_from_ne_true _ (λ at. other (sym (is_here q path at)))

module _ (line : ListingLine) (lines : List ListingLine) (q : List ℕ) where
  pub head_here : line.path ≡ q → entry_at (entries_of (line ∷ lines)) q ≡ Some line.entry
  head_here same = cond-true (is_at (slice_cmp nat_cmp q) line.path) (Some line.entry) (entry_at (entries_of lines) q) (subst (λ p. is_at (slice_cmp nat_cmp p) line.path ≡ true) same (here_is line.path))

  pub head_off : is_at (slice_cmp nat_cmp q) line.path ≡ false → entry_at (entries_of (line ∷ lines)) q ≡ entry_at (entries_of lines) q
  head_off off = cond-false (is_at (slice_cmp nat_cmp q) line.path) (Some line.entry) (entry_at (entries_of lines) q) off

-- nothing stands at or below what all lines come before
pub none_yet : (lines : List ListingLine) (path q : List ℕ) → AllByRecursion (λ l. ComesBefore l.path path) lines → IsAtOrBelow q path → entry_at (entries_of lines) q ≡ None
none_yet [] path q later below = refl
none_yet (l ∷ lines) path q later below =
    head_off l lines q (elsewhere q l.path (λ same. before_apart l.path path later.0 (subst (λ p. IsAtOrBelow p path) (sym same) below)))
    ∙ none_yet lines path q later.1 below

pub at_end : (lines : List ListingLine) (line : ListingLine) → AllByRecursion (λ l. ComesBefore l.path line.path) lines → entry_at (entries_of (lines ++ line ∷ [])) line.path ≡ Some line.entry
at_end [] line later = head_here line [] line.path refl
at_end (l ∷ lines) line later =
    head_off l (lines ++ line ∷ []) line.path (elsewhere line.path l.path (λ same. before_apart l.path line.path later.0 (inl same)))
    ∙ at_end lines line later.1

-- a directory stays, whatever comes
pub directory_left : (lines : List ListingLine) (line : ListingLine) (q : List ℕ) → is_directory_at (entry_at (entries_of lines) q) ≡ true → is_directory_at (entry_at (entries_of (lines ++ line ∷ [])) q) ≡ true
directory_left [] line q is = cc
directory_left (l ∷ lines) line q is =
    ⊎_elim
    (λ at. ap is_directory_at (cond-true (is_at (slice_cmp nat_cmp q) l.path) (Some l.entry) (entry_at (entries_of (lines ++ line ∷ [])) q) at)
    ∙ sym (ap is_directory_at (cond-true (is_at (slice_cmp nat_cmp q) l.path) (Some l.entry) (entry_at (entries_of lines) q) at)) ∙ is)
    (λ off. ap is_directory_at (head_off l (lines ++ line ∷ []) q off) ∙ directory_left lines line q (sym (ap is_directory_at (head_off l lines q off)) ∙ is))
    (cases_Bool (is_at (slice_cmp nat_cmp q) l.path))

some_same : {x y : Entry} → Some x ≡ Some y → x ≡ y
some_same is = cc

looked_each : (nodes : BundleTree) (lines : List ListingLine) → AllByRecursion (IsLineOfBundle nodes) lines → (path : List ℕ) (entry : Entry) → entry_at (entries_of lines) path ≡ Some entry → Stands nodes path × IsEntryOf (nodes path) entry
looked_each nodes [] all path entry is = let bad : None ≡ Some entry = is in cc
looked_each nodes (l ∷ lines) all path entry is =
    ⊎_elim
    (λ at.
    let same : l.path ≡ path = sym (is_here path l.path at) in
    let value : l.entry ≡ entry = some_same (sym (head_here l lines path same) ∙ is) in
    (subst (Stands nodes) same all.0.stands, subst (λ e. IsEntryOf (nodes path) e) value (subst (λ p. IsEntryOf (nodes p) l.entry) same all.0.entry)))
    (λ off. looked_each nodes lines all.1 path entry (sym (head_off l lines path off) ∙ is))
    (cases_Bool (is_at (slice_cmp nat_cmp path) l.path))

looked_some : (lines : List ListingLine) (path : List ℕ) → IsLinePath lines path → IsSome (entry_at (entries_of lines) path)
looked_some [] path is = absurd is
looked_some (l ∷ lines) path (inl here) = subst IsSome (sym (head_here l lines path here)) refl
looked_some (l ∷ lines) path (inr there) =
    ⊎_elim
    (λ at. subst IsSome (sym (head_here l lines path (sym (is_here path l.path at)))) refl)
    (λ off. subst IsSome (sym (head_off l lines path off)) (looked_some lines path there))
    (cases_Bool (is_at (slice_cmp nat_cmp path) l.path))

-- the lines of all that stands, by look-ups
pub walked_lines : (nodes : BundleTree) (lines : List ListingLine) → AllByRecursion (IsLineOfBundle nodes) lines → ((path : List ℕ) → Stands nodes path → IsLinePath lines path) → IsWalked nodes lines
walked_lines nodes lines each whole = record {
  each = looked_each nodes lines each;
  whole = λ path stands. looked_some lines path (whole path stands);
}

-- and of what has the same look-ups
pub walked_same : (nodes : BundleTree) (lines others : List ListingLine) → ((q : List ℕ) → entry_at (entries_of others) q ≡ entry_at (entries_of lines) q) → IsWalked nodes lines → IsWalked nodes others
walked_same nodes lines others same walked = record {
  each = λ path entry is. walked.each path entry (sym (same path) ∙ is);
  whole = λ path stands. subst IsSome (sym (same path)) (walked.whole path stands);
}
