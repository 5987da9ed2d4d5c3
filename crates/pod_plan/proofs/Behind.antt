-- Each line of a listing comes behind the one before it.
use Rattle.std.proofs.Common.{◌≡◌, ◌<◌, ℕ, zero, suc, true, List, [], ◌∷◌, length, get_or, Equal, refl, ap, ◌∙◌, arith}
use Rattle.std.specs.List.Sorted.{IsStrictlySortedBy}
use Rattle.std.specs.Map.{keys_of}
use Rattle.std.specs.Ordering.{nat_cmp, is_lt, is_eq}
use Rattle.std.specs.Cmp.Lexicographic.{slice_cmp, texts_ties}
use Rattle.std.proofs.lemmas.Slice.Eq.{bytes_eq-Decides}
use Rattle.std.proofs.lemmas.Map.Keys.{sorted_head, sorted_tail}
use Rattle.path_map.specs.After.{is_after}
use Rattle.tree_digest.specs.declared.line.ListingLine.{ListingLine}
use Rattle.tree_digest.specs.Listings.{IsListing, entries_of}
use Rattle.tree_digest.proofs.MapLines.{rising_lines}
use Rattle.pod_plan.specs.RootSteps.{path_before}

rises : (lines : List ListingLine) → IsStrictlySortedBy (slice_cmp nat_cmp) (keys_of (entries_of lines)) → (i : ℕ) (d : ListingLine) → i < length lines → is_after (path_before lines i) (get_or lines i d).path ≡ true
rises lines rising zero d within = refl
rises [] rising (suc i) d within = absurd (omega (arith, within))
rises (l ∷ []) rising (suc i) d within = absurd (omega (arith, within))
rises (l ∷ m ∷ ls) rising (suc zero) d within = ap is_lt (sorted_head (slice_cmp nat_cmp) l.path (keys_of (entries_of (m ∷ ls))) rising).0
rises (l ∷ m ∷ ls) rising (suc (suc i)) d within = rises (m ∷ ls) (sorted_tail (slice_cmp nat_cmp) l.path (keys_of (entries_of (m ∷ ls))) rising) (suc i) d (omega (arith, within))

pub comes_behind : (lines : List ListingLine) → IsListing lines → (i : ℕ) (d : ListingLine) → i < length lines → is_after (path_before lines i) (get_or lines i d).path ≡ true
comes_behind lines kind i d within = rises lines (rising_lines [] lines kind.follow) i d within

-- two paths that neither comes before the other are one
pub same_path : (p q : List ℕ) → slice_cmp nat_cmp p q ≡ Equal → p ≡ q
same_path p q tie = (bytes_eq-Decides p q).0 (texts_ties p q ∙ ap is_eq tie)
