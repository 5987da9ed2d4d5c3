-- Laying the lines of a walk over a map, one after the other.
use Rattle.std.proofs.Common.{◌≡◌, ℕ, zero, suc, ◌<◌, true, List, [], ◌∷◌, ◌++◌, length, get_or, take, sym, ap, subst, ◌∙◌, inr, arith, append_assoc, append-nil}
use Rattle.std.specs.List.{AllByRecursion}
use Rattle.path_map.specs.Entries.{Tree, entry_at, is_directory_at}
use Rattle.path_map.specs.Overlay.{overlaid}
use Rattle.path_map.specs.Paths.{lies_below}
use Rattle.path_map.proofs.Below.{below_rest, below_itself}
use Rattle.path_map.proofs.OverlayLaws.{by_place, laid_here, laid_below, laid_above, laid_apart, directory_stays, below_ancestor}
use Rattle.tree_digest.specs.declared.line.ListingLine.{ListingLine}
use Rattle.tree_digest.specs.Listings.{entries_of, IsListable}
use Rattle.bundle_image.specs.Walks.{ComesBefore, AreInWalkOrder}
use Rattle.bundle_image.specs.Work.{HasDirectories, HaveDirectories}
use Rattle.tree_digest.proofs.MapLines.{at_more}
use Rattle.bundle_image.proofs.Look.{at_end, none_yet}

each_at : (P : ListingLine → Type 0) (lines : List ListingLine) (i : ℕ) (d : ListingLine) → AllByRecursion P lines → i < length lines → P (get_or lines i d)
each_at P [] i d all inside = absurd (omega arith)
each_at P (l ∷ lines) zero d all inside = all.0
each_at P (l ∷ lines) (suc i) d all inside = each_at P lines i d all.1 (omega arith)

pub listable_at : (lines : List ListingLine) (i : ℕ) (d : ListingLine) → AllByRecursion (λ line. IsListable line.entry) lines → i < length lines → IsListable (get_or lines i d).entry
listable_at lines i d all inside = each_at (λ line. IsListable line.entry) lines i d all inside

pub later_at : (lines : List ListingLine) (i : ℕ) (d : ListingLine) → AreInWalkOrder lines → i < length lines → AllByRecursion (λ l. ComesBefore l.path (get_or lines i d).path) (take i lines)
later_at [] i d order inside = absurd (omega arith)
later_at (l ∷ lines) zero d order inside = tt
later_at (l ∷ lines) (suc i) d order inside =
    (each_at (λ later. ComesBefore l.path later.path) lines i d order.0 (omega arith), later_at lines i d order.1 (omega arith))

pub directories_at : (before lines : List ListingLine) (i : ℕ) (d : ListingLine) → HaveDirectories before lines → i < length lines → HasDirectories (before ++ take i lines) (get_or lines i d).path
directories_at before [] i d have inside = absurd (omega arith)
directories_at before (l ∷ lines) zero d have inside = subst (λ b. HasDirectories b l.path) (sym (append-nil before)) have.0
directories_at before (l ∷ lines) (suc i) d have inside =
    subst (λ b. HasDirectories b (get_or lines i d).path) (append_assoc before (l ∷ []) (take i lines)) (directories_at (before ++ l ∷ []) lines i d have.1 (omega arith))

-- a line that all others come before is added at the end
pub lay_line : (before : List ListingLine) (line : ListingLine) → AllByRecursion (λ l. ComesBefore l.path line.path) before → HasDirectories before line.path
    → (tree : Tree) → ((q : List ℕ) → tree q ≡ entry_at (entries_of before) q) → (q : List ℕ) → overlaid tree line.path line.entry q ≡ entry_at (entries_of (before ++ line ∷ [])) q
lay_line before line later has tree so q =
    by_place line.path line.entry q
    (λ same. laid_here tree line.path line.entry q same ∙ sym (at_end before line later) ∙ ap (entry_at (entries_of (before ++ line ∷ []))) same)
    (λ kind below.
    let rest = below_rest q line.path below in
    laid_below tree line.path line.entry q kind below
    ∙ sym (at_more before line q (λ same. below_itself line.path (subst (λ t. lies_below t line.path ≡ true) (sym same) below)) ∙ none_yet before line.path q later (inr rest)))
    (λ up.
    let dir = ap is_directory_at (so q) ∙ has q up in
    laid_above tree line.path line.entry q up ∙ directory_stays (tree q) dir ∙ so q
    ∙ sym (at_more before line q (λ same. below_itself q (subst (λ t. lies_below t q ≡ true) same (below_ancestor q line.path up)))))
    (λ other clear apart. laid_apart tree line.path line.entry q other clear apart ∙ so q ∙ sym (at_more before line q other))
