-- The lines of a listing, one after the other.
use Rattle.std.proofs.Common.{◌≡◌, ℕ, zero, suc, ◌<◌, cond, ◌==◌, List, [], ◌∷◌, ◌++◌, length, get_or, count_by, sym, refl, ap, subst, ◌∙◌, arith, append_assoc, length-append}
use Rattle.std.proofs.lemmas.Bool.{or_parts, cond-false}
use Rattle.std.proofs.lemmas.List.Sums.{sum_by-append}
use Rattle.std.proofs.lemmas.List.{append-nil}
use Rattle.std.proofs.lemmas.Grind.{flat_map-append}
use Rattle.path_map.specs.declared.entry.Entry.{Entry}
use Rattle.path_map.specs.declared.entry.Entry.TheVariants.{Dir, File, Link}
use Rattle.tree_digest.specs.declared.line.ListingLine.{ListingLine}
use Rattle.path_map.specs.Paths.{HasNone}
use Rattle.tree_digest.specs.Lines.{IsLine, IsEntry, line_text, line_fields, mode_of}
use Rattle.tree_digest.specs.Listings.{listing_text, AllFollow, Follows}
use Rattle.tree_digest.proofs.LineTexts.{entry_clear}

-- a line more
pub text_more : (lines : List ListingLine) (line : ListingLine) → listing_text (lines ++ line ∷ []) ≡ listing_text lines ++ line_text line
text_more lines line =
    flat_map-append line_text lines (line ∷ []) ∙ ap (λ t. listing_text lines ++ t) (append-nil (line_text line))

pub follow_more : (before lines : List ListingLine) (line : ListingLine) → AllFollow before lines → Follows (before ++ lines) line → AllFollow before (lines ++ line ∷ [])
follow_more before [] line all next = (subst (λ b. Follows b line) (append-nil before) next, tt)
follow_more before (l ∷ lines) line all next =
    (all.0, follow_more (before ++ l ∷ []) lines line all.1 (subst (λ b. Follows b line) (sym (append_assoc before (l ∷ []) lines)) next))

pub line_some : (line : ListingLine) → 0 < length (line_text line)
unfolding line_text
line_some line = omega (arith, length-append (line_fields line) (10 ∷ []))

-- a valid line has a mode of four digits
pub mode_fits : (entry : Entry) → IsEntry entry → mode_of entry < 4096
mode_fits (Dir meta) h = h.mode
mode_fits (File meta size sha) h = h.0.mode
mode_fits (Link meta target) h = h.0.mode

pub valid_at : (before lines : List ListingLine) (i : ℕ) (d : ListingLine) → AllFollow before lines → i < length lines → IsLine (get_or lines i d)
valid_at before [] i d all inside = absurd (omega arith)
valid_at before (l ∷ lines) zero d all inside = all.0.line
valid_at before (l ∷ lines) (suc i) d all inside = valid_at (before ++ l ∷ []) lines i d all.1 (omega arith)

-- a text without a byte counts none
pub none_counted : (c : ℕ) (t : List ℕ) → HasNone c t → count_by (λ b. b == c) t ≡ 0
none_counted c [] h = refl
none_counted c (x ∷ t) h =
    let split = or_parts _ _ h in
    sum_by-append (λ b. cond (b == c) 1 0) (x ∷ []) t ∙ omega (arith, none_counted c t split.1, cond-false {A = ℕ} (x == c) 1 0 split.0)

-- a listing has as many line ends as lines
line_counted : (line : ListingLine) → count_by (λ b. b == 10) (line_text line) ≡ 1
unfolding line_text
line_counted line =
    sum_by-append (λ b. cond (b == 10) 1 0) (line_fields line) (10 ∷ []) ∙ omega (arith, none_counted 10 (line_fields line) (entry_clear line.entry line.path))

pub lines_counted : (lines : List ListingLine) → count_by (λ b. b == 10) (listing_text lines) ≡ length lines
lines_counted [] = refl
lines_counted (line ∷ lines) =
    sum_by-append (λ b. cond (b == 10) 1 0) (line_text line) (listing_text lines) ∙ omega (arith, line_counted line, lines_counted lines)
