-- Taking the first line of a text.
use Rattle.std.proofs.Common.{◌≡◌, ◌≢◌, ℕ, ◌+◌, List, [], ◌∷◌, ◌++◌, length, false, Some, Err, sym, ap, subst, ◌∙◌, ◌⊎◌, inl, inr, ⊎_elim, append_assoc}
use Rattle.tree_digest.specs.declared.line.ListingLine.{ListingLine}
use Rattle.tree_digest.specs.declared.line_fault.LineFault.{LineFault}
use Rattle.tree_digest.specs.declared.line_fault.LineFault.TheVariants.{Bad, TooLong, NoMemory as OutOfMemory}
use Rattle.tree_digest.specs.declared.listing_error.ListingError.{ListingError}
use Rattle.tree_digest.specs.declared.listing_error.ListingError.TheVariants.{NoMemory}
use Rattle.path_map.specs.Paths.{HasNone}
use Rattle.tree_digest.specs.Lines.{IsLineOf, line_text, line_fields, is_too_long}
use Rattle.tree_digest.specs.Steps.{ReadsLine, FailsInLine, FailsInOrder}
use Rattle.tree_digest.specs.Listings.{FailsAt}
use Rattle.tree_digest.proofs.Cuts.{cut_once}
use Rattle.path_map.proofs.Ends.{has_cut}
use Rattle.tree_digest.proofs.LineTexts.{entry_clear}

-- a line and what follows it
pub line_then : (line : ListingLine) (rest : List ℕ) → line_text line ++ rest ≡ line_fields line ++ 10 ∷ rest
unfolding line_text
line_then line rest = append_assoc (line_fields line) (10 ∷ []) rest

-- a text without an end has no line
pub none_is_no_line : (text : List ℕ) → HasNone 10 text → (line : ListingLine) (rest : List ℕ) → text ≢ line_text line ++ rest
none_is_no_line text none line rest e =
    has_cut 10 (line_fields line) rest (subst (HasNone 10) (e ∙ line_then line rest) none)

-- the first line of a text is the one that was cut off
pub line_cut : (text front rest : List ℕ) (line : ListingLine) (more : List ℕ) → text ≡ front ++ 10 ∷ rest → HasNone 10 front → text ≡ line_text line ++ more → line_fields line ≡ front
line_cut text front rest line more e none f =
    sym (cut_once 10 front rest (line_fields line) more none (entry_clear line.entry line.path) (sym e ∙ f ∙ line_then line more)).0

pub line_back : (text front rest : List ℕ) (line : ListingLine) → text ≡ front ++ 10 ∷ rest → line_fields line ≡ front → text ≡ line_text line ++ rest
line_back text front rest line e f = e ∙ ap (λ t. t ++ 10 ∷ rest) (sym f) ∙ sym (line_then line rest)

-- the faults of a line
pub fails_in_line : (before : List ListingLine) (text front rest : List ℕ) (fault : LineFault) (number : ℕ) (error : ListingError)
    → text ≡ front ++ 10 ∷ rest → HasNone 10 front → ReadsLine front (Err fault) → number ≡ length before + 1 → FailsInLine fault number error
    → (error ≡ NoMemory) ⊎ FailsAt before text error
fails_in_line before text front rest Bad number error e none reads n is =
    inr (subst (FailsAt before text) (sym is) (n, λ line begins. reads line (begins.1, line_cut text front rest line begins.0 e none begins.2)))
fails_in_line before text front rest TooLong number error e none reads n is =
    inr (subst (FailsAt before text) (sym is) (n, (reads.0, (rest, reads.1.0, line_back text front rest reads.0 e reads.1.1), reads.2)))
fails_in_line before text front rest OutOfMemory number error e none reads n is = inl is

-- the faults of a line's place
pub fails_in_order : (before : List ListingLine) (text front rest : List ℕ) (line : ListingLine) (number : ℕ) (error : ListingError)
    → text ≡ front ++ 10 ∷ rest → IsLineOf front line → is_too_long line.entry ≡ false → number ≡ length before + 1 → FailsInOrder before line number (Some error)
    → FailsAt before text error
fails_in_order before text front rest line number error e is short n fails =
    ⊎_elim
    (λ f. subst (FailsAt before text) (sym f.0) (n, (line, (rest, is.0, line_back text front rest line e is.1), short, f.1)))
    (λ f. subst (FailsAt before text) (sym f.0) (n, (line, (rest, is.0, line_back text front rest line e is.1), short, f.1, f.2)))
    fails
