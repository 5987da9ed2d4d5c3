-- What the steps of reading a listing answer.
use Rattle.std.specs.Prelude.{◌≡◌, ℕ, List, Option, Result, Ok, Err, true, false, ◌⊎◌, ⊤, MatchOption}
use Rattle.path_map.specs.Paths.{EndsIn}
use Rattle.tree_digest.specs.declared.line.ListingLine.{ListingLine}
use Rattle.tree_digest.specs.declared.line_fault.LineFault.{LineFault}
use Rattle.tree_digest.specs.declared.line_fault.LineFault.TheVariants.{Bad, TooLong, NoMemory as OutOfMemory}
use Rattle.tree_digest.specs.declared.listing_error.ListingError.{ListingError}
use Rattle.tree_digest.specs.declared.listing_error.ListingError.TheVariants.{BadLine, NotSorted, NoParent, FileTooLong, NoMemory}
use Rattle.tree_digest.specs.Lines.{IsLineOf, is_too_long}
use Rattle.tree_digest.specs.Listings.{Rises, LacksParent, is_parent}

-- what reading a line answers: the line that the text is, that it is none, or that its file is too long
abbrev pub ReadsLine : List ℕ → Result ListingLine LineFault → Type 0
ReadsLine text (Ok line) = IsLineOf text line × (is_too_long line.entry ≡ false)
ReadsLine text (Err Bad) = (line : ListingLine) → ¬ IsLineOf text line
ReadsLine text (Err TooLong) = (line : ListingLine) × IsLineOf text line × (is_too_long line.entry ≡ true)
ReadsLine text (Err OutOfMemory) = ⊤

-- what keeps a line from following the lines before, if anything
abbrev pub FailsInOrder : List ListingLine → ListingLine → ℕ → Option ListingError → Type 0
FailsInOrder before line number result =
    MatchOption result
    (Rises before line × ((parent name : List ℕ) → EndsIn line.path parent name → is_parent before parent ≡ true))
    (λ error. ((error ≡ NotSorted number) × ¬ Rises before line)
    ⊎ ((error ≡ NoParent number) × Rises before line × LacksParent before line))

-- the error of a line's fault
abbrev pub FailsInLine : LineFault → ℕ → ListingError → Type 0
FailsInLine Bad number error = error ≡ BadLine number
FailsInLine TooLong number error = error ≡ FileTooLong number
FailsInLine OutOfMemory number error = error ≡ NoMemory
