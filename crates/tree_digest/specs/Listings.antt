-- Listings: the texts of trees.
use Rattle.std.specs.Prelude.{◌≡◌, ℕ, ◌+◌, ◌-◌, ◌<◌, ◌≤◌, ◌==◌, Bool, true, false, ◌&&◌, ◌||◌, List, [], ◌∷◌, ◌++◌, length, count_by, slice_index, if◌then◌else◌, ⊤, ◌⊎◌, nat_lt, MatchBool, map}
use Rattle.std.specs.List.{flat_map, list_any, slice_get}
use Rattle.std.specs.Option.{option_map_or}
use Rattle.std.specs.Ordering.{nat_cmp}
use Rattle.std.specs.declared.cmp.Ordering.TheVariants.{Less}
use Rattle.std.specs.Cmp.Lexicographic.{slice_cmp}
use Rattle.std.specs.Str.{bytes_eq}
use Rattle.path_map.specs.declared.entry.Entry.{Entry}
use Rattle.path_map.specs.declared.entry.Entry.TheVariants.{Dir, File, Link}
use Rattle.path_map.specs.Entries.{Entries, Tree, EachEntry, is_directory}
use Rattle.tree_digest.specs.declared.line.ListingLine.{ListingLine}
use Rattle.tree_digest.specs.declared.refusals.TheConstants.{MAX_LINES, MAX_BYTES, MAX_FILE, MAX_TARGET}
use Rattle.tree_digest.specs.declared.listing_error.ListingError.{ListingError}
use Rattle.tree_digest.specs.declared.listing_error.ListingError.TheVariants.{BadLine, NotSorted, NoParent, TooMany, FileTooLong, NoMemory}
use Rattle.path_map.specs.Paths.{HasNone, EndsIn}
use Rattle.tree_digest.specs.Lines.{IsLine, line_text, is_too_long}

-- the text of a list of lines: one after the other
abbrev pub listing_text : List ListingLine → List ℕ
listing_text lines = flat_map line_text lines

-- the path of the last line; for no line the empty text, which is below every path
abbrev pub last_path : List ListingLine → List ℕ
last_path lines = option_map_or (λ (line : ListingLine). line.path) (slice_get lines (length lines - 1)) []

-- one of the lines is that of a directory at the path
abbrev pub has_directory : List ListingLine → List ℕ → Bool
has_directory lines path = list_any (λ line. bytes_eq line.path path && is_directory line.entry) lines

-- a path is the root or that of a directory
abbrev pub is_parent : List ListingLine → List ℕ → Bool
is_parent lines parent = (length parent == 0) || has_directory lines parent

-- the line comes after all lines before
abbrev pub Rises : List ListingLine → ListingLine → Type 0
Rises before line = slice_cmp nat_cmp (last_path before) line.path ≡ Less

-- the line may follow the lines before
pub record Follows (before : List ListingLine) (next : ListingLine) : Type 0 where
  pub line : IsLine next
  pub short : is_too_long next.entry ≡ false
  pub rises : Rises before next
  pub parents : (parent name : List ℕ) → EndsIn next.path parent name → is_parent before parent ≡ true

-- each line may follow those before it
abbrev pub AllFollow : List ListingLine → List ListingLine → Type 0
AllFollow before [] = ⊤
AllFollow before (line ∷ lines) = Follows before line × AllFollow (before ++ line ∷ []) lines

-- the lines of a text: its line ends, and one more where it does not end in one
abbrev pub line_count : List ℕ → ℕ
line_count text = count_by (λ b. b == 10) text + (if (length text == 0) || (slice_index text (length text - 1) == 10) then 0 else 1)

-- lines that are a listing
pub record IsListing (lines : List ListingLine) : Type 0 where
  pub follow : AllFollow [] lines
  pub count : length lines ≤ MAX_LINES
  pub size : length (listing_text lines) ≤ MAX_BYTES

-- the text begins with the line
abbrev pub BeginsWith : List ℕ → ListingLine → Type 0
BeginsWith text line = (rest : List ℕ) × IsLine line × (text ≡ line_text line ++ rest)

-- the line's parent isn't the root and not a directory of the lines before
abbrev pub LacksParent : List ListingLine → ListingLine → Type 0
LacksParent before line =
    (parent : List ℕ) × (name : List ℕ) × EndsIn line.path parent name × (is_parent before parent ≡ false)

-- why the line that begins a text may not follow the lines before
abbrev pub FailsAt : List ListingLine → List ℕ → ListingError → Type 0
FailsAt before text (BadLine n) = (n ≡ length before + 1) × ((line : ListingLine) → ¬ BeginsWith text line)
FailsAt before text (FileTooLong n) =
    (n ≡ length before + 1) × ((line : ListingLine) × BeginsWith text line × (is_too_long line.entry ≡ true))
FailsAt before text (NotSorted n) =
    (n ≡ length before + 1)
    × ((line : ListingLine) × BeginsWith text line × (is_too_long line.entry ≡ false) × ¬ Rises before line)
FailsAt before text (NoParent n) =
    (n ≡ length before + 1)
    × ((line : ListingLine) × BeginsWith text line × (is_too_long line.entry ≡ false) × Rises before line × LacksParent before line)
FailsAt before text (TooMany limit) = ⊥
FailsAt before text NoMemory = ⊥

-- a text of too many lines or bytes
abbrev pub IsTooMany : List ℕ → ListingError → Type 0
IsTooMany text error =
    MatchBool (nat_lt MAX_LINES (line_count text)) (error ≡ TooMany MAX_LINES) ((MAX_BYTES < length text) × (error ≡ TooMany MAX_BYTES))

-- a text goes wrong at the first line that does not follow those before it
pub record StopsAt (text : List ℕ) (error : ListingError) : Type 0 where
  pub before : List ListingLine
  pub after : List ℕ
  pub some : 0 < length after
  pub follow : AllFollow [] before
  pub is : text ≡ listing_text before ++ after
  pub fault : FailsAt before after error

-- the text has at most 65,536 lines and 33,554,432 bytes
abbrev pub Fits : List ℕ → Type 0
Fits text = (line_count text ≤ MAX_LINES) × (length text ≤ MAX_BYTES)

-- the first fault of a text: too many lines, too many bytes, or at the first line that has one
abbrev pub Fails : List ℕ → ListingError → Type 0
Fails text error = IsTooMany text error ⊎ (Fits text × StopsAt text error)

-- the entries of lines, and the lines of entries
abbrev pub entries_of : List ListingLine → Entries
entries_of lines = map (λ line. (line.path, line.entry)) lines

abbrev pub lines_of : Entries → List ListingLine
lines_of entries = map (λ e. record { path = e.0; entry = e.1 }) entries

-- the entry may stand in a listing: a mode of four octal digits, a file of at most 1,073,741,824
-- bytes, a target of 1 to 4,095 bytes without NUL
abbrev pub IsListable : Entry → Type 0
IsListable (Dir meta) = meta.mode < 4096
IsListable (File meta size sha) = (meta.mode < 4096) × (size ≤ MAX_FILE)
IsListable (Link meta target) = (meta.mode < 4096) × (1 ≤ length target) × (length target ≤ MAX_TARGET) × HasNone 0 target

-- each entry of a tree may stand in a listing
abbrev pub AreListable : Tree → Type 0
AreListable tree = EachEntry (λ path entry. IsListable entry) tree

-- too many lines, or too long a text of them
abbrev pub IsTooLarge : List ListingLine → ListingError → Type 0
IsTooLarge lines error =
    MatchBool (nat_lt MAX_LINES (length lines)) (error ≡ TooMany MAX_LINES) ((MAX_BYTES < length (listing_text lines)) × (error ≡ TooMany MAX_BYTES))
