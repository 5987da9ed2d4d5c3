-- The lines of a listing.
use Rattle.std.specs.Prelude.{◌≡◌, ℕ, ◌<◌, Bool, false, nat_lt, List, [], ◌∷◌, ◌++◌, length}
use Rattle.std.specs.List.{All}
use Rattle.hex.specs.Hex.{encode_lower}
use Rattle.path_map.specs.declared.entry.Meta.{Meta}
use Rattle.path_map.specs.declared.entry.Entry.{Entry}
use Rattle.path_map.specs.declared.entry.Entry.TheVariants.{Dir, File, Link}
use Rattle.path_map.specs.Paths.{IsAbsPath}
use Rattle.tree_digest.specs.declared.line.ListingLine.{ListingLine}
use Rattle.tree_digest.specs.declared.refusals.TheConstants.{MAX_FILE}
use Rattle.tree_digest.specs.Fields.{octal_text, decimal_text, escaped, field, IsTarget}

-- the mode and the owners, and what follows them
abbrev pub meta_text : Meta → List ℕ → List ℕ
meta_text meta rest = field (octal_text meta.mode) (field (decimal_text meta.uid) (field (decimal_text meta.gid) rest))

-- an entry, and its path at the end
abbrev pub entry_text : Entry → List ℕ → List ℕ
entry_text (Dir meta) path = field (100 ∷ []) (meta_text meta path)
entry_text (File meta size sha) path = field (102 ∷ []) (meta_text meta (field (decimal_text size) (field (encode_lower sha) path)))
entry_text (Link meta target) path = field (108 ∷ []) (meta_text meta (field (escaped target) path))

-- a line without its end
abbrev pub line_fields : ListingLine → List ℕ
line_fields line = entry_text line.entry (escaped line.path)

-- a line
unfoldable pub line_text : ListingLine → List ℕ
line_text line = line_fields line ++ 10 ∷ []

-- a mode of four octal digits, and owners of 32 bits
pub record IsMeta (meta : Meta) : Type 0 where
  pub mode : meta.mode < 4096
  pub uid : meta.uid < 4294967296
  pub gid : meta.gid < 4294967296

-- what a line may say of an entry
abbrev pub IsEntry : Entry → Type 0
IsEntry (Dir meta) = IsMeta meta
IsEntry (File meta size sha) = IsMeta meta × (length sha ≡ 64) × All (λ b. b < 256) sha
IsEntry (Link meta target) = IsMeta meta × IsTarget target

-- a line of one of the three forms, whatever its size
pub record IsLine (line : ListingLine) : Type 0 where
  pub path : IsAbsPath line.path
  pub entry : IsEntry line.entry

-- the text is that line, without its end
abbrev pub IsLineOf : List ℕ → ListingLine → Type 0
IsLineOf text line = IsLine line × (line_fields line ≡ text)

-- a file longer than 1 GiB
abbrev pub is_too_long : Entry → Bool
is_too_long (Dir meta) = false
is_too_long (File meta size sha) = nat_lt MAX_FILE size
is_too_long (Link meta target) = false

-- the mode of an entry
abbrev pub mode_of : Entry → ℕ
mode_of (Dir meta) = meta.mode
mode_of (File meta size sha) = meta.mode
mode_of (Link meta target) = meta.mode
