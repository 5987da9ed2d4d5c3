-- The texts of lines.
use Rattle.std.proofs.Common.{◌≡◌, ◌≢◌, ℕ, ◌<◌, ◌≤◌, true, false, ltb, min, List, [], ◌∷◌, ◌++◌, length, get_or, Err, sym, refl, ap, arith, append_assoc}
use Rattle.std.specs.List.{All}
use Rattle.std.proofs.lemmas.Bool.{lt-ltb, le-ltb}
use Rattle.hex.specs.Hex.{encode_lower}
use Rattle.path_map.specs.declared.entry.Meta.{Meta}
use Rattle.path_map.specs.declared.entry.Entry.{Entry}
use Rattle.path_map.specs.declared.entry.Entry.TheVariants.{Dir, File, Link}
use Rattle.tree_digest.specs.declared.line.ListingLine.{ListingLine}
use Rattle.tree_digest.specs.declared.line_fault.LineFault.{LineFault}
use Rattle.tree_digest.specs.declared.line_fault.LineFault.TheVariants.{Bad, TooLong, NoMemory}
use Rattle.tree_digest.specs.Fields.{octal_text, decimal_text, escaped, field, IsTarget}
use Rattle.path_map.specs.Paths.{HasNone}
use Rattle.tree_digest.specs.Lines.{entry_text, meta_text, IsMeta, IsEntry, IsLineOf}
use Rattle.tree_digest.specs.Steps.{ReadsLine}
use Rattle.tree_digest.proofs.Cuts.{cut_once, octal_clear, decimal_clear, hex_clear_end, escaped_clear_end, none_both}

-- what follows an entry is its path
pub entry_text_then : (entry : Entry) (path : List ℕ) → entry_text entry [] ++ path ≡ entry_text entry path
entry_text_then (Dir meta) path = simp append_assoc
entry_text_then (File meta size sha) path = simp append_assoc
entry_text_then (Link meta target) path = simp append_assoc

-- what a fault of a line says
pub reads_fault : (text : List ℕ) (fault : LineFault) → fault ≢ TooLong → (fault ≡ Bad → (line : ListingLine) → IsLineOf text line → ⊥) → ReadsLine text (Err fault)
reads_fault text Bad short bad = bad refl
reads_fault text TooLong short bad = absurd (short refl)
reads_fault text NoMemory short bad = tt

-- what follows the owners is there once
pub meta_once : (m n : Meta) (a b : List ℕ) → meta_text m a ≡ meta_text n b → a ≡ b
meta_once m n a b e =
    let first = cut_once 32 (octal_text m.mode) (field (decimal_text m.uid) (field (decimal_text m.gid) a)) (octal_text n.mode) (field (decimal_text n.uid) (field (decimal_text n.gid) b)) (octal_clear 32 m.mode (omega arith)) (octal_clear 32 n.mode (omega arith)) e in
    let second = cut_once 32 (decimal_text m.uid) (field (decimal_text m.gid) a) (decimal_text n.uid) (field (decimal_text n.gid) b) (decimal_clear 32 m.uid (omega arith)) (decimal_clear 32 n.uid (omega arith)) first.1 in
    (cut_once 32 (decimal_text m.gid) a (decimal_text n.gid) b (decimal_clear 32 m.gid (omega arith)) (decimal_clear 32 n.gid (omega arith)) second.1).1

-- a line that begins with a letter is of its kind
pub record IsDirectoryOf (text : List ℕ) (entry : Entry) (path : List ℕ) : Type 0 where
  pub meta : Meta
  pub is : entry ≡ Dir meta
  pub valid : IsMeta meta
  pub text_is : text ≡ meta_text meta (escaped path)

pub record IsFileOf (text : List ℕ) (entry : Entry) (path : List ℕ) : Type 0 where
  pub meta : Meta
  pub size : ℕ
  pub sha : List ℕ
  pub is : entry ≡ File meta size sha
  pub valid : IsMeta meta
  pub long : length sha ≡ 64
  pub small : All (λ b. b < 256) sha
  pub text_is : text ≡ meta_text meta (field (decimal_text size) (field (encode_lower sha) (escaped path)))

pub record IsLinkOf (text : List ℕ) (entry : Entry) (path : List ℕ) : Type 0 where
  pub meta : Meta
  pub target : List ℕ
  pub is : entry ≡ Link meta target
  pub valid : IsMeta meta
  pub good : IsTarget target
  pub text_is : text ≡ meta_text meta (field (escaped target) (escaped path))

directory_by : (text path : List ℕ) (entry : Entry) → IsEntry entry → entry_text entry (escaped path) ≡ 100 ∷ 32 ∷ text → IsDirectoryOf text entry path
directory_by text path (Dir meta) valid e =
    let rest : meta_text meta (escaped path) ≡ text = cc in
    record { meta = meta; is = refl; valid = valid; text_is = sym rest }
directory_by text path (File meta size sha) valid e = absurd (omega (arith, ap (λ (t : List ℕ). get_or t 0 0) e))
directory_by text path (Link meta target) valid e = absurd (omega (arith, ap (λ (t : List ℕ). get_or t 0 0) e))

file_by : (text path : List ℕ) (entry : Entry) → IsEntry entry → entry_text entry (escaped path) ≡ 102 ∷ 32 ∷ text → IsFileOf text entry path
file_by text path (Dir meta) valid e = absurd (omega (arith, ap (λ (t : List ℕ). get_or t 0 0) e))
file_by text path (File meta size sha) valid e =
    let rest : meta_text meta (field (decimal_text size) (field (encode_lower sha) (escaped path))) ≡ text = cc in
    record { meta = meta; size = size; sha = sha; is = refl; valid = valid.0; long = valid.1; small = valid.2; text_is = sym rest }
file_by text path (Link meta target) valid e = absurd (omega (arith, ap (λ (t : List ℕ). get_or t 0 0) e))

link_by : (text path : List ℕ) (entry : Entry) → IsEntry entry → entry_text entry (escaped path) ≡ 108 ∷ 32 ∷ text → IsLinkOf text entry path
link_by text path (Dir meta) valid e = absurd (omega (arith, ap (λ (t : List ℕ). get_or t 0 0) e))
link_by text path (File meta size sha) valid e = absurd (omega (arith, ap (λ (t : List ℕ). get_or t 0 0) e))
link_by text path (Link meta target) valid e =
    let rest : meta_text meta (field (escaped target) (escaped path)) ≡ text = cc in
    record { meta = meta; target = target; is = refl; valid = valid.0; good = valid.1; text_is = sym rest }

pub directory_of : (text : List ℕ) (line : ListingLine) → IsLineOf (100 ∷ 32 ∷ text) line → IsDirectoryOf text line.entry line.path
directory_of text line is = directory_by text line.path line.entry is.0.entry is.1

pub file_of : (text : List ℕ) (line : ListingLine) → IsLineOf (102 ∷ 32 ∷ text) line → IsFileOf text line.entry line.path
file_of text line is = file_by text line.path line.entry is.0.entry is.1

pub link_of : (text : List ℕ) (line : ListingLine) → IsLineOf (108 ∷ 32 ∷ text) line → IsLinkOf text line.entry line.path
link_of text line is = link_by text line.path line.entry is.0.entry is.1

-- a file's text from its parts
pub file_text_is : (text sizes digits rest path sha : List ℕ) (meta : Meta) (n : ℕ) → text ≡ meta_text meta sizes → sizes ≡ field (decimal_text n) digits → digits ≡ field (encode_lower sha) rest → rest ≡ escaped path
    → entry_text (File meta n sha) (escaped path) ≡ 102 ∷ 32 ∷ text
file_text_is text sizes digits rest path sha meta n a b c d = rw (a, b, c, d) refl

-- a size that was read up to a limit
pub long_size : (n size : ℕ) → size ≡ min n 1099511627776 → 1073741824 < size → ltb 1073741824 n ≡ true
long_size n size e h = lt-ltb _ _ (omega arith)

pub short_size : (n size : ℕ) → size ≡ min n 1099511627776 → size ≤ 1073741824 → size ≡ n
short_size n size e h = omega arith

pub short_test : (size : ℕ) → size ≤ 1073741824 → ltb 1073741824 size ≡ false
short_test size h = le-ltb _ _ h

meta_clear : (meta : Meta) (rest : List ℕ) → HasNone 10 rest → HasNone 10 (meta_text meta rest)
meta_clear meta rest h =
    none_both 10 (octal_text meta.mode) (32 ∷ (field (decimal_text meta.uid) (field (decimal_text meta.gid) rest))) (octal_clear 10 meta.mode (omega arith))
    (none_both 10 (decimal_text meta.uid) (32 ∷ (field (decimal_text meta.gid) rest)) (decimal_clear 10 meta.uid (omega arith))
    (none_both 10 (decimal_text meta.gid) (32 ∷ rest) (decimal_clear 10 meta.gid (omega arith)) h))

-- a line has no end but its own
pub entry_clear : (entry : Entry) (path : List ℕ) → HasNone 10 (entry_text entry (escaped path))
entry_clear (Dir meta) path = meta_clear meta (escaped path) (escaped_clear_end path)
entry_clear (File meta size sha) path =
    meta_clear meta (field (decimal_text size) (field (encode_lower sha) (escaped path))) (none_both 10 (decimal_text size) (32 ∷ (field (encode_lower sha) (escaped path))) (decimal_clear 10 size (omega arith)) (none_both 10 (encode_lower sha) (32 ∷ escaped path) (hex_clear_end sha) (escaped_clear_end path)))
entry_clear (Link meta target) path =
    meta_clear meta (field (escaped target) (escaped path)) (none_both 10 (escaped target) (32 ∷ escaped path) (escaped_clear_end target) (escaped_clear_end path))
