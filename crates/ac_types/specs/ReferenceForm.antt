-- What a reference is, by its form: parts between commas, of which the first is a name, or a name and a
-- version, and the others are labels; or an ID's first digits.
use Rattle.std.specs.Prelude.{◌≡◌, ◌≢◌, ◌≤◌, ℕ, true, false, ◌==◌, List, [], ◌∷◌, ◌++◌, length, map, drop, Option, Some, None, Result, Ok, Err, codes, take}
use Rattle.std.specs.List.{All, list_all, join_with_byte}
use Rattle.std.proofs.Math.ListN.{replicate}
use Rattle.ac_types.specs.Names.{IsAcIdentifier}
use Rattle.ac_types.specs.References.{is_lower_digit, version_labels}
use Rattle.ac_types.specs.SeenTexts.{is_among}
use Rattle.ac_types.specs.declared.refusals.TheConstants.{MIN_DIGITS, ID_DIGITS}
use Rattle.ac_types.specs.declared.label.Label.{Label}
use Rattle.ac_types.specs.declared.image_ref.ImageRef.{ImageRef}
use Rattle.ac_types.specs.declared.image_ref.RefError.{RefError}
use Rattle.ac_types.specs.declared.image_ref.RefError.TheVariants.{BadRef, NoMemory}
use Rattle.ac_types.specs.declared.image_ref.ImageRef.TheVariants.{Named, ById}

-- the byte doesn't stand in the text
abbrev pub Lacks : ℕ → List ℕ → Type 0
Lacks c t = All (λ b. (b == c) ≡ false) t

-- the text of the first part: a name, and a colon and a version behind it
abbrev pub head_text : List ℕ → Option (List ℕ) → List ℕ
head_text name None = name
head_text name (Some version) = name ++ (codes ":" ++ version)

-- the text of a label: its name, `=` and its value
abbrev pub label_text : Label → List ℕ
label_text l = l.name ++ (codes "=" ++ l.value)

-- a version or a value: some bytes, without a comma, which is the byte 44
abbrev pub IsValue : List ℕ → Type 0
IsValue t = (t ≢ []) × Lacks 44 t

abbrev pub IsVersion : Option (List ℕ) → Type 0
IsVersion None = Unit {0}
IsVersion (Some version) = IsValue version

-- labels in a row: none is named `name`, or as one before it
abbrev pub AreNewLabels : List (List ℕ) → List Label → Type 0
AreNewLabels before [] = Unit {0}
AreNewLabels before (l ∷ ls) =
    IsAcIdentifier l.name × IsValue l.value × (l.name ≢ codes "name") × (is_among l.name before ≡ false)
    × AreNewLabels (before ++ l.name ∷ []) ls

-- a name, a version and labels, which stand between commas; the version is the first label
abbrev pub IsNamed : List ℕ → List ℕ → List Label → Type 0
IsNamed word name labels =
    (version : Option (List ℕ)) × (more : List Label)
    × IsAcIdentifier name × IsVersion version × AreNewLabels (map (λ (l : Label). l.name) (version_labels version)) more
    × (labels ≡ version_labels version ++ more)
    × (word ≡ join_with_byte 44 (head_text name version ∷ map label_text more))

-- 2 to 128 lower-case hex digits, with zero bytes behind them
abbrev pub IsDigits : List ℕ → List ℕ → ℕ → Type 0
IsDigits text digits len =
    (MIN_DIGITS ≤ length text) × (length text ≤ ID_DIGITS) × (list_all is_lower_digit text ≡ true)
    × (digits ≡ text ++ drop (length text) (replicate 128 0)) × (len ≡ length text)

-- the word begins as one of an ID
abbrev pub BeginsById : List ℕ → Type 0
BeginsById word = take 7 word ≡ codes "sha512-"

-- the word is this reference
abbrev pub IsReference : List ℕ → ImageRef → Type 0
IsReference word (Named name labels) = (¬ BeginsById word) × IsNamed word name labels
IsReference word (ById digits len) = (text : List ℕ) × (word ≡ codes "sha512-" ++ text) × IsDigits text digits len

-- why a word isn't read: the place at which it stops to be a reference; memory is asked for only where it is one
abbrev pub IsRefError : Result ImageRef ℕ → RefError → Type 0
IsRefError read (BadRef place) = read ≡ Err place
IsRefError read NoMemory = (ref : ImageRef) × (read ≡ Ok ref)
