-- References to images: `name[:version][,label=value]*`, or the first digits of an ID.
use Rattle.std.specs.Prelude.{ℕ, ◌+◌, Bool, true, false, ◌&&◌, ◌||◌, ◌==◌, nat_le, nat_lt, List, [], ◌∷◌, ◌++◌, length, map, drop, take, Option, Some, None, Result, Ok, Err, codes, if◌then◌else◌}
use Rattle.std.specs.List.{list_all, slice_split, position_or_len, before_first, after_first}
use Rattle.std.specs.Str.{bytes_eq}
use Rattle.std.proofs.Math.ListN.{replicate}
use Rattle.ac_types.specs.Names.{are_words, is_separator}
use Rattle.ac_types.specs.SeenTexts.{is_among}
use Rattle.ac_types.specs.declared.refusals.TheConstants.{MAX_IDENTIFIER, MIN_DIGITS, ID_DIGITS}
use Rattle.ac_types.specs.declared.label.Label.{Label}
use Rattle.ac_types.specs.declared.image_ref.ImageRef.{ImageRef}
use Rattle.ac_types.specs.declared.image_ref.ImageRef.TheVariants.{Named, ById}

-- the text is an AC Identifier
abbrev pub is_identifier : List ℕ → Bool
is_identifier t = are_words is_separator t && nat_le (length t) MAX_IDENTIFIER

-- the text holds a byte at least
abbrev pub is_filled : List ℕ → Bool
is_filled [] = false
is_filled (b ∷ bs) = true

-- what stands before and behind the first of these bytes, where there is one
abbrev pub cut : ℕ → List ℕ → Option (List ℕ × List ℕ)
cut c t = if nat_lt (position_or_len (λ b. b == c) t) (length t) then Some (before_first (λ b. b == c) t, after_first (λ b. b == c) t) else None

-- a label: an identifier, `=`, and a value that isn't empty
abbrev pub label_of : Option (List ℕ × List ℕ) → Option Label
label_of None = None
label_of (Some (name, value)) = if is_identifier name && is_filled value then Some (record { name = name; value = value }) else None

-- a label's part, which isn't named `name` and has none of the names before
abbrev pub unless_named : List (List ℕ) → Option Label → Option Label
unless_named names None = None
unless_named names (Some l) = if bytes_eq l.name (codes "name") || is_among l.name names then None else Some l

abbrev pub label_part : List Label → List ℕ → Option Label
label_part before part = unless_named (map (λ (l : Label). l.name) before) (label_of (cut 61 part))

-- the labels of parts, after those before; the place of the first part that isn't readable
abbrev pub and_more : (Label → Result (List Label) ℕ) → ℕ → Option Label → Result (List Label) ℕ
and_more next place None = Err place
and_more next place (Some l) = next l

abbrev pub labels_from : ℕ → List Label → List (List ℕ) → Result (List Label) ℕ
labels_from place before [] = Ok before
labels_from place before (part ∷ parts) =
    and_more (λ l. labels_from (place + (length part + 1)) (before ++ l ∷ []) parts) place (label_part before part)

-- the first part: a name, and after a colon a version, which is the first label
abbrev pub head_part : List ℕ → Option (List ℕ × List ℕ) → Result (List ℕ × List Label) ℕ
head_part part None = if is_identifier part then Ok (part, []) else Err 0
head_part part (Some (name, version)) =
    if is_identifier name then
    (if is_filled version then Ok (name, record { name = codes "version"; value = version } ∷ []) else Err (length name + 1))
    else Err 0

-- the labels that a version is
abbrev pub version_labels : Option (List ℕ) → List Label
version_labels None = []
version_labels (Some version) = record { name = codes "version"; value = version } ∷ []

-- a reference by name, from the parts between its commas
abbrev pub with_name : List ℕ → Result (List Label) ℕ → Result ImageRef ℕ
with_name name (Ok labels) = Ok (Named name labels)
with_name name (Err place) = Err place

abbrev pub after_head : List ℕ → List (List ℕ) → Result (List ℕ × List Label) ℕ → Result ImageRef ℕ
after_head part parts (Ok (name, labels)) = with_name name (labels_from (length part + 1) labels parts)
after_head part parts (Err place) = Err place

abbrev pub named : List (List ℕ) → Result ImageRef ℕ
named [] = Err 0
named (part ∷ parts) = after_head part parts (head_part part (cut 58 part))

-- a reference by ID: 2 to 128 lower-case hex digits
abbrev pub is_lower_digit : ℕ → Bool
is_lower_digit b = (nat_le 48 b && nat_le b 57) || (nat_le 97 b && nat_le b 102)

abbrev pub are_id_digits : List ℕ → Bool
are_id_digits digits = nat_le MIN_DIGITS (length digits) && nat_le (length digits) ID_DIGITS && list_all is_lower_digit digits

abbrev pub by_id : List ℕ → Result ImageRef ℕ
by_id digits =
    if are_id_digits digits then Ok (ById (digits ++ drop (length digits) (replicate 128 0)) (length digits)) else Err 0

-- the reference that a word is, or the place of its first part that isn't readable
unfoldable pub reference : List ℕ → Result ImageRef ℕ
reference word =
    if bytes_eq (take 7 word) (codes "sha512-") then by_id (drop 7 word) else named (slice_split (λ b. b == 44) word)
