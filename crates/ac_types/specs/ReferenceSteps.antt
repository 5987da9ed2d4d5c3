-- Steps of the reading of references, and of the search for the place at which a word stops to be one.
use Rattle.std.specs.Prelude.{◌≡◌, ◌==◌, ◌+◌, ℕ, Bool, true, false, List, [], ◌∷◌, Option, Some, None, Result, Ok, Err, codes, map, length}
use Rattle.std.specs.List.{slice_split, list_any}
use Rattle.std.specs.Str.{bytes_eq}
use Rattle.ac_types.specs.References.{cut}
use Rattle.ac_types.specs.SeenTexts.{is_among}
use Rattle.ac_types.specs.declared.image_ref.RefError.{RefError}
use Rattle.ac_types.specs.declared.image_ref.RefError.TheVariants.{BadRef, NoMemory}
use Rattle.ac_types.specs.declared.label.Label.{Label}

-- the place at which a reading stops; none where it comes to a value
abbrev pub StopsAt : {A : Type 0} → Result A ℕ → Option ℕ → Type 0
StopsAt {A} read None = (value : A) × (read ≡ Ok value)
StopsAt read (Some place) = read ≡ Err place

-- the parts of a text, where there is one
abbrev pub parts_in : Option (List ℕ) → List (List ℕ)
parts_in None = []
parts_in (Some text) = slice_split (λ b. b == 44) text

-- what was cut at its `=` has this name
abbrev pub has_name : List ℕ → Option (List ℕ × List ℕ) → Bool
has_name name None = false
has_name name (Some (found, value)) = bytes_eq found name

-- the names of the labels that a version is
abbrev pub version_names : Bool → List (List ℕ)
version_names true = codes "version" ∷ []
version_names false = []

-- the labels have the names of the parts
abbrev pub HasNames : List (List ℕ) → List Label → Type 0
HasNames parts labels =
    (name : List ℕ) → is_among name (map (λ (l : Label). l.name) labels) ≡ list_any (λ p. has_name name (cut 61 p)) parts

-- a first part was read, with a version or without
abbrev pub IsHeadOf : Result (List ℕ × List Label) ℕ → Bool → Type 0
IsHeadOf read versioned =
    (name : List ℕ) × (first : List Label) × (read ≡ Ok (name, first)) × (map (λ (l : Label). l.name) first ≡ version_names versioned)

-- a call answers what was read, or the place that wasn't readable, or that memory ran out
abbrev pub IsRefused : {A : Type 0} → Result A ℕ → RefError → Type 0
IsRefused read (BadRef place) = read ≡ Err place
IsRefused read NoMemory = Unit {0}

abbrev pub IsRead : {A : Type 0} → Result A ℕ → Result A RefError → Type 0
IsRead read (Ok value) = read ≡ Ok value
IsRead read (Err error) = IsRefused read error

-- the bytes of parts, each with its comma
abbrev pub parts_size : List (List ℕ) → ℕ
parts_size [] = 0
parts_size (part ∷ parts) = (length part + 1) + parts_size parts
