-- Places, which are absolute paths with no step upward, and program words.
use Rattle.std.specs.Prelude.{ℕ, Bool, false, not, ◌&&◌, ◌||◌, ◌==◌, List, [], ◌∷◌, Option, Some, None, codes, if◌then◌else◌}
use Rattle.std.specs.List.{list_any, flat_map, slice_split}
use Rattle.std.specs.Str.{bytes_eq}
use Rattle.serde_json.specs.Data.{Data}
use Rattle.ac_types.specs.FieldForms.{text, filled_text}
use Rattle.ac_types.specs.Outcomes.{Outcome, reads, fails, ◌>>=◌}
use Rattle.ac_types.specs.declared.fault.FaultKind.TheVariants.{BadPath}

-- the byte is `/`
abbrev pub is_slash : ℕ → Bool
is_slash b = b == 47

-- the text holds a NUL
abbrev pub has_nul : List ℕ → Bool
has_nul t = list_any (λ b. b == 0) t

-- the text begins with `/`
abbrev pub is_rooted : List ℕ → Bool
is_rooted [] = false
is_rooted (b ∷ bs) = b == 47

-- one of the segments is `..`
abbrev pub has_parent : List (List ℕ) → Bool
has_parent segments = list_any (λ s. bytes_eq s (codes "..")) segments

-- the segment names no folder: it is empty or `.`
abbrev pub is_dropped : List ℕ → Bool
is_dropped segment = bytes_eq segment [] || bytes_eq segment (codes ".")

-- a segment behind a slash, or nothing where it is dropped
abbrev pub with_slash : List ℕ → List ℕ
with_slash segment = if is_dropped segment then [] else 47 ∷ segment

-- the root, where no segment is left
abbrev pub or_root : List ℕ → List ℕ
or_root [] = codes "/"
or_root (b ∷ bs) = b ∷ bs

-- the path of some segments, with those that are dropped left out
abbrev pub joined : List (List ℕ) → List ℕ
joined segments = or_root (flat_map with_slash segments)

-- the text is a place: it begins with `/`, and has no NUL and no segment `..`
abbrev pub is_place : List ℕ → Bool
is_place t = is_rooted t && not (has_nul t) && not (has_parent (slice_split is_slash t))

-- the place that a text is, as it is held
unfoldable pub place_text : List ℕ → Option (List ℕ)
place_text t = if is_place t then Some (joined (slice_split is_slash t)) else None

-- the text has no `/`, isn't empty and holds no NUL
abbrev pub is_bare_word : List ℕ → Bool
is_bare_word t = not (bytes_eq t [] || has_nul t || list_any is_slash t)

-- the program word that a text is, as it is held: a place or a bare word
unfoldable pub program_text : List ℕ → Option (List ℕ)
program_text t = if is_rooted t then place_text t else (if is_bare_word t then Some t else None)

-- a text as it is held, where it is good
abbrev pub held : List ℕ → Option (List ℕ) → Outcome (List ℕ)
held at None = fails at BadPath
held at (Some t) = reads t

-- a text that is a place
abbrev pub place_field : List ℕ → Data → Outcome (List ℕ)
place_field at d = text at d >>= λ t. held at (place_text t)

-- the same, where an empty text counts as missing
abbrev pub filled_place : List ℕ → Data → Outcome (List ℕ)
filled_place at d = filled_text at d >>= λ t. held at (place_text t)
