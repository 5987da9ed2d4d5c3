-- The forms of a text that is a name.
use Rattle.std.specs.Prelude.{◌≡◌, ℕ, Bool, true, false, ◌&&◌, nat_le, List, [], ◌∷◌, length}
use Rattle.serde_json.specs.Data.{Data}
use Rattle.ac_types.specs.Names.{are_words, is_hyphen, is_separator}
use Rattle.ac_types.specs.FieldForms.{text, filled_text}
use Rattle.ac_types.specs.Outcomes.{Outcome, reads, fails, ◌>>=◌, IsFault}
use Rattle.ac_types.specs.declared.refusals.TheConstants.{MAX_NAME, MAX_IDENTIFIER}
use Rattle.ac_types.specs.declared.fault.FaultKind.TheVariants.{Empty, BadByte}
use Rattle.ac_types.specs.declared.fault.ReadError.{ReadError}
use Rattle.ac_types.specs.declared.fault.ReadError.TheVariants as read_error
use Rattle.ac_types.specs.declared.name_error.NameError.{NameError}
use Rattle.ac_types.specs.declared.name_error.NameError.TheVariants as name_error

-- words of at most that length; an empty text has a fault of its own
abbrev pub if_words : List ℕ → Bool → List ℕ → Outcome (List ℕ)
if_words at true name = reads name
if_words at false name = fails at BadByte

abbrev pub words : (ℕ → Bool) → ℕ → List ℕ → List ℕ → Outcome (List ℕ)
words separates limit at [] = fails at Empty
words separates limit at (b ∷ bs) =
    if_words at (are_words separates (b ∷ bs) && nat_le (length (b ∷ bs)) limit) (b ∷ bs)

-- an AC Name, and an AC Identifier
abbrev pub name_text : List ℕ → List ℕ → Outcome (List ℕ)
name_text at t = words is_hyphen MAX_NAME at t

abbrev pub identifier_text : List ℕ → List ℕ → Outcome (List ℕ)
identifier_text at t = words is_separator MAX_IDENTIFIER at t

-- a text that is a name, where an empty one counts as missing
abbrev pub filled_name : List ℕ → Data → Outcome (List ℕ)
filled_name at d = filled_text at d >>= name_text at

abbrev pub filled_identifier : List ℕ → Data → Outcome (List ℕ)
filled_identifier at d = filled_text at d >>= identifier_text at

-- a text that is an identifier, where an empty one is a fault of its own
abbrev pub identifier : List ℕ → Data → Outcome (List ℕ)
identifier at d = text at d >>= identifier_text at

-- the fault that a refused name is at a path
abbrev pub IsNameFaultAt : List ℕ → NameError → ReadError → Type 0
IsNameFaultAt path name_error.Empty error = IsFault path Empty error
IsNameFaultAt path (name_error.BadByte place) error = IsFault path BadByte error
IsNameFaultAt path name_error.NoMemory error = error ≡ read_error.NoMemory
