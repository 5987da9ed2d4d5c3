-- An environment variable.
use Rattle.std.specs.Prelude.{ℕ, Bool, true, false, ◌&&◌, ◌||◌, ◌==◌, nat_le, List, [], ◌∷◌, codes}
use Rattle.std.specs.List.{list_all}
use Rattle.serde_json.specs.Data.{Data}
use Rattle.ac_types.specs.FieldForms.{required, text, filled_text, an_object}
use Rattle.ac_types.specs.Outcomes.{Outcome, reads, fails, ◌>>=◌, ◌>>◌}
use Rattle.ac_types.specs.declared.fault.FaultKind.TheVariants.{BadEnvName}
use Rattle.app_section.specs.Places.{has_nul}
use Rattle.app_section.specs.declared.env_var.EnvVar.{EnvVar}

-- an ASCII letter or `_`
abbrev pub is_first_byte : ℕ → Bool
is_first_byte b = ((nat_le 65 b && nat_le b 90) || (nat_le 97 b && nat_le b 122)) || b == 95

-- an ASCII letter or digit, `_`, `.` or `-`
abbrev pub is_later_byte : ℕ → Bool
is_later_byte b = is_first_byte b || (nat_le 48 b && nat_le b 57) || b == 46 || b == 45

-- the name of a variable
abbrev pub is_env_name : List ℕ → Bool
is_env_name [] = false
is_env_name (b ∷ bs) = is_first_byte b && list_all is_later_byte bs

-- the text, where it is good
abbrev pub if_good : List ℕ → Bool → List ℕ → Outcome (List ℕ)
if_good at true t = reads t
if_good at false t = fails at BadEnvName

-- a name; an empty text counts as missing
abbrev pub env_name : List ℕ → Data → Outcome (List ℕ)
env_name at d = filled_text at d >>= λ t. if_good at (is_env_name t) t

-- the text, unless it holds a NUL
abbrev pub unless_nul : List ℕ → Bool → List ℕ → Outcome (List ℕ)
unless_nul at true t = fails at BadEnvName
unless_nul at false t = reads t

-- a text without NUL, which may be empty
abbrev pub env_value : List ℕ → Data → Outcome (List ℕ)
env_value at d = text at d >>= λ t. unless_nul at (has_nul t) t

-- a variable
unfoldable pub env_var : List ℕ → Data → Outcome EnvVar
env_var at d =
    an_object at d
    >> required env_name at (codes "name") d >>= λ name.
    required env_value at (codes "value") d >>= λ value.
    reads (record { name = name; value = value })
