-- The first fields of both documents: their kind, and the version of the specification.
use Rattle.std.specs.Prelude.{ℕ, Bool, true, false, List, Result, Ok, Err}
use Rattle.std.specs.Str.{bytes_eq}
use Rattle.serde_json.specs.Data.{Data}
use Rattle.semver.specs.Parse.{Parts, version_parts}
use Rattle.semver.specs.declared.error.Error.{Error}
use Rattle.ac_types.specs.FieldForms.{filled_text}
use Rattle.ac_types.specs.Outcomes.{Outcome, reads, fails, ◌>>=◌}
use Rattle.ac_types.specs.declared.fault.FaultKind.TheVariants.{WrongAcKind, BadAcVersion}

-- the text of the wanted kind
abbrev pub if_kind : List ℕ → Bool → List ℕ → Outcome (List ℕ)
if_kind at true t = reads t
if_kind at false t = fails at WrongAcKind

abbrev pub ac_kind : List ℕ → List ℕ → Data → Outcome (List ℕ)
ac_kind kind at d = filled_text at d >>= λ t. if_kind at (bytes_eq t kind) t

-- a text that is a semantic version
abbrev pub if_version : List ℕ → Result Parts Error → List ℕ → Outcome (List ℕ)
if_version at (Ok parts) t = reads t
if_version at (Err e) t = fails at BadAcVersion

unfoldable pub version_text : List ℕ → List ℕ → Outcome (List ℕ)
version_text at t = if_version at (version_parts t) t

abbrev pub ac_version : List ℕ → Data → Outcome (List ℕ)
ac_version at d = filled_text at d >>= version_text at
