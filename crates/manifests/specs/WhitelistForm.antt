-- The paths that an image keeps.
use Rattle.std.specs.Prelude.{ℕ, ◌-◌, ◌==◌, Bool, true, false, List, [], ◌∷◌, length, take, slice_index, Option, Some, None, codes, if◌then◌else◌}
use Rattle.std.specs.Str.{bytes_eq}
use Rattle.serde_json.specs.Data.{Data}
use Rattle.ac_types.specs.FieldForms.{text, list, each}
use Rattle.ac_types.specs.Outcomes.{Outcome, reads, fails, ◌>>=◌}
use Rattle.ac_types.specs.declared.fault.FaultKind.{FaultKind}
use Rattle.ac_types.specs.declared.fault.FaultKind.TheVariants as kind
use Rattle.path_map.specs.Paths.{path_fault}
use Rattle.path_map.specs.declared.listed.Listed.{Listed}
use Rattle.path_map.specs.declared.path_fault.PathFault.{PathFault}
use Rattle.path_map.specs.declared.path_fault.PathFault.TheVariants.{NotAbsolute, DotSegment, SegmentLength, PathLength}

-- the text ends with a slash
abbrev pub ends_in_slash : List ℕ → Bool
ends_in_slash t = slice_index t (length t - 1) == 47

-- the kind of the fault of a text that is no path
abbrev pub path_fault_kind : PathFault → FaultKind
path_fault_kind NotAbsolute = kind.NotAbsolute
path_fault_kind DotSegment = kind.DotSegment
path_fault_kind SegmentLength = kind.SegmentLength
path_fault_kind PathLength = kind.PathLength

-- a path without its slash at the end
abbrev pub if_path : List ℕ → Option PathFault → Listed → Outcome (Option Listed)
if_path at None listed = reads (Some listed)
if_path at (Some fault) listed = fails at (path_fault_kind fault)

unfoldable pub listed_path : List ℕ → Bool → List ℕ → Outcome (Option Listed)
listed_path at empty path = if_path at (path_fault path) (record { path = path; empty = empty })

-- one slash at the end asks for a directory; the root gives no entry
unfoldable pub listed_text : List ℕ → List ℕ → Outcome (Option Listed)
listed_text at t =
    if bytes_eq t (codes "/") then reads None
    else (if ends_in_slash t then listed_path at true (take (length t - 1) t) else listed_path at false t)

abbrev pub listed : List ℕ → Data → Outcome (Option Listed)
listed at d = text at d >>= listed_text at

-- the entries that are there
abbrev pub entries : List (Option Listed) → List Listed
entries [] = []
entries (None ∷ found) = entries found
entries (Some l ∷ found) = l ∷ entries found

abbrev pub whitelist_of : List ℕ → List Data → Outcome (List Listed)
whitelist_of at ds = each listed at ds >>= λ found. reads (entries found)

abbrev pub whitelist : List ℕ → Data → Outcome (List Listed)
whitelist at d = list at d >>= whitelist_of at
