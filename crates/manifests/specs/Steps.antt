-- Words for steps of the readers.
use Rattle.std.specs.Prelude.{◌≡◌, ℕ, List}
use Rattle.ac_types.specs.Outcomes.{IsFault}
use Rattle.ac_types.specs.declared.fault.FaultKind.TheVariants as kind
use Rattle.ac_types.specs.declared.fault.ReadError.{ReadError}
use Rattle.ac_types.specs.declared.fault.ReadError.TheVariants as read_error
use Rattle.path_map.specs.declared.path_error.PathError.{PathError}
use Rattle.path_map.specs.declared.path_error.PathError.TheVariants.{NotAbsolute, DotSegment, SegmentLength, PathLength, NoMemory}

-- the error is the fault of a text that is no path, or memory ran out
abbrev pub IsPathFault : List ℕ → PathError → ReadError → Type 0
IsPathFault at NotAbsolute error = IsFault at kind.NotAbsolute error
IsPathFault at DotSegment error = IsFault at kind.DotSegment error
IsPathFault at SegmentLength error = IsFault at kind.SegmentLength error
IsPathFault at PathLength error = IsFault at kind.PathLength error
IsPathFault at NoMemory error = error ≡ read_error.NoMemory
