-- Why a file of a pod in run has no reading.
use Rattle.pod_files.specs.declared.error.FileError.{FileError}
use Rattle.pod_files.specs.declared.error.FileError.TheVariants.{Lacking}

-- it is missing or has none, for this reason; or the directory failed, or memory ran out
abbrev pub IsFileLack : Type 0 → FileError → Type 0
IsFileLack Why Lacking = Why
IsFileLack Why error = Unit {0}
