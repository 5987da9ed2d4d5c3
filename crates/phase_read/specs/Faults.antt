-- Refusals that tell nothing of pods.
use Rattle.phase_read.specs.declared.found.LookError.{LookError}
use Rattle.phase_read.specs.declared.found.LookError.TheVariants.{DirFault, NoMemory}

-- the directory failed, or memory ran out
abbrev pub IsLookFault : LookError → Type 0
IsLookFault DirFault = Unit {0}
IsLookFault NoMemory = Unit {0}
IsLookFault error = ⊥
