-- Whether a pod was found to run.
use Rattle.std.specs.Prelude.{Bool, true, false}
use Rattle.dir_model.specs.declared.area.Phase.TheVariants.{Running}
use Rattle.dir_model.specs.declared.pod.PodId.{PodId}
use Rattle.dir_trait.specs.DirCalls.{DirAt}
use Rattle.phase_read.specs.declared.found.Found.{Found}
use Rattle.phase_read.specs.declared.found.Found.TheVariants.{At}
use Rattle.metadata.specs.PodViews.{WasRunning, WasNotRunning}

abbrev pub is_running : Found → Bool
is_running (At Running area) = true
is_running found = false

abbrev pub TellsPhase : PodId → Bool → DirAt → DirAt → Type 0
TellsPhase pod true old new = WasRunning pod old new
TellsPhase pod false old new = WasNotRunning pod old new
