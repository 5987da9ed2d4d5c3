-- What a process asks for that reads a pod in run.
use Rattle.std.specs.Prelude.{Bool, false}
use Rattle.dir_model.specs.declared.area.Area.TheVariants.{Run}
use Rattle.dir_model.specs.declared.pod.PodId.{PodId}
use Rattle.dir_model.specs.declared.request.Request.{Request}
use Rattle.dir_model.specs.declared.request.Request.TheVariants.{ReadIn}
use Rattle.dir_model.specs.State.{spot_eq}
use Rattle.dir_trait.specs.DirCalls.{DirAt}
use Rattle.dir_trait.specs.Effects.{OnlyAsksAndKeeps}
use Rattle.dir_files.specs.Reads.{KeepsKnown}
use Rattle.pod_files.specs.Places.{run_spot}

-- reads of its files
abbrev pub reads_pod : PodId → Request → Bool
reads_pod pod (ReadIn inner at room) = spot_eq inner.spot (run_spot pod)
reads_pod pod _ = false

-- nothing was asked for but these, nothing has changed, and whatever a process knew it knows
abbrev pub OnlyReadsPod : Bool → PodId → DirAt → DirAt → Type 0
OnlyReadsPod observed pod old new = OnlyAsksAndKeeps observed (reads_pod pod) (KeepsKnown Run) old new
