-- Reads and listings of images go on without giving up the lock.
use Rattle.std.proofs.Common.{◌≡◌, true, refl}
use Rattle.dir_model.specs.declared.request.Request.{Request}
use Rattle.dir_model.specs.declared.request.Request.TheVariants.{ListArea, ListIn, ReadIn}
use Rattle.dir_rules.specs.declared.seen.Seen.{Seen}
use Rattle.dir_rules.specs.Conforms.{IsTied}
use Rattle.dir_trait.specs.DirCalls.{DirAt, ExtendsBy}
use Rattle.lifecycle.specs.Executions.{IsConforming}
use Rattle.folder_contents.specs.UnderGate.{shares_images}
use Rattle.gate_reading.specs.Gate.{goes_on, GoesOnUnderLock}
use Rattle.image_reading.specs.Looks.{reads_images}

pub images_go_on : (request : Request) → reads_images request ≡ true → goes_on request ≡ true
images_go_on (ReadIn inner at room) h = refl
images_go_on (ListIn inner) h = refl
images_go_on (ListArea area) h = refl
images_go_on request h = cc

-- from what the calls promised and what the process knows
pub reads_on : {s : Seen} {old new : DirAt} → IsConforming new.trace → IsTied old.process old.trace s → shares_images s ≡ true →
    ExtendsBy reads_images old new → GoesOnUnderLock reads_images s old new
reads_on conforming tied shares extends =
    record { conforms = conforming; tied = tied; shares = shares; each = images_go_on; extends = extends }
