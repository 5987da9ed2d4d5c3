-- A process that has begun and taken the lock of images stands where the making of a pod begins.
use Rattle.std.proofs.Common.{Some, [], ◌∷◌, refl}
use Rattle.dir_model.specs.declared.area.Area.TheVariants.{Images}
use Rattle.dir_model.specs.declared.intent.Intent.{Intent}
use Rattle.dir_model.specs.declared.pod.PodId.{PodId}
use Rattle.dir_model.specs.declared.request.Reply.TheVariants.{Done}
use Rattle.dir_model.specs.declared.request.Request.TheVariants.{Begin}
use Rattle.dir_model.specs.declared.spot.Handle.{Handle}
use Rattle.dir_model.specs.declared.spot.Mode.TheVariants.{Shared}
use Rattle.dir_rules.specs.Conforms.{nothing_seen, seen_replied}
use Rattle.dir_trait.specs.DirCalls.{DirAt}
use Rattle.dir_trait.specs.Knowledge.{Knows}
use Rattle.dir_files.specs.AreaLocks.{on_gate, with_gate}
use Rattle.pod_build.specs.Progress.{seen_making, nothing_made}
use Rattle.pod_build.specs.Work.{MakesUnderImages}

pub begun_knows : {d : DirAt} (intent : Intent) (h : Handle) → Knows d (with_gate (seen_replied nothing_seen (Begin intent) Done) h Images (Some Shared)) → Knows d (seen_making intent (on_gate h Images (Some Shared) ∷ []) nothing_made)
begun_knows intent h k = k

pub begun_under : (draw : PodId) (h : Handle) → MakesUnderImages draw (on_gate h Images (Some Shared) ∷ [])
begun_under draw h = record { images = refl; free = refl; apart = refl }
