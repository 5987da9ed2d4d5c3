use Rattle.std.proofs.Common.{take}
use Rattle.ac_types.specs.SeenTexts.{HasSeen}
use Rattle.pod_manifest.specs.Generation.{volume_names}
use Rattle.pod_manifest.proofs.volumes.names_of.Given as goal

abbrev pub invariant-loop-volume : goal.invariant-loop-volume
invariant-loop-volume l = HasSeen l.seen (volume_names (take l.volume-index l.volumes))
