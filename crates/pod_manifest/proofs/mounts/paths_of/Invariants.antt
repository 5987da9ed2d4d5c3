use Rattle.std.proofs.Common.{take}
use Rattle.ac_types.specs.SeenTexts.{HasSeen}
use Rattle.pod_manifest.specs.Generation.{mount_paths}
use Rattle.pod_manifest.proofs.mounts.paths_of.Given as goal

abbrev pub invariant-loop-mount : goal.invariant-loop-mount
invariant-loop-mount l = HasSeen l.seen (mount_paths (take l.mount-index l.mounts))
