use Rattle.std.proofs.Common.{◌≡◌, drop}
use Rattle.std.specs.List.{find}
use Rattle.pod_manifest.specs.Generation.{lacks_volume}
use Rattle.pod_manifest.proofs.checks.check_mounts.Given as goal

abbrev pub invariant-loop-mount : goal.invariant-loop-mount
invariant-loop-mount l = find (lacks_volume l.options.volumes) l.options.mounts ≡ find (lacks_volume l.options.volumes) (drop l.mount-index l.mounts)
