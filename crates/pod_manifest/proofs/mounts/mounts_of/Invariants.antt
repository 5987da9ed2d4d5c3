use Rattle.std.proofs.Common.{◌≡◌, ◌++◌, map, take}
use Rattle.ac_types.specs.SeenTexts.{HasSeen}
use Rattle.app_section.specs.declared.mount_point.MountPoint.{MountPoint}
use Rattle.pod_manifest.specs.FirstOfEach.{new_of_each}
use Rattle.pod_manifest.specs.Generation.{mount_at, mount_paths}
use Rattle.pod_manifest.proofs.mounts.mounts_of.Given as goal

abbrev pub invariant-loop-point : goal.invariant-loop-point
invariant-loop-point l = record {
  built : l.mounts ≡ l.options.mounts ++ map (mount_at l.options l.app)
      (new_of_each (λ (p : MountPoint). p.path) (mount_paths l.options.mounts) (take l.point-index l.points));
  seen : HasSeen l.seen (mount_paths l.options.mounts ++ map (λ (p : MountPoint). p.path) (take l.point-index l.points));
}
