use Rattle.std.proofs.Common.{◌≡◌, ◌++◌, ℕ, List, map, take}
use Rattle.ac_types.specs.SeenTexts.{HasSeen}
use Rattle.manifests.specs.PodData.{runtime_app_data}
use Rattle.pod_manifest.specs.FirstOfEach.{new_of_each}
use Rattle.pod_manifest.specs.Generation.{empty_volume, mounted, volume_names}
use Rattle.pod_manifest.proofs.volumes.volumes_of.Given as goal

abbrev pub invariant-loop-app : goal.invariant-loop-app
invariant-loop-app l = record {
  built : l.volumes ≡ l.options.volumes ++ map empty_volume
      (new_of_each (λ (n : List ℕ). n) (volume_names l.options.volumes) (mounted (map runtime_app_data (take l.app-index l.apps))));
  seen : HasSeen l.seen (volume_names l.options.volumes ++ mounted (map runtime_app_data (take l.app-index l.apps)));
}
