use Rattle.std.proofs.Common.{◌≡◌, ◌++◌, ℕ, List, map, take}
use Rattle.ac_types.specs.SeenTexts.{HasSeen}
use Rattle.manifests.specs.declared.mount.Mount.{Mount}
use Rattle.pod_manifest.specs.FirstOfEach.{new_of_each}
use Rattle.pod_manifest.specs.Generation.{empty_volume}
use Rattle.pod_manifest.proofs.volumes.with_mounted.Given as goal

abbrev pub invariant-loop-mount : goal.invariant-loop-mount
invariant-loop-mount l = record {
  built : (known : List (List ℕ)) → HasSeen l.fn.seen known
      → l.volumes ≡ l.fn.volumes ++ map empty_volume (new_of_each (λ (n : List ℕ). n) known (map (λ (m : Mount). m.volume) (take l.mount-index l.mounts)));
  seen : (known : List (List ℕ)) → HasSeen l.fn.seen known
      → HasSeen l.seen (known ++ map (λ (m : Mount). m.volume) (take l.mount-index l.mounts));
}
