use Rattle.std.proofs.Common.{[], take}
use Rattle.manifests.specs.declared.mount.Mount.{Mount}
use Rattle.pod_manifest.specs.Generation.{mount_paths}
use Rattle.pod_manifest.proofs.Built.{keys_more}
use Rattle.pod_manifest.proofs.mounts.paths_of.Goals as goal

pub loop-mount-preserved : goal.loop-mount-preserved
loop-mount-preserved c =
    keys_more (λ (m : Mount). m.path) c.add.new.self [] c.args.mounts.now c.loop-mount.mount-index c.mount-item.result c.as_str.result.now
    c.loop-mount-test.true c.mount-item.is c.as_str.ensures
    (c.in_ok-add.ensures.seen (mount_paths (take c.loop-mount.mount-index c.args.mounts.now)) c.loop-mount.invariant)
