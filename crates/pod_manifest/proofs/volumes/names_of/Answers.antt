use Rattle.std.proofs.Common.{[], take}
use Rattle.manifests.specs.declared.volume.Volume.{Volume}
use Rattle.pod_manifest.specs.Generation.{volume_names}
use Rattle.pod_manifest.proofs.Built.{keys_more}
use Rattle.pod_manifest.proofs.volumes.names_of.Goals as goal

pub loop-volume-preserved : goal.loop-volume-preserved
loop-volume-preserved c =
    keys_more (λ (v : Volume). v.name) c.add.new.self [] c.args.volumes.now c.loop-volume.volume-index c.volume-item.result c.as_str.result.now
    c.loop-volume-test.true c.volume-item.is c.as_str.ensures.text
    (c.in_ok-add.ensures.seen (volume_names (take c.loop-volume.volume-index c.args.volumes.now)) c.loop-volume.invariant)
