use Rattle.std.proofs.Common.{◌≡◌, not, List, sym, ◌∙◌, ap}
use Rattle.manifests.specs.declared.volume.Volume.{Volume}
use Rattle.pod_manifest.specs.Generation.{has_volume, lacks_volume}
use Rattle.pod_manifest.proofs.FoundMounts.{find_more}
use Rattle.pod_manifest.proofs.checks.check_mounts.Goals as goal

pub loop-mount-preserved : goal.loop-mount-preserved
loop-mount-preserved c =
    let says : c.has_volume.result ≡ has_volume c.args.options.now.volumes c.mount-item.result.volume =
    c.has_volume.ensures
    ∙ ap (λ (vs : List Volume). has_volume vs c.as_str.result.now) c.volumes-volumes.ensures.volumes
    ∙ ap (has_volume c.args.options.now.volumes) c.as_str.ensures.text in
    c.loop-mount.invariant
    ∙ find_more (lacks_volume c.args.options.now.volumes) c.mounts-mounts.result.now c.loop-mount.mount-index c.mount-item.result
    c.loop-mount-test.true c.mount-item.is (ap not (sym says ∙ c.if-not-has_volume.false))
