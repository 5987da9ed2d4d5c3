-- What the user asks for beside the images of a pod.
use Rattle.std.specs.Prelude.{List}
use Rattle.std.specs.List.{All}
use Rattle.app_section.specs.AppRules.{HaveNames}
use Rattle.manifests.specs.ManifestRules.{IsMount, IsVolume}
use Rattle.manifests.specs.declared.mount.Mount.{Mount}
use Rattle.manifests.specs.declared.volume.Volume.{Volume}

-- volumes, and mounts of each app
pub record Wishes : Type 0 where
  pub volumes : List Volume
  pub mounts : List Mount

-- what may stand in a pod manifest: no two volumes have one name
pub record AreWishes (w : Wishes) : Type 0 where
  pub each_volume : All IsVolume w.volumes
  pub volume_names : HaveNames (λ v. v.name) w.volumes
  pub each_mount : All IsMount w.mounts
