-- What is mounted in a pod.
use Rattle.std.specs.Prelude.{◌≡◌, true, List}
use Rattle.std.specs.List.{All, AllZip}
use Rattle.ac_types.specs.SeenTexts.{is_among}
use Rattle.app_section.specs.declared.mount_point.MountPoint.{MountPoint}
use Rattle.manifests.specs.PodData.{PodData, RuntimeAppData}
use Rattle.manifests.specs.declared.mount.Mount.{Mount}
use Rattle.dep_match.specs.declared.stored.Stored.{Stored}
use Rattle.pod_manifest.specs.Generation.{has_volume, mount_paths, points_of}

-- each mount of an app is of a volume of the pod
abbrev pub HasItsVolumes : PodData → Type 0
HasItsVolumes pod = All (λ (a : RuntimeAppData). All (λ (m : Mount). has_volume pod.volumes m.volume ≡ true) a.mounts) pod.apps

-- an app has a mount at each mount point of its image
abbrev pub IsMountedAt : Stored → RuntimeAppData → Type 0
IsMountedAt image app = All (λ (p : MountPoint). is_among p.path (mount_paths app.mounts) ≡ true) (points_of image.manifest.app)

abbrev pub HasItsMounts : List Stored → PodData → Type 0
HasItsMounts images pod = AllZip IsMountedAt images pod.apps
