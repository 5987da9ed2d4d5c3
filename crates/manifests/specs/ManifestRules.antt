-- What each manifest is, said of all its elements at once.
use Rattle.std.specs.Prelude.{◌≡◌, ◌≤◌, true, None, IfSome}
use Rattle.std.specs.List.{All}
use Rattle.ac_types.specs.Names.{IsAcName, IsAcIdentifier}
use Rattle.path_map.specs.Paths.{path_fault}
use Rattle.path_map.specs.declared.listed.Listed.{Listed}
use Rattle.app_section.specs.AppRules.{IsApp, IsIsolator, IsPlace, HaveNames}
use Rattle.manifest_parts.specs.PartRules.{IsVersion, AreLabels, IsAnnotation, IsDependency, IsRuntimeImage}
use Rattle.manifests.specs.DocumentData.{DocumentData}
use Rattle.manifests.specs.DocumentData.DocumentData.{an_image, a_pod}
use Rattle.manifests.specs.ImageData.{ImageData}
use Rattle.manifests.specs.PodData.{PodData, RuntimeAppData}
use Rattle.manifests.specs.VolumeForm.{is_mode}
use Rattle.manifests.specs.declared.mount.Mount.{Mount}
use Rattle.manifests.specs.declared.pod_port.PodPort.{PodPort}
use Rattle.manifests.specs.declared.volume.Volume.{Volume}
use Rattle.manifests.specs.declared.volume.VolumeKind.{VolumeKind}
use Rattle.manifests.specs.declared.volume.VolumeKind.TheVariants.{Host, Empty}

-- the path of an entry of a whitelist is an absolute path
abbrev pub IsListed : Listed → Type 0
IsListed l = path_fault l.path ≡ None

pub record IsMount (m : Mount) : Type 0 where
  pub named : IsAcName m.volume
  pub place : IsPlace m.path

-- a folder of the host at a place; or an empty one, with one to four octal digits and two numbers of 32 bits
abbrev pub IsVolumeKind : VolumeKind → Type 0
IsVolumeKind (Host source read_only) = IsPlace source
IsVolumeKind (Empty digits user group) = (is_mode digits ≡ true) × (user ≤ 4294967295) × (group ≤ 4294967295)

pub record IsVolume (v : Volume) : Type 0 where
  pub named : IsAcName v.name
  pub where_it_is : IsVolumeKind v.kind

pub record IsPodPort (p : PodPort) : Type 0 where
  pub named : IsAcName p.name
  pub port : p.host_port ≤ 65535

pub record IsRuntimeApp (a : RuntimeAppData) : Type 0 where
  pub named : IsAcName a.name
  pub image_known : IsRuntimeImage a.image
  pub section : IfSome a.app IsApp
  pub mounted : All IsMount a.mounts
  pub remarks : All IsAnnotation a.annotations

-- an image manifest
pub record IsImageManifest (m : ImageData) : Type 0 where
  pub version : IsVersion m.ac_version
  pub named : IsAcIdentifier m.name
  pub labelled : AreLabels m.labels
  pub section : IfSome m.app IsApp
  pub stands_on : All IsDependency m.dependencies
  pub kept : All IsListed m.path_whitelist
  pub remarks : All IsAnnotation m.annotations

-- a pod manifest; no two apps and no two volumes have one name
pub record IsPodManifest (m : PodData) : Type 0 where
  pub version : IsVersion m.ac_version
  pub each_app : All IsRuntimeApp m.apps
  pub app_names : HaveNames (λ a. a.name) m.apps
  pub each_volume : All IsVolume m.volumes
  pub volume_names : HaveNames (λ v. v.name) m.volumes
  pub limits : All IsIsolator m.isolators
  pub remarks : All IsAnnotation m.annotations
  pub listens : All IsPodPort m.ports

-- a manifest of either kind
abbrev pub IsManifest : DocumentData → Type 0
IsManifest (an_image m) = IsImageManifest m
IsManifest (a_pod m) = IsPodManifest m
