-- A pod manifest as contracts see it: the JSON of its isolators as data.
use Rattle.std.specs.Prelude.{ℕ, Bool, List, Option, map, option_map}
use Rattle.app_section.specs.AppData.{AppData, IsolatorData, app_data, isolator_data}
use Rattle.manifest_parts.specs.declared.annotation.Annotation.{Annotation}
use Rattle.manifests.specs.declared.mount.Mount.{Mount}
use Rattle.manifests.specs.declared.pod_manifest.PodManifest.{PodManifest}
use Rattle.manifests.specs.declared.pod_port.PodPort.{PodPort}
use Rattle.manifests.specs.declared.runtime_app.RuntimeApp.{RuntimeApp}
use Rattle.manifest_parts.specs.declared.runtime_image.RuntimeImage.{RuntimeImage}
use Rattle.manifests.specs.declared.volume.Volume.{Volume}

pub record RuntimeAppData : Type 0 where
  pub name : List ℕ
  pub image : RuntimeImage
  pub app : Option AppData
  pub read_only_root_fs : Bool
  pub mounts : List Mount
  pub annotations : List Annotation

pub record PodData : Type 0 where
  pub ac_version : List ℕ
  pub apps : List RuntimeAppData
  pub volumes : List Volume
  pub isolators : List IsolatorData
  pub annotations : List Annotation
  pub ports : List PodPort

abbrev pub runtime_app_data : RuntimeApp → RuntimeAppData
runtime_app_data a = record {
  name = a.name;
  image = a.image;
  app = option_map app_data a.app;
  read_only_root_fs = a.read_only_root_fs;
  mounts = a.mounts;
  annotations = a.annotations;
}

abbrev pub pod_data : PodManifest → PodData
pod_data m = record {
  ac_version = m.ac_version;
  apps = map runtime_app_data m.apps;
  volumes = m.volumes;
  isolators = map isolator_data m.isolators;
  annotations = m.annotations;
  ports = m.ports;
}
