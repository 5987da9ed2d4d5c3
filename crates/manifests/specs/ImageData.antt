-- An image manifest as contracts see it: the JSON of its isolators as data.
use Rattle.std.specs.Prelude.{ℕ, List, Option, option_map}
use Rattle.ac_types.specs.declared.label.Label.{Label}
use Rattle.path_map.specs.declared.listed.Listed.{Listed}
use Rattle.app_section.specs.AppData.{AppData, app_data}
use Rattle.manifest_parts.specs.declared.annotation.Annotation.{Annotation}
use Rattle.manifest_parts.specs.declared.dependency.Dependency.{Dependency}
use Rattle.manifests.specs.declared.image_manifest.ImageManifest.{ImageManifest}

pub record ImageData : Type 0 where
  pub ac_version : List ℕ
  pub name : List ℕ
  pub labels : List Label
  pub app : Option AppData
  pub dependencies : List Dependency
  pub path_whitelist : List Listed
  pub annotations : List Annotation

abbrev pub image_data : ImageManifest → ImageData
image_data m = record {
  ac_version = m.ac_version;
  name = m.name;
  labels = m.labels;
  app = option_map app_data m.app;
  dependencies = m.dependencies;
  path_whitelist = m.path_whitelist;
  annotations = m.annotations;
}
