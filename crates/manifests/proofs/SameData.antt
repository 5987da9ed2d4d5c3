-- Manifests and apps with the same fields are the same.
use Rattle.std.proofs.Common.{◌≡◌, ℕ, Bool, List, Option, refl}
use Rattle.ac_types.specs.declared.label.Label.{Label}
use Rattle.path_map.specs.declared.listed.Listed.{Listed}
use Rattle.app_section.specs.AppData.{AppData}
use Rattle.manifest_parts.specs.declared.annotation.Annotation.{Annotation}
use Rattle.manifest_parts.specs.declared.dependency.Dependency.{Dependency}
use Rattle.manifest_parts.specs.declared.runtime_image.RuntimeImage.{RuntimeImage}
use Rattle.manifests.specs.ImageData.{ImageData}
use Rattle.manifests.specs.PodData.{RuntimeAppData}
use Rattle.manifests.specs.declared.mount.Mount.{Mount}

abbrev image_of : List ℕ → List ℕ → List Label → Option AppData → List Dependency → List Listed → List Annotation → ImageData
image_of version name labels app dependencies paths annotations = record {
  ac_version = version;
  name = name;
  labels = labels;
  app = app;
  dependencies = dependencies;
  path_whitelist = paths;
  annotations = annotations;
}

pub same_image : {v w n m : List ℕ} {ls ks : List Label} {a b : Option AppData} {ds es : List Dependency} {ps qs : List Listed}
    {notes remarks : List Annotation} → v ≡ w → n ≡ m → ls ≡ ks → a ≡ b → ds ≡ es → ps ≡ qs → notes ≡ remarks
    → image_of v n ls a ds ps notes ≡ image_of w m ks b es qs remarks
same_image e1 e2 e3 e4 e5 e6 e7 = rw (e1, e2, e3, e4, e5, e6, e7) refl

abbrev app_of : List ℕ → RuntimeImage → Option AppData → Bool → List Mount → List Annotation → RuntimeAppData
app_of name image app read_only mounts annotations = record {
  name = name;
  image = image;
  app = app;
  read_only_root_fs = read_only;
  mounts = mounts;
  annotations = annotations;
}

pub same_app : {n m : List ℕ} {i j : RuntimeImage} {a b : Option AppData} {r s : Bool} {ms ns : List Mount} {notes remarks : List Annotation}
    → n ≡ m → i ≡ j → a ≡ b → r ≡ s → ms ≡ ns → notes ≡ remarks → app_of n i a r ms notes ≡ app_of m j b s ns remarks
same_app e1 e2 e3 e4 e5 e6 = rw (e1, e2, e3, e4, e5, e6) refl
