-- What the elements of both manifests are, said of all that they hold at once.
use Rattle.std.specs.Prelude.{◌≡◌, ◌≤◌, ℕ, List, None, IfSome, IsOk}
use Rattle.std.specs.List.{All}
use Rattle.semver.specs.Parse.{version_parts}
use Rattle.ac_types.specs.Ids.{AreBytes}
use Rattle.ac_types.specs.Labels.{label_fault}
use Rattle.ac_types.specs.Names.{IsAcIdentifier}
use Rattle.ac_types.specs.declared.image_id.ImageId.{ImageId}
use Rattle.ac_types.specs.declared.label.Label.{Label}
use Rattle.manifest_parts.specs.declared.annotation.Annotation.{Annotation}
use Rattle.manifest_parts.specs.declared.dependency.Dependency.{Dependency}
use Rattle.manifest_parts.specs.declared.runtime_image.RuntimeImage.{RuntimeImage}

-- the text is a semantic version
abbrev pub IsVersion : List ℕ → Type 0
IsVersion t = IsOk (version_parts t)

-- 64 bytes
abbrev pub IsImageId : ImageId → Type 0
IsImageId id = AreBytes 64 id.bytes

abbrev pub IsLabel : Label → Type 0
IsLabel l = IsAcIdentifier l.name

-- labels that may stand beside one another
pub record AreLabels (ls : List Label) : Type 0 where
  pub each : All IsLabel ls
  pub together : label_fault ls ≡ None

abbrev pub IsAnnotation : Annotation → Type 0
IsAnnotation a = IsAcIdentifier a.name

pub record IsDependency (d : Dependency) : Type 0 where
  pub named : IsAcIdentifier d.image_name
  pub id : IfSome d.image_id IsImageId
  pub labelled : AreLabels d.labels
  pub sized : IfSome d.size (λ n. n ≤ 18446744073709551615)

pub record IsRuntimeImage (i : RuntimeImage) : Type 0 where
  pub known : IsImageId i.id
  pub named : IfSome i.name IsAcIdentifier
  pub labelled : AreLabels i.labels
