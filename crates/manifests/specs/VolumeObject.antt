-- A volume as it is written. What an empty one asks for is written always.
use Rattle.std.specs.Prelude.{ℕ, Bool, List, [], ◌∷◌, Some, codes}
use Rattle.serde_json.specs.Data.{Data, string, object}
use Rattle.app_section.specs.AppObject.{whole_data}
use Rattle.app_section.specs.Objects.{Field, written, if_true}
use Rattle.manifests.specs.declared.volume.Volume.{Volume}
use Rattle.manifests.specs.declared.volume.VolumeKind.{VolumeKind}
use Rattle.manifests.specs.declared.volume.VolumeKind.TheVariants.{Host, Empty}

abbrev pub host_fields : List ℕ → List ℕ → Bool → List Field
host_fields name source read_only =
    (codes "kind", Some (string (codes "host")))
    ∷ (codes "name", Some (string name))
    ∷ (codes "readOnly", if_true read_only)
    ∷ (codes "source", Some (string source))
    ∷ []

abbrev pub empty_fields : List ℕ → List ℕ → ℕ → ℕ → List Field
empty_fields name mode uid gid =
    (codes "gid", Some (whole_data gid))
    ∷ (codes "kind", Some (string (codes "empty")))
    ∷ (codes "mode", Some (string mode))
    ∷ (codes "name", Some (string name))
    ∷ (codes "uid", Some (whole_data uid))
    ∷ []

abbrev pub volume_fields : List ℕ → VolumeKind → List Field
volume_fields name (Host source read_only) = host_fields name source read_only
volume_fields name (Empty mode uid gid) = empty_fields name mode uid gid

unfoldable pub volume_object : Volume → Data
volume_object v = object (written (volume_fields v.name v.kind))
