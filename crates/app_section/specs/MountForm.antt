-- A mount point.
use Rattle.std.specs.Prelude.{ℕ, false, List, codes}
use Rattle.serde_json.specs.Data.{Data}
use Rattle.ac_types.specs.FieldForms.{required, default, flag, an_object}
use Rattle.ac_types.specs.NameForms.{filled_name}
use Rattle.ac_types.specs.Outcomes.{Outcome, reads, ◌>>=◌, ◌>>◌}
use Rattle.app_section.specs.Places.{filled_place}
use Rattle.app_section.specs.declared.mount_point.MountPoint.{MountPoint}

-- its fields in order
unfoldable pub mount_point : List ℕ → Data → Outcome MountPoint
mount_point at d =
    an_object at d
    >> required filled_name at (codes "name") d >>= λ name.
    required filled_place at (codes "path") d >>= λ path.
    default false flag at (codes "readOnly") d >>= λ read_only.
    reads (record { name = name; path = path; read_only = read_only })
