-- A mount.
use Rattle.std.specs.Prelude.{ℕ, List, codes}
use Rattle.serde_json.specs.Data.{Data}
use Rattle.ac_types.specs.FieldForms.{required, an_object}
use Rattle.ac_types.specs.NameForms.{filled_name}
use Rattle.ac_types.specs.Outcomes.{Outcome, reads, ◌>>=◌, ◌>>◌}
use Rattle.app_section.specs.Places.{filled_place}
use Rattle.manifests.specs.declared.mount.Mount.{Mount}

unfoldable pub mount : List ℕ → Data → Outcome Mount
mount at d =
    an_object at d
    >> required filled_name at (codes "volume") d >>= λ name.
    required filled_place at (codes "path") d >>= λ path.
    reads (record { volume = name; path = path })
