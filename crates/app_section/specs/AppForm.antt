-- The app's section: its fields in the order in which they are read.
use Rattle.std.specs.Prelude.{◌≡◌, ℕ, List, [], codes}
use Rattle.serde_json.specs.Data.{Data}
use Rattle.ac_types.specs.FieldForms.{required, optional, default, filled_text, whole, an_object}
use Rattle.ac_types.specs.Outcomes.{Outcome, reads, ◌>>=◌, ◌>>◌}
use Rattle.ac_types.specs.declared.fault.FaultKind.TheVariants.{BadHandler, NameTwice}
use Rattle.app_section.specs.AppData.{AppData}
use Rattle.app_section.specs.AppParts.{LastData, whole_app}
use Rattle.app_section.specs.EnvForm.{env_var}
use Rattle.app_section.specs.ExecForm.{exec}
use Rattle.app_section.specs.HandlerForm.{handler, kind_name}
use Rattle.app_section.specs.IsolatorForm.{isolator}
use Rattle.app_section.specs.ListForms.{list_of, named_list_of}
use Rattle.app_section.specs.MountForm.{mount_point}
use Rattle.app_section.specs.Places.{place_field}
use Rattle.app_section.specs.PortForm.{port_range}
use Rattle.app_section.specs.declared.app_fields.FirstFields.{FirstFields}

-- an app, field by field
unfoldable pub first_fields : List ℕ → Data → Outcome FirstFields
first_fields at d =
    default [] exec at (codes "exec") d >>= λ words.
    required filled_text at (codes "user") d >>= λ user.
    required filled_text at (codes "group") d >>= λ group.
    default [] (list_of (whole 4294967295)) at (codes "supplementaryGIDs") d >>= λ gids.
    default [] (named_list_of BadHandler (λ h. kind_name h.kind) handler) at (codes "eventHandlers") d >>= λ handlers.
    reads (record { exec = words; user = user; group = group; supplementary_gids = gids; event_handlers = handlers })

unfoldable pub last_fields : List ℕ → Data → Outcome LastData
last_fields at d =
    optional place_field at (codes "workingDirectory") d >>= λ directory.
    default [] (list_of env_var) at (codes "environment") d >>= λ environment.
    default [] (named_list_of NameTwice (λ m. m.name) mount_point) at (codes "mountPoints") d >>= λ mount_points.
    default [] (named_list_of NameTwice (λ p. p.name) port_range) at (codes "ports") d >>= λ ports.
    default [] (list_of isolator) at (codes "isolators") d >>= λ isolators.
    reads (record {
      working_directory = directory;
      environment = environment;
      mount_points = mount_points;
      ports = ports;
      isolators = isolators;
    })

unfoldable pub app : List ℕ → Data → Outcome AppData
app at d =
    an_object at d
    >> first_fields at d >>= λ first.
    last_fields at d >>= λ last.
    reads (whole_app first last)

-- the JSON is read as the app, at each path
abbrev pub IsReadAs : Data → AppData → Type 0
IsReadAs d a = (at : List ℕ) → app at d ≡ reads a
