-- The app's section as it is written.
use Rattle.std.specs.Prelude.{ℕ, List, [], ◌∷◌, ◌++◌, Some, option_map, codes}
use Rattle.serde_json.specs.Data.{Data, unsigned, number, string, object}
use Rattle.app_section.specs.AppData.{AppData, IsolatorData}
use Rattle.app_section.specs.HandlerForm.{kind_name}
use Rattle.app_section.specs.Objects.{Field, written, if_true, if_filled, list_data}
use Rattle.app_section.specs.declared.env_var.EnvVar.{EnvVar}
use Rattle.app_section.specs.declared.handler.Handler.{Handler}
use Rattle.app_section.specs.declared.mount_point.MountPoint.{MountPoint}
use Rattle.app_section.specs.declared.port.Port.{Port}

-- a whole number
abbrev pub whole_data : ℕ → Data
whole_data n = number (unsigned n)

-- a variable
abbrev pub env_fields : EnvVar → List Field
env_fields v =
    (codes "name", Some (string v.name))
    ∷ (codes "value", Some (string v.value))
    ∷ []

unfoldable pub env_object : EnvVar → Data
env_object v = object (written (env_fields v))

-- a handler
abbrev pub handler_fields : Handler → List Field
handler_fields h =
    (codes "exec", Some (list_data string h.exec))
    ∷ (codes "name", Some (string (kind_name h.kind)))
    ∷ []

unfoldable pub handler_object : Handler → Data
handler_object h = object (written (handler_fields h))

-- a mount point
abbrev pub mount_fields : MountPoint → List Field
mount_fields m =
    (codes "name", Some (string m.name))
    ∷ (codes "path", Some (string m.path))
    ∷ (codes "readOnly", if_true m.read_only)
    ∷ []

unfoldable pub mount_object : MountPoint → Data
mount_object m = object (written (mount_fields m))

-- a port range; its count is written always
abbrev pub port_fields : Port → List Field
port_fields p =
    (codes "count", Some (whole_data p.count))
    ∷ (codes "name", Some (string p.name))
    ∷ (codes "port", Some (whole_data p.port))
    ∷ (codes "protocol", Some (string p.protocol))
    ∷ (codes "socketActivated", if_true p.socket_activated)
    ∷ []

unfoldable pub port_object : Port → Data
port_object p = object (written (port_fields p))

-- an isolator; its value is written always, with all that it holds
abbrev pub isolator_fields : IsolatorData → List Field
isolator_fields i =
    (codes "name", Some (string i.name))
    ∷ (codes "value", Some i.value)
    ∷ []

unfoldable pub isolator_object : IsolatorData → Data
isolator_object i = object (written (isolator_fields i))

-- an app; fields that are absent or empty are left out
abbrev pub first_app_fields : AppData → List Field
first_app_fields a =
    (codes "environment", if_filled env_object a.environment)
    ∷ (codes "eventHandlers", if_filled handler_object a.event_handlers)
    ∷ (codes "exec", if_filled string a.exec)
    ∷ (codes "group", Some (string a.group))
    ∷ (codes "isolators", if_filled isolator_object a.isolators)
    ∷ []

abbrev pub last_app_fields : AppData → List Field
last_app_fields a =
    (codes "mountPoints", if_filled mount_object a.mount_points)
    ∷ (codes "ports", if_filled port_object a.ports)
    ∷ (codes "supplementaryGIDs", if_filled whole_data a.supplementary_gids)
    ∷ (codes "user", Some (string a.user))
    ∷ (codes "workingDirectory", option_map string a.working_directory)
    ∷ []

abbrev pub app_fields : AppData → List Field
app_fields a = first_app_fields a ++ last_app_fields a

unfoldable pub app_object : AppData → Data
app_object a = object (written (app_fields a))
