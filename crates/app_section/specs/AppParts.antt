-- An app in two groups of fields, which are read and copied one after the other.
use Rattle.std.specs.Prelude.{ℕ, List, map, Option}
use Rattle.app_section.specs.AppData.{AppData, IsolatorData, isolator_data}
use Rattle.app_section.specs.declared.app.App.{App}
use Rattle.app_section.specs.declared.app_fields.FirstFields.{FirstFields}
use Rattle.app_section.specs.declared.app_fields.LastFields.{LastFields}
use Rattle.app_section.specs.declared.env_var.EnvVar.{EnvVar}
use Rattle.app_section.specs.declared.mount_point.MountPoint.{MountPoint}
use Rattle.app_section.specs.declared.port.Port.{Port}

-- the first fields of an app
abbrev pub first_of : App → FirstFields
first_of a = record {
  exec = a.exec;
  user = a.user;
  group = a.group;
  supplementary_gids = a.supplementary_gids;
  event_handlers = a.event_handlers;
}

-- the last fields, with the JSON of isolators as data
pub record LastData : Type 0 where
  pub working_directory : Option (List ℕ)
  pub environment : List EnvVar
  pub mount_points : List MountPoint
  pub ports : List Port
  pub isolators : List IsolatorData

abbrev pub last_data : LastFields → LastData
last_data l = record {
  working_directory = l.working_directory;
  environment = l.environment;
  mount_points = l.mount_points;
  ports = l.ports;
  isolators = map isolator_data l.isolators;
}

abbrev pub last_of : AppData → LastData
last_of a = record {
  working_directory = a.working_directory;
  environment = a.environment;
  mount_points = a.mount_points;
  ports = a.ports;
  isolators = a.isolators;
}

-- the app with these fields
abbrev pub whole_app : FirstFields → LastData → AppData
whole_app first last = record {
  exec = first.exec;
  user = first.user;
  group = first.group;
  supplementary_gids = first.supplementary_gids;
  event_handlers = first.event_handlers;
  working_directory = last.working_directory;
  environment = last.environment;
  mount_points = last.mount_points;
  ports = last.ports;
  isolators = last.isolators;
}
