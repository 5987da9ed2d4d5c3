-- An app as contracts see it: the JSON of its isolators as data.
use Rattle.std.specs.Prelude.{ℕ, List, map, Option}
use Rattle.serde_json.specs.Data.{Data}
use Rattle.serde_json.specs.View.{view}
use Rattle.app_section.specs.declared.isolator.Isolator.{Isolator}
use Rattle.app_section.specs.declared.env_var.EnvVar.{EnvVar}
use Rattle.app_section.specs.declared.handler.Handler.{Handler}
use Rattle.app_section.specs.declared.mount_point.MountPoint.{MountPoint}
use Rattle.app_section.specs.declared.port.Port.{Port}
use Rattle.app_section.specs.declared.app.App.{App}

-- an isolator, with its JSON as data
pub record IsolatorData : Type 0 where
  pub name : List ℕ
  pub value : Data

-- an app, with its isolators so
pub record AppData : Type 0 where
  pub exec : List (List ℕ)
  pub user : List ℕ
  pub group : List ℕ
  pub supplementary_gids : List ℕ
  pub event_handlers : List Handler
  pub working_directory : Option (List ℕ)
  pub environment : List EnvVar
  pub mount_points : List MountPoint
  pub ports : List Port
  pub isolators : List IsolatorData

-- how contracts see an isolator
abbrev pub isolator_data : Isolator → IsolatorData
isolator_data i = record { name = i.name; value = view i.value }

-- how contracts see an app
abbrev pub app_data : App → AppData
app_data a = record {
  exec = a.exec;
  user = a.user;
  group = a.group;
  supplementary_gids = a.supplementary_gids;
  event_handlers = a.event_handlers;
  working_directory = a.working_directory;
  environment = a.environment;
  mount_points = a.mount_points;
  ports = a.ports;
  isolators = map isolator_data a.isolators;
}
