-- What an app is, said of all its elements at once.
use Rattle.std.specs.Prelude.{◌≡◌, ◌≢◌, ◌≤◌, ◌+◌, ℕ, true, false, List, [], ◌∷◌, map, Some, IfSome}
use Rattle.std.specs.List.{All, IsDistinct}
use Rattle.std.specs.Str.{bytes_eq}
use Rattle.serde_json.specs.Data.{null}
use Rattle.serde_json.specs.Written.{has_float}
use Rattle.ac_types.specs.Names.{IsAcName, IsAcIdentifier}
use Rattle.app_section.specs.AppData.{AppData, IsolatorData}
use Rattle.app_section.specs.EnvForm.{is_env_name}
use Rattle.app_section.specs.HandlerForm.{kind_name}
use Rattle.app_section.specs.Places.{has_nul, place_text, program_text}
use Rattle.app_section.specs.declared.env_var.EnvVar.{EnvVar}
use Rattle.app_section.specs.declared.handler.Handler.{Handler}
use Rattle.app_section.specs.declared.mount_point.MountPoint.{MountPoint}
use Rattle.app_section.specs.declared.port.Port.{Port}

-- the text is a place as it is held
abbrev pub IsPlace : List ℕ → Type 0
IsPlace t = place_text t ≡ Some t

-- the text is a program word as it is held
abbrev pub IsProgram : List ℕ → Type 0
IsProgram t = program_text t ≡ Some t

abbrev pub HasNoNul : List ℕ → Type 0
HasNoNul t = has_nul t ≡ false

-- a program word first, and then texts without NUL; or no word
abbrev pub IsExec : List (List ℕ) → Type 0
IsExec [] = Unit {0}
IsExec (w ∷ ws) = IsProgram w × All HasNoNul ws

pub record IsEnvVar (v : EnvVar) : Type 0 where
  pub named : is_env_name v.name ≡ true
  pub text : HasNoNul v.value

pub record IsHandler (h : Handler) : Type 0 where
  pub words : IsExec h.exec
  pub some_word : h.exec ≢ []

pub record IsMountPoint (m : MountPoint) : Type 0 where
  pub named : IsAcName m.name
  pub place : IsPlace m.path

-- the last port, port + count - 1, is at most 65,535
pub record IsPortRange (p : Port) : Type 0 where
  pub named : IsAcName p.name
  pub spoken : p.protocol ≢ []
  pub some_port : 1 ≤ p.count
  pub counted : p.count ≤ 65535
  pub within : p.port + p.count ≤ 65536

-- its value is JSON whose numbers are whole at each depth
pub record IsIsolator (i : IsolatorData) : Type 0 where
  pub named : IsAcIdentifier i.name
  pub valued : i.value ≢ null
  pub whole : has_float i.value ≡ false

-- no two elements have one name
abbrev pub HaveNames : {A : Type 0} → (A → List ℕ) → List A → Type 0
HaveNames name_of xs = IsDistinct bytes_eq (map name_of xs)

pub record IsApp (a : AppData) : Type 0 where
  pub words : IsExec a.exec
  pub owner : a.user ≢ []
  pub owner_group : a.group ≢ []
  pub groups : All (λ g. g ≤ 4294967295) a.supplementary_gids
  pub handlers : All IsHandler a.event_handlers
  pub handler_kinds : HaveNames (λ h. kind_name h.kind) a.event_handlers
  pub directory : IfSome a.working_directory IsPlace
  pub variables : All IsEnvVar a.environment
  pub mounts : All IsMountPoint a.mount_points
  pub mount_names : HaveNames (λ m. m.name) a.mount_points
  pub listens : All IsPortRange a.ports
  pub port_names : HaveNames (λ p. p.name) a.ports
  pub limits : All IsIsolator a.isolators
