-- An event handler.
use Rattle.std.specs.Prelude.{ℕ, List, Option, Some, None, codes, if◌then◌else◌}
use Rattle.std.specs.Str.{bytes_eq}
use Rattle.serde_json.specs.Data.{Data}
use Rattle.ac_types.specs.FieldForms.{required, filled_text, an_object}
use Rattle.ac_types.specs.JsonPaths.{field_path}
use Rattle.ac_types.specs.Outcomes.{Outcome, reads, fails, ◌>>=◌, ◌>>◌}
use Rattle.ac_types.specs.declared.fault.FaultKind.TheVariants.{BadHandler}
use Rattle.app_section.specs.ExecForm.{filled_exec}
use Rattle.app_section.specs.declared.handler.Handler.{Handler}
use Rattle.app_section.specs.declared.handler.HandlerKind.{HandlerKind}
use Rattle.app_section.specs.declared.handler.HandlerKind.TheVariants.{PreStart, PostStop}

-- the name of each kind
abbrev pub kind_name : HandlerKind → List ℕ
kind_name PreStart = codes "pre-start"
kind_name PostStop = codes "post-stop"

-- the kind of that name
abbrev pub kind_of : List ℕ → Option HandlerKind
kind_of name =
    if bytes_eq name (codes "pre-start") then Some PreStart
    else if bytes_eq name (codes "post-stop") then Some PostStop
    else None

-- the kind, where it is known
abbrev pub known_kind : List ℕ → Option HandlerKind → Outcome HandlerKind
known_kind at None = fails at BadHandler
known_kind at (Some kind) = reads kind

-- a handler; its kind is judged after its fields were read
unfoldable pub handler : List ℕ → Data → Outcome Handler
handler at d =
    an_object at d
    >> required filled_text at (codes "name") d >>= λ name.
    required filled_exec at (codes "exec") d >>= λ exec.
    known_kind (field_path at (codes "name")) (kind_of name) >>= λ kind.
    reads (record { kind = kind; exec = exec })
