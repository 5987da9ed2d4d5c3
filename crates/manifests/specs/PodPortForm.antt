-- A port of a pod.
use Rattle.std.specs.Prelude.{ℕ, List, codes}
use Rattle.serde_json.specs.Data.{Data}
use Rattle.ac_types.specs.FieldForms.{required, whole, an_object}
use Rattle.ac_types.specs.NameForms.{filled_name}
use Rattle.ac_types.specs.Outcomes.{Outcome, reads, ◌>>=◌, ◌>>◌}
use Rattle.manifests.specs.declared.pod_port.PodPort.{PodPort}

unfoldable pub pod_port : List ℕ → Data → Outcome PodPort
pod_port at d =
    an_object at d
    >> required filled_name at (codes "name") d >>= λ name.
    required (whole 65535) at (codes "hostPort") d >>= λ number.
    reads (record { name = name; host_port = number })
