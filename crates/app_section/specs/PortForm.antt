-- A range of ports.
use Rattle.std.specs.Prelude.{ℕ, ◌+◌, Bool, true, false, nat_le, zero, suc, List, Option, Some, None, codes}
use Rattle.serde_json.specs.Data.{Data}
use Rattle.ac_types.specs.FieldForms.{required, optional, default, flag, whole, filled_text, an_object}
use Rattle.ac_types.specs.NameForms.{filled_name}
use Rattle.ac_types.specs.Outcomes.{Outcome, reads, fails, ◌>>=◌, ◌>>◌}
use Rattle.ac_types.specs.declared.fault.FaultKind.TheVariants.{PortRange}
use Rattle.app_section.specs.declared.port.Port.{Port}

-- a count that is absent or 0 is 1
abbrev pub or_one : Option ℕ → ℕ
or_one None = 1
or_one (Some zero) = 1
or_one (Some (suc n)) = suc n

-- how many ports there are
abbrev pub count_field : List ℕ → Data → Outcome ℕ
count_field at d = optional (whole 65535) at (codes "count") d >>= λ count. reads (or_one count)

-- its fields in order
unfoldable pub port_fields : List ℕ → Data → Outcome Port
port_fields at d =
    an_object at d
    >> required filled_name at (codes "name") d >>= λ name.
    required filled_text at (codes "protocol") d >>= λ protocol.
    required (whole 65535) at (codes "port") d >>= λ first.
    count_field at d >>= λ count.
    default false flag at (codes "socketActivated") d >>= λ socket_activated.
    reads (record { name = name; protocol = protocol; port = first; count = count; socket_activated = socket_activated })

-- the last port, port + count - 1, is a port
abbrev pub if_within : List ℕ → Bool → Port → Outcome Port
if_within at true p = reads p
if_within at false p = fails at PortRange

-- a range that ends past the last port is refused after its fields were read
unfoldable pub port_range : List ℕ → Data → Outcome Port
port_range at d = port_fields at d >>= λ p. if_within at (nat_le (p.port + p.count) 65536) p
