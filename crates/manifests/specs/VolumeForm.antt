-- A volume of a pod.
use Rattle.std.specs.Prelude.{ℕ, Bool, true, false, ◌&&◌, nat_le, List, length, codes, if◌then◌else◌}
use Rattle.std.specs.List.{list_all}
use Rattle.std.specs.Str.{bytes_eq}
use Rattle.serde_json.specs.Data.{Data}
use Rattle.ac_types.specs.FieldForms.{required, default, text, filled_text, flag, whole, an_object, unless_among}
use Rattle.ac_types.specs.NameForms.{filled_name}
use Rattle.ac_types.specs.Outcomes.{Outcome, reads, fails, ◌>>=◌, ◌>>◌}
use Rattle.ac_types.specs.SeenTexts.{is_among}
use Rattle.ac_types.specs.declared.fault.FaultKind.TheVariants.{BadVolume}
use Rattle.app_section.specs.Places.{filled_place}
use Rattle.manifests.specs.declared.volume.Volume.{Volume}
use Rattle.manifests.specs.declared.volume.VolumeKind.{VolumeKind}
use Rattle.manifests.specs.declared.volume.VolumeKind.TheVariants.{Host, Empty}

-- what is read, where each fault counts as one of the volume at a path
abbrev pub or_bad_volume : {A : Type 0} → List ℕ → Outcome A → Outcome A
or_bad_volume at (reads value) = reads value
or_bad_volume at (fails path kind) = fails at BadVolume

-- one to four octal digits
abbrev pub is_octal : ℕ → Bool
is_octal b = nat_le 48 b && nat_le b 55

abbrev pub is_mode : List ℕ → Bool
is_mode t = nat_le 1 (length t) && nat_le (length t) 4 && list_all is_octal t

abbrev pub if_mode : List ℕ → Bool → List ℕ → Outcome (List ℕ)
if_mode at true t = reads t
if_mode at false t = fails at BadVolume

abbrev pub mode : List ℕ → Data → Outcome (List ℕ)
mode at d = text at d >>= λ t. if_mode at (is_mode t) t

-- a folder of the host, and one that is made empty
unfoldable pub host : List ℕ → Data → Outcome VolumeKind
host at d =
    or_bad_volume at (required filled_place at (codes "source") d) >>= λ source.
    default false flag at (codes "readOnly") d >>= λ read_only.
    reads (Host source read_only)

unfoldable pub empty : List ℕ → Data → Outcome VolumeKind
empty at d =
    or_bad_volume at (default (codes "0755") mode at (codes "mode") d) >>= λ digits.
    default 0 (whole 4294967295) at (codes "uid") d >>= λ uid.
    default 0 (whole 4294967295) at (codes "gid") d >>= λ gid.
    reads (Empty digits uid gid)

-- the fields of the kind of that name
unfoldable pub kind_of : List ℕ → List ℕ → Data → Outcome VolumeKind
kind_of kind at d =
    if bytes_eq kind (codes "host") then host at d
    else (if bytes_eq kind (codes "empty") then empty at d else fails at BadVolume)

unfoldable pub volume_fields : List ℕ → Data → Outcome Volume
volume_fields at d =
    an_object at d
    >> required filled_name at (codes "name") d >>= λ name.
    required filled_text at (codes "kind") d >>= λ kind.
    kind_of kind at d >>= λ read.
    reads (record { name = name; kind = read })

-- a name that came before is refused at the volume, after its fields were read
unfoldable pub volume : List (List ℕ) → List ℕ → Data → Outcome Volume
volume names at d = volume_fields at d >>= λ v. unless_among BadVolume at (is_among v.name names) v
