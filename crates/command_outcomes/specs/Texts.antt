-- The exit statuses of refusals, and their messages.
use Rattle.std.specs.Prelude.{ℕ, Bool, true, false, List, [], ◌∷◌, ◌++◌, if◌then◌else◌, codes}
use Rattle.std.specs.Char.{is_ascii_control}
use Rattle.std.specs.Fmt.{decimal}
use Rattle.std.specs.List.{flat_map}
use Rattle.percent_encoding.specs.Percent.{percent_encode_byte}
use Rattle.dir_model.specs.declared.area.Area.{Area}
use Rattle.dir_model.specs.declared.area.Area.TheVariants as area
use Rattle.dir_model.specs.declared.spot.Which.{Which}
use Rattle.dir_model.specs.declared.spot.Which.TheVariants.{Own, Claim}
use Rattle.dir_model.specs.Pods.{pod_text}
use Rattle.dir_model.specs.Areas.{phase_text}
use Rattle.command_outcomes.specs.declared.refusal.Refusal.{Refusal}
use Rattle.command_outcomes.specs.declared.refusal.Refusal.TheVariants.{Usage, NoPod, Ambiguous, Busy, BadManifest, NoImage, NoDependency, Cycle, Limit, DirFault, BundleFault, OutFault, NoMemory, NoFile, Conflict, Damaged, BadKind, Taken, WrongPhase, PodBusy, NoManifest, NoProgram, SpawnFault, LinkFault, Stray}

-- the exit status of a refusal
abbrev pub exit_status_of : Refusal → ℕ
exit_status_of Usage = 1
exit_status_of NoPod = 2
exit_status_of (Ambiguous first second) = 3
exit_status_of (WrongPhase phase) = 4
exit_status_of (Busy area) = 5
exit_status_of (PodBusy pod which) = 5
exit_status_of (BadManifest path number) = 6
exit_status_of (NoImage key) = 7
exit_status_of (NoDependency name) = 7
exit_status_of (Cycle key) = 7
exit_status_of (Limit number) = 8
exit_status_of DirFault = 9
exit_status_of BundleFault = 10
exit_status_of SpawnFault = 11
exit_status_of OutFault = 12
exit_status_of LinkFault = 13
exit_status_of NoMemory = 14
exit_status_of (NoFile path) = 15
exit_status_of (Conflict key stored new) = 15
exit_status_of (Damaged path) = 15
exit_status_of (BadKind path) = 15
exit_status_of (Taken pod) = 17
exit_status_of (NoManifest pod) = 18
exit_status_of (NoProgram app word) = 19
exit_status_of Stray = 20

-- the name of an area
abbrev pub area_text : Area → List ℕ
area_text area.Embryo = codes "embryo"
area_text area.Prepare = codes "prepare"
area_text area.Prepared = codes "prepared"
area_text area.Run = codes "run"
area_text area.ExitedGarbage = codes "exited-garbage"
area_text area.Garbage = codes "garbage"
area_text area.Incoming = codes "incoming"
area_text area.Images = codes "images"
area_text area.Trees = codes "trees"
area_text area.Removed = codes "removed"

-- the name of a pod's lock
abbrev pub lock_text : Which → List ℕ
lock_text Own = codes "own"
lock_text Claim = codes "claim"

-- a line that ends with a name
abbrev pub named_line : List ℕ → List ℕ → List ℕ
named_line front name = (front ++ name) ++ codes "\n"

-- a byte below 0x20, or 0x7f, as `%` and two upper-case hexadecimal digits, and any other as it is
abbrev pub shown_byte : ℕ → List ℕ
shown_byte byte = if is_ascii_control byte then percent_encode_byte byte else byte ∷ []

-- a path or a program word as a message shows it, which is on one line
unfoldable pub shown : List ℕ → List ℕ
shown path = flat_map shown_byte path

-- the line that is printed of it
abbrev pub message : Refusal → List ℕ
message Usage = codes "rkt: usage\n"
message NoPod = codes "rkt: no such pod\n"
message (Ambiguous first second) = (((codes "rkt: ambiguous: " ++ pod_text first.bytes) ++ codes " ") ++ pod_text second.bytes) ++ codes "\n"
message (Busy area) = named_line (codes "rkt: busy: gate ") (area_text area)
message (BadManifest path number) = (((codes "rkt: bad manifest at " ++ path) ++ codes ": refusal ") ++ decimal number) ++ codes "\n"
message (NoImage key) = named_line (codes "rkt: no image: ") key
message (NoDependency name) = named_line (codes "rkt: no dependency: ") name
message (Cycle key) = named_line (codes "rkt: cycle: ") key
message (Limit number) = named_line (codes "rkt: limit: ") (decimal number)
message DirFault = codes "rkt: directory fault\n"
message BundleFault = codes "rkt: bundle fault\n"
message SpawnFault = codes "rkt: spawner fault\n"
message OutFault = codes "rkt: output fault\n"
message LinkFault = codes "rkt: link fault\n"
message NoMemory = codes "rkt: out of memory\n"
message (NoFile path) = named_line (codes "rkt: no file: ") (shown path)
message (Conflict key stored new) = (((((codes "rkt: conflict: " ++ key) ++ codes " ") ++ stored) ++ codes " ") ++ new) ++ codes "\n"
message (Damaged path) = named_line (codes "rkt: damaged: ") (shown path)
message (BadKind path) = named_line (codes "rkt: bad kind: ") (shown path)
message (Taken pod) = named_line (codes "rkt: taken: ") (pod_text pod.bytes)
message (WrongPhase phase) = named_line (codes "rkt: wrong phase: ") (phase_text phase)
message (PodBusy pod which) = (((codes "rkt: busy: " ++ pod_text pod.bytes) ++ codes " ") ++ lock_text which) ++ codes "\n"
message (NoManifest pod) = named_line (codes "rkt: no manifest: ") (pod_text pod.bytes)
message (NoProgram app word) = (((codes "rkt: no program: " ++ app) ++ codes " ") ++ shown word) ++ codes "\n"
message Stray = codes "rkt: stray reply\n"

-- the message has a path, a key or a number in it, so that it takes memory
abbrev pub is_made : Refusal → Bool
is_made (Ambiguous first second) = true
is_made (BadManifest path number) = true
is_made (NoImage key) = true
is_made (NoDependency name) = true
is_made (Cycle key) = true
is_made (Limit number) = true
is_made (NoFile path) = true
is_made (Conflict key stored new) = true
is_made (Damaged path) = true
is_made (BadKind path) = true
is_made (Taken pod) = true
is_made (WrongPhase phase) = true
is_made (PodBusy pod which) = true
is_made (NoManifest pod) = true
is_made (NoProgram app word) = true
is_made _ = false
