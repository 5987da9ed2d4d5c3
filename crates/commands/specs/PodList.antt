-- The command `list`.
use Rattle.std.specs.Prelude.{◌≡◌, ℕ, Bool, true, Option, Some, None, List, [], ◌∷◌, ◌++◌, codes, Ok, Err}
use Rattle.std.specs.List.{flat_map, AllByRecursion}
use Rattle.dir_model.specs.declared.area.Phase.{Phase}
use Rattle.dir_model.specs.declared.event.Event.{Event}
use Rattle.dir_model.specs.declared.pod.PodId.{PodId}
use Rattle.dir_model.specs.Pods.{pod_text}
use Rattle.dir_trait.specs.Areas.{phase_text}
use Rattle.dir_trait.specs.State.{DirState}
use Rattle.dir_files.specs.Reads.{file_at}
use Rattle.phase_read.specs.declared.found.Found.{Found}
use Rattle.phase_read.specs.declared.found.Found.TheVariants.{At, Gone}
use Rattle.phase_read.specs.Sequential.{sequential_read}
use Rattle.pod_lookup.specs.Pods.{pods_standing}
use Rattle.pod_report.specs.declared.error.ReportError.{ReportError}
use Rattle.pod_report.specs.declared.error.ReportError.TheVariants as report
use Rattle.pod_report.specs.declared.line.PodLine.{PodLine}
use Rattle.pod_report.specs.Before.{names_in_file}
use Rattle.pod_report.specs.Manifests.{manifest_in_area}
use Rattle.pod_report.specs.Requests.{surveys}
use Rattle.pod_report.specs.SeenLines.{ListsSeen}
use Rattle.pod_report.specs.Snapshot.{IsWeakSnapshot}
use Rattle.command_outcomes.specs.declared.refusal.Refusal.{Refusal}
use Rattle.command_outcomes.specs.declared.refusal.Refusal.TheVariants.{DirFault, NoMemory, Stray}
use Rattle.command_outcomes.specs.Ends.{is_common}
use Rattle.command_outcomes.specs.Moments.{CommandOutcome}
use Rattle.commands.specs.Report.{Report}

-- a name after another one
abbrev pub name_behind : List ℕ → List ℕ
name_behind name = codes "," ++ name

-- the names of a pod's apps, with ',' between them, or '-' where there is none or it has no manifest
abbrev pub names_text : List (List ℕ) → List ℕ
names_text [] = codes "-"
names_text (first ∷ others) = first ++ flat_map name_behind others

abbrev pub apps_text : Option (List (List ℕ)) → List ℕ
apps_text None = codes "-"
apps_text (Some names) = names_text names

-- the line of a pod: its uuid, its phase and its apps, with tabs between them
abbrev pub pod_line_text : PodLine → List ℕ
pod_line_text line = ((((pod_text line.pod.bytes ++ codes "\t") ++ phase_text line.phase) ++ codes "\t") ++ apps_text line.apps) ++ codes "\n"

abbrev pub list_text : List PodLine → List ℕ
list_text lines = flat_map pod_line_text lines

-- the refusals that it may have
abbrev pub list_refusal : Refusal → Bool
list_refusal Stray = true
list_refusal refusal = is_common refusal

-- what is said where the pods weren't listed
abbrev pub unlisted_refusal : ReportError → Refusal
unlisted_refusal report.DirFault = DirFault
unlisted_refusal report.NoMemory = NoMemory
unlisted_refusal error = Stray

-- it printed these lines
pub record PrintsLines (P : List PodLine → Type 0) (text : List ℕ) : Type 0 where
  pub lines : List PodLine
  pub so : P lines
  pub is : text ≡ list_text lines

-- the six areas were listed, and then own readings found each pod that has a line, and missed each that has none
abbrev pub SeesLines : ℕ → List Event → List Event → CommandOutcome → Type 0
SeesLines me old new (Ok text) = PrintsLines (λ lines. ListsSeen lines me old new) text
SeesLines me old new (Err refusal) = Unit {0}

-- each line names that of its pod
abbrev pub names_lines : CommandOutcome → (PodId → Phase → Type 0) → Type 0
names_lines (Ok text) Had = PrintsLines (AllByRecursion (λ (line : PodLine). Had line.pod line.phase)) text
names_lines (Err refusal) Had = Unit {0}

-- the lines are a weakly consistent snapshot of the pods; contradictory answers don't come
abbrev pub TellsLines : ℕ → List Event → List Event → CommandOutcome → Type 0
TellsLines me old new (Ok text) = PrintsLines (IsWeakSnapshot me old new) text
TellsLines me old new (Err refusal) = ⊥

-- the line that a state gives a pod: by the first area in lifecycle order in which it stands, by its lock there, and by its manifest there
abbrev pub pod_line_in : DirState → PodId → Found → List ℕ
pod_line_in s pod (At phase area) = pod_line_text (record { pod = pod; phase = phase; apps = names_in_file (file_at s (manifest_in_area pod area)) })
pod_line_in s pod Gone = []

-- where nobody else steps it prints such a line of each pod that stands in the state before, by uuid
abbrev pub sequential_list : DirState → List ℕ
sequential_list s = flat_map (λ pod. pod_line_in s pod (sequential_read s pod)) (pods_standing s.namespace)

abbrev pub IsListOf : DirState → CommandOutcome → Type 0
IsListOf s o = o ≡ Ok (sequential_list s)

-- it lists the areas of pods, looks at the pods' locations and reads their manifests
abbrev pub list_report : Report
list_report = record {
  asks = surveys;
  prints = λ text. (lines : List PodLine) × (text ≡ list_text lines);
  refusals = list_refusal;
  names = names_lines;
  sees = SeesLines;
  tells = TellsLines;
  quiet = IsListOf;
}
