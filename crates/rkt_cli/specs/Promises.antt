-- What a caller is told of a run of the program.
use Rattle.std.specs.Prelude.{◌≡◌, ◌⊎◌, ℕ, Bool, true, false, ◌||◌, ◌==◌, List, [], ◌∷◌, ◌++◌, Option, Some, None, Result, Ok, Err}
use Rattle.std.specs.List.{list_any}
use Rattle.dir_model.specs.declared.intent.Draw.{Draw}
use Rattle.dir_model.specs.declared.intent.Intent.{Intent}
use Rattle.dir_model.specs.declared.pod.PodId.{PodId}
use Rattle.dir_model.specs.declared.request.Request.{Request}
use Rattle.dir_trait.specs.Causes.{Rose}
use Rattle.dir_trait.specs.Calls.{Extends, is_begin, is_finish}
use Rattle.dir_model.specs.declared.event.Event.{Event}
use Rattle.dir_trait.specs.Local.{Local}
use Rattle.dir_trait.specs.Quiet.{Quiet}
use Rattle.dir_trait.specs.Sinks.{WritesPart}
use Rattle.dir_trait.specs.State.{DirState}
use Rattle.dir_trait.specs.Trace.{state_after}
use Rattle.phase_read.specs.declared.found.LookError.{LookError}
use Rattle.pod_lookup.specs.Choice.{sequential_resolve}
use Rattle.rkt_cli.specs.declared.line.Line.{Line}
use Rattle.rkt_cli.specs.Tasks.{Task, task_of, pod_word_of}
use Rattle.rkt_cli.specs.Lookups.{OfPod, RefusedBeforeItsPod, lookup_refusal}
use Rattle.command_outcomes.specs.declared.refusal.Refusal.{Refusal}
use Rattle.command_outcomes.specs.declared.refusal.Refusal.TheVariants.{Usage, DirFault, BundleFault, SpawnFault, OutFault, NoMemory}
use Rattle.command_outcomes.specs.Texts.{exit_status_of}
use Rattle.command_outcomes.specs.Moments.{BundleSeen, SinkSeen, Outside, Moment, CommandOutcome}
use Rattle.commands.specs.Answers.{Complained, IsAnswer}
use Rattle.commands.specs.Command.{Command, begins_any, reads_any, starts_any}
use Rattle.commands.specs.NextState.{LeavesAll}
use Rattle.commands.specs.Opening.{approach_of, looks_by}
use Rattle.rkt_cli.specs.Commands.{command_in, any_task, uses_dir, uses_dir_in, reads_bundle, reads_bundle_in, runs_apps, runs_apps_in, intent_in, looks, asks, ReadsOnly}
use Rattle.rkt_cli.specs.Runs.{IsRunOfTask, RunsNoCommand, ended_local, IsStatusWithApps}

-- the exit statuses
abbrev pub IsExitStatus : ℕ → Type 0
IsExitStatus status = list_any (λ n. n == status) (0 ∷ 1 ∷ 2 ∷ 3 ∷ 4 ∷ 5 ∷ 6 ∷ 7 ∷ 8 ∷ 9 ∷ 10 ∷ 11 ∷ 12 ∷ 13 ∷ 14 ∷ 15 ∷ 16 ∷ 17 ∷ 18 ∷ 19 ∷ 20 ∷ []) ≡ true

-- the status of a command that was done: 16 only of one that starts apps, of which some ended with another status than 0
abbrev pub DoneWith : Bool → ℕ → Type 0
DoneWith runs status = (status ≡ 0) ⊎ ((status ≡ 16) × (runs ≡ true))

abbrev pub IsDone : Option Line → ℕ → Type 0
IsDone line status = DoneWith (runs_apps_in line) status

-- why a command was refused: what it uses failed, as the count of its faults shows; memory ran out, of which no cause is told; or for a
-- refusal of the command's own, with its cause
abbrev pub RefusedFor : Command → ℕ → Draw → Refusal → Moment → Moment → Type 0
RefusedFor c now draw NoMemory old new = Unit {0}
RefusedFor c now draw DirFault old new = (begins_any c.begins ≡ true) × Rose old.outside.dir.faults new.outside.dir.faults
RefusedFor c now draw BundleFault old new = (reads_any c.reads ≡ true) × Rose old.outside.bundle.faults new.outside.bundle.faults
RefusedFor c now draw SpawnFault old new = (starts_any c.says ≡ true) × Rose old.spawner.shown.faults new.spawner.shown.faults
RefusedFor c now draw OutFault old new = Rose old.out.faults new.out.faults
RefusedFor c now draw Usage old new = ⊥
RefusedFor c now draw refusal old new = c.refused_for now draw refusal old new

-- it was refused so, with that refusal's status and message, and for its cause
pub record IsRefused (task : Task) (now : ℕ) (draw : Draw) (status : ℕ) (old new : Moment) : Type 0 where
  pub refusal : Refusal
  pub is : status ≡ exit_status_of refusal
  pub said : Complained refusal old.err new.err
  pub cause : RefusedFor (command_in task) now draw refusal old new

-- it was done, and nothing was said; or refused
abbrev pub Ends : Task → ℕ → Draw → ℕ → Moment → Moment → Type 0
Ends task now draw status old new = (DoneWith (runs_apps task) status × (new.err ≡ old.err)) ⊎ IsRefused task now draw status old new

-- words that are no command are refused as such, or memory ran out
abbrev pub EndsUnread : ℕ → Moment → Moment → Type 0
EndsUnread status old new = RunsNoCommand Usage old new status ⊎ RunsNoCommand NoMemory old new status

abbrev pub IsEnded : Option Line → ℕ → Draw → ℕ → Moment → Moment → Type 0
IsEnded None now draw status old new = EndsUnread status old new
IsEnded (Some line) now draw status old new = OfPod line draw (λ task. Ends task now draw status old new) ⊎ RefusedBeforeItsPod line now draw old new status

-- what is told with the status
abbrev pub TellsIn : Option Line → ℕ → Draw → ℕ → Moment → Moment → Type 0
TellsIn None now draw status old new = EndsUnread status old new
TellsIn (Some line) now draw status old new = OfPod line draw (λ task. (command_in task).tells now draw status old new) ⊎ RefusedBeforeItsPod line now draw old new status

-- the process's own requests: its begin, a look for its pod, those of the command, its finish
abbrev pub asks_all : Task → ℕ → Draw → Request → Bool
asks_all task now draw request = looks task request || (is_begin request || (asks task now draw request || is_finish request))

-- and those of one that comes to no task
abbrev pub looks_for : Option (List ℕ) → Request → Bool
looks_for None request = false
looks_for (Some word) request = looks_by (approach_of word) request

abbrev pub looks_in : Line → Request → Bool
looks_in line = looks_for (pod_word_of line)

abbrev pub opens_in : Line → Request → Bool
opens_in line request = looks_in line request || (is_begin request || is_finish request)

abbrev pub AsksByItsLine : Option Line → ℕ → Draw → ℕ → List Event → List Event → Type 0
AsksByItsLine None now draw me old new = new ≡ old
AsksByItsLine (Some line) now draw me old new = OfPod line draw (λ task. Extends (asks_all task now draw) me old new) ⊎ Extends (opens_in line) me old new

-- a text that the command prints
abbrev pub Prints : Option Line → Draw → BundleSeen → List ℕ → Type 0
Prints None draw bundle text = ⊥
Prints (Some line) draw bundle text = OfPod line draw (λ task. (command_in task).prints draw bundle text)

-- where it was done the command's text was written, with 12 and 14 a part of it from its start or nothing, and else nothing
abbrev pub WritesItsText : Bool → (List ℕ → Type 0) → ℕ → List ℕ → List ℕ → Type 0
WritesItsText runs P status old new =
    (DoneWith runs status × (text : List ℕ) × P text × (new ≡ old ++ text))
    ⊎ (((status ≡ 12) ⊎ (status ≡ 14)) × (text : List ℕ) × P text × WritesPart old text new)
    ⊎ ((((status == 0) || (status == 16)) ≡ false) × (new ≡ old))

abbrev pub IsOutput : Option Line → Draw → BundleSeen → ℕ → List ℕ → List ℕ → Type 0
IsOutput line draw bundle status old new = WritesItsText (runs_apps_in line) (Prints line draw bundle) status old new

-- a command on the directory leaves a process that has begun so and finished, with nothing open. Where memory ran out
-- before it began, and for all other words, nothing has changed
abbrev pub EndsAs : Option Intent → ℕ → Local → Local → Type 0
EndsAs None status old new = new ≡ old
EndsAs (Some intent) status old new = (new ≡ ended_local intent) ⊎ ((status ≡ 14) × (new ≡ old))

abbrev pub IsOver : Option Line → ℕ → Draw → ℕ → Local → Local → Type 0
IsOver None now draw status old new = new ≡ old
IsOver (Some line) now draw status old new = EndsAs (intent_in line now draw) status old new

-- what the words read of the bundle
abbrev pub ReadsIn : Option Line → BundleSeen → BundleSeen → Type 0
ReadsIn None old new = new ≡ old
ReadsIn (Some line) old new = ReadsOnly (any_task line) old new

-- of what the command uses, all is observed, nothing failed, and nobody else stepped
pub record WorksAlone (uses reads : Bool) (old new : Outside) : Type 0 where
  pub observed : uses ≡ true → old.observed ≡ true
  pub alone : uses ≡ true → Quiet old.dir.process old.dir.trace new.dir.trace
  pub works : uses ≡ true → Rose old.dir.faults new.dir.faults → ⊥
  pub bundle_observed : reads ≡ true → old.bundle.observed ≡ true
  pub bundle_works : reads ≡ true → Rose old.bundle.faults new.bundle.faults → ⊥

abbrev pub IsUndisturbed : Option Line → Outside → Outside → Type 0
IsUndisturbed line old new = WorksAlone (uses_dir_in line) (reads_bundle_in line) old new

abbrev pub Undisturbed : Task → Outside → Outside → Type 0
Undisturbed task old new = WorksAlone (uses_dir task) (reads_bundle task) old new

-- and the output didn't fail
abbrev pub Works : SinkSeen → SinkSeen → Type 0
Works old new = Rose old.faults new.faults → ⊥

-- so it was answered, with this status as if all apps had ended with 0, and so the directory was left
abbrev pub IsPlainAnswer : Task → ℕ → Draw → ℕ → Moment → Moment → Type 0
IsPlainAnswer task now draw plain old new =
    (o : CommandOutcome)
    × (command_in task).quiet now draw old new o
    × IsAnswer o plain old new
    × (command_in task).leaves old.outside.dir.process draw (state_after old.outside.dir.trace) (state_after new.outside.dir.trace)

-- with 16 for 0 where an app ended with another status than 0
abbrev pub AnswersTask : Task → ℕ → Draw → ℕ → Moment → Moment → Type 0
AnswersTask task now draw status old new = (plain : ℕ) × IsStatusWithApps task plain status × IsPlainAnswer task now draw plain old new

-- by what the line's word means in the state before: the answer of the command on that pod, or that there is none, or more than one
abbrev pub meaning_in : DirState → Option (List ℕ) → Draw → Result PodId LookError
meaning_in s None draw = Ok draw.uuid
meaning_in s (Some word) draw = sequential_resolve s word

abbrev pub AnswersMeaning : Line → ℕ → Draw → Result PodId LookError → ℕ → Moment → Moment → Type 0
AnswersMeaning line now draw (Ok pod) status old new = AnswersTask (task_of line pod) now draw status old new
AnswersMeaning line now draw (Err error) status old new =
    IsAnswer (Err (lookup_refusal error)) status old new × LeavesAll old.outside.dir.process (state_after old.outside.dir.trace) (state_after new.outside.dir.trace)

-- memory ran out, or it was answered so
abbrev pub IsQuietAnswer : Option Line → ℕ → Draw → ℕ → Moment → Moment → Type 0
IsQuietAnswer None now draw status old new = EndsUnread status old new
IsQuietAnswer (Some line) now draw status old new =
    (status ≡ 14) ⊎ AnswersMeaning line now draw (meaning_in (state_after old.outside.dir.trace) (pod_word_of line) draw) status old new

-- where of what the command uses all is observed and works, and nobody else steps
abbrev pub AnswersQuietly : Option Line → ℕ → Draw → ℕ → Moment → Moment → Type 0
AnswersQuietly line now draw status old new = IsUndisturbed line old.outside new.outside → Works old.out new.out → IsQuietAnswer line now draw status old new

-- the whole run, from which all this follows
abbrev pub IsRunOf : Option Line → ℕ → Draw → Moment → Moment → ℕ → Type 0
IsRunOf None now draw old new status = EndsUnread status old new
IsRunOf (Some line) now draw old new status = OfPod line draw (λ task. IsRunOfTask task now draw old new status) ⊎ RefusedBeforeItsPod line now draw old new status
