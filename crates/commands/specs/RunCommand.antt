-- `run IMAGE..`, as a whole process of it.
use Rattle.std.specs.Prelude.{◌≡◌, ◌⊎◌, ◌++◌, ℕ, true, List, [], Some, Ok, Err}
use Rattle.dir_model.specs.declared.intent.Draw.{Draw}
use Rattle.dir_model.specs.declared.intent.Intent.{Intent}
use Rattle.dir_model.specs.declared.intent.Kind.TheVariants as kind
use Rattle.lifecycle.specs.Executions.{IsConforming}
use Rattle.phase_read.specs.Read.{is_pod_spot}
use Rattle.stage1.specs.declared.end.AppEnd.{AppEnd}
use Rattle.command_outcomes.specs.declared.refusal.Refusal.{Refusal}
use Rattle.command_outcomes.specs.declared.refusal.Refusal.TheVariants.{NoMemory}
use Rattle.command_outcomes.specs.Moments.{Inside, Moment, CommandOutcome}
use Rattle.commands.specs.Answers.{inside_in}
use Rattle.commands.specs.AppEnds.{app_lines}
use Rattle.commands.specs.AppsTold.{WithinProcess, CameOrNeverBegan, TellsApps}
use Rattle.commands.specs.Opening.{directly}
use Rattle.commands.specs.Phases.{names_none}
use Rattle.commands.specs.Command.{Command, nothing, running, intent_for}
use Rattle.commands.specs.Prepare.{pod_line}
use Rattle.commands.specs.Run.{makes_and_runs, RunIsTold}
use Rattle.commands.specs.RunQuiet.{HasMadeAndLeft, IsUnmadeFor, TellsItsEnds, entries_made}
use Rattle.commands.specs.RunTable.{IsRefusedFor, RunsAll, StoppedFor}
use Rattle.commands.specs.RunRefusals.{new_run_refusal}
use Rattle.commands.specs.NextState.{LeavesBeside}
use Rattle.commands.specs.Wants.{Wants}

abbrev pub run_intent : ℕ → Draw → Intent
run_intent = intent_for kind.Run []

-- the pod wasn't made, or it wasn't run to its end: this is what it rests on
pub record RefusesNewRun (wants : Wants) (address : List ℕ) (now : ℕ) (draw : Draw) (refusal : Refusal) (old new : Moment) : Type 0 where
  pub own : new_run_refusal refusal ≡ true
  pub why : WithinProcess directly (makes_and_runs draw.uuid) (λ a b. RunIsTold wants address now draw a b (Err refusal)) (run_intent now draw) (inside_in old) (inside_in new)

-- how the pod was made and its apps ran
abbrev pub TellsNewRun : Wants → List ℕ → ℕ → Draw → ℕ → Moment → Moment → Type 0
TellsNewRun wants address now draw status old new = TellsApps (CameOrNeverBegan directly (makes_and_runs draw.uuid) (RunIsTold wants address now draw) (run_intent now draw) (inside_in old) (inside_in new)) status old new

-- where every process keeps the local rules the pod was made faithfully, and is left in run, without an owner, with the mark and the
-- status of each app whose line is told; its apps were those of what its maker made. Where it is refused for a cause of the run it is left
-- so too, by what its maker made; or it wasn't made, for this cause
abbrev pub LeavesMade : Wants → List ℕ → ℕ → Draw → Inside → Inside → CommandOutcome → Type 0
LeavesMade wants address now draw old new (Ok text) =
    IsConforming new.dir.trace →
    (x : HasMadeAndLeft wants old.dir.process draw.uuid old.dir.trace new.dir.trace) × (y : TellsItsEnds draw.uuid (pod_line draw.uuid) new.dir.trace text)
    × RunsAll draw.uuid address (entries_made x.2.0) y.ends old.spawner new.spawner
LeavesMade wants address now draw old new (Err NoMemory) = Unit {0}
LeavesMade wants address now draw old new (Err refusal) =
    IsRefusedFor draw.uuid refusal new.dir.trace (λ error.
    (x : HasMadeAndLeft wants old.dir.process draw.uuid old.dir.trace new.dir.trace) × StoppedFor draw.uuid address (entries_made x.2.0) error old.spawner new.spawner)
    ⊎ IsUnmadeFor old.observed wants now draw old.dir new.dir refusal

-- it asks for what a prepare asks for that leads to run, and then for what a run of the pod does
abbrev pub run_command : Wants → List ℕ → Command
run_command wants address = record {
  begins = Some (intent_for kind.Run []);
  approach = directly;
  asks = λ now draw. makes_and_runs draw.uuid;
  reads = nothing;
  prints = λ draw bundle text. (ends : List AppEnd) × (text ≡ pod_line draw.uuid ++ app_lines ends);
  refusals = new_run_refusal;
  refused_for = λ now draw refusal old new. RefusesNewRun wants address now draw refusal old new;
  names = names_none;
  tells = λ now draw status old new. TellsNewRun wants address now draw status old new;
  quiet = λ now draw old new o. LeavesMade wants address now draw (inside_in old) (inside_in new) o;
  leaves = λ me draw old new. LeavesBeside (is_pod_spot draw.uuid) me old new;
  says = running (λ now draw. RunIsTold wants address now draw);
}
