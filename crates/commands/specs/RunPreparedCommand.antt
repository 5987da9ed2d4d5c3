-- `run-prepared POD`, as a whole process of it.
use Rattle.std.specs.Prelude.{◌≡◌, ◌⊎◌, ◌==◌, ℕ, Bool, true, false, List, [], ◌∷◌, Some, Ok, Err}
use Rattle.std.specs.List.{list_any}
use Rattle.dir_model.specs.declared.intent.Draw.{Draw}
use Rattle.dir_model.specs.declared.intent.Intent.{Intent}
use Rattle.dir_model.specs.declared.intent.Kind.TheVariants as kind
use Rattle.dir_model.specs.declared.pod.PodId.{PodId}
use Rattle.lifecycle.specs.Executions.{IsConforming}
use Rattle.phase_read.specs.Read.{is_pod_spot}
use Rattle.pod_locks.specs.Claims.{IsFreeThroughout}
use Rattle.pod_locks.specs.declared.claim_error.ClaimError.{ClaimError}
use Rattle.stage1.specs.declared.end.AppEnd.{AppEnd}
use Rattle.command_outcomes.specs.declared.refusal.Refusal.{Refusal}
use Rattle.command_outcomes.specs.declared.refusal.Refusal.TheVariants.{NoMemory}
use Rattle.command_outcomes.specs.Moments.{Inside, Moment, CommandOutcome}
use Rattle.commands.specs.Answers.{inside_in}
use Rattle.commands.specs.AppEnds.{app_lines}
use Rattle.commands.specs.AppsTold.{WithinProcess, CameOrNeverBegan, TellsApps}
use Rattle.commands.specs.Opening.{approach_of}
use Rattle.commands.specs.Phases.{names_refused}
use Rattle.commands.specs.Command.{Command, nothing, running, intent_for, WhereAllKeepRules}
use Rattle.commands.specs.RunPrepared.{runs_prepared, RunPreparedSays}
use Rattle.commands.specs.RunQuiet.{HasPassed, TellsItsEnds, UnclaimedFor, held_before}
use Rattle.commands.specs.RunRefusals.{run_prepared_refusal, claim_refusal}
use Rattle.commands.specs.RunTable.{IsRefusedFor, RunsAll, StoppedFor}
use Rattle.commands.specs.NextState.{LeavesBeside}

abbrev pub run_prepared_intent : List ℕ → ℕ → Draw → Intent
run_prepared_intent word = intent_for kind.RunPrepared word

-- the claim was refused, or the claimed pod wasn't run to its end: this is what it rests on
pub record RefusesRun (word : List ℕ) (pod : PodId) (address : List ℕ) (now : ℕ) (draw : Draw) (refusal : Refusal) (old new : Moment) : Type 0 where
  pub own : run_prepared_refusal refusal ≡ true
  pub why : WithinProcess (approach_of word) (runs_prepared pod) (λ a b. RunPreparedSays pod address a b (Err refusal)) (run_prepared_intent word now draw) (inside_in old) (inside_in new)

-- that the pod isn't prepared, or that another process holds a lock of it
abbrev pub is_unfree_status : ℕ → Bool
is_unfree_status status = list_any (λ n. n == status) (2 ∷ 4 ∷ 5 ∷ [])

-- how the pod was claimed and its apps ran; and where every process keeps the local rules, if the pod waits with its manifest after each
-- own step, and no other process holds a lock of it, it isn't refused for such a cause
pub record TellsRunPrepared (word : List ℕ) (pod : PodId) (address : List ℕ) (now : ℕ) (draw : Draw) (status : ℕ) (old new : Moment) : Type 0 where
  pub apps : TellsApps (CameOrNeverBegan (approach_of word) (runs_prepared pod) (RunPreparedSays pod address) (run_prepared_intent word now draw) (inside_in old) (inside_in new)) status old new
  pub complete : WhereAllKeepRules old new (IsFreeThroughout pod old.outside.dir new.outside.dir → is_unfree_status status ≡ false)

-- the pod waited in prepared before and is left in run, without an owner, and the mark and the status of each app whose line is told stand
-- there; its apps were those of what its folder held before. Where it is refused for a cause of the run it is left so too, by what its
-- folder held; or it wasn't claimed, for a cause in the state before
abbrev pub PassesQuietly : PodId → List ℕ → Inside → Inside → CommandOutcome → Type 0
PassesQuietly pod address old new (Ok text) =
    (x : HasPassed pod old.dir.process old.dir.trace new.dir.trace) × (y : TellsItsEnds pod [] new.dir.trace text)
    × (IsConforming new.dir.trace → RunsAll pod address (held_before x) y.ends old.spawner new.spawner)
PassesQuietly pod address old new (Err NoMemory) = Unit {0}
PassesQuietly pod address old new (Err refusal) =
    ((x : HasPassed pod old.dir.process old.dir.trace new.dir.trace)
    × IsRefusedFor pod refusal new.dir.trace (λ error. StoppedFor pod address (held_before x) error old.spawner new.spawner))
    ⊎ ((error : ClaimError) × (refusal ≡ claim_refusal pod error) × UnclaimedFor pod error old.dir.process old.dir.trace new.dir.trace)

-- it looks for the pod, asks for its locks and for its move to run, reads it there and makes its notes
abbrev pub run_prepared_command : List ℕ → PodId → List ℕ → Command
run_prepared_command word pod address = record {
  begins = Some (intent_for kind.RunPrepared word);
  approach = approach_of word;
  asks = λ now draw. runs_prepared pod;
  reads = nothing;
  prints = λ draw bundle text. (ends : List AppEnd) × (text ≡ app_lines ends);
  refusals = run_prepared_refusal;
  refused_for = λ now draw refusal old new. RefusesRun word pod address now draw refusal old new;
  names = names_refused pod;
  tells = λ now draw status old new. TellsRunPrepared word pod address now draw status old new;
  quiet = λ now draw old new o. PassesQuietly pod address (inside_in old) (inside_in new) o;
  leaves = λ me draw old new. LeavesBeside (is_pod_spot pod) me old new;
  says = running (λ now draw. RunPreparedSays pod address);
}
