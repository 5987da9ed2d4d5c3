-- What a report on pods promises, whichever it is: a command that looks, and changes nothing.
use Rattle.std.specs.Prelude.{◌≡◌, ℕ, Bool, true, List, Some, Err, Ok, IfOk}
use Rattle.dir_model.specs.declared.area.Phase.{Phase}
use Rattle.dir_model.specs.declared.event.Event.{Event}
use Rattle.dir_model.specs.declared.intent.Kind.{Kind}
use Rattle.dir_model.specs.declared.pod.PodId.{PodId}
use Rattle.dir_model.specs.declared.request.Request.{Request}
use Rattle.dir_model.specs.Quiet.{Quiet, OwnsNothing}
use Rattle.dir_trait.specs.State.{DirState}
use Rattle.dir_trait.specs.Trace.{state_after}
use Rattle.dir_trait.specs.DirCalls.{DirAt}
use Rattle.lifecycle.specs.Executions.{IsConforming}
use Rattle.command_outcomes.specs.declared.refusal.Refusal.{Refusal}
use Rattle.command_outcomes.specs.Ends.{is_own_end}
use Rattle.command_outcomes.specs.Moments.{Moment, CommandOutcome}
use Rattle.commands.specs.Answers.{WritesOf}
use Rattle.commands.specs.Command.{Command, nothing, alone, intent_for, WhereAllKeepRules, WhereObserved}
use Rattle.commands.specs.NextState.{LeavesAll}
use Rattle.commands.specs.Opening.{Approach, OnceFound}

pub record Report : Type 1 where
  -- what it asks of the directory
  pub asks : Request → Bool
  -- the texts that it prints
  pub prints : List ℕ → Type 0
  -- the refusals that it may have
  pub refusals : Refusal → Bool
  -- the phases that its answer names
  pub names : CommandOutcome → (PodId → Phase → Type 0) → Type 0
  -- what its end tells of its own readings, whatever the other processes do
  pub sees : ℕ → List Event → List Event → CommandOutcome → Type 0
  -- what its end tells of the history of pods, while others step
  pub tells : ℕ → List Event → List Event → CommandOutcome → Type 0
  -- what it comes to where nobody else steps: by the state before
  pub quiet : DirState → CommandOutcome → Type 0

-- an end of its own tells what it read, and more where every process keeps the local rules
pub record ReportSays (observed : Bool) (r : Report) (old new : DirAt) (o : CommandOutcome) : Type 0 where
  pub prints : IfOk o r.prints
  pub seen : observed ≡ true → r.sees old.process old.trace new.trace o
  pub told : is_own_end o ≡ true → observed ≡ true → IsConforming new.trace → r.tells old.process old.trace new.trace o
  pub quiet :
      is_own_end o ≡ true → observed ≡ true → IsConforming new.trace → Quiet old.process old.trace new.trace →
      OwnsNothing old.process (state_after old.trace).namespace → r.quiet (state_after old.trace) o

-- the same of the whole process
abbrev pub SeesReport : Report → CommandOutcome → Moment → Moment → Type 0
SeesReport r o old new = OnceFound (λ me a b. r.sees me a b o) old.outside.dir.process old.outside.dir.trace new.outside.dir.trace

abbrev pub TellsReport : Report → CommandOutcome → Moment → Moment → Type 0
TellsReport r o old new = r.tells old.outside.dir.process old.outside.dir.trace new.outside.dir.trace o

pub record RefusesReport (r : Report) (refusal : Refusal) (old new : Moment) : Type 0 where
  pub own : r.refusals refusal ≡ true
  pub seen : WhereObserved old (SeesReport r (Err refusal) old new)
  pub why : WhereAllKeepRules old new (TellsReport r (Err refusal) old new)

pub record WritesReport (r : Report) (status : ℕ) (old new : Moment) : Type 0 where
  pub seen : WhereObserved old (status ≡ 0 → WritesOf (λ text. SeesReport r (Ok text) old new) old new)
  pub told : WhereAllKeepRules old new (status ≡ 0 → WritesOf (λ text. TellsReport r (Ok text) old new) old new)

-- a command that is this report. It leaves everything as it was
abbrev pub report_command : Kind → List ℕ → Approach → Report → Command
report_command kind word approach r = record {
  begins = Some (intent_for kind word);
  approach = approach;
  asks = λ now draw. r.asks;
  reads = nothing;
  prints = λ draw bundle. r.prints;
  refusals = r.refusals;
  refused_for = λ now draw refusal old new. RefusesReport r refusal old new;
  names = r.names;
  tells = λ now draw status old new. WritesReport r status old new;
  quiet = λ now draw old new o. IsConforming new.outside.dir.trace → r.quiet (state_after old.outside.dir.trace) o;
  leaves = λ me draw old new. LeavesAll me old new;
  says = alone (λ now draw old new o. ReportSays old.observed r old.dir new.dir o);
}
