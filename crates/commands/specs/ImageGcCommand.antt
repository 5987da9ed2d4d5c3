-- `image gc`, as a whole process of it.
use Rattle.std.specs.Prelude.{◌≡◌, ℕ, true, List, [], Some, Bool}
use Rattle.dir_model.specs.declared.intent.Kind.TheVariants as kind
use Rattle.dir_trait.specs.DirCalls.{DirAt}
use Rattle.image_removal.specs.declared.pass.SweepLine.{SweepLine}
use Rattle.image_removal.specs.Requests.{sweeps_store}
use Rattle.command_outcomes.specs.declared.refusal.Refusal.{Refusal}
use Rattle.command_outcomes.specs.declared.refusal.Refusal.TheVariants.{Stray}
use Rattle.command_outcomes.specs.Moments.{Moment}
use Rattle.commands.specs.Answers.{WritesOf}
use Rattle.commands.specs.Opening.{directly}
use Rattle.commands.specs.Phases.{names_none}
use Rattle.commands.specs.Command.{Command, nothing, alone, intent_for, WhereObserved}
use Rattle.commands.specs.ImageGc.{image_gc_refusal, sweep_texts, is_swept_place, HasEndedEarly, HasMetStrayInSweep, HasSwept, ImageGcSays, SweepsQuietly}
use Rattle.commands.specs.NextState.{LeavesBeside}
use Rattle.commands.specs.Strays.{NeverComes}

-- an answer came that what the locks keep doesn't explain; where every process keeps the local rules, none comes
abbrev pub RefusesImageGc : Bool → Refusal → DirAt → DirAt → Type 0
RefusesImageGc observed Stray old new = observed ≡ true → HasMetStrayInSweep old new × NeverComes new.trace
RefusesImageGc observed refusal old new = ⊥

-- with status 0 it wrote the lines of what it did; with 9 it ended early, and did nothing after the pass that failed
pub record TellsImageGc (status : ℕ) (old new : Moment) : Type 0 where
  pub swept : WhereObserved old (status ≡ 0 → WritesOf (HasSwept old.outside.dir new.outside.dir) old new)
  pub early : WhereObserved old (status ≡ 9 → HasEndedEarly old.outside.dir new.outside.dir)

-- it asks for the locks and listings of incoming and removed, for moves from the first to the second and for deletions there
abbrev pub image_gc_command : Command
image_gc_command = record {
  begins = Some (intent_for kind.ImageGc []);
  approach = directly;
  asks = λ now draw. sweeps_store;
  reads = nothing;
  prints = λ draw bundle text. (lines : List SweepLine) × (text ≡ sweep_texts lines);
  refusals = image_gc_refusal;
  refused_for = λ now draw refusal old new. RefusesImageGc old.outside.observed refusal old.outside.dir new.outside.dir;
  names = names_none;
  tells = λ now draw status old new. TellsImageGc status old new;
  quiet = λ now draw old new o. SweepsQuietly old.outside.dir new.outside.dir o;
  leaves = λ me draw old new. LeavesBeside is_swept_place me old new;
  says = alone (λ now draw old new o. ImageGcSays old.observed old.dir new.dir o);
}
