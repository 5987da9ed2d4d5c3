-- `gc`, as a whole process of it.
use Rattle.std.specs.Prelude.{◌≡◌, ◌⊎◌, ◌||◌, ◌==◌, ℕ, true, false, List, [], Some, Bool}
use Rattle.dir_model.specs.declared.intent.Draw.{Draw}
use Rattle.dir_model.specs.declared.intent.Intent.{Intent}
use Rattle.dir_model.specs.declared.intent.Kind.TheVariants as kind
use Rattle.dir_model.specs.Calls.{Extends, is_begin}
use Rattle.dir_trait.specs.DirCalls.{DirAt}
use Rattle.pod_gc.specs.declared.ages.Times.{Times}
use Rattle.pod_gc.specs.declared.line.GcLine.{GcLine}
use Rattle.pod_gc.specs.Requests.{sweeps}
use Rattle.command_outcomes.specs.declared.refusal.Refusal.{Refusal}
use Rattle.command_outcomes.specs.declared.refusal.Refusal.TheVariants.{Stray}
use Rattle.command_outcomes.specs.Moments.{Moment}
use Rattle.commands.specs.Answers.{WritesOf}
use Rattle.commands.specs.Opening.{directly}
use Rattle.commands.specs.Command.{Command, nothing, alone, WhereObserved, WhereAllKeepRules}
use Rattle.commands.specs.Gc.{times_of, gc_refusal, lines_text, names_kept, GcSays, HasMadePasses, HasMetStrayInPods, HasSweptInPart, HasSweptPods}
use Rattle.commands.specs.RemovalHistory.{SweepsForGood}
use Rattle.commands.specs.RemovalQuiet.{SweepsPodsQuietly, is_pods_place}
use Rattle.commands.specs.NextState.{LeavesBeside}
use Rattle.commands.specs.Strays.{ComesOfApp}
use Rattle.command_outcomes.specs.Meanwhile.{Meanwhile}

-- what its process says when it begins: how long an exited pod rests since it was marked, and a prepared one since it was made, in seconds
abbrev pub gc_intent : ℕ → ℕ → ℕ → Draw → Intent
gc_intent grace expire now draw = record { kind = kind.Gc; word = []; now = now; grace = grace; expire = expire; draw = draw.uuid; token = draw.token }

-- an answer came that what the locks keep doesn't explain; where every process keeps the local rules, since a started app wrote on
abbrev pub RefusesGc : Bool → Refusal → DirAt → DirAt → Type 0
RefusesGc observed Stray old new = observed ≡ true → HasMetStrayInPods old new × Meanwhile ComesOfApp old.process old.trace new.trace
RefusesGc observed refusal old new = ⊥

-- with status 0 and 12 a sweep made its six passes, with 14 it may have; with another status than 0 and 12 it ended early, or with 14 it
-- hadn't begun
abbrev pub LeavesSwept : Times → ℕ → DirAt → DirAt → Type 0
LeavesSwept times status old new =
    ((((status ≡ 0) ⊎ (status ≡ 12)) ⊎ (status ≡ 14)) × HasMadePasses times old new)
    ⊎ ((((status == 0) || (status == 12)) ≡ false) × HasSweptInPart times old new)
    ⊎ ((status ≡ 14) × Extends is_begin old.process old.trace new.trace)

-- with status 0 it wrote the lines of its six passes; where every process keeps the local rules, each pod that they call deleted existed
-- at a moment of the call, and is gone at its end, for good. With each status it did what that says
pub record TellsGc (times : Times) (status : ℕ) (old new : Moment) : Type 0 where
  pub swept : WhereObserved old (status ≡ 0 → WritesOf (HasSweptPods times old.outside.dir new.outside.dir) old new)
  pub left : WhereObserved old (LeavesSwept times status old.outside.dir new.outside.dir)
  pub gone : WhereAllKeepRules old new (status ≡ 0 → WritesOf (SweepsForGood times old.outside.dir new.outside.dir) old new)

-- it lists the areas of pods, asks for the lock of embryo, looks at pods, lists and makes their marks, moves them to a garbage place and
-- deletes there
abbrev pub gc_command : ℕ → ℕ → Command
gc_command grace expire = record {
  begins = Some (gc_intent grace expire);
  approach = directly;
  asks = λ now draw. sweeps now;
  reads = nothing;
  prints = λ draw bundle text. (lines : List GcLine) × (text ≡ lines_text lines);
  refusals = gc_refusal;
  refused_for = λ now draw refusal old new. RefusesGc old.outside.observed refusal old.outside.dir new.outside.dir;
  names = names_kept;
  tells = λ now draw status old new. TellsGc (times_of now grace expire) status old new;
  quiet = λ now draw old new o. SweepsPodsQuietly (times_of now grace expire) old.outside.dir new.outside.dir o;
  leaves = λ me draw old new. LeavesBeside is_pods_place me old new;
  says = alone (λ now draw old new o. GcSays old.observed (times_of now grace expire) old.dir new.dir o);
}
