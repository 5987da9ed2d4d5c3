-- What the demo owes.
use Rattle.std.proofs.Common.{arith, ◌≡◌, inl, inr, ℕ, true, false, List, Option, Some, None, Ok, Err, IfErr, IsErrOf, refl, sym, ap, subst, ◌∙◌}
use Rattle.dir_model.specs.declared.intent.Draw.{Draw}
use Rattle.dir_model.specs.declared.intent.Intent.{Intent}
use Rattle.dir_model.proofs.Chains.{nothing_yet}
use Rattle.command_outcomes.specs.declared.refusal.Refusal.{Refusal}
use Rattle.command_outcomes.specs.declared.refusal.Refusal.TheVariants.{DirFault, BundleFault, SpawnFault, NoMemory}
use Rattle.command_outcomes.specs.Ends.{is_own_end}
use Rattle.command_outcomes.specs.Moments.{Outside, SpawnerSeen, CommandOutcome, Answer, is_well, outcome_of}
use Rattle.demo_line.specs.Numbers.{demo_line}
use Rattle.rkt_cli.specs.declared.line.Line.{Line}
use Rattle.rkt_cli.specs.declared.line.Line.TheVariants as line
use Rattle.rkt_cli.specs.DemoCommand.{EndsDemo}
use Rattle.rkt_cli.specs.Tasks.{Demo}
use Rattle.rkt_cli.specs.Commands.{may}
use Rattle.rkt_cli.specs.Lookups.{Acts}
use Rattle.rkt_cli.specs.Runs.{CommandRan, Performs}

-- it is refused for want of memory alone
never_dir : (count : ℕ) (o : CommandOutcome) {X : Type 0} → EndsDemo count o → IsErrOf o DirFault → X
never_dir count o (inl e) is = cc
never_dir count o (inr e) is = cc

never_bundle : (count : ℕ) (o : CommandOutcome) {X : Type 0} → EndsDemo count o → IsErrOf o BundleFault → X
never_bundle count o (inl e) is = cc
never_bundle count o (inr e) is = cc

may_end : (count : ℕ) (o : CommandOutcome) → EndsDemo count o → IfErr o (λ r. may (Demo count) r ≡ true)
may_end count (Ok text) ends = tt
may_end count (Err r) (inl e) = cc
may_end count (Err r) (inr e) = let same : r ≡ NoMemory = cc in subst (λ (q : Refusal). may (Demo count) q ≡ true) (sym same) refl

demo_ran : (count : ℕ) (now : ℕ) (draw : Draw) (old : Outside) (o : CommandOutcome) → EndsDemo count o → CommandRan (Demo count) now draw old old o
demo_ran count now draw old o ends = record {
  same = refl;
  local = refl;
  faults = omega arith;
  cause = never_dir count o ends;
  bundle_faults = omega arith;
  bundle_cause = never_bundle count o ends;
  refusals = may_end count o ends;
  extends = λ t. nothing_yet;
  reads = refl;
  says = ends;
}

-- it starts no apps of the spawner that is handed in
never_spawns : (count : ℕ) (answer : Answer) {X : Type 0} → EndsDemo count (outcome_of answer) → IsErrOf answer SpawnFault → X
never_spawns count (Ok told) ends is = cc
never_spawns count (Err r) (inl e) is = cc
never_spawns count (Err r) (inr e) is = let same : r ≡ SpawnFault = cc in let other : r ≡ NoMemory = cc in let clash : SpawnFault ≡ NoMemory = sym same ∙ other in cc

pub demo_acts : (l : Line) (count : ℕ) (now : ℕ) (draw : Draw) (old : Outside) (s : SpawnerSeen) (answer : Answer) → l ≡ line.Demo count → EndsDemo count (outcome_of answer) → is_well answer ≡ true → Acts l now draw old old s s answer
demo_acts l count now draw old s answer is ends well =
    subst (λ (x : Line). Acts x now draw old old s s answer) (sym is) (inl (
      draw.uuid,
      refl,
      record {
        performs = record { apart = refl; dir = refl; ran = demo_ran count now draw old (outcome_of answer) ends };
        came = well;
        spawn_cause = never_spawns count answer ends;
      },
    ))

-- what it came to
pub does_demo : (count : ℕ) (now : ℕ) (draw : Draw) (intent : Option Intent) (old new : Outside) (o : CommandOutcome) → Performs (Demo count) now draw intent old new o → EndsDemo count o
does_demo count now draw None old new o p = p.ran.says
does_demo count now draw (Some intent) old new o (inl s) = s.ran.says
does_demo count now draw (Some intent) old new o (inr n) = inr n.is

pub demo_text : (count : ℕ) (text : List ℕ) → EndsDemo count (Ok text) → text ≡ demo_line count
demo_text count text (inl e) = let same : text ≡ demo_line count = cc in same
demo_text count text (inr e) = cc

pub demo_own : (count : ℕ) (o : CommandOutcome) → EndsDemo count o → is_own_end o ≡ true → o ≡ Ok (demo_line count)
demo_own count o (inl e) own = e
demo_own count o (inr e) own = let clash : true ≡ false = sym own ∙ ap is_own_end e in cc
