-- What a command owes that works on the directory and not on the bundle, between its begin and its finish.
use Rattle.std.proofs.Common.{arith, ◌≡◌, ℕ, Bool, true, false, Ok, Err, IfErr, IsErrOf, sym, ap, subst, ◌∙◌}
use Rattle.dir_model.specs.declared.intent.Draw.{Draw}
use Rattle.dir_model.specs.Causes.{Rose}
use Rattle.dir_trait.specs.DirCalls.{DirAt}
use Rattle.dir_trait.specs.Effects.{OnlyAsks}
use Rattle.command_outcomes.specs.declared.refusal.Refusal.{Refusal}
use Rattle.command_outcomes.specs.declared.refusal.Refusal.TheVariants.{DirFault, BundleFault}
use Rattle.command_outcomes.specs.Moments.{BundleSeen, CommandOutcome}
use Rattle.command_outcomes.proofs.Seen.{beside}
use Rattle.rkt_cli.specs.Tasks.{Task}
use Rattle.rkt_cli.specs.Commands.{asks, may, CommandSays, ReadsOnly}
use Rattle.rkt_cli.specs.Runs.{CommandRan}

-- it never says that the bundle failed
never_bundle : (known : Refusal → Bool) (o : CommandOutcome) {X : Type 0} → known BundleFault ≡ false → IfErr o (λ r. known r ≡ true) → IsErrOf o BundleFault → X
never_bundle known (Ok text) never all is = cc
never_bundle known (Err r) never all is = let e : BundleFault ≡ r = cc in let clash : false ≡ true = sym never ∙ (ap known e ∙ all) in cc

-- what its answers and its calls are, by the refusals of its own
module _ (l : Task) (known : Refusal → Bool) (apart : known BundleFault ≡ false) (own : (r : Refusal) → known r ≡ true → may l r ≡ true) where
  ends : (o : CommandOutcome) → IfErr o (λ r. known r ≡ true) → IfErr o (λ r. may l r ≡ true)
  ends (Ok text) all = tt
  ends (Err r) all = own r all

  pub ran : (line : Task) (now : ℕ) (draw : Draw) (observed : Bool) (a b : DirAt) (bundle : BundleSeen) (o : CommandOutcome) → line ≡ l → ReadsOnly l bundle bundle → OnlyAsks observed (asks l now draw) a b →
      (IsErrOf o DirFault → Rose a.faults b.faults) → IfErr o (λ r. known r ≡ true) → CommandSays l now draw (beside observed a bundle) (beside observed b bundle) o →
      CommandRan line now draw (beside observed a bundle) (beside observed b bundle) o
  ran line now draw observed a b bundle o is reads worked cause all says =
      subst (λ (x : Task). CommandRan x now draw (beside observed a bundle) (beside observed b bundle) o) (sym is) (record {
        same = worked.same;
        local = worked.local;
        faults = worked.faults;
        cause = cause;
        bundle_faults = omega arith;
        bundle_cause = never_bundle known o apart all;
        refusals = ends o all;
        extends = worked.extends;
        reads = reads;
        says = says;
      })
