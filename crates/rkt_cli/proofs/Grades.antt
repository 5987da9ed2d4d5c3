-- From the plain status of a run to its own, which is 16 where an app ended with another status than 0.
use Rattle.std.proofs.Common.{◌≡◌, inl, inr, ℕ, ◌==◌, true, false, Option, Some, None, refl, sym, ap, subst, ◌∙◌}
use Rattle.dir_model.specs.declared.intent.Draw.{Draw}
use Rattle.dir_model.specs.declared.intent.Intent.{Intent}
use Rattle.rkt_cli.specs.Tasks.{Task}
use Rattle.rkt_cli.specs.Tasks.{RunPrepared, Run}
use Rattle.command_outcomes.specs.Moments.{Inside, Answer, is_well}
use Rattle.rkt_cli.specs.Commands.{runs_apps}
use Rattle.rkt_cli.specs.Promises.{IsExitStatus, DoneWith}
use Rattle.rkt_cli.specs.Runs.{IsStatusWithApps}
use Rattle.rkt_cli.specs.Spawns.{AppsToldBetween}
use Rattle.rkt_cli.proofs.Ends.{absurd_number}

module _ (task : Task) (plain status : ℕ) where
  pub plain_at : (n : ℕ) → IsStatusWithApps task plain status → status ≡ n → (n == 16) ≡ false → plain ≡ n
  plain_at n (inl same) at apart = sym same ∙ at
  plain_at n (inr x) at apart = absurd_number n 16 (sym at ∙ x.0) apart

  pub graded_known : IsStatusWithApps task plain status → IsExitStatus plain → IsExitStatus status
  graded_known (inl same) known = subst IsExitStatus (sym same) known
  graded_known (inr x) known = subst IsExitStatus (sym x.0) refl

  pub graded_none : IsStatusWithApps task plain status → plain ≡ 0 → DoneWith (runs_apps task) status
  graded_none (inl same) is = inl (same ∙ is)
  graded_none (inr x) is = inr (x.0, x.2)

  pub graded_same : (n : ℕ) → IsStatusWithApps task plain status → plain ≡ n → (n == 0) ≡ false → status ≡ n
  graded_same n (inl same) is apart = same ∙ is
  graded_same n (inr x) is apart = absurd_number n 0 (sym is ∙ x.1) apart

  pub unhurt : IsStatusWithApps task plain status → runs_apps task ≡ false → status ≡ plain
  unhurt (inl same) none = same
  unhurt (inr x) none = let clash : true ≡ false = sym x.2 ∙ none in cc

-- all is well with a command that starts no apps
pub unhurt_line : (line : Task) (now : ℕ) (draw : Draw) (intent : Option Intent) (a b : Inside) (answer : Answer) → runs_apps line ≡ false → AppsToldBetween line now draw intent a b answer → is_well answer ≡ true
unhurt_line (RunPrepared word pod address) now draw intent a b answer none came = cc
unhurt_line (Run wants address) now draw intent a b answer none came = cc
unhurt_line line now draw None a b answer none came = came
unhurt_line line now draw (Some intent) a b answer none (inl x) = x.came
unhurt_line line now draw (Some intent) a b answer none (inr x) = ap is_well x.0
