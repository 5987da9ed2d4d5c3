-- What `validate` owes.
use Rattle.std.proofs.Common.{arith, ◌≡◌, ◌≤◌, ℕ, Bool, true, false, List, Ok, Err, IsErrOf, IfErr, refl, sym, ap, subst, ◌∙◌}
use Rattle.dir_model.specs.declared.intent.Draw.{Draw}
use Rattle.dir_model.specs.Causes.{Rose}
use Rattle.dir_model.proofs.Chains.{nothing_yet}
use Rattle.dir_trait.specs.DirCalls.{DirAt}
use Rattle.rkt_cli.specs.Tasks.{Task}
use Rattle.rkt_cli.specs.Tasks.{Validate}
use Rattle.command_outcomes.specs.declared.refusal.Refusal.{Refusal}
use Rattle.command_outcomes.specs.declared.refusal.Refusal.TheVariants.{DirFault, BundleFault, NoMemory}
use Rattle.command_outcomes.specs.Moments.{BundleSeen, CommandOutcome}
use Rattle.command_outcomes.proofs.Seen.{beside}
use Rattle.command_outcomes.specs.Ends.{is_own_end}
use Rattle.commands.specs.Validate.{ValidateSays, ReadsFileAlone, validate_refusal}
use Rattle.rkt_cli.specs.Commands.{may}
use Rattle.rkt_cli.specs.Runs.{CommandRan}

never_dir : (o : CommandOutcome) {X : Type 0} → IfErr o (λ r. validate_refusal r ≡ true) → IsErrOf o DirFault → X
never_dir (Ok text) known is = cc
never_dir (Err r) known is = let e : DirFault ≡ r = cc in let clash : false ≡ true = ap validate_refusal e ∙ known in cc

may_refuse : (path : List ℕ) (r : Refusal) → validate_refusal r ≡ true → may (Validate path) r ≡ true
may_refuse path NoMemory known = known
may_refuse path r known = known

may_end : (path : List ℕ) (o : CommandOutcome) → IfErr o (λ r. validate_refusal r ≡ true) → IfErr o (λ r. may (Validate path) r ≡ true)
may_end path (Ok text) known = known
may_end path (Err r) known = may_refuse path r known

pub validate_ran : (line : Task) (now : ℕ) (draw : Draw) (path : List ℕ) (observed : Bool) (dir : DirAt) (old new : BundleSeen) (o : CommandOutcome) → line ≡ Validate path → old.faults ≤ new.faults → (IsErrOf o BundleFault → Rose old.faults new.faults) → IfErr o (λ r. validate_refusal r ≡ true) → ReadsFileAlone path old new → (is_own_end o ≡ true → ValidateSays path old o) → CommandRan line now draw (beside observed dir old) (beside observed dir new) o
validate_ran line now draw path observed dir old new o is faults cause known reads says = subst (λ (l : Task). CommandRan l now draw (beside observed dir old) (beside observed dir new) o) (sym is) ran
  where
    ran : CommandRan (Validate path) now draw (beside observed dir old) (beside observed dir new) o
    ran = record {
      same = refl;
      local = refl;
      faults = omega arith;
      cause = never_dir o known;
      bundle_faults = faults;
      bundle_cause = cause;
      refusals = may_end path o known;
      extends = λ t. nothing_yet;
      reads = reads;
      says = says;
    }
