-- The bundle of an import was judged.
use Rattle.std.proofs.Common.{◌≡◌, inl, inr, ℕ, Bool, true, false, List, Ok, Err, refl, ap, subst, ◌∙◌}
use Rattle.dir_model.specs.declared.intent.Draw.{Draw}
use Rattle.bundle_image.specs.declared.refusal.BundleRefusal.{BundleRefusal}
use Rattle.bundle_image.specs.declared.refusal.BundleRefusal.TheVariants as bundle
use Rattle.bundle_image.specs.Refusals.{IsBundleFailure}
use Rattle.image_store.specs.Imports.{IsImportRefused}
use Rattle.image_store.specs.Refusals.{bundle_refusal}
use Rattle.rkt_cli.specs.Tasks.{ImageImport}
use Rattle.command_outcomes.specs.declared.refusal.Refusal.{Refusal}
use Rattle.command_outcomes.specs.declared.refusal.Refusal.TheVariants.{NoMemory}
use Rattle.command_outcomes.specs.Texts.{exit_status_of}
use Rattle.command_outcomes.specs.Moments.{Moment, CommandOutcome}
use Rattle.commands.specs.ImageImport.{import_refusal, source_of, RefusesImage}
use Rattle.commands.specs.Answers.{IsAnswer}
use Rattle.commands.specs.ImageImportCommand.{IsBundleJudgement}
use Rattle.rkt_cli.specs.Commands.{intent_of}
use Rattle.rkt_cli.specs.Runs.{Performs, End, Printed, Reported, end_status}
use Rattle.commands.proofs.ImageImports.{is_memory}
use Rattle.rkt_cli.proofs.Imports.{import_printed, import_refused}

memory_is : (r : Refusal) → is_memory r ≡ true → r ≡ NoMemory
memory_is NoMemory is = refl
memory_is r is = cc

from_outside : (fault : BundleRefusal) (r : Refusal) (path : List ℕ) (status : ℕ) (old new : Moment) → r ≡ import_refusal (bundle_refusal fault) → status ≡ exit_status_of r → IsBundleFailure fault → IsBundleJudgement path status old new
from_outside bundle.BundleFault r path status old new is at outside = inl (at ∙ ap exit_status_of is)
from_outside bundle.NoMemory r path status old new is at outside = inr (inl (at ∙ ap exit_status_of is))
from_outside (bundle.NoFile name) r path status old new is at outside = absurd outside
from_outside (bundle.Manifest fault) r path status old new is at outside = absurd outside
from_outside (bundle.Id bad) r path status old new is at outside = absurd outside
from_outside (bundle.Listing error) r path status old new is at outside = absurd outside
from_outside (bundle.BadKind name) r path status old new is at outside = absurd outside

refused_judged : (path : List ℕ) (r : Refusal) (status : ℕ) (old new : Moment) → old.outside.bundle.observed ≡ true → IsAnswer (Err r) status old new → RefusesImage path old.outside new.outside r → IsBundleJudgement path status old new
refused_judged path r status old new t answer x = by x.cause
  where
    by : IsImportRefused old.outside.observed (source_of path old.outside.bundle) x.error old.outside.dir new.outside.dir → IsBundleJudgement path status old new
    by (inr y) = inr (inr (inr (y.0, y.1 t)))
    by (inl y) =
        let is : r ≡ import_refusal (bundle_refusal y.0) = x.is ∙ ap import_refusal y.1 in
        elim (y.2 t) [ inl outside ↦ from_outside y.0 r path status old new is answer.0 outside | inr fails ↦ inr (inr (inl (y.0, fails, subst (λ (q : Refusal). IsAnswer (Err q) status old new) is answer))) ]

pub import_judged : (path : List ℕ) (now : ℕ) (draw : Draw) (o : CommandOutcome) (old new : Moment) (end : End) (status : ℕ) → old.outside.bundle.observed ≡ true → Performs (ImageImport path) now draw (intent_of (ImageImport path) now draw) old.outside new.outside o →
    Printed o old.out new.out end → Reported end old.err new.err → status ≡ end_status end → IsBundleJudgement path status old new
import_judged path now draw (Ok text) old new end status t p printed said is =
    let k = import_printed path now draw (intent_of (ImageImport path) now draw) old.outside new.outside text p in
    inr (inr (inr (k.0, k.1 t)))
import_judged path now draw (Err r) old new end status t p printed said is = by (is_memory r) refl
  where
    at : status ≡ exit_status_of r
    at = is ∙ ap end_status printed.refused.0

    by : (b : Bool) → is_memory r ≡ b → IsBundleJudgement path status old new
    by true memory = inr (inl (at ∙ ap exit_status_of (memory_is r memory)))
    by false other =
        refused_judged path r status old new t (at, printed.refused.1, subst (λ (e : End). Reported e old.err new.err) printed.refused.0 said)
        (import_refused path now draw (intent_of (ImageImport path) now draw) old.outside new.outside r other p)
