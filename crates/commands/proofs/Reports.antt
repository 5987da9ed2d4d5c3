-- From the answer of a library to what a report comes to.
use Rattle.std.proofs.Common.{◌≡◌, ◌⊎◌, inl, inr, ℕ, Bool, true, false, List, Result, Ok, Err, IfOk, IfErr, IsErrOf, refl, sym, ap, subst, ◌∙◌}
use Rattle.dir_model.specs.declared.pod.PodId.{PodId}
use Rattle.dir_model.specs.Causes.{Rose}
use Rattle.dir_model.specs.Quiet.{Quiet, OwnsNothing}
use Rattle.dir_model.specs.Trace.{state_after}
use Rattle.dir_trait.specs.DirCalls.{DirAt, HeldBetween}
use Rattle.lifecycle.specs.Executions.{IsConforming}
use Rattle.manifests.specs.declared.pod_manifest.PodManifest.{PodManifest}
use Rattle.manifests.specs.PodData.{pod_data}
use Rattle.phase_read.specs.Exact.{AtOwnEvent, IsNowhere}
use Rattle.pod_report.specs.declared.error.ReportError.{ReportError}
use Rattle.pod_report.specs.declared.error.ReportError.TheVariants as report
use Rattle.pod_report.specs.declared.line.PodLine.{PodLine}
use Rattle.pod_report.specs.Before.{ReadsManifestQuietly, IsManifestBy, ListsPodsQuietly}
use Rattle.pod_report.specs.Manifests.{PodHasManifest, PodLacksManifest}
use Rattle.pod_report.specs.Outside.{IsUnsaid}
use Rattle.pod_report.specs.Snapshot.{IsSnapshotBetween}
use Rattle.command_outcomes.specs.declared.refusal.Refusal.{Refusal}
use Rattle.command_outcomes.specs.declared.refusal.Refusal.TheVariants.{DirFault, NoMemory}
use Rattle.command_outcomes.specs.Ends.{is_own_end}
use Rattle.command_outcomes.specs.Moments.{CommandOutcome}
use Rattle.commands.specs.CatManifest.{IsManifestIn, SeesPod, TellsManifest, cat_manifest_refusal, cat_manifest_report, manifest_line, unread_refusal}
use Rattle.commands.specs.PodList.{IsListOf, SeesLines, TellsLines, list_refusal, list_report, list_text, unlisted_refusal}
use Rattle.pod_report.specs.declared.status.PodStatus.{PodStatus}
use Rattle.pod_report.specs.OwnReadings.{AnswersSeen}
use Rattle.pod_report.specs.SeenLines.{ListsSeenBetween}
use Rattle.pod_report.specs.SeenManifests.{AnswersRead}
use Rattle.pod_report.specs.Status.{IsStatusAnswer, IsStatusBetween, TellsQuietly}
use Rattle.commands.specs.Report.{ReportSays}
use Rattle.commands.specs.Status.{IsStatusIn, SeesStatusOutcome, TellsStatus, status_said, status_lines, status_refusal, status_report, unknown_refusal}
use Rattle.commands.proofs.ReportsBefore.{conforming_before, lacking_is, list_is, manifest_is, nowhere_is}

-- an outcome is of a text or of a refusal, or memory ran out while the text was made
module _ {V : Type 0} (text : V → List ℕ) (refusal : ReportError → Refusal) (result : CommandOutcome) (P : CommandOutcome → Type 0) where
  pub came : (found : Result V ReportError) → IfOk found (λ v. (result ≡ Ok (text v)) ⊎ (result ≡ Err NoMemory)) → IfErr found (λ e. result ≡ Err (refusal e)) →
      ((v : V) → found ≡ Ok v → P (Ok (text v))) → ((e : ReportError) → found ≡ Err e → P (Err (refusal e))) → P (Err NoMemory) → P result
  came (Ok v) (inl is) refuses done refused short = subst P (sym is) (done v refl)
  came (Ok v) (inr is) refuses done refused short = subst P (sym is) short
  came (Err e) lists is done refused short = subst P (sym is) (refused e refl)

-- what is said of an answer that came
said : {A E : Type 0} (Q : A → Type 0) (r : Result A E) (a : A) → IfOk r Q → r ≡ Ok a → Q a
said {A} {E} Q r a h is = subst (λ (x : Result A E). IfOk x Q) is h

refused_so : {A E : Type 0} (Q : E → Type 0) (r : Result A E) (e : E) → IfErr r Q → r ≡ Err e → Q e
refused_so {A} {E} Q r e h is = subst (λ (x : Result A E). IfErr x Q) is h

-- ---- the listing of pods

unlisted_fault : (e : ReportError) → unlisted_refusal e ≡ DirFault → e ≡ report.DirFault
unlisted_fault report.DirFault is = refl
unlisted_fault e is = cc

unlisted_own : (e : ReportError) → list_refusal (unlisted_refusal e) ≡ true
unlisted_own report.DirFault = refl
unlisted_own report.NoMemory = refl
unlisted_own e = refl

unlisted_never : (e : ReportError) {X : Type 0} → IsUnsaid e → (e ≡ report.Stray → ⊥) → is_own_end (Err (unlisted_refusal e)) ≡ true → X
unlisted_never report.DirFault kind stray own = let clash : false ≡ true = own in cc
unlisted_never report.NoMemory kind stray own = let clash : false ≡ true = own in cc
unlisted_never report.Stray kind stray own = absurd (stray refl)
unlisted_never report.NoPod kind stray own = absurd kind
unlisted_never report.NoManifest kind stray own = absurd kind

module _ {V : Type 0} (items : V → List PodLine) (observed : Bool) (old new : DirAt) (result : CommandOutcome) (found : Result V ReportError)
    (lists : IfOk found (λ v. (result ≡ Ok (list_text (items v))) ⊎ (result ≡ Err NoMemory))) (refuses : IfErr found (λ e. result ≡ Err (unlisted_refusal e))) where
  abbrev lines_text : V → List ℕ
  lines_text v = list_text (items v)

  pub list_cause : (IsErrOf found report.DirFault → Rose old.faults new.faults) → IsErrOf result DirFault → Rose old.faults new.faults
  list_cause cause = came lines_text unlisted_refusal result (λ o. IsErrOf o DirFault → Rose old.faults new.faults) found lists refuses
      (λ v is h. cc) (λ e is h. cause (is ∙ ap Err (unlisted_fault e (let same : unlisted_refusal e ≡ DirFault = cc in same)))) (λ h. cc)

  pub list_refusals : IfErr result (λ r. list_refusal r ≡ true)
  list_refusals = came lines_text unlisted_refusal result (λ o. IfErr o (λ r. list_refusal r ≡ true)) found lists refuses (λ v is. tt) (λ e is. unlisted_own e) refl

  pub list_says :
      IfErr found IsUnsaid →
      IfOk found (λ v. observed ≡ true → ListsSeenBetween (items v) old new) →
      IfOk found (λ v. observed ≡ true → IsConforming new.trace → IsSnapshotBetween old new (items v)) →
      IfOk found (λ v. observed ≡ true → IsConforming new.trace → ListsPodsQuietly old new (items v)) →
      (IsErrOf found report.Stray → observed ≡ true → IsConforming new.trace → ⊥) →
      ReportSays observed list_report old new result
  list_says kind seen snapshot quiet stray = record {
    prints = came lines_text unlisted_refusal result (λ o. IfOk o list_report.prints) found lists refuses (λ v is. (items v, refl)) (λ e is. tt) tt;
    seen = came lines_text unlisted_refusal result (λ o. observed ≡ true → SeesLines old.process old.trace new.trace o) found lists refuses
        (λ v is t. record { lines = items v; so = said _ found v seen is t; is = refl }) (λ e is t. tt) (λ t. tt);
    told = came lines_text unlisted_refusal result (λ o. is_own_end o ≡ true → observed ≡ true → IsConforming new.trace → TellsLines old.process old.trace new.trace o) found lists refuses
        (λ v is own t conforming. record { lines = items v; so = said _ found v snapshot is t conforming; is = refl })
        (λ e is own t conforming. unlisted_never e (refused_so _ found e kind is) (λ strayed. stray (is ∙ ap Err strayed) t conforming) own)
        (λ own t conforming. let clash : false ≡ true = own in cc);
    quiet = came lines_text unlisted_refusal result
        (λ o. is_own_end o ≡ true → observed ≡ true → IsConforming new.trace → Quiet old.process old.trace new.trace → OwnsNothing old.process (state_after old.trace).namespace → IsListOf (state_after old.trace) o) found lists refuses
        (λ v is own t conforming alone idle. ap Ok (list_is old.trace (conforming_before alone conforming) (items v) (said _ found v quiet is t conforming alone idle)))
        (λ e is own t conforming alone idle. unlisted_never e (refused_so _ found e kind is) (λ strayed. stray (is ∙ ap Err strayed) t conforming) own)
        (λ own t conforming alone idle. let clash : false ≡ true = own in cc);
  }

-- ---- the manifest of a pod

unread_fault : (pod : PodId) (e : ReportError) → unread_refusal pod e ≡ DirFault → e ≡ report.DirFault
unread_fault pod report.DirFault is = refl
unread_fault pod e is = cc

unread_own : (pod : PodId) (e : ReportError) → cat_manifest_refusal (unread_refusal pod e) ≡ true
unread_own pod report.NoPod = refl
unread_own pod report.NoManifest = refl
unread_own pod report.DirFault = refl
unread_own pod report.Stray = refl
unread_own pod report.NoMemory = refl

module _ (pod : PodId) (observed : Bool) (old new : DirAt) (result : CommandOutcome) (found : Result PodManifest ReportError)
    (writes : IfOk found (λ m. (result ≡ Ok (manifest_line (pod_data m))) ⊎ (result ≡ Err NoMemory))) (refuses : IfErr found (λ e. result ≡ Err (unread_refusal pod e))) where
  abbrev its_line : PodManifest → List ℕ
  its_line m = manifest_line (pod_data m)

  pub cat_cause : (IsErrOf found report.DirFault → Rose old.faults new.faults) → IsErrOf result DirFault → Rose old.faults new.faults
  cat_cause cause = came its_line (unread_refusal pod) result (λ o. IsErrOf o DirFault → Rose old.faults new.faults) found writes refuses
      (λ m is h. cc) (λ e is h. cause (is ∙ ap Err (unread_fault pod e (let same : unread_refusal pod e ≡ DirFault = cc in same)))) (λ h. cc)

  pub cat_refusals : IfErr result (λ r. cat_manifest_refusal r ≡ true)
  cat_refusals = came its_line (unread_refusal pod) result (λ o. IfErr o (λ r. cat_manifest_refusal r ≡ true)) found writes refuses (λ m is. tt) (λ e is. unread_own pod e) refl

  module _ (seen : observed ≡ true → AnswersRead pod found old new)
      (read : IfOk found (λ m. observed ≡ true → IsConforming new.trace → HeldBetween old new (PodHasManifest pod (pod_data m))))
      (nowhere : IsErrOf found report.NoPod → observed ≡ true → IsConforming new.trace → AtOwnEvent old.process old.trace new.trace (IsNowhere pod))
      (lacking : IsErrOf found report.NoManifest → observed ≡ true → IsConforming new.trace → HeldBetween old new (PodLacksManifest pod))
      (quiet : observed ≡ true → IsConforming new.trace → ReadsManifestQuietly pod found old new)
      (stray : IsErrOf found report.Stray → observed ≡ true → IsConforming new.trace → ⊥) where
    unread_told : (e : ReportError) → found ≡ Err e → is_own_end (Err (unread_refusal pod e)) ≡ true → observed ≡ true → IsConforming new.trace → TellsManifest pod old.process old.trace new.trace (Err (unread_refusal pod e))
    unread_told report.NoPod is own t conforming = nowhere is t conforming
    unread_told report.NoManifest is own t conforming = (refl, lacking is t conforming)
    unread_told report.Stray is own t conforming = stray is t conforming
    unread_told report.DirFault is own t conforming = let clash : false ≡ true = own in cc
    unread_told report.NoMemory is own t conforming = let clash : false ≡ true = own in cc

    unread_seen : (e : ReportError) → AnswersRead pod (Err e) old new → SeesPod pod old.process old.trace new.trace (Err (unread_refusal pod e))
    unread_seen report.NoPod missed = missed
    unread_seen report.NoManifest visited = (refl, visited.0, visited.1)
    unread_seen e x = tt

    unread_quiet : IsConforming old.trace → (e : ReportError) → IsManifestBy (state_after old.trace) pod (Err e) → (e ≡ report.Stray → ⊥) → is_own_end (Err (unread_refusal pod e)) ≡ true → IsManifestIn pod (state_after old.trace) (Err (unread_refusal pod e))
    unread_quiet good report.NoPod by strayed own = nowhere_is pod old.trace by
    unread_quiet good report.NoManifest by strayed own = lacking_is old.trace good pod by
    unread_quiet good report.Stray by strayed own = absurd (strayed refl)
    unread_quiet good report.DirFault by strayed own = let clash : false ≡ true = own in cc
    unread_quiet good report.NoMemory by strayed own = let clash : false ≡ true = own in cc

    pub cat_says : ReportSays observed (cat_manifest_report pod) old new result
    cat_says = record {
      prints = came its_line (unread_refusal pod) result (λ o. IfOk o (cat_manifest_report pod).prints) found writes refuses (λ m is. (pod_data m, refl)) (λ e is. tt) tt;
      seen = came its_line (unread_refusal pod) result (λ o. observed ≡ true → SeesPod pod old.process old.trace new.trace o) found writes refuses
          (λ m is t. let x = subst (λ (r : Result PodManifest ReportError). AnswersRead pod r old new) is (seen t) in
          record { manifest = pod_data m; so = record { read = m; is = refl; phase = x.0; visited = x.1 }; is = refl })
          (λ e is t. unread_seen e (subst (λ (r : Result PodManifest ReportError). AnswersRead pod r old new) is (seen t)))
          (λ t. tt);
      told = came its_line (unread_refusal pod) result (λ o. is_own_end o ≡ true → observed ≡ true → IsConforming new.trace → TellsManifest pod old.process old.trace new.trace o) found writes refuses
          (λ m is own t conforming. record { manifest = pod_data m; so = said _ found m read is t conforming; is = refl })
          unread_told
          (λ own t conforming. let clash : false ≡ true = own in cc);
      quiet = came its_line (unread_refusal pod) result
          (λ o. is_own_end o ≡ true → observed ≡ true → IsConforming new.trace → Quiet old.process old.trace new.trace → OwnsNothing old.process (state_after old.trace).namespace → IsManifestIn pod (state_after old.trace) o) found writes refuses
          (λ m is own t conforming alone idle. manifest_is old.trace (conforming_before alone conforming) pod (pod_data m) (subst (λ (x : Result PodManifest ReportError). IsManifestBy (state_after old.trace) pod x) is (quiet t conforming alone idle)))
          (λ e is own t conforming alone idle. unread_quiet (conforming_before alone conforming) e (subst (λ (x : Result PodManifest ReportError). IsManifestBy (state_after old.trace) pod x) is (quiet t conforming alone idle)) (λ strayed. stray (is ∙ ap Err strayed) t conforming) own)
          (λ own t conforming alone idle. let clash : false ≡ true = own in cc);
    }

-- ---- the status of a pod

unknown_fault : (e : ReportError) → unknown_refusal e ≡ DirFault → e ≡ report.DirFault
unknown_fault report.DirFault is = refl
unknown_fault e is = cc

unknown_own : (e : ReportError) → status_refusal (unknown_refusal e) ≡ true
unknown_own report.NoPod = refl
unknown_own report.DirFault = refl
unknown_own report.NoMemory = refl
unknown_own e = refl

module _ (pod : PodId) (observed : Bool) (old new : DirAt) (result : CommandOutcome) (found : Result PodStatus ReportError)
    (says : IfOk found (λ s. (result ≡ Ok (status_lines s)) ⊎ (result ≡ Err NoMemory))) (refuses : IfErr found (λ e. result ≡ Err (unknown_refusal e))) where
  pub status_cause : (IsErrOf found report.DirFault → Rose old.faults new.faults) → IsErrOf result DirFault → Rose old.faults new.faults
  status_cause cause = came status_lines unknown_refusal result (λ o. IsErrOf o DirFault → Rose old.faults new.faults) found says refuses
      (λ s is h. cc) (λ e is h. cause (is ∙ ap Err (unknown_fault e (let same : unknown_refusal e ≡ DirFault = cc in same)))) (λ h. cc)

  pub status_refusals : IfErr result (λ r. status_refusal r ≡ true)
  status_refusals = came status_lines unknown_refusal result (λ o. IfErr o (λ r. status_refusal r ≡ true)) found says refuses (λ s is. tt) (λ e is. unknown_own e) refl

  module _ (never : IsErrOf found report.NoManifest → ⊥)
      (seen : observed ≡ true → AnswersSeen pod found old new)
      (told : IfOk found (λ s. observed ≡ true → IsConforming new.trace → IsStatusBetween pod s old new))
      (nowhere : IsErrOf found report.NoPod → observed ≡ true → IsConforming new.trace → AtOwnEvent old.process old.trace new.trace (IsNowhere pod))
      (quiet : observed ≡ true → IsConforming new.trace → TellsQuietly pod found old new)
      (stray : IsErrOf found report.Stray → observed ≡ true → IsConforming new.trace → ⊥) where
    unknown_told : (e : ReportError) → found ≡ Err e → is_own_end (Err (unknown_refusal e)) ≡ true → observed ≡ true → IsConforming new.trace → TellsStatus pod old.process old.trace new.trace (Err (unknown_refusal e))
    unknown_told report.NoPod is own t conforming = nowhere is t conforming
    unknown_told report.NoManifest is own t conforming = absurd (never is)
    unknown_told report.Stray is own t conforming = stray is t conforming
    unknown_told report.DirFault is own t conforming = let clash : false ≡ true = own in cc
    unknown_told report.NoMemory is own t conforming = let clash : false ≡ true = own in cc

    unknown_answers : (e : ReportError) → is_own_end (Err (unknown_refusal e)) ≡ true → IsStatusAnswer (Err e)
    unknown_answers report.DirFault own = let clash : false ≡ true = own in cc
    unknown_answers report.NoMemory own = let clash : false ≡ true = own in cc
    unknown_answers e own = tt

    unknown_seen : (e : ReportError) → AnswersSeen pod (Err e) old new → SeesStatusOutcome pod old.process old.trace new.trace (Err (unknown_refusal e))
    unknown_seen report.NoPod missed = missed
    unknown_seen e missed = tt

    pub status_says : ReportSays observed (status_report pod) old new result
    status_says = record {
      prints = came status_lines unknown_refusal result (λ o. IfOk o (status_report pod).prints) found says refuses (λ s is. (s, refl)) (λ e is. tt) tt;
      seen = came status_lines unknown_refusal result (λ o. observed ≡ true → SeesStatusOutcome pod old.process old.trace new.trace o) found says refuses
          (λ s is t. record { status = s; so = subst (λ (x : Result PodStatus ReportError). AnswersSeen pod x old new) is (seen t); is = refl })
          (λ e is t. unknown_seen e (subst (λ (x : Result PodStatus ReportError). AnswersSeen pod x old new) is (seen t)))
          (λ t. tt);
      told = came status_lines unknown_refusal result (λ o. is_own_end o ≡ true → observed ≡ true → IsConforming new.trace → TellsStatus pod old.process old.trace new.trace o) found says refuses
          (λ s is own t conforming. record { status = s; so = said _ found s told is t conforming; is = refl })
          unknown_told
          (λ own t conforming. let clash : false ≡ true = own in cc);
      quiet = came status_lines unknown_refusal result
          (λ o. is_own_end o ≡ true → observed ≡ true → IsConforming new.trace → Quiet old.process old.trace new.trace → OwnsNothing old.process (state_after old.trace).namespace → IsStatusIn pod (state_after old.trace) o) found says refuses
          (λ s is own t conforming alone idle. ap status_said (sym is ∙ quiet t conforming alone idle (subst IsStatusAnswer (sym is) tt)))
          (λ e is own t conforming alone idle. ap status_said (sym is ∙ quiet t conforming alone idle (subst IsStatusAnswer (sym is) (unknown_answers e own))))
          (λ own t conforming alone idle. let clash : false ≡ true = own in cc);
    }
