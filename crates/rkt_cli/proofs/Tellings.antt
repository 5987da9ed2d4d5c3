-- What a run tells with its status, command by command.
use Rattle.std.proofs.Common.{not, ◌≡◌, ◌⊎◌, inl, inr, ℕ, true, false, List, [], append-nil, Option, Some, None, Ok, Err, IsOk, refl, sym, ap, subst, ◌∙◌}
use Rattle.ac_types.specs.declared.store_key.StoreKey.{StoreKey}
use Rattle.dir_model.specs.declared.event.Event.{Event}
use Rattle.dir_model.specs.declared.intent.Draw.{Draw}
use Rattle.dir_model.specs.declared.intent.Intent.{Intent}
use Rattle.dir_model.specs.declared.pod.PodId.{PodId}
use Rattle.command_outcomes.specs.declared.refusal.Refusal.TheVariants.{BadManifest, BundleFault, DirFault, NoFile, NoMemory}
use Rattle.command_outcomes.specs.Ends.{is_own_end}
use Rattle.command_outcomes.specs.Moments.{Outside, Moment, CommandOutcome}
use Rattle.command_outcomes.specs.Texts.{exit_status_of}
use Rattle.command_outcomes.specs.declared.refusal.Refusal.{Refusal}
use Rattle.folder_removal.specs.Removal.{KeptFolders}
use Rattle.folder_removal.proofs.Keeping.{kept_by, kept_call, kept_more}
use Rattle.commands.specs.Kept.{KeepsRefused, RemovesNoneUnlessDone}
use Rattle.commands.specs.Answers.{IsAnswer, WritesOf}
use Rattle.commands.specs.GcCommand.{TellsGc}
use Rattle.commands.specs.ImageGcCommand.{TellsImageGc}
use Rattle.commands.specs.ImageImportCommand.{IsBundleJudgement, TellsImport}
use Rattle.commands.specs.ImageListCommand.{TellsImageLines}
use Rattle.commands.specs.ImageRmCommand.{TellsImageRm}
use Rattle.commands.specs.MetadataCommand.{WritesNoOutput}
use Rattle.commands.specs.PrepareCommand.{TellsPrepare}
use Rattle.commands.specs.RmCommand.{TellsRm}
use Rattle.commands.specs.CatManifest.{cat_manifest_report}
use Rattle.commands.specs.PodList.{list_report}
use Rattle.commands.specs.Report.{Report, ReportSays, WritesReport}
use Rattle.commands.proofs.ReportsKept.{IsWider, lines_wider, manifest_wider, status_wider}
use Rattle.rkt_cli.proofs.Reported.{report_seen, report_told}
use Rattle.commands.specs.Status.{status_report}
use Rattle.commands.specs.Validate.{sequential_validate}
use Rattle.commands.specs.ValidateCommand.{TellsJudgement}
use Rattle.rkt_cli.specs.DemoCommand.{EndsDemo, TellsDemo}
use Rattle.rkt_cli.specs.Tasks.{Task}
use Rattle.rkt_cli.specs.Tasks.{Status, PodList, CatManifest, Validate, ImageList, ImageImport, ImageRm, ImageGc, Prepare, RunPrepared, Run, Rm, Gc, Metadata, Demo}
use Rattle.rkt_cli.specs.Commands.{command_in, intent_of, runs_apps, uses_dir}
use Rattle.rkt_cli.specs.Runs.{InProcess, Performs, Printed, Reported, End, Unwritten, end_status, RunsTaskOrNothing, IsRunOfTask}
use Rattle.rkt_cli.proofs.BundleJudged.{import_judged}
use Rattle.rkt_cli.proofs.Completing.{rm_ends, claim_ends}
use Rattle.rkt_cli.proofs.DemoRan.{does_demo}
use Rattle.rkt_cli.proofs.Ends.{absurd_number, end_at, from_command, from_end}
use Rattle.rkt_cli.proofs.Grades.{unhurt}
use Rattle.rkt_cli.proofs.Imports.{import_stored}
use Rattle.rkt_cli.proofs.Listed.{list_printed, list_stood}
use Rattle.rkt_cli.proofs.Outcomes.{answered, does_validate, refusals_of, validate_told}
use Rattle.rkt_cli.proofs.PodLeft.{pod_left, sweep_left}
use Rattle.rkt_cli.proofs.PodRan.{prepare_faithful, prepare_printed, prepare_synced}
use Rattle.rkt_cli.proofs.PodRemovals.{gc_done, rm_done, rm_printed}
use Rattle.commands.specs.ImageGc.{HasEndedEarly}
use Rattle.commands.specs.ImageRm.{removed_image_text, HasRemoved}
use Rattle.rkt_cli.proofs.Removals.{removal_done, removal_printed, sweep_done, sweep_failed}
use Rattle.rkt_cli.proofs.ServiceRan.{service_printed}
use Rattle.commands.proofs.RmQuiet.{rm_removed}
use Rattle.commands.proofs.GcFrom.{gc_deleted}
use Rattle.commands.specs.Wants.{Wants}
use Rattle.commands.specs.Opening.{Approach, Opens, opens}
use Rattle.commands.proofs.Starts.{open_extends}
use Rattle.folder_removal.specs.Removal.{removes_folder}
use Rattle.dir_model.specs.declared.request.Request.{Request}
use Rattle.dir_model.specs.declared.request.Request.TheVariants.{RemoveFolder}
use Rattle.dir_model.specs.declared.request.Reply.{Reply}
use Rattle.dir_trait.specs.DirCalls.{DirAt}
use Rattle.commands.specs.Gc.{times_of}

abbrev IsJudged : List ℕ → ℕ → Moment → Moment → Type 0
IsJudged path status old new =
    (status ≡ 10)
    ⊎ (status ≡ 14)
    ⊎ ((status ≡ 12) × IsOk (sequential_validate path old.outside.bundle.tree))
    ⊎ IsAnswer (sequential_validate path old.outside.bundle.tree) status old new

judged_own : (path : List ℕ) (now : ℕ) (draw : Draw) (intent : Option Intent) (o : CommandOutcome) (old new : Moment) (end : End) (status : ℕ) → is_own_end o ≡ true → old.outside.bundle.observed ≡ true → Performs (Validate path) now draw intent old.outside new.outside o → Printed o old.out new.out end → Reported end old.err new.err → status ≡ end_status end → IsJudged path status old new
judged_own path now draw intent o old new end status own t p printed said is =
    subst (λ (x : CommandOutcome). (status ≡ 10) ⊎ (status ≡ 14) ⊎ ((status ≡ 12) × IsOk x) ⊎ IsAnswer x status old new) (validate_told path old.outside.bundle o (does_validate path now draw intent old.outside new.outside o own p) t)
    (elim (answered o old new end status printed said is) [ inl e ↦ inr (inl e) | inr (inl x) ↦ inr (inr (inl (x.0, x.1))) | inr (inr x) ↦ inr (inr (inr x)) ])

-- a file was judged, or the bundle failed, the line wasn't written or memory ran out
judgement_of : (path : List ℕ) (now : ℕ) (draw : Draw) (intent : Option Intent) (o : CommandOutcome) (old new : Moment) (end : End) (status : ℕ) → old.outside.bundle.observed ≡ true → Performs (Validate path) now draw intent old.outside new.outside o → Printed o old.out new.out end → Reported end old.err new.err → status ≡ end_status end → IsJudged path status old new
judgement_of path now draw intent (Err NoMemory) old new end status t p printed said is = inr (inl (is ∙ ap end_status printed.refused.0))
judgement_of path now draw intent (Err BundleFault) old new end status t p printed said is = inl (is ∙ ap end_status printed.refused.0)
judgement_of path now draw intent (Err DirFault) old new end status t p printed said is = let clash : false ≡ true = refusals_of (Validate path) now draw intent old.outside new.outside (Err DirFault) DirFault p refl in cc
judgement_of path now draw intent (Err (BadManifest at number)) old new end status t p printed said is = judged_own path now draw intent (Err (BadManifest at number)) old new end status refl t p printed said is
judgement_of path now draw intent (Err (NoFile named)) old new end status t p printed said is = judged_own path now draw intent (Err (NoFile named)) old new end status refl t p printed said is
judgement_of path now draw intent (Err r) old new end status t p printed said is = judged_own path now draw intent (Err r) old new end status refl t p printed said is
judgement_of path now draw intent (Ok text) old new end status t p printed said is = judged_own path now draw intent (Ok text) old new end status refl t p printed said is

-- a begin and a look remove no folder
spares : (r : Request) (reply : Reply) → opens r ≡ true → not (removes_folder r reply) ≡ true
spares (RemoveFolder spot) reply h = cc
spares r reply h = refl

kept_opening : {approach : Approach} {intent : Intent} {me : ℕ} {old new : List Event} → Opens approach intent me old new → KeptFolders me old new
kept_opening o = kept_by spares (open_extends o)

-- of a run with this status, if all apps had ended with 0
module _ (now : ℕ) (draw : Draw) (old new : Moment) (status : ℕ) where
  abbrev Ran : Task → Type 0
  Ran line = RunsTaskOrNothing line now draw old new status

  -- where the status is 0, the line ran and its text was written
  wrote : (line : Task) (P : List ℕ → Type 0) → ((text : List ℕ) → Performs line now draw (intent_of line now draw) old.outside new.outside (Ok text) → P text) → Ran line → status ≡ 0 → WritesOf P old new
  wrote line P so (inr n) zero = absurd_number 0 14 (sym zero ∙ n.is) refl
  wrote line P so (inl r) zero =
      let done = r.printed.done (end_at r.end status 0 r.is zero refl) in
      (done.0, so done.0 (subst (λ (o : CommandOutcome). Performs line now draw (intent_of line now draw) old.outside new.outside o) done.1 r.performs), done.2)

  abbrev me : ℕ
  me = old.outside.dir.process

  -- a removal that wasn't done
  abbrev Keeps : Task → Type 0
  Keeps line = (intent : Intent) (o : CommandOutcome) (s : InProcess line now draw intent old.outside new.outside o) → KeepsRefused s.begun.observed s.begun.dir s.ended.dir o

  kept_refused : (line : Task) → Keeps line → old.outside.observed ≡ true → (intent : Option Intent) (r : Refusal) → Performs line now draw intent old.outside new.outside (Err r) → KeptFolders me old.outside.dir.trace new.outside.dir.trace
  kept_refused line keeps t (Some intent) r (inl s) = kept_more (kept_opening (s.begins t)) s.me (kept_more (keeps intent (Err r) s (s.told ∙ t)) s.ran.same (kept_call refl (s.finishes t)))
  kept_refused line keeps t (Some intent) r (inr n) = kept_call refl (n.step t)
  kept_refused line keeps t None r p = subst (λ (d : DirAt). KeptFolders me old.outside.dir.trace d.trace) (sym p.dir) (record { more = []; grown = sym (append-nil _); kept = tt })

  kept_told : (line : Task) → Keeps line → old.outside.observed ≡ true → Ran line → RemovesNoneUnlessDone status old new
  kept_told line keeps t (inr n) = inr (inr (inr (subst (λ (x : Outside). KeptFolders me old.outside.dir.trace x.dir.trace) (sym n.outside) (record { more = []; grown = sym (append-nil _); kept = tt }))))
  kept_told line keeps t (inl r) = by r.end refl
    where
      unwritten : (q : Refusal) → status ≡ exit_status_of q → Unwritten q old.out new.out → RemovesNoneUnlessDone status old new
      unwritten q is (inl x) = inr (inl (is ∙ ap exit_status_of x.0))
      unwritten q is (inr x) = inr (inr (inl (is ∙ ap exit_status_of x.0, x.1)))

      by : (end : End) → r.end ≡ end → RemovesNoneUnlessDone status old new
      by (Ok done) same = inl (r.is ∙ ap end_status same)
      by (Err q) same = elim (from_end r.outcome old.out new.out r.end q r.printed same) [
        | inl e ↦ inr (inr (inr (kept_refused line keeps t (intent_of line now draw) q (subst (λ (o : CommandOutcome). Performs line now draw (intent_of line now draw) old.outside new.outside o) e r.performs))))
        | inr x ↦ unwritten q (r.is ∙ ap end_status same) x
      ]

  -- a report: what it saw, and what that tells
  report_tells : (rep : Report) (task : Task) → uses_dir task ≡ true → IsWider rep → ((o : CommandOutcome) (i : Intent) (s : InProcess task now draw i old.outside new.outside o) → ReportSays s.begun.observed rep s.begun.dir s.ended.dir o) → Ran task → WritesReport rep status old new
  report_tells rep task uses wider says r = record {
    seen = λ t. wrote task _ (λ text p. report_seen rep task now draw old.outside new.outside uses (Ok text) refl (says (Ok text)) (intent_of task now draw) p t) r;
    told = λ t conforming. wrote task _ (λ text p. report_told rep task now draw old.outside new.outside uses (Ok text) refl wider (says (Ok text)) (intent_of task now draw) p t conforming) r;
  }

  validate_tells : (path : List ℕ) → Ran (Validate path) → TellsJudgement path status old new
  validate_tells path (inr n) t = inr (inl n.is)
  validate_tells path (inl r) t = judgement_of path now draw (intent_of (Validate path) now draw) r.outcome old new r.end status t r.performs r.printed r.reported r.is

  list_tells : Ran ImageList → TellsImageLines status old new
  list_tells r = record {
    read = λ t. wrote ImageList _ (λ text p. list_printed now draw (intent_of ImageList now draw) old.outside new.outside text p) r;
    stood = λ t conforming. wrote ImageList _ (λ text p. list_stood now draw (intent_of ImageList now draw) old.outside new.outside text p t conforming) r;
  }

  import_tells : (path : List ℕ) → Ran (ImageImport path) → TellsImport path now draw status old new
  import_tells path r = record { stored = λ t conforming. wrote (ImageImport path) _ (λ text p. import_stored path now draw old.outside new.outside text p t conforming) r; judged = λ t. by r t }
    where
      by : Ran (ImageImport path) → old.outside.bundle.observed ≡ true → IsBundleJudgement path status old new
      by (inr n) t = inr (inl n.is)
      by (inl r) t = import_judged path now draw r.outcome old new r.end status t r.performs r.printed r.reported r.is

  removal_told : (key : StoreKey) → Ran (ImageRm key) → old.outside.observed ≡ true → status ≡ 0 → WritesOf (λ text. (text ≡ removed_image_text key) × HasRemoved key draw.uuid old.outside.dir new.outside.dir) old new
  removal_told key r t = wrote (ImageRm key) _ (λ text p. (removal_printed key now draw (intent_of (ImageRm key) now draw) old.outside new.outside text p, removal_done key now draw old.outside new.outside text p t)) r

  removal_tells : (key : StoreKey) → Ran (ImageRm key) → TellsImageRm key draw status old new
  removal_tells key r = record { removed = λ t. removal_told key r t; kept = λ t. kept_told (ImageRm key) (λ intent o s. s.ran.says.1) t r }

  sweep_early : Ran ImageGc → old.outside.observed ≡ true → status ≡ 9 → HasEndedEarly old.outside.dir new.outside.dir
  sweep_early (inr n) t nine = absurd_number 9 14 (sym nine ∙ n.is) refl
  sweep_early (inl r) t nine =
      let e : r.outcome ≡ Err DirFault = from_command r.outcome old.out new.out r.end DirFault r.printed (end_at r.end status 9 r.is nine refl) refl in
      sweep_failed now draw (intent_of ImageGc now draw) old.outside new.outside (subst (λ (o : CommandOutcome). Performs ImageGc now draw (intent_of ImageGc now draw) old.outside new.outside o) e r.performs) t

  sweep_tells : Ran ImageGc → TellsImageGc status old new
  sweep_tells r = record { swept = λ t. wrote ImageGc _ (λ text p. sweep_done now draw old.outside new.outside text p t) r; early = λ t. sweep_early r t }

  prepare_tells : (wants : Wants) → Ran (Prepare wants) → TellsPrepare wants draw status old new
  prepare_tells wants r = record {
    synced = λ t. wrote (Prepare wants) _ (λ text p. (prepare_printed wants now draw (intent_of (Prepare wants) now draw) old.outside new.outside text p, prepare_synced wants now draw old.outside new.outside text p t)) r;
    left = λ t. pod_left now draw old new status t wants r;
    faithful = λ t conforming. wrote (Prepare wants) _ (λ text p. (prepare_printed wants now draw (intent_of (Prepare wants) now draw) old.outside new.outside text p, prepare_faithful wants now draw old.outside new.outside text p t conforming)) r;
  }

  rm_tells : {word : List ℕ} (pod : PodId) → Ran (Rm word pod) → TellsRm pod status old new
  rm_tells {word = word} pod r = record {
    removed = λ t. wrote (Rm word pod) _ (λ text p. (rm_printed word pod now draw (intent_of (Rm word pod) now draw) old.outside new.outside text p, rm_done word pod now draw (intent_of (Rm word pod) now draw) old.outside new.outside text p t)) r;
    gone = λ t conforming. wrote (Rm word pod) _ (λ text p. (rm_printed word pod now draw (intent_of (Rm word pod) now draw) old.outside new.outside text p, rm_removed pod (rm_done word pod now draw (intent_of (Rm word pod) now draw) old.outside new.outside text p t) conforming)) r;
    complete = λ t conforming free. rm_ends word pod now draw old new t conforming free status r;
    kept = λ t. kept_told (Rm word pod) (λ intent o s. s.ran.says.1) t r;
  }

  gc_tells : {grace : ℕ} {expire : ℕ} → Ran (Gc grace expire) → TellsGc (times_of now grace expire) status old new
  gc_tells {grace = grace} {expire = expire} r = record {
    swept = λ t. wrote (Gc grace expire) _ (λ text p. gc_done now draw old.outside new.outside text p t) r;
    left = λ t. sweep_left now draw old new status t r;
    gone = λ t conforming. wrote (Gc grace expire) _ (λ text p. let swept = gc_done now draw old.outside new.outside text p t in record { swept = swept; deleted = gc_deleted (times_of now grace expire) swept.lines swept.swept conforming }) r;
  }

  service_tells : (address : List ℕ) (count : ℕ) → Ran (Metadata address count) → WritesNoOutput status old new
  service_tells address count r = wrote (Metadata address count) _ (λ text p. service_printed address count now draw (intent_of (Metadata address count) now draw) old.outside new.outside text p) r

  demo_tells : (count : ℕ) → Ran (Demo count) → TellsDemo count status old new
  demo_tells count (inr n) = inl n.is
  demo_tells count (inl r) = by (does_demo count now draw (intent_of (Demo count) now draw) old.outside new.outside r.outcome r.performs)
    where
      by : EndsDemo count r.outcome → TellsDemo count status old new
      by (inr e) = inl (r.is ∙ ap end_status ((subst (λ (o : CommandOutcome). Printed o old.out new.out r.end) e r.printed).refused.0))
      by (inl e) = elim (answered r.outcome old new r.end status r.printed r.reported r.is) [
        | inl x ↦ inl x
        | inr (inl x) ↦ inr (inl x.0)
        | inr (inr x) ↦ inr (inr (subst (λ (o : CommandOutcome). IsAnswer o status old new) e x))
      ]

-- of each command
pub tells : {task : Task} {now : ℕ} {draw : Draw} {old new : Moment} {status : ℕ} → IsRunOfTask task now draw old new status → (command_in task).tells now draw status old new
tells {task} {now} {draw} {old} {new} {status} run = by task run
  where
    -- a command that starts no apps has its plain status
    alone : (task : Task) (run : IsRunOfTask task now draw old new status) → runs_apps task ≡ false → (command_in task).tells now draw run.plain old new → (command_in task).tells now draw status old new
    alone task run none so = subst (λ (n : ℕ). (command_in task).tells now draw n old new) (sym (unhurt task run.plain status run.is none)) so

    by : (task : Task) → IsRunOfTask task now draw old new status → (command_in task).tells now draw status old new
    by (Status word pod) run = alone (Status word pod) run refl
        (report_tells now draw old new run.plain (status_report pod) (Status word pod) refl (λ me a b c d earlier later begins ends. status_wider me a b c d earlier later begins ends pod) (λ o i s. s.ran.says) run.ran)
    by PodList run = alone PodList run refl (report_tells now draw old new run.plain list_report PodList refl lines_wider (λ o i s. s.ran.says) run.ran)
    by (CatManifest word pod) run = alone (CatManifest word pod) run refl
        (report_tells now draw old new run.plain (cat_manifest_report pod) (CatManifest word pod) refl (λ me a b c d earlier later begins ends. manifest_wider me a b c d earlier later begins ends pod) (λ o i s. s.ran.says) run.ran)
    by (Validate path) run = alone (Validate path) run refl (validate_tells now draw old new run.plain path run.ran)
    by ImageList run = alone ImageList run refl (list_tells now draw old new run.plain run.ran)
    by (ImageImport path) run = alone (ImageImport path) run refl (import_tells now draw old new run.plain path run.ran)
    by (ImageRm key) run = alone (ImageRm key) run refl (removal_tells now draw old new run.plain key run.ran)
    by ImageGc run = alone ImageGc run refl (sweep_tells now draw old new run.plain run.ran)
    by (Prepare wants) run = alone (Prepare wants) run refl (prepare_tells now draw old new run.plain wants run.ran)
    by (RunPrepared word pod address) run = record { apps = run.apps; complete = λ t conforming free. claim_ends word address pod now draw old new t conforming free run.plain status run.is run.ran }
    by (Run wants address) run = run.apps
    by (Rm word pod) run = alone (Rm word pod) run refl (rm_tells now draw old new run.plain pod run.ran)
    by (Gc grace expire) run = alone (Gc grace expire) run refl (gc_tells now draw old new run.plain run.ran)
    by (Metadata address count) run = alone (Metadata address count) run refl (service_tells now draw old new run.plain address count run.ran)
    by (Demo count) run = alone (Demo count) run refl (demo_tells now draw old new run.plain count run.ran)
