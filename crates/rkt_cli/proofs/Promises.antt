-- From a run to what a caller is told of it.
use Rattle.std.proofs.Common.{arith, ◌≤◌, ◌+◌, ◌≡◌, ◌⊎◌, inl, inr, ℕ, true, false, ◌||◌, ◌==◌, List, ◌++◌, Option, Some, None, Ok, Err, refl, sym, ap, subst, ◌∙◌}
use Rattle.std.proofs.lemmas.Bool.{or_left, or_right}
use Rattle.dir_model.specs.declared.intent.Draw.{Draw}
use Rattle.dir_model.specs.declared.intent.Intent.{Intent}
use Rattle.dir_model.specs.declared.request.Request.{Request}
use Rattle.dir_model.specs.declared.request.Request.TheVariants.{Begin, Finish}
use Rattle.dir_model.specs.Calls.{Extends, is_begin, is_finish}
use Rattle.dir_model.proofs.Chains.{nothing_yet, step_extends}
use Rattle.dir_model.proofs.Lists.{or_left_false}
use Rattle.dir_trait.specs.Sinks.{WritesPart}
use Rattle.dir_trait.proofs.Askings.{asks_nothing}
use Rattle.dir_trait.specs.DirCalls.{DirAt}
use Rattle.command_outcomes.specs.declared.refusal.Refusal.TheVariants.{Usage, NoMemory}
use Rattle.command_outcomes.specs.Texts.{exit_status_of}
use Rattle.command_outcomes.specs.Moments.{BundleSeen, Outside, Inside, SinkSeen, Moment, CommandOutcome, Answer, outcome_of}
use Rattle.commands.specs.Answers.{inside_in}
use Rattle.commands.specs.CatManifest.{cat_manifest_report}
use Rattle.commands.specs.PodList.{list_report}
use Rattle.commands.specs.Status.{status_report}
use Rattle.commands.specs.Validate.{ReadsFileAlone}
use Rattle.rkt_cli.specs.Tasks.{Task}
use Rattle.rkt_cli.specs.Tasks.{Status, PodList, CatManifest, Validate, ImageList, ImageImport, ImageRm, ImageGc, Prepare, RunPrepared, Run, Rm, Gc, Metadata, Demo}
use Rattle.rkt_cli.specs.Commands.{command_in, intent_of, looks, asks, runs_apps, ReadsOnly}
use Rattle.rkt_cli.specs.Spawns.{AppsToldBetween}
use Rattle.rkt_cli.specs.Runs.{Performs, End, Unwritten, Printed, Reported, end_status, RunOfLine, RunsTaskOrNothing, IsRunOfTask}
use Rattle.rkt_cli.specs.Promises.{IsExitStatus, asks_all, Ends, EndsAs, IsRefused, WritesItsText}
use Rattle.rkt_cli.proofs.AppsRan.{run_prepared_printed, run_printed}
use Rattle.rkt_cli.proofs.Causes.{cause_of}
use Rattle.rkt_cli.proofs.DemoRan.{demo_text, does_demo}
use Rattle.rkt_cli.proofs.Ends.{absurd_number, end_at, is_of_output, output_known, refusal_known, refusal_status, refusal_plain, from_end, from_command}
use Rattle.rkt_cli.proofs.Grades.{plain_at, graded_known, graded_none, graded_same}
use Rattle.rkt_cli.proofs.Imports.{import_printed}
use Rattle.rkt_cli.proofs.Listed.{list_printed}
use Rattle.rkt_cli.proofs.Outcomes.{refusals_of, does_validate, file_prints}
use Rattle.rkt_cli.proofs.PodRan.{prepare_printed}
use Rattle.rkt_cli.proofs.PodRemovals.{rm_printed, gc_printed}
use Rattle.rkt_cli.proofs.Removals.{removal_printed, sweep_printed}
use Rattle.rkt_cli.proofs.Reported.{report_printed}
use Rattle.rkt_cli.proofs.ServiceRan.{service_printed}
use Rattle.rkt_cli.proofs.Sessions.{all_parts}
use Rattle.manifests.specs.ManifestSize.{most_of_manifest}

abbrev TaskPrints : Task → Draw → BundleSeen → List ℕ → Type 0
TaskPrints task draw bundle text = (command_in task).prints draw bundle text

-- the text that was printed is one that the command prints
prints_of : (line : Task) (now : ℕ) (draw : Draw) (intent : Option Intent) (old new : Outside) (text : List ℕ) → Performs line now draw intent old new (Ok text) → (a b : Inside) (answer : Answer) → Ok text ≡ outcome_of answer → AppsToldBetween line now draw intent a b answer → TaskPrints line draw old.bundle text
prints_of (Status word pod) now draw intent old new text p a b answer is came = report_printed (status_report pod) (Status word pod) now draw old new refl text (λ i s. s.ran.says) intent p
prints_of PodList now draw intent old new text p a b answer is came = report_printed list_report PodList now draw old new refl text (λ i s. s.ran.says) intent p
prints_of (CatManifest word pod) now draw intent old new text p a b answer is came = report_printed (cat_manifest_report pod) (CatManifest word pod) now draw old new refl text (λ i s. s.ran.says) intent p
prints_of ImageList now draw intent old new text p a b answer is came = let d = list_printed now draw intent old new text p in (d.images, d.is)
prints_of (Validate path) now draw intent old new text p a b answer is came = let d = does_validate path now draw intent old new (Ok text) refl p in file_prints path d.found text d.is
prints_of (ImageImport path) now draw intent old new text p a b answer is came = import_printed path now draw intent old new text p
prints_of (ImageRm key) now draw intent old new text p a b answer is came = removal_printed key now draw intent old new text p
prints_of ImageGc now draw intent old new text p a b answer is came = sweep_printed now draw intent old new text p
prints_of (Prepare wants) now draw intent old new text p a b answer is came = prepare_printed wants now draw intent old new text p
prints_of (Rm word pod) now draw intent old new text p a b answer is came = rm_printed word pod now draw intent old new text p
prints_of (Gc grace expire) now draw intent old new text p a b answer is came = gc_printed grace expire now draw intent old new text p
prints_of (Metadata address count) now draw intent old new text p a b answer is came = service_printed address count now draw intent old new text p
prints_of (Demo count) now draw intent old new text p a b answer is came = demo_text count text (does_demo count now draw intent old new (Ok text) p)
prints_of (RunPrepared word pod address) now draw None old new text p a b answer is came = let clash : true ≡ false = p.apart in cc
prints_of (RunPrepared word pod address) now draw (Some intent) old new text p a b answer is came = run_prepared_printed word pod now draw intent a b answer text is came
prints_of (Run wants address) now draw None old new text p a b answer is came = let clash : true ≡ false = p.apart in cc
prints_of (Run wants address) now draw (Some intent) old new text p a b answer is came = run_printed wants now draw intent a b answer text is came

-- of a run with this status, if all apps had ended with 0: its text was written, or a part of it, or nothing
abbrev IsPlainOutput : (List ℕ → Type 0) → ℕ → List ℕ → List ℕ → Type 0
IsPlainOutput P status old new =
    ((status ≡ 0) × (text : List ℕ) × P text × (new ≡ old ++ text))
    ⊎ (((status ≡ 12) ⊎ (status ≡ 14)) × (text : List ℕ) × P text × WritesPart old text new)
    ⊎ ((((status == 0) || (status == 16)) ≡ false) × (new ≡ old))

output_of : (P : List ℕ → Type 0) (o : CommandOutcome) (old new : SinkSeen) (end : End) (status : ℕ) → ((text : List ℕ) → o ≡ Ok text → P text) → Printed o old new end → status ≡ end_status end → old.observed ≡ true → IsPlainOutput P status old.bytes new.bytes
output_of P (Err r) old new end status prints p is t = inr (inr (ap (λ (n : ℕ). (n == 0) || (n == 16)) (is ∙ ap end_status (p.refused.0)) ∙ refusal_plain r, p.refused.1 t))
output_of P (Ok text) old new (Ok done) status prints p is t =
    let q = p.done refl in
    let same : text ≡ q.0 = let e : Ok text ≡ Ok q.0 = q.1 in cc in
    inl (is, text, prints text refl, q.2 t ∙ ap (λ (x : List ℕ). old.bytes ++ x) (sym same))
output_of P (Ok text) old new (Err r) status prints p is t = by (p.cause text refl)
  where
    by : Unwritten r old new → IsPlainOutput P status old.bytes new.bytes
    by (inl x) = inr (inl (inl (is ∙ ap exit_status_of x.0), text, prints text refl, p.part text refl t))
    by (inr x) = inr (inl (inr (is ∙ ap exit_status_of x.0), text, prints text refl, p.part text refl t))

-- the status is one of those of the program
status_known : (line : Task) (now : ℕ) (draw : Draw) (intent : Option Intent) (before after : Outside) (o : CommandOutcome) (old new : SinkSeen) (end : End) → Performs line now draw intent before after o → Printed o old new end → IsExitStatus (end_status end)
status_known line now draw intent before after o old new (Ok done) p printed = refl
status_known line now draw intent before after o old new (Err r) p printed = by (from_end o old new (Err r) r printed refl)
  where
    by : (o ≡ Err r) ⊎ Unwritten r old new → IsExitStatus (exit_status_of r)
    by (inl e) = refusal_known line r (refusals_of line now draw intent before after o r p e)
    by (inr (inl x)) = output_known r (ap is_of_output x.0)
    by (inr (inr x)) = output_known r (ap is_of_output x.0)

-- what this process knows in the end
over_of : (line : Task) (now : ℕ) (draw : Draw) (intent : Option Intent) (before after : Outside) (o : CommandOutcome) (old new : SinkSeen) (end : End) (status : ℕ) → Performs line now draw intent before after o → Printed o old new end → status ≡ end_status end → EndsAs intent status before.dir.local after.dir.local
over_of line now draw None before after o old new end status p printed is = ap (λ (d : DirAt). d.local) p.dir
over_of line now draw (Some intent) before after o old new end status (inl s) printed is = inl s.local
over_of line now draw (Some intent) before after o old new end status (inr n) printed is = inr (is ∙ ap end_status ((subst (λ (o : CommandOutcome). Printed o old new end) n.is printed).refused.0), n.local)

nothing_given : (given : ℕ) → given ≤ given + most_of_manifest
nothing_given given = omega arith

pub reads_nothing : (line : Task) (old new : BundleSeen) → new ≡ old → ReadsOnly line old new
reads_nothing (Validate path) old new same = subst (λ (x : BundleSeen). ReadsFileAlone path old x) (sym same) (record { given = nothing_given old.given; asked = λ t. asks_nothing })
reads_nothing (ImageImport path) old new same = subst (λ (x : BundleSeen). old.faults ≤ x.faults) (sym same) (omega arith)
reads_nothing line old new same = same

reads_of : (line : Task) (now : ℕ) (draw : Draw) (intent : Option Intent) (old new : Outside) (o : CommandOutcome) → Performs line now draw intent old new o → ReadsOnly line old.bundle new.bundle
reads_of line now draw (Some intent) old new o (inl s) =
    subst (λ (b : BundleSeen). ReadsOnly line b new.bundle) s.bundle_before (subst (λ (b : BundleSeen). ReadsOnly line s.begun.bundle b) (sym s.bundle_after) s.ran.reads)
reads_of line now draw (Some intent) old new o (inr n) = reads_nothing line old.bundle new.bundle n.bundle
reads_of line now draw None old new o p = p.ran.reads

module _ (task : Task) (now : ℕ) (draw : Draw) (old new : Moment) (status : ℕ) where
  abbrev Is : Type 0
  Is = RunsTaskOrNothing task now draw old new status

  statuses_of : Is → IsExitStatus status
  statuses_of (inl r) = subst IsExitStatus (sym r.is) (status_known task now draw _ old.outside new.outside r.outcome old.out new.out r.end r.performs r.printed)
  statuses_of (inr n) = subst IsExitStatus (sym n.is) refl

  read_of : Is → status ≡ 1 → ⊥
  read_of (inr n) is = absurd_number 1 14 (sym is ∙ n.is) refl
  read_of (inl r) is = by (from_command r.outcome old.out new.out r.end Usage r.printed (end_at r.end status 1 r.is is refl) refl)
    where
      by : r.outcome ≡ Err Usage → ⊥
      by e = let f : false ≡ true = refusals_of task now draw _ old.outside new.outside r.outcome Usage r.performs e in cc

  -- done, and nothing said; or refused for its cause
  abbrev IsPlainEnd : Type 0
  IsPlainEnd = ((status ≡ 0) × (new.err ≡ old.err)) ⊎ IsRefused task now draw status old new

  ended_of : Is → IsPlainEnd
  ended_of (inr n) = inr (record { refusal = NoMemory; is = n.is; said = n.reported; cause = tt })
  ended_of (inl r) = by r.end refl r.is r.reported
    where
      by : (end : End) → r.end ≡ end → status ≡ end_status end → Reported end old.err new.err → IsPlainEnd
      by (Ok done) same is said = inl (is, said)
      by (Err refusal) same is said = inr (record { refusal = refusal; is = is; said = said; cause = cause_of task now draw old new status refusal r same })

  -- its own requests alone, among interference
  extends_of : Is → old.outside.observed ≡ true → Extends (asks_all task now draw) old.outside.dir.process old.outside.dir.trace new.outside.dir.trace
  extends_of (inr n) t = subst (λ (x : Outside). Extends (asks_all task now draw) old.outside.dir.process old.outside.dir.trace x.dir.trace) (sym n.outside) nothing_yet
  extends_of (inl r) t = by (intent_of task now draw) r.performs
    where
      begins : (q : Request) → is_begin q ≡ true → asks_all task now draw q ≡ true
      begins q h = or_right (looks task q) _ (or_left (is_begin q) _ h)

      wider : (q : Request) → asks task now draw q ≡ true → asks_all task now draw q ≡ true
      wider q h = or_right (looks task q) _ (or_right (is_begin q) _ (or_left (asks task now draw q) (is_finish q) h))

      ends : (q : Request) → is_finish q ≡ true → asks_all task now draw q ≡ true
      ends q h = or_right (looks task q) _ (or_right (is_begin q) _ (or_right (asks task now draw q) (is_finish q) h))

      by : (intent : Option Intent) → Performs task now draw intent old.outside new.outside r.outcome → Extends (asks_all task now draw) old.outside.dir.process old.outside.dir.trace new.outside.dir.trace
      by (Some intent) (inl s) = all_parts s t (asks_all task now draw) (begins (Begin intent) refl) (λ q h. or_left (looks task q) _ h) wider (ends Finish refl)
      by (Some intent) (inr n) = step_extends (asks_all task now draw) old.outside.dir.process old.outside.dir.trace _ _ new.outside.dir.trace (begins (Begin intent) refl) (n.step t)
      by None p = subst (λ (d : DirAt). Extends (asks_all task now draw) old.outside.dir.process old.outside.dir.trace d.trace) (sym p.dir) nothing_yet

  -- a text of which this is so, if the task came to it
  out_of : (P : List ℕ → Type 0) → Is → ((r : RunOfLine task now draw (intent_of task now draw) old new status) (text : List ℕ) → r.outcome ≡ Ok text → P text) → old.out.observed ≡ true → IsPlainOutput P status old.out.bytes new.out.bytes
  out_of P (inr n) prints t = inr (inr (ap (λ (n : ℕ). (n == 0) || (n == 16)) n.is, ap (λ (s : SinkSeen). s.bytes) n.out))
  out_of P (inl r) prints t = output_of P r.outcome old.out new.out r.end status (prints r) r.printed r.is t

  -- what it performed
  performed : (r : RunOfLine task now draw (intent_of task now draw) old new status) (o : CommandOutcome) → r.outcome ≡ o → Performs task now draw (intent_of task now draw) old.outside new.outside o
  performed r o is = subst (λ (x : CommandOutcome). Performs task now draw (intent_of task now draw) old.outside new.outside x) is r.performs

  its_text : (r : RunOfLine task now draw (intent_of task now draw) old new status) (text : List ℕ) → r.outcome ≡ Ok text → TaskPrints task draw old.outside.bundle text
  its_text r text is = prints_of task now draw (intent_of task now draw) old.outside new.outside text (performed r (Ok text) is) (inside_in old) (inside_in new) r.answer (sym is ∙ r.outcome_is) r.came

  is_over : Is → EndsAs (intent_of task now draw) status old.outside.dir.local new.outside.dir.local
  is_over (inr n) = by (intent_of task now draw)
    where
      by : (intent : Option Intent) → EndsAs intent status old.outside.dir.local new.outside.dir.local
      by None = ap (λ (x : Outside). x.dir.local) n.outside
      by (Some intent) = inr (n.is, ap (λ (x : Outside). x.dir.local) n.outside)
  is_over (inl r) = over_of task now draw (intent_of task now draw) old.outside new.outside r.outcome old.out new.out r.end status r.performs r.printed r.is

  reads_in : Is → ReadsOnly task old.outside.bundle new.outside.bundle
  reads_in (inr n) = reads_nothing task old.outside.bundle new.outside.bundle (ap (λ (x : Outside). x.bundle) n.outside)
  reads_in (inl r) = reads_of task now draw (intent_of task now draw) old.outside new.outside r.outcome r.performs

-- each of the clauses
module _ {task : Task} {now : ℕ} {draw : Draw} {old new : Moment} {status : ℕ} (run : IsRunOfTask task now draw old new status) where
  at : (n : ℕ) → status ≡ n → (n == 16) ≡ false → run.plain ≡ n
  at n is apart = plain_at task run.plain status n run.is is apart

  same_at : (n : ℕ) → run.plain ≡ n → (n == 0) ≡ false → status ≡ n
  same_at n is apart = graded_same task run.plain status n run.is is apart

  pub statuses : IsExitStatus status
  statuses = graded_known task run.plain status run.is (statuses_of task now draw old new run.plain run.ran)

  pub was_read : status ≡ 1 → ⊥
  was_read is = read_of task now draw old new run.plain run.ran (at 1 is refl)

  pub extends : old.outside.observed ≡ true → Extends (asks_all task now draw) old.outside.dir.process old.outside.dir.trace new.outside.dir.trace
  extends = extends_of task now draw old new run.plain run.ran

  wrote : (P : List ℕ → Type 0) → IsPlainOutput P run.plain old.out.bytes new.out.bytes → WritesItsText (runs_apps task) P status old.out.bytes new.out.bytes
  wrote P (inl x) = inl (graded_none task run.plain status run.is x.0, x.1, x.2, x.3)
  wrote P (inr (inl x)) = inr (inl (elim x.0 [ inl e ↦ inl (same_at 12 e refl) | inr e ↦ inr (same_at 14 e refl) ], x.1, x.2, x.3))
  wrote P (inr (inr x)) = inr (inr (ap (λ (n : ℕ). (n == 0) || (n == 16)) (same_at run.plain refl (or_left_false (run.plain == 0) (run.plain == 16) x.0)) ∙ x.0, x.1))

  -- a text of which this is so, if that is so of each that the task comes to
  pub output_as : (P : List ℕ → Type 0) → ((text : List ℕ) → Performs task now draw (intent_of task now draw) old.outside new.outside (Ok text) → P text) → old.out.observed ≡ true → WritesItsText (runs_apps task) P status old.out.bytes new.out.bytes
  output_as P so t = wrote P (out_of task now draw old new run.plain P run.ran (λ r text is. so text (performed task now draw old new run.plain r (Ok text) is)) t)

  pub output : old.out.observed ≡ true → WritesItsText (runs_apps task) (TaskPrints task draw old.outside.bundle) status old.out.bytes new.out.bytes
  output t = wrote (TaskPrints task draw old.outside.bundle) (out_of task now draw old new run.plain (TaskPrints task draw old.outside.bundle) run.ran (its_text task now draw old new run.plain) t)

  pub ended : Ends task now draw status old new
  ended = by (ended_of task now draw old new run.plain run.ran)
    where
      by : IsPlainEnd task now draw old new run.plain → Ends task now draw status old new
      by (inl x) = inl (graded_none task run.plain status run.is x.0, x.1)
      by (inr x) = inr (record { refusal = x.refusal; is = same_at (exit_status_of x.refusal) x.is (refusal_status x.refusal); said = x.said; cause = x.cause })

  pub over : EndsAs (intent_of task now draw) status old.outside.dir.local new.outside.dir.local
  over = ends (intent_of task now draw) (is_over task now draw old new run.plain run.ran)
    where
      ends : (intent : Option Intent) → EndsAs intent run.plain old.outside.dir.local new.outside.dir.local → EndsAs intent status old.outside.dir.local new.outside.dir.local
      ends None x = x
      ends (Some intent) (inl x) = inl x
      ends (Some intent) (inr x) = inr (same_at 14 x.0 refl, x.1)

  pub reads : ReadsOnly task old.outside.bundle new.outside.bundle
  reads = reads_in task now draw old new run.plain run.ran
