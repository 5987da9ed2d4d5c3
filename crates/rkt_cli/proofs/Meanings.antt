-- Where nobody else steps, a task's pod is the one that its word means in the state before.
use Rattle.std.proofs.Common.{◌≡◌, ◌⊎◌, inl, inr, ℕ, true, List, Option, Some, Ok, refl, sym, ap, subst, ◌∙◌}
use Rattle.dir_model.specs.declared.intent.Draw.{Draw}
use Rattle.dir_model.specs.declared.intent.Intent.{Intent}
use Rattle.dir_model.specs.declared.pod.PodId.{PodId}
use Rattle.dir_model.specs.Quiet.{OwnsNothing}
use Rattle.dir_model.specs.State.{DirState}
use Rattle.dir_model.specs.Trace.{state_after}
use Rattle.pod_lookup.specs.Choice.{sequential_resolve}
use Rattle.command_outcomes.specs.Moments.{Outside, Moment, CommandOutcome}
use Rattle.rkt_cli.specs.declared.line.Line.{Line}
use Rattle.rkt_cli.specs.declared.line.Line.TheVariants as line
use Rattle.rkt_cli.specs.Commands.{intent_of}
use Rattle.rkt_cli.specs.Promises.{Undisturbed, meaning_in}
use Rattle.rkt_cli.specs.Runs.{InProcess, Performs, Printed, IsRunOfTask, RunsTaskOrNothing, RunOfLine, end_status}
use Rattle.rkt_cli.specs.Tasks.{Task, task_of, pod_word_of, IsMeantBy, IsFoundByWord}
use Rattle.rkt_cli.proofs.Grades.{graded_same}
use Rattle.rkt_cli.proofs.Sessions.{idle, quiet_look, state_first}

-- one that was found so
found_before : {task : Task} {now : ℕ} {draw : Draw} {intent : Intent} {old new : Outside} {o : CommandOutcome} (word : List ℕ) (pod : PodId) (s : InProcess task now draw intent old new o) (u : Undisturbed task old new) →
    ((t : old.observed ≡ true) → IsFoundByWord word pod old.dir.process (s.begins t).first s.begun.dir.trace) → sequential_resolve (state_after old.dir.trace) word ≡ Ok pod
found_before {intent = intent} {old = old} word pod s u found =
    let t = u.observed s.uses in
    let q = u.alone s.uses in
    let here = state_first s t q in
    let owns : OwnsNothing old.dir.process (state_after (s.begins t).first).namespace = subst (λ (x : DirState). OwnsNothing old.dir.process x.namespace) (sym here) (idle s t q) in
    sym ((found t).quiet (quiet_look s t q) owns ∙ ap (λ (x : DirState). sequential_resolve x word) here)

-- a run of a task that works in a process
found_by : {task : Task} {now : ℕ} {draw : Draw} {old new : Moment} {status : ℕ} (intent : Intent) → intent_of task now draw ≡ Some intent → (word : List ℕ) (pod : PodId) →
    ((o : CommandOutcome) (s : InProcess task now draw intent old.outside new.outside o) (t : old.outside.observed ≡ true) → IsFoundByWord word pod old.outside.dir.process (s.begins t).first s.begun.dir.trace) →
    IsRunOfTask task now draw old new status → Undisturbed task old.outside new.outside → (status ≡ 14) ⊎ (sequential_resolve (state_after old.outside.dir.trace) word ≡ Ok pod)
found_by {task} {now} {draw} {old} {new} {status} intent said word pod found run u = by run.ran
  where
    out_of_memory : run.plain ≡ 14 → (status ≡ 14) ⊎ (sequential_resolve (state_after old.outside.dir.trace) word ≡ Ok pod)
    out_of_memory is = inl (graded_same task run.plain status 14 run.is is refl)

    of_line : (r : RunOfLine task now draw (intent_of task now draw) old new run.plain) → Performs task now draw (Some intent) old.outside new.outside r.outcome → (status ≡ 14) ⊎ (sequential_resolve (state_after old.outside.dir.trace) word ≡ Ok pod)
    of_line r (inl s) = inr (found_before word pod s u (found r.outcome s))
    of_line r (inr n) = out_of_memory (r.is ∙ ap end_status ((subst (λ (o : CommandOutcome). Printed o old.out new.out r.end) n.is r.printed).refused.0))

    by : RunsTaskOrNothing task now draw old new run.plain → (status ≡ 14) ⊎ (sequential_resolve (state_after old.outside.dir.trace) word ≡ Ok pod)
    by (inr n) = out_of_memory n.is
    by (inl r) = of_line r (subst (λ (i : Option Intent). Performs task now draw i old.outside new.outside r.outcome) said r.performs)

pub its_meaning : (l : Line) {now : ℕ} {draw : Draw} {old new : Moment} {status : ℕ} (pod : PodId) → IsMeantBy (pod_word_of l) draw pod → IsRunOfTask (task_of l pod) now draw old new status → Undisturbed (task_of l pod) old.outside new.outside →
    (status ≡ 14) ⊎ (meaning_in (state_after old.outside.dir.trace) (pod_word_of l) draw ≡ Ok pod)
its_meaning (line.Status word) pod meant run u = found_by _ refl word pod (λ o s t. s.found t) run u
its_meaning (line.CatManifest word) pod meant run u = found_by _ refl word pod (λ o s t. s.found t) run u
its_meaning (line.RunPrepared word address) pod meant run u = found_by _ refl word pod (λ o s t. s.found t) run u
its_meaning (line.Rm word) pod meant run u = found_by _ refl word pod (λ o s t. s.found t) run u
its_meaning (line.Validate path) pod meant run u = inr (ap Ok (sym meant))
its_meaning line.PodList pod meant run u = inr (ap Ok (sym meant))
its_meaning line.ImageList pod meant run u = inr (ap Ok (sym meant))
its_meaning (line.ImageImport path) pod meant run u = inr (ap Ok (sym meant))
its_meaning (line.ImageRm key) pod meant run u = inr (ap Ok (sym meant))
its_meaning line.ImageGc pod meant run u = inr (ap Ok (sym meant))
its_meaning (line.Prepare wants) pod meant run u = inr (ap Ok (sym meant))
its_meaning (line.Run wants address) pod meant run u = inr (ap Ok (sym meant))
its_meaning (line.Gc grace expire) pod meant run u = inr (ap Ok (sym meant))
its_meaning (line.Metadata address count) pod meant run u = inr (ap Ok (sym meant))
its_meaning (line.Demo count) pod meant run u = inr (ap Ok (sym meant))
