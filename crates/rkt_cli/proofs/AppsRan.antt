-- What the commands tell that start apps.
use Rattle.std.proofs.Common.{◌≡◌, ◌≢◌, ◌⊎◌, inl, inr, ℕ, ◌==◌, Bool, true, false, ◌||◌, List, [], ◌++◌, Some, Result, Ok, Err, IfOk, IsErrOf, refl, sym, ap, subst, ◌∙◌}
use Rattle.dir_model.specs.declared.intent.Draw.{Draw}
use Rattle.dir_model.specs.declared.intent.Intent.{Intent}
use Rattle.dir_model.specs.declared.pod.PodId.{PodId}
use Rattle.stage1.specs.declared.end.AppEnd.{AppEnd}
use Rattle.command_outcomes.specs.declared.refusal.Refusal.{Refusal}
use Rattle.command_outcomes.specs.declared.refusal.Refusal.TheVariants.{SpawnFault, NoMemory}
use Rattle.command_outcomes.specs.declared.told.Told.{Told}
use Rattle.command_outcomes.specs.Moments.{Inside, Moment, Answer, outcome_of, is_well}
use Rattle.command_outcomes.specs.Texts.{exit_status_of}
use Rattle.commands.specs.Prepare.{pod_line}
use Rattle.commands.specs.AppEnds.{app_lines}
use Rattle.commands.specs.RunPrepared.{RunPreparedSays}
use Rattle.commands.specs.RunRefusals.{claim_refusal}
use Rattle.commands.specs.Run.{NewRunSays, RunIsTold}
use Rattle.rkt_cli.specs.Tasks.{Task}
use Rattle.rkt_cli.specs.Tasks.{RunPrepared, Run}
use Rattle.commands.specs.Answers.{Complained, inside_in}
use Rattle.commands.specs.AppsTold.{inside, well_status, TellsApps}
use Rattle.rkt_cli.specs.Commands.{runs_apps, intent_of}
use Rattle.rkt_cli.specs.Runs.{AppsIn, End, Unwritten, Printed, Reported, end_status, end_of_writing, status_at, RunOfLine, RunsTaskOrNothing, IsRunOfTask}
use Rattle.rkt_cli.specs.Spawns.{AppsToldBetween}
use Rattle.rkt_cli.proofs.Ends.{absurd_number, refusal_plain}
use Rattle.rkt_cli.proofs.Grades.{unhurt_line}
use Rattle.commands.specs.Wants.{Wants}
use Rattle.commands.proofs.Told.{telling}

-- the text that was printed
told_text : (told : Told) (text front : List ℕ) (ends : List AppEnd) → Ok text ≡ outcome_of (telling told) → told.text ≡ front ++ app_lines ends → text ≡ front ++ app_lines ends
told_text told text front ends is told_is = let e : text ≡ told.text = cc in e ∙ told_is

prepared_text : {address : List ℕ} (pod : PodId) (a b : Inside) (answer : Answer) (text : List ℕ) → Ok text ≡ outcome_of answer → RunPreparedSays pod address a b answer → (ends : List AppEnd) × (text ≡ app_lines ends)
prepared_text pod a b (Err r) text is says = cc
prepared_text pod a b (Ok told) text is says =
    elim says [ inl x ↦ (x.says.ends, told_text told text [] x.says.ends is (ap (λ (t : Told). t.text) x.says.is)) | inr x ↦ let clash : telling told ≡ Err (claim_refusal pod x.error) = x.is in cc ]

made_text : {address : List ℕ} (wants : Wants) (now : ℕ) (draw : Draw) (a b : Inside) (answer : Answer) (text : List ℕ) → Ok text ≡ outcome_of answer → RunIsTold wants address now draw a b answer → (ends : List AppEnd) × (text ≡ pod_line draw.uuid ++ app_lines ends)
made_text wants now draw a b (Err r) text is says = cc
made_text {address = address} wants now draw a b (Ok told) text is says = by says
  where
    by : NewRunSays a.observed a.spawner.observed wants address now draw a.dir b.dir a.spawner.shown b.spawner.shown (telling told) → (ends : List AppEnd) × (text ≡ pod_line draw.uuid ++ app_lines ends)
    by (inl x) = (x.says.ends, told_text told text (pod_line draw.uuid) x.says.ends is (ap (λ (t : Told). t.text) x.says.is))
    by (inr (inl x)) = let clash : telling told ≡ Err x.is.0 = x.is.1 in cc
    by (inr (inr x)) = let clash : telling told ≡ Err NoMemory = x.is in cc

pub run_prepared_printed : (word : List ℕ) {address : List ℕ} (pod : PodId) (now : ℕ) (draw : Draw) (intent : Intent) (a b : Inside) (answer : Answer) (text : List ℕ) → Ok text ≡ outcome_of answer → AppsToldBetween (RunPrepared word pod address) now draw (Some intent) a b answer → (ends : List AppEnd) × (text ≡ app_lines ends)
run_prepared_printed word pod now draw intent a b answer text is (inl x) = prepared_text pod (inside a.observed x.begun a.spawner) (inside a.observed x.ended b.spawner) answer text is x.came
run_prepared_printed word pod now draw intent a b answer text is (inr x) = let clash : Ok text ≡ Err NoMemory = is ∙ ap outcome_of x.0 in cc

pub run_printed : {address : List ℕ} (wants : Wants) (now : ℕ) (draw : Draw) (intent : Intent) (a b : Inside) (answer : Answer) (text : List ℕ) → Ok text ≡ outcome_of answer → AppsToldBetween (Run wants address) now draw (Some intent) a b answer →
    (ends : List AppEnd) × (text ≡ pod_line draw.uuid ++ app_lines ends)
run_printed wants now draw intent a b answer text is (inl x) = made_text wants now draw (inside a.observed x.begun a.spawner) (inside a.observed x.ended b.spawner) answer text is x.came
run_printed wants now draw intent a b answer text is (inr x) = let clash : Ok text ≡ Err NoMemory = is ∙ ap outcome_of x.0 in cc

-- no run has the plain status 16
never_sixteen : (task : Task) (now : ℕ) (draw : Draw) (old new : Moment) (plain : ℕ) {X : Type 0} → RunsTaskOrNothing task now draw old new plain → plain ≡ 16 → X
never_sixteen task now draw old new plain (inr n) is = absurd_number 14 16 (sym n.is ∙ is) refl
never_sixteen task now draw old new plain {X} (inl r) is = by r.end (sym r.is ∙ is)
  where
    second : (a b : Bool) → (a || b) ≡ false → b ≡ false
    second false b h = h
    second true b h = cc

    by : (end : End) → end_status end ≡ 16 → X
    by (Ok done) e = absurd_number 0 16 e refl
    by (Err q) e = absurd_number (exit_status_of q) 16 e (second (exit_status_of q == 0) (exit_status_of q == 16) (refusal_plain q))

-- what a command told that starts apps
module _ (line : Task) (now : ℕ) (draw : Draw) (old new : Moment) where
  abbrev Tells : ℕ → Type 0
  Tells status = TellsApps (AppsToldBetween line now draw (intent_of line now draw) (inside_in old) (inside_in new)) status old new

  abbrev Comes : Answer → Type 0
  Comes answer = AppsToldBetween line now draw (intent_of line now draw) (inside_in old) (inside_in new) answer

  -- the writing ended so: where it is Ok, it says whether all is well
  abbrev Writing : Type 0
  Writing = Result Bool Refusal

  told_so : (told : Told) (end : Writing) → IfOk end (λ well. well ≡ told.well) → Comes (Ok told) → Printed (Ok told.text) old.out new.out (end_of_writing end) → Tells (status_at end)
  told_so told (Ok true) well came printed = inl (told, ap well_status well, came, written told printed)
    where
      written : (told : Told) → Printed (Ok told.text) old.out new.out (Ok tt) → old.out.observed ≡ true → new.out.bytes ≡ old.out.bytes ++ told.text
      written told printed t = let d = printed.done refl in let e : Ok told.text ≡ Ok d.0 = d.1 in let same : d.0 ≡ told.text = cc in d.2 t ∙ ap (λ (x : List ℕ). old.out.bytes ++ x) same
  told_so told (Ok false) well came printed = inl (told, ap well_status well, came, written told printed)
    where
      written : (told : Told) → Printed (Ok told.text) old.out new.out (Ok tt) → old.out.observed ≡ true → new.out.bytes ≡ old.out.bytes ++ told.text
      written told printed t = let d = printed.done refl in let e : Ok told.text ≡ Ok d.0 = d.1 in let same : d.0 ≡ told.text = cc in d.2 t ∙ ap (λ (x : List ℕ). old.out.bytes ++ x) same
  told_so told (Err q) well came printed = by (printed.cause told.text refl)
    where
      by : Unwritten q old.out new.out → Tells (exit_status_of q)
      by (inl x) = inr (inl (told, inl (ap exit_status_of x.0), came))
      by (inr x) = inr (inl (told, inr (ap exit_status_of x.0), came))

  refused_so : (q : Refusal) (end : Writing) → Comes (Err q) → Printed (Err q) old.out new.out (end_of_writing end) → Reported (end_of_writing end) old.err new.err → Tells (status_at end)
  refused_so q (Ok true) came printed reported = let e : ◌≡◌ {A = End} (Ok tt) (Err q) = printed.refused.0 in cc
  refused_so q (Ok false) came printed reported = let e : ◌≡◌ {A = End} (Ok tt) (Err q) = printed.refused.0 in cc
  refused_so q (Err other) came printed reported =
      let e : ◌≡◌ {A = End} (Err other) (Err q) = printed.refused.0 in
      let same : other ≡ q = cc in
      inr (inr (inl (q, ap exit_status_of same, came, subst (λ (x : Refusal). Complained x old.err new.err) same reported)))

  line_so : (answer : Answer) (end : Writing) → IfOk end (λ well. well ≡ is_well answer) → Comes answer → Printed (outcome_of answer) old.out new.out (end_of_writing end) → Reported (end_of_writing end) old.err new.err → Tells (status_at end)
  line_so (Ok told) end well came printed reported = told_so told end well came printed
  line_so (Err q) end well came printed reported = refused_so q end came printed reported

-- why the spawner's count rose
pub spawns : (answer : Answer) → outcome_of answer ≡ Err SpawnFault → IsErrOf answer SpawnFault
spawns (Ok told) is = cc
spawns (Err r) is = let same : r ≡ SpawnFault = cc in subst (λ (x : Refusal). IsErrOf {T = Told} (Err x) SpawnFault) (sym same) refl

abbrev Apps : Task → ℕ → Draw → Moment → Moment → ℕ → Type 0
Apps l now draw old new status = AppsIn l now draw status old new

-- the status that a writing ends with, which is 16 only where apps ran
graded_end : (runs : Bool) (answer : Answer) (end : Result Bool Refusal) → (runs ≡ false → is_well answer ≡ true) → IfOk end (λ well. well ≡ is_well answer) → (status_at end ≡ end_status (end_of_writing end)) ⊎ ((status_at end ≡ 16) × (end_status (end_of_writing end) ≡ 0) × (runs ≡ true))
graded_end runs answer (Ok true) only well = inl refl
graded_end true answer (Ok false) only well = inr (refl, refl, refl)
graded_end false answer (Ok false) only well = let clash : false ≡ true = well ∙ only refl in cc
graded_end runs answer (Err q) only well = inl refl

-- a run of a line
pub line_is : (line : Task) (now : ℕ) (draw : Draw) (old new : Moment) (answer : Answer) (end : Result Bool Refusal) (status : ℕ) → status ≡ status_at end → IfOk end (λ well. well ≡ is_well answer)
    → RunOfLine line now draw (intent_of line now draw) old new (end_status (end_of_writing end)) → AppsToldBetween line now draw (intent_of line now draw) (inside_in old) (inside_in new) answer
    → Printed (outcome_of answer) old.out new.out (end_of_writing end) → Reported (end_of_writing end) old.err new.err → IsRunOfTask line now draw old new status
line_is line now draw old new answer end status is well r came printed reported = record {
  plain = end_status (end_of_writing end);
  ran = inl r;
  is = elim graded [ inl e ↦ inl (is ∙ e) | inr x ↦ inr (is ∙ x.0, x.1, x.2) ];
  apps = subst (λ (n : ℕ). Apps line now draw old new n) (sym is) (by line r came);
}
  where
    graded : (status_at end ≡ end_status (end_of_writing end)) ⊎ ((status_at end ≡ 16) × (end_status (end_of_writing end) ≡ 0) × (runs_apps line ≡ true))
    graded = graded_end (runs_apps line) answer end (λ none. unhurt_line line now draw (intent_of line now draw) (inside_in old) (inside_in new) answer none came) well

    never : (k : Task) → runs_apps k ≡ false → RunOfLine k now draw (intent_of k now draw) old new (end_status (end_of_writing end)) → AppsToldBetween k now draw (intent_of k now draw) (inside_in old) (inside_in new) answer → status_at end ≢ 16
    never k none r came sixteen =
        let plain : end_status (end_of_writing end) ≡ 16 = elim (graded_end (runs_apps k) answer end (λ none. unhurt_line k now draw (intent_of k now draw) (inside_in old) (inside_in new) answer none came) well) [ inl e ↦ sym e ∙ sixteen | inr x ↦ let clash : false ≡ true = sym none ∙ x.2 in cc ] in
        never_sixteen k now draw old new (end_status (end_of_writing end)) (inl r) plain

    by : (k : Task) → RunOfLine k now draw (intent_of k now draw) old new (end_status (end_of_writing end)) → AppsToldBetween k now draw (intent_of k now draw) (inside_in old) (inside_in new) answer → Apps k now draw old new (status_at end)
    by (RunPrepared word pod address) r came = line_so (RunPrepared word pod address) now draw old new answer end well came printed reported
    by (Run wants address) r came = line_so (Run wants address) now draw old new answer end well came printed reported
    by k r came = never k refl r came
