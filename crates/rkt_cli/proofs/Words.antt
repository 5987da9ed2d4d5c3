-- From the run of words to what a caller is told of it.
use Rattle.std.proofs.Common.{◌≡◌, ◌⊎◌, inl, inr, ℕ, Bool, true, ◌||◌, ◌==◌, List, Option, Some, None, Result, Err, refl, sym, ap, subst, ◌∙◌}
use Rattle.dir_model.specs.declared.intent.Draw.{Draw}
use Rattle.dir_model.specs.declared.intent.Intent.{Intent}
use Rattle.dir_model.specs.declared.pod.PodId.{PodId}
use Rattle.dir_model.specs.declared.request.Request.{Request}
use Rattle.dir_model.specs.declared.request.Request.TheVariants.{Begin, Finish}
use Rattle.dir_model.specs.Calls.{Extends, is_begin, is_finish}
use Rattle.dir_model.specs.Trace.{state_after}
use Rattle.dir_model.proofs.Chains.{nothing_yet, step_extends}
use Rattle.dir_model.proofs.Lists.{or_last}
use Rattle.phase_read.specs.declared.found.LookError.{LookError}
use Rattle.phase_read.specs.declared.found.LookError.TheVariants as lookup
use Rattle.pod_lookup.specs.Choice.{IsLookupAnswer}
use Rattle.pod_lookup.specs.Resolved.{IsSequential}
use Rattle.lifecycle.specs.Executions.{IsConforming}
use Rattle.command_outcomes.specs.declared.refusal.Refusal.{Refusal}
use Rattle.command_outcomes.specs.Texts.{exit_status_of}
use Rattle.command_outcomes.specs.Conforming.{KeepsConforming}
use Rattle.command_outcomes.specs.Moments.{Outside, SinkSeen, Moment}
use Rattle.commands.specs.Answers.{IsAnswer}
use Rattle.dir_rules.specs.Conforms.{Conforms}
use Rattle.dir_trait.specs.DirCalls.{DirAt}
use Rattle.rkt_cli.specs.declared.line.Line.{Line}
use Rattle.rkt_cli.specs.declared.line.Line.TheVariants as line
use Rattle.rkt_cli.specs.Commands.{any_task, uses_dir, reads_bundle, intent_in}
use Rattle.rkt_cli.specs.Histories.{StaysLawful}
use Rattle.rkt_cli.specs.Lookups.{RefusedBeforeItsPod, LookedInVain, MeansNone, NeverReachedItsPod, lookup_refusal}
use Rattle.rkt_cli.specs.Promises.{AnswersMeaning, AnswersQuietly, AsksByItsLine, EndsAs, IsEnded, IsOutput, IsOver, IsRunOf, IsExitStatus, IsUndisturbed, Prints, ReadsIn, TellsIn, Undisturbed, Works, WorksAlone, WritesItsText, looks_for, looks_in, opens_in, meaning_in}
use Rattle.rkt_cli.specs.Tasks.{task_of, pod_word_of}
use Rattle.rkt_cli.proofs.Acting.{read_so, same_intent, same_reads, same_runs, same_uses}
use Rattle.rkt_cli.proofs.Conforming.{run_conforms}
use Rattle.rkt_cli.proofs.Ends.{absurd_number, refusal_plain}
use Rattle.rkt_cli.proofs.Lawful.{stays_lawful}
use Rattle.rkt_cli.proofs.Meanings.{its_meaning}
use Rattle.rkt_cli.proofs.Promises as task
use Rattle.rkt_cli.proofs.Promises.{reads_nothing}
use Rattle.rkt_cli.proofs.QuietRun.{quiet}
use Rattle.rkt_cli.proofs.Tellings.{tells}
use Rattle.rkt_cli.proofs.Vain.{never_keeps, never_lawful, vain_extends, vain_meaning, vain_leaves, vain_rose}

-- the refusals of a line that came to nothing
vain_status : (e : LookError) → IsExitStatus (exit_status_of (lookup_refusal e))
vain_status lookup.NoPod = refl
vain_status (lookup.Ambiguous a b) = refl
vain_status lookup.DirFault = refl
vain_status lookup.NoMemory = refl

vain_read : (e : LookError) → exit_status_of (lookup_refusal e) ≡ 1 → ⊥
vain_read lookup.NoPod is = absurd_number 2 1 is refl
vain_read (lookup.Ambiguous a b) is = absurd_number 3 1 is refl
vain_read lookup.DirFault is = absurd_number 9 1 is refl
vain_read lookup.NoMemory is = absurd_number 14 1 is refl

module _ (l : Line) (now : ℕ) (draw : Draw) (old new : Outside) where
  never_status : (r : Refusal) → NeverReachedItsPod l now draw old new r → IsExitStatus (exit_status_of r)
  never_status r (inl x) = subst (λ (q : Refusal). IsExitStatus (exit_status_of q)) (sym x.0) refl
  never_status r (inr (inl x)) = subst (λ (q : Refusal). IsExitStatus (exit_status_of q)) (sym x.2) refl
  never_status r (inr (inr x)) = subst (λ (q : Refusal). IsExitStatus (exit_status_of q)) (sym x.4.vain.is) (vain_status x.4.vain.error)

  never_read : (r : Refusal) → NeverReachedItsPod l now draw old new r → exit_status_of r ≡ 1 → ⊥
  never_read r (inl x) is = absurd_number 14 1 (sym (ap exit_status_of x.0) ∙ is) refl
  never_read r (inr (inl x)) is = absurd_number 14 1 (sym (ap exit_status_of x.2) ∙ is) refl
  never_read r (inr (inr x)) is = vain_read x.4.vain.error (sym (ap exit_status_of x.4.vain.is) ∙ is)

  never_over : (r : Refusal) → NeverReachedItsPod l now draw old new r → EndsAs (intent_in l now draw) (exit_status_of r) old.dir.local new.dir.local
  never_over r (inl x) = by (intent_in l now draw)
    where
      by : (intent : Option Intent) → EndsAs intent (exit_status_of r) old.dir.local new.dir.local
      by None = ap (λ (d : DirAt). d.local) x.1
      by (Some intent) = inr (ap exit_status_of x.0, ap (λ (d : DirAt). d.local) x.1)
  never_over r (inr (inl x)) = subst (λ (i : Option Intent). EndsAs i (exit_status_of r) old.dir.local new.dir.local) (sym x.1) (inr (ap exit_status_of x.2, x.3.local))
  never_over r (inr (inr x)) = subst (λ (i : Option Intent). EndsAs i (exit_status_of r) old.dir.local new.dir.local) (sym x.3) (inl x.4.local)

  -- its requests
  opens_begin : (intent : Intent) → opens_in l (Begin intent) ≡ true
  opens_begin intent = or_last (looks_in l (Begin intent)) _ refl

  never_asks : (r : Refusal) → NeverReachedItsPod l now draw old new r → old.observed ≡ true → Extends (opens_in l) old.dir.process old.dir.trace new.dir.trace
  never_asks r (inl x) t = subst (λ (d : DirAt). Extends (opens_in l) old.dir.process old.dir.trace d.trace) (sym x.1) nothing_yet
  never_asks r (inr (inl x)) t = step_extends (opens_in l) old.dir.process old.dir.trace _ _ new.dir.trace (opens_begin x.0) (x.3.step t)
  never_asks r (inr (inr x)) t = vain_extends x.4 t (opens_in l) (opens_begin x.2) (λ q h. by q (subst (λ (w : Option (List ℕ)). looks_for w q ≡ true) (sym x.1) h)) (or_last (looks_in l Finish) _ refl)
    where
      by : (q : Request) → looks_in l q ≡ true → opens_in l q ≡ true
      by q h = ap (λ b. b || (is_begin q || is_finish q)) h

-- a wider kind of text
wider : {runs : Bool} {P Q : List ℕ → Type 0} {status : ℕ} {old new : List ℕ} → ((text : List ℕ) → P text → Q text) → WritesItsText runs P status old new → WritesItsText runs Q status old new
wider f (inl x) = inl (x.0, x.1, f x.1 x.2, x.3)
wider f (inr (inl x)) = inr (inl (x.0, x.1, f x.1 x.2, x.3))
wider f (inr (inr x)) = inr (inr x)

module _ (now : ℕ) (draw : Draw) (old new : Moment) (status : ℕ) where
  pub statuses : (l : Option Line) → IsRunOf l now draw old new status → IsExitStatus status
  statuses None (inl r) = subst IsExitStatus (sym r.is) refl
  statuses None (inr r) = subst IsExitStatus (sym r.is) refl
  statuses (Some l) (inl x) = task.statuses x.2
  statuses (Some l) (inr n) = subst IsExitStatus (sym n.is) (never_status l now draw old.outside new.outside n.refusal n.why)

  pub usage : (l : Option Line) → IsRunOf l now draw old new status → status ≡ 1 → l ≡ None
  usage None run is = refl
  usage (Some l) (inl x) is = absurd (task.was_read x.2 is)
  usage (Some l) (inr n) is = absurd (never_read l now draw old.outside new.outside n.refusal n.why (sym n.is ∙ is))

  pub unread : (l : Option Line) → IsRunOf l now draw old new status → l ≡ None → (status ≡ 1) ⊎ (status ≡ 14)
  unread None (inl r) none = inl r.is
  unread None (inr r) none = inr r.is
  unread (Some l) run none = cc

  pub ended : (l : Option Line) → IsRunOf l now draw old new status → IsEnded l now draw status old new
  ended None run = run
  ended (Some l) (inl x) = inl (x.0, x.1, task.ended x.2)
  ended (Some l) (inr n) = inr n

  pub told : (l : Option Line) → IsRunOf l now draw old new status → TellsIn l now draw status old new
  told None run = run
  told (Some l) (inl x) = inl (x.0, x.1, tells x.2)
  told (Some l) (inr n) = inr n

  pub asked : (l : Option Line) → IsRunOf l now draw old new status → old.outside.observed ≡ true → AsksByItsLine l now draw old.outside.dir.process old.outside.dir.trace new.outside.dir.trace
  asked None (inl r) t = ap (λ (x : Outside). x.dir.trace) r.outside
  asked None (inr r) t = ap (λ (x : Outside). x.dir.trace) r.outside
  asked (Some l) (inl x) t = inl (x.0, x.1, task.extends x.2 t)
  asked (Some l) (inr n) t = inr (never_asks l now draw old.outside new.outside n.refusal n.why t)

  -- what was written
  pub written : (l : Option Line) → IsRunOf l now draw old new status → old.out.observed ≡ true → IsOutput l draw old.outside.bundle status old.out.bytes new.out.bytes
  written None (inl r) t = inr (inr (ap (λ (n : ℕ). (n == 0) || (n == 16)) r.is, ap (λ (s : SinkSeen). s.bytes) r.out))
  written None (inr r) t = inr (inr (ap (λ (n : ℕ). (n == 0) || (n == 16)) r.is, ap (λ (s : SinkSeen). s.bytes) r.out))
  written (Some l) (inl x) t =
      subst (λ (runs : Bool). WritesItsText runs (Prints (Some l) draw old.outside.bundle) status old.out.bytes new.out.bytes) (same_runs l x.0)
      (wider (λ text printed. (x.0, x.1, printed)) (task.output x.2 t))
  written (Some l) (inr n) t = inr (inr (ap (λ (n : ℕ). (n == 0) || (n == 16)) n.is ∙ refusal_plain n.refusal, ap (λ (s : SinkSeen). s.bytes) n.out))

  pub over : (l : Option Line) → IsRunOf l now draw old new status → IsOver l now draw status old.outside.dir.local new.outside.dir.local
  over None (inl r) = ap (λ (x : Outside). x.dir.local) r.outside
  over None (inr r) = ap (λ (x : Outside). x.dir.local) r.outside
  over (Some l) (inl x) = subst (λ (i : Option Intent). EndsAs i status old.outside.dir.local new.outside.dir.local) (same_intent l x.0 now draw) (task.over x.2)
  over (Some l) (inr n) = subst (λ (s : ℕ). EndsAs (intent_in l now draw) s old.outside.dir.local new.outside.dir.local) (sym n.is) (never_over l now draw old.outside new.outside n.refusal n.why)

  pub reads : (l : Option Line) → IsRunOf l now draw old new status → ReadsIn l old.outside.bundle new.outside.bundle
  reads None (inl r) = ap (λ (x : Outside). x.bundle) r.outside
  reads None (inr r) = ap (λ (x : Outside). x.bundle) r.outside
  reads (Some l) (inl x) = read_so l x.0 old.outside.bundle new.outside.bundle (task.reads x.2)
  reads (Some l) (inr n) = reads_nothing (any_task l) old.outside.bundle new.outside.bundle n.bundle

  pub conforms : (l : Option Line) → IsRunOf l now draw old new status → old.outside.observed ≡ true → KeepsConforming old.outside.dir new.outside.dir
  conforms None (inl r) t before = subst (λ (x : Outside). Conforms old.outside.dir.process x.dir.trace) (sym r.outside) before
  conforms None (inr r) t before = subst (λ (x : Outside). Conforms old.outside.dir.process x.dir.trace) (sym r.outside) before
  conforms (Some l) (inl x) t before = run_conforms x.2 t before
  conforms (Some l) (inr n) t before = never_keeps l now draw n.why t before

  pub lawful : (l : Option Line) → IsRunOf l now draw old new status → old.outside.observed ≡ true → StaysLawful draw old.outside.dir new.outside.dir
  lawful None (inl r) t quiet conforming fresh = subst (λ (x : Outside). IsConforming x.dir.trace) (sym r.outside) conforming
  lawful None (inr r) t quiet conforming fresh = subst (λ (x : Outside). IsConforming x.dir.trace) (sym r.outside) conforming
  lawful (Some l) (inl x) t quiet conforming fresh = stays_lawful x.2 t quiet conforming fresh
  lawful (Some l) (inr n) t quiet conforming fresh = never_lawful l now draw n.why t quiet conforming fresh

-- where nobody else steps and nothing fails
undisturbed : (l : Line) (pod : PodId) (old new : Outside) → IsUndisturbed (Some l) old new → Undisturbed (task_of l pod) old new
undisturbed l pod old new u =
    subst (λ (b : Bool). WorksAlone (uses_dir (task_of l pod)) b old new) (sym (same_reads l pod))
    (subst (λ (b : Bool). WorksAlone b (reads_bundle (any_task l)) old new) (sym (same_uses l pod)) u)

module _ (l : Line) (now : ℕ) (draw : Draw) (old new : Moment) (status : ℕ) where
  abbrev Means : Result PodId LookError → Type 0
  Means m = (status ≡ 14) ⊎ AnswersMeaning l now draw m status old new

  abbrev meaning : Result PodId LookError
  meaning = meaning_in (state_after old.outside.dir.trace) (pod_word_of l) draw

  -- a line with a word works on the directory
  word_uses : (word : List ℕ) → pod_word_of l ≡ Some word → uses_dir (any_task l) ≡ true
  word_uses word is = by l is
    where
      by : (k : Line) → pod_word_of k ≡ Some word → uses_dir (any_task k) ≡ true
      by (line.Status w) h = refl
      by (line.CatManifest w) h = refl
      by (line.RunPrepared w a) h = refl
      by (line.Rm w) h = refl
      by k h = cc

  vain_answer : (n : RefusedBeforeItsPod l now draw old new status) (word : List ℕ) (intent : Intent) → pod_word_of l ≡ Some word → (v : LookedInVain old.outside.observed word intent old.outside.dir new.outside.dir n.refusal) → IsUndisturbed (Some l) old.outside new.outside → Means meaning
  vain_answer n word intent is v u = by v.vain.error v.vain.is v.vain.why (v.vain.quiet t)
    where
      uses : uses_dir (any_task l) ≡ true
      uses = word_uses word is

      t : old.outside.observed ≡ true
      t = u.observed uses

      -- so it was answered, and so left
      means : (e : LookError) → n.refusal ≡ lookup_refusal e → IsSequential word (Err e) v.begun v.looked → Means meaning
      means e same told =
          let answer : IsAnswer (Err (lookup_refusal e)) status old new = subst (λ (r : Refusal). IsAnswer (Err r) status old new) same (n.is, λ t. ap (λ (s : SinkSeen). s.bytes) n.out, n.said) in
          let m : meaning ≡ Err e = ap (λ (w : Option (List ℕ)). meaning_in (state_after old.outside.dir.trace) w draw) is ∙ vain_meaning v t (u.alone uses) e told in
          inr (subst (λ (x : Result PodId LookError). AnswersMeaning l now draw x status old new) (sym m) (answer, vain_leaves v t (u.alone uses)))

      by : (e : LookError) → n.refusal ≡ lookup_refusal e → MeansNone old.outside.observed word e v.begun v.looked → (IsLookupAnswer (Err e) → IsSequential word (Err e) v.begun v.looked) → Means meaning
      by lookup.NoMemory same why told = inl (n.is ∙ ap exit_status_of same)
      by lookup.DirFault same why told = absurd (u.works uses (vain_rose v why))
      by lookup.NoPod same why told = means lookup.NoPod same (told tt)
      by (lookup.Ambiguous a b) same why told = means (lookup.Ambiguous a b) same (told tt)

  pub answered : IsRunOf (Some l) now draw old new status → IsUndisturbed (Some l) old.outside new.outside → Works old.out new.out → Means meaning
  answered (inr n) u works = by n.why
    where
      by : NeverReachedItsPod l now draw old.outside new.outside n.refusal → Means meaning
      by (inl x) = inl (n.is ∙ ap exit_status_of x.0)
      by (inr (inl x)) = inl (n.is ∙ ap exit_status_of x.2)
      by (inr (inr x)) = vain_answer n x.0 x.2 x.1 x.4 u
  answered (inl x) u works =
      let its = undisturbed l x.0 old.outside new.outside u in
      elim (its_meaning l x.0 x.1 x.2 its) [
        | inl e ↦ inl e
        | inr m ↦ elim (quiet x.2 its works) [ inl e ↦ inl e | inr a ↦ inr (subst (λ (r : Result PodId LookError). AnswersMeaning l now draw r status old new) (sym m) a) ]
      ]

module _ (now : ℕ) (draw : Draw) (old new : Moment) (status : ℕ) where
  pub quietly : (l : Option Line) → IsRunOf l now draw old new status → AnswersQuietly l now draw status old new
  quietly None run u works = run
  quietly (Some l) run u works = answered l now draw old new status run u works
