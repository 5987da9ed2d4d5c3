-- Where nobody else steps: what a run of apps comes to, and that it leaves each folder where it was, but its pod's.
use Rattle.std.proofs.Common.{◌≡◌, ◌⊎◌, inl, inr, ℕ, Bool, true, Some, List, [], Ok, Err, refl, sym, subst, ◌∙◌}
use Rattle.dir_model.specs.declared.area.Area.TheVariants as area
use Rattle.dir_model.specs.declared.intent.Draw.{Draw}
use Rattle.dir_model.specs.declared.intent.Intent.{Intent}
use Rattle.dir_model.specs.declared.intent.Kind.TheVariants as kind
use Rattle.dir_model.specs.declared.pod.PodId.{PodId}
use Rattle.dir_model.specs.declared.request.Request.{Request}
use Rattle.dir_model.specs.declared.request.Request.TheVariants.{Begin, Finish}
use Rattle.dir_model.specs.declared.request.Reply.TheVariants.{Done}
use Rattle.dir_model.specs.Calls.{CallStep, Extends, is_begin, is_finish}
use Rattle.dir_model.specs.Quiet.{Quiet, OwnsNothing}
use Rattle.dir_model.specs.Trace.{state_after}
use Rattle.dir_model.proofs.Chains.{and_more, extends_wider, step_extends}
use Rattle.dir_model.proofs.Lists.{or_last}
use Rattle.dir_trait.specs.Knowledge.{Knows}
use Rattle.pod_locks.specs.declared.claim_error.ClaimError.{ClaimError}
use Rattle.pod_locks.specs.Work.{Grew}
use Rattle.command_outcomes.specs.declared.refusal.Refusal.{Refusal}
use Rattle.command_outcomes.specs.declared.refusal.Refusal.TheVariants.{NoMemory}
use Rattle.command_outcomes.specs.declared.told.Told.{Told}
use Rattle.command_outcomes.specs.Conforming.{seen_at_begin as just_begun}
use Rattle.command_outcomes.specs.Moments.{Inside, Answer, CommandOutcome, outcome_of}
use Rattle.commands.specs.RunRefusals.{claim_refusal}
use Rattle.lifecycle.specs.Executions.{IsConforming}
use Rattle.pod_build.specs.Preparations.{Began}
use Rattle.pod_build.specs.Progress.{seen_making, nothing_made}
use Rattle.commands.specs.AppsTold.{WithinProcess}
use Rattle.commands.specs.RunPrepared.{runs_prepared, ClaimsAndRuns, IsUnclaimed, RunPreparedSays}
use Rattle.commands.specs.Run.{makes_and_runs, MakesAndRuns, NewRunSays, RunIsTold}
use Rattle.commands.specs.Prepare.{pod_line}
use Rattle.commands.specs.RunQuiet.{HasPassed, HasMadeAndLeft, TellsItsEnds, UnclaimedFor, IsUnmadeFor, held_before, entries_made}
use Rattle.commands.specs.RunTable.{IsRefusedFor, RunsAll, StoppedFor}
use Rattle.commands.proofs.Claimed.{may_begin}
use Rattle.commands.proofs.EndsQuiet.{unborn_before}
use Rattle.commands.proofs.ClaimBefore.{RefusedClaim}
use Rattle.commands.proofs.NewRunQuiet.{MadeUntil}
use Rattle.commands.proofs.RunRefused.{WasStopped, same_refusal, claimed_refusal, made_refusal, unmade_refusal}
use Rattle.commands.proofs.RanQuietly.{run_prepared_passed, run_prepared_unclaimed, run_prepared_ends, run_prepared_stopped, run_made_left, run_ends, run_stopped}
use Rattle.commands.proofs.OwnSteps.{in_process, asks_in_process, lists_in_process}
use Rattle.rkt_cli.specs.Tasks.{Task}
use Rattle.rkt_cli.specs.Tasks.{RunPrepared, Run}
use Rattle.commands.specs.Command.{intent_for}
use Rattle.commands.specs.RunCommand.{LeavesMade}
use Rattle.commands.specs.RunPreparedCommand.{PassesQuietly}
use Rattle.rkt_cli.specs.Commands.{runs_apps, intent_of}
use Rattle.rkt_cli.specs.Spawns.{AppsToldBetween}
use Rattle.commands.specs.Wants.{Wants}
use Rattle.commands.specs.Opening.{Approach, directly, approach_of, looks_by, Opens}
use Rattle.commands.proofs.Starts.{look_lists, open_extends, opening_extends}

-- what is told of a run of apps where nobody else steps, by what came between its begin and its finish
abbrev Passed : PodId → Inside → Inside → ℕ → Type 0
Passed pod a b p = HasPassed pod p a.dir.trace b.dir.trace

abbrev ToldEnds : PodId → List ℕ → Inside → Inside → List ℕ → ℕ → Type 0
ToldEnds pod address a b text p =
    (x : Passed pod a b p) × (y : TellsItsEnds pod [] b.dir.trace text) × (IsConforming b.dir.trace → RunsAll pod address (held_before x) y.ends a.spawner b.spawner)

abbrev ToldWhy : PodId → List ℕ → Inside → Inside → Refusal → ℕ → Type 0
ToldWhy pod address a b r p = (x : Passed pod a b p) × IsRefusedFor pod r b.dir.trace (λ error. StoppedFor pod address (held_before x) error a.spawner b.spawner)

of_stopped : (pod : PodId) (address : List ℕ) (a b : Inside) (r : Refusal) → (r ≡ NoMemory) ⊎ ToldWhy pod address a b r a.dir.process → PassesQuietly pod address a b (Err r)
of_stopped pod address a b NoMemory why = tt
of_stopped pod address a b r (inl is) = cc
of_stopped pod address a b r (inr why) = inl why

of_refused : (pod : PodId) (address : List ℕ) (a b : Inside) (r : Refusal) (error : ClaimError) → r ≡ claim_refusal pod error → UnclaimedFor pod error a.dir.process a.dir.trace b.dir.trace → PassesQuietly pod address a b (Err r)
of_refused pod address a b NoMemory error is u = tt
of_refused pod address a b r error is u = inr (error, is, u)

module _ {approach : Approach} {asks : Request → Bool} {P : Inside → Inside → Type 0} {intent : Intent} {a b : Inside} (x : WithinProcess approach asks P intent a b) (t : a.observed ≡ true) where
  abbrev me : ℕ
  me = a.dir.process

  begin_ext : (asked : Request → Bool) → asked (Begin intent) ≡ true → ((r : Request) → looks_by approach r ≡ true → asked r ≡ true) → Extends asked me a.dir.trace x.begun.trace
  begin_ext asked is wider = opening_extends is wider (x.begins t)

  act_ext : Extends asks me x.begun.trace x.ended.trace
  act_ext = subst (λ (p : ℕ). Extends asks p x.begun.trace x.ended.trace) x.me (x.extends t)

  finish_call : CallStep me x.ended.trace Finish Done b.dir.trace
  finish_call = subst (λ (p : ℕ). CallStep p x.ended.trace Finish Done b.dir.trace) (x.same ∙ x.me) (x.finishes t)

  pub finish_ext : (asked : Request → Bool) → asked Finish ≡ true → Extends asked me x.ended.trace b.dir.trace
  finish_ext asked is = step_extends asked me x.ended.trace Finish Done b.dir.trace is finish_call

  whole_ext : Extends (in_process asks) me a.dir.trace b.dir.trace
  whole_ext = and_more (and_more (begin_ext (in_process asks) refl (λ r h. lists_in_process asks r (look_lists approach r h))) refl (extends_wider (asks_in_process asks) act_ext)) refl (finish_ext (in_process asks) (or_last (asks Finish) true refl))

  -- between the two moments
  pub me_is : me ≡ x.begun.process
  me_is = sym x.me

  ext : Extends (in_process asks) x.begun.process a.dir.trace b.dir.trace
  ext = subst (λ (p : ℕ). Extends (in_process asks) p a.dir.trace b.dir.trace) me_is whole_ext

  alone : Quiet me a.dir.trace b.dir.trace → Quiet x.begun.process a.dir.trace b.dir.trace
  alone q = subst (λ (p : ℕ). Quiet p a.dir.trace b.dir.trace) me_is q

  pub first : Grew a.dir.trace x.begun.trace
  first = let e = begin_ext (λ r. true) refl (λ r h. refl) in record { more = e.more; grown = e.grown }

  begin_there : Opens approach intent x.begun.process a.dir.trace x.begun.trace
  begin_there = subst (λ (p : ℕ). Opens approach intent p a.dir.trace x.begun.trace) me_is (x.begins t)

  finish : CallStep x.begun.process x.ended.trace Finish Done b.dir.trace
  finish = subst (λ (p : ℕ). CallStep p x.ended.trace Finish Done b.dir.trace) me_is finish_call

module _ (word address : List ℕ) (pod : PodId) (now : ℕ) (draw : Draw) (a b : Inside) (answer : Answer) (t : a.observed ≡ true) (quiet : Quiet a.dir.process a.dir.trace b.dir.trace) (idle : OwnsNothing a.dir.process (state_after a.dir.trace).namespace) where
  abbrev its_intent : Intent
  its_intent = intent_for kind.RunPrepared word now draw

  abbrev CameIn : Answer → Type 0
  CameIn z = WithinProcess (approach_of word) (runs_prepared pod) (λ p q. RunPreparedSays pod address p q z) its_intent a b

  module _ {z : Answer} (x : CameIn z) where
    abbrev its_own : a.dir.process ≡ x.begun.process
    its_own = me_is x t

    abbrev Ran : Type 0
    Ran = ClaimsAndRuns a.observed a.spawner.observed pod address x.begun x.ended a.spawner.shown b.spawner.shown z

    has_passed : Ran → HasPassed pod x.begun.process a.dir.trace b.dir.trace
    has_passed c =
        run_prepared_passed a.observed a.spawner.observed pod address x.begun x.ended a.spawner.shown b.spawner.shown z t a.dir.trace b.dir.trace (ext x t) (alone x t quiet)
        (first x t) (finish x t) c (c.then t)

    refused_claim : RefusedClaim pod x.begun.process a.dir.trace x.begun.trace x.ended.trace b.dir.trace
    refused_claim =
        subst (λ (p : ℕ). RefusedClaim pod p a.dir.trace x.begun.trace x.ended.trace b.dir.trace) its_own
        (record { begins = open_extends (x.begins t); works = act_ext x t; finishes = finish_ext x t is_finish refl; whole = whole_ext x t; quiet = quiet })

    unclaimed : (c : IsUnclaimed a.observed pod x.begun x.ended a.spawner.shown b.spawner.shown z) → PassesQuietly pod address a b (outcome_of z)
    unclaimed c =
        let u = run_prepared_unclaimed a.observed a.spawner.observed pod address x.begun x.ended a.spawner.shown b.spawner.shown z t a.dir.trace b.dir.trace refused_claim
        (subst (λ (p : ℕ). OwnsNothing p (state_after a.dir.trace).namespace) its_own idle)
        (just_begun its_intent, x.knows t, may_begin its_intent refl) c in
        subst (λ (w : Answer). PassesQuietly pod address a b (outcome_of w)) (sym c.is)
        (of_refused pod address a b (claim_refusal pod c.error) c.error refl (subst (λ (p : ℕ). UnclaimedFor pod c.error p a.dir.trace b.dir.trace) (sym its_own) u))

  passed_told : (told : Told) (x : CameIn (Ok told)) → Ran x → PassesQuietly pod address a b (Ok told.text)
  passed_told told x c =
      let h = has_passed x c in
      let r = run_prepared_ends a.observed a.spawner b.spawner x.begun x.ended t a.dir.trace b.dir.trace (alone x t quiet)
      (approach_of word) its_intent (begin_there x t) x.same (first x t) (finish x t)
      pod address (ext x t) h told c in
      subst (ToldEnds pod address a b told.text) (sym (its_own x)) (h, r.0, r.1)

  passed_stopped : (r : Refusal) (x : CameIn (Err r)) → Ran x → PassesQuietly pod address a b (Err r)
  passed_stopped r x c = of_stopped pod address a b r (by (claimed_refusal a.spawner b.spawner r c))
    where
      by : (r ≡ NoMemory) ⊎ WasStopped a.observed pod address r c.claimed x.ended a.spawner b.spawner → (r ≡ NoMemory) ⊎ ToldWhy pod address a b r a.dir.process
      by (inl is) = inl is
      by (inr w) =
          let h = has_passed x c in
          let why = run_prepared_stopped a.observed a.spawner b.spawner x.begun x.ended t a.dir.trace b.dir.trace (alone x t quiet)
          (approach_of word) its_intent (begin_there x t) x.same (first x t) (finish x t)
          pod address (ext x t) h c r w in
          inr (subst (ToldWhy pod address a b r) (sym (its_own x)) (h, why))

  passed_in : (z : Answer) → CameIn z → PassesQuietly pod address a b (outcome_of z)
  passed_in (Ok told) x = by x.came
    where
      by : Ran x ⊎ IsUnclaimed a.observed pod x.begun x.ended a.spawner.shown b.spawner.shown (Ok told) → PassesQuietly pod address a b (Ok told.text)
      by (inl c) = passed_told told x c
      by (inr c) = unclaimed x c
  passed_in (Err r) x = by x.came
    where
      by : Ran x ⊎ IsUnclaimed a.observed pod x.begun x.ended a.spawner.shown b.spawner.shown (Err r) → PassesQuietly pod address a b (Err r)
      by (inl c) = passed_stopped r x c
      by (inr c) = unclaimed x c

  pub passes : AppsToldBetween (RunPrepared word pod address) now draw (Some its_intent) a b answer → PassesQuietly pod address a b (outcome_of answer)
  passes (inl x) = passed_in answer x
  passes (inr x) = subst (λ (z : Answer). PassesQuietly pod address a b (outcome_of z)) (sym x.0) tt

-- an answer isn't both
ok_not_err : {X : Type 0} (told : Told) (r : Refusal) → ◌≡◌ {A = Answer} (Ok told) (Err r) → X
ok_not_err told r is = cc

module _ (address : List ℕ) (wants : Wants) (now : ℕ) (draw : Draw) (a b : Inside) (t : a.observed ≡ true) (quiet : Quiet a.dir.process a.dir.trace b.dir.trace) where
  abbrev new_intent : Intent
  new_intent = intent_for kind.Run [] now draw

  abbrev MadeIn : Answer → Type 0
  MadeIn answer = WithinProcess directly (makes_and_runs draw.uuid) (λ p q. RunIsTold wants address now draw p q answer) new_intent a b

  -- the pod of a run, whatever came of it
  module _ {answer : Answer} (x : MadeIn answer) where
    abbrev mine : a.dir.process ≡ x.begun.process
    mine = me_is x t

    began : Began area.Run draw now new_intent
    began = record { leads = refl; drawn = refl; token = refl; moment = refl }

    knows : Knows x.begun (seen_making new_intent [] nothing_made)
    knows = let k = x.knows t in record { tied = k.tied; handles = k.handles }

    made_until : (m : MakesAndRuns a.observed a.spawner.observed wants address now draw x.begun x.ended a.spawner.shown b.spawner.shown answer) → IsConforming b.dir.trace → MadeUntil wants x.begun.process draw.uuid a.dir.trace m.made.trace b.dir.trace
    made_until m conforming =
        run_made_left a.observed a.spawner.observed wants address now draw x.begun x.ended a.spawner.shown b.spawner.shown answer t a.dir.trace b.dir.trace (ext x t) (alone x t quiet)
        (first x t) (finish x t)
        (unborn_before new_intent (begin_there x t).begins) new_intent began knows m (m.then t) conforming

    begins : Extends is_begin a.dir.process a.dir.trace x.begun.trace
    begins = begin_ext x t is_begin refl (λ r h. cc)

    ends : Extends is_finish a.dir.process x.ended.trace b.dir.trace
    ends = finish_ext x t is_finish refl

  abbrev MadeEnds : List ℕ → ℕ → Type 0
  MadeEnds text p =
      (x : HasMadeAndLeft wants p draw.uuid a.dir.trace b.dir.trace) × (y : TellsItsEnds draw.uuid (pod_line draw.uuid) b.dir.trace text) × RunsAll draw.uuid address (entries_made x.2.0) y.ends a.spawner b.spawner

  abbrev MadeWhy : Refusal → ℕ → Type 0
  MadeWhy r p = IsRefusedFor draw.uuid r b.dir.trace (λ error. (x : HasMadeAndLeft wants p draw.uuid a.dir.trace b.dir.trace) × StoppedFor draw.uuid address (entries_made x.2.0) error a.spawner b.spawner)

  made_in : (told : Told) → MadeIn (Ok told) → LeavesMade wants address now draw a b (Ok told.text)
  made_in told x = by x.came
    where
      by : NewRunSays a.observed a.spawner.observed wants address now draw x.begun x.ended a.spawner.shown b.spawner.shown (Ok told) → LeavesMade wants address now draw a b (Ok told.text)
      by (inl m) conforming =
          let h = made_until x m conforming in
          let r = run_ends a.observed a.spawner b.spawner x.begun x.ended t a.dir.trace b.dir.trace (alone x t quiet)
          directly new_intent (begin_there x t) x.same (first x t) (finish x t)
          wants address now draw (ext x t) told m h conforming in
          subst (MadeEnds told.text) (sym (mine x)) (h.0, r.0, r.1)
      by (inr (inl u)) conforming = ok_not_err told u.is.0 u.is.1
      by (inr (inr u)) conforming = ok_not_err told NoMemory u.is

  -- why it was refused
  abbrev IsWhy : Refusal → Type 0
  IsWhy r = MadeWhy r a.dir.process ⊎ IsUnmadeFor a.observed wants now draw a.dir b.dir r

  of_why : (r : Refusal) → (r ≡ NoMemory) ⊎ IsWhy r → LeavesMade wants address now draw a b (Err r)
  of_why NoMemory why = tt
  of_why r (inl is) = cc
  of_why r (inr why) = why

  refused_in : (r : Refusal) → MadeIn (Err r) → (r ≡ NoMemory) ⊎ IsWhy r
  refused_in r x = by x.came
    where
      ran : (m : MakesAndRuns a.observed a.spawner.observed wants address now draw x.begun x.ended a.spawner.shown b.spawner.shown (Err r)) → (r ≡ NoMemory) ⊎ WasStopped a.observed draw.uuid address r m.made x.ended a.spawner b.spawner → (r ≡ NoMemory) ⊎ IsWhy r
      ran m (inl is) = inl is
      ran m (inr w) =
          inr (inl (subst (MadeWhy r) (sym (mine x))
          (run_stopped a.observed a.spawner b.spawner x.begun x.ended t a.dir.trace b.dir.trace (alone x t quiet)
          directly new_intent (begin_there x t) x.same (first x t) (finish x t)
          wants address now draw (ext x t) m r (made_until x m) w)))

      by : NewRunSays a.observed a.spawner.observed wants address now draw x.begun x.ended a.spawner.shown b.spawner.shown (Err r) → (r ≡ NoMemory) ⊎ IsWhy r
      by (inl m) = ran m (made_refusal a.spawner b.spawner r m)
      by (inr (inl u)) = elim (unmade_refusal a.dir b.dir t (sym (mine x)) x.same (whole_ext x t) quiet (begins x) (ends x) new_intent (began x) (knows x) r u) [ inl is ↦ inl is | inr why ↦ inr (inr why) ]
      by (inr (inr u)) = inl (same_refusal r NoMemory u.is)

  pub made : (answer : Answer) → AppsToldBetween (Run wants address) now draw (Some new_intent) a b answer → LeavesMade wants address now draw a b (outcome_of answer)
  made (Ok told) (inl x) = made_in told x
  made (Ok told) (inr x) = ok_not_err told NoMemory x.0
  made (Err r) (inl x) = of_why r (refused_in r x)
  made (Err r) (inr x) = of_why r (inl (same_refusal r NoMemory x.0))

-- what a command that starts apps comes to
abbrev pub RunsQuietly : Task → ℕ → Draw → Inside → Inside → CommandOutcome → Type 0
RunsQuietly (RunPrepared word pod address) now draw a b o = PassesQuietly pod address a b o
RunsQuietly (Run wants address) now draw a b o = LeavesMade wants address now draw a b o
RunsQuietly line now draw a b o = Unit {0}

-- of each command
pub runs_quietly : (line : Task) (now : ℕ) (draw : Draw) (a b : Inside) (answer : Answer) → (runs_apps line ≡ true → a.observed ≡ true) → (runs_apps line ≡ true → Quiet a.dir.process a.dir.trace b.dir.trace) →
    (runs_apps line ≡ true → OwnsNothing a.dir.process (state_after a.dir.trace).namespace) → AppsToldBetween line now draw (intent_of line now draw) a b answer → RunsQuietly line now draw a b (outcome_of answer)
runs_quietly (RunPrepared word pod address) now draw a b answer t quiet idle came = passes word address pod now draw a b answer (t refl) (quiet refl) (idle refl) came
runs_quietly (Run wants address) now draw a b answer t quiet idle came = made address wants now draw a b (t refl) (quiet refl) answer came
runs_quietly line now draw a b answer t quiet idle came = tt
