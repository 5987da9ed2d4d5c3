-- A removal that nothing hinders is done, or something failed; and a pod that is free is claimed, unless something fails.
use Rattle.std.proofs.Common.{◌≡◌, ◌⊎◌, inl, inr, ℕ, true, false, Some, List, [], ◌∷◌, ◌++◌, Ok, Err, refl, sym, ap, subst, ◌∙◌, append_assoc}
use Rattle.dir_model.specs.declared.intent.Draw.{Draw}
use Rattle.dir_model.specs.declared.event.Event.{Event}
use Rattle.dir_model.specs.declared.intent.Intent.{Intent}
use Rattle.dir_model.specs.declared.intent.Kind.TheVariants as kind
use Rattle.dir_model.specs.declared.pod.PodId.{PodId}
use Rattle.dir_model.specs.Calls.{Extends, is_finish, is_foreign}
use Rattle.dir_trait.specs.DirCalls.{DirAt}
use Rattle.lifecycle.specs.Executions.{IsConforming}
use Rattle.lifecycle.proofs.Draws.{conforming_left}
use Rattle.pod_locks.specs.declared.claim_error.ClaimError.{ClaimError}
use Rattle.pod_locks.specs.Claims.{IsFree, IsFreeThroughout, IsClaimFailure}
use Rattle.stage1.specs.declared.error.RunError.{RunError}
use Rattle.stage1.specs.declared.error.RunError.TheVariants as run
use Rattle.pod_gc.specs.Hindrances.{IsUnhinderedThroughout}
use Rattle.command_outcomes.specs.declared.refusal.Refusal.{Refusal}
use Rattle.command_outcomes.specs.declared.refusal.Refusal.TheVariants.{Usage, DirFault, BundleFault, OutFault, NoMemory, Stray}
use Rattle.command_outcomes.specs.Texts.{exit_status_of}
use Rattle.command_outcomes.specs.Conforming.{seen_at_begin, seen_at_begin as just_begun}
use Rattle.command_outcomes.specs.Moments.{Moment, Inside, Answer, CommandOutcome, SinkSeen, outcome_of}
use Rattle.commands.specs.RunRefusals.{claim_refusal, run_refusal, IsRunSaid}
use Rattle.commands.specs.RunPrepared.{ClaimsAndRuns, IsUnclaimed}
use Rattle.commands.specs.AppRuns.{RunSays}
use Rattle.commands.proofs.Claimed.{may_begin}
use Rattle.commands.proofs.RunRefused.{same_refusal}
use Rattle.commands.specs.Rm.{rm_refusal, FailsFor}
use Rattle.commands.proofs.Unhindered.{rm_complete, fails_alone}
use Rattle.rkt_cli.specs.Tasks.{RunPrepared, Rm}
use Rattle.commands.specs.Answers.{inside_in}
use Rattle.commands.specs.Command.{intent_for}
use Rattle.commands.specs.RmCommand.{is_removal_end, EndsUnhindered}
use Rattle.impossible_replies.specs.Replies.{AppWroteOn}
use Rattle.rkt_cli.proofs.Strays.{once_wrote}
use Rattle.rkt_cli.proofs.Removals.{once_found}
use Rattle.commands.specs.RunPreparedCommand.{is_unfree_status}
use Rattle.rkt_cli.specs.Commands.{may, intent_of}
use Rattle.rkt_cli.specs.Runs.{End, InProcess, Performs, Printed, Unwritten, IsStatusWithApps, RunsTaskOrNothing, end_status}
use Rattle.rkt_cli.specs.Spawns.{AppsToldBetween}
use Rattle.rkt_cli.proofs.RunsQuiet.{finish_ext, first}
use Rattle.rkt_cli.proofs.Conforming.{begun_knows}
use Rattle.rkt_cli.proofs.PodRemovals.{rm_intent, begun_removes}
use Rattle.rkt_cli.proofs.Sessions.{finish_part}
use Rattle.commands.specs.Opening.{opens}
use Rattle.commands.proofs.Starts.{open_extends}

-- its refusals
rm_known : (word : List ℕ) (pod : PodId) (r : Refusal) → may (Rm word pod) r ≡ true → rm_refusal r ≡ true
rm_known word pod NoMemory known = refl
rm_known word pod DirFault known = refl
rm_known word pod BundleFault known = cc
rm_known word pod Usage known = cc
rm_known word pod OutFault known = cc
rm_known word pod r known = known

unwritten : (r : Refusal) (old new : SinkSeen) → Unwritten r old new → is_removal_end (exit_status_of r) ≡ true
unwritten r old new (inl x) = ap (λ (e : Refusal). is_removal_end (exit_status_of e)) x.0
unwritten r old new (inr x) = ap (λ (e : Refusal). is_removal_end (exit_status_of e)) x.0

module _ (word : List ℕ) (pod : PodId) (now : ℕ) (draw : Draw) (old new : Moment) (t : old.outside.observed ≡ true) (conforms : IsConforming new.outside.dir.trace)
    (free : IsUnhinderedThroughout pod old.outside.dir.process old.outside.dir.trace new.outside.dir.trace) where
  abbrev Ends : ℕ → Type 0
  Ends status = EndsUnhindered status old.outside.dir new.outside.dir

  refused : (r : Refusal) (s : InProcess (Rm word pod) now draw (rm_intent word now draw) old.outside new.outside (Err r)) → FailsFor r s.begun.dir.process s.begun.dir.trace s.ended.dir.trace
  refused r s =
      let me = s.begun.dir.process in
      let first : Extends opens me old.outside.dir.trace s.begun.dir.trace = subst (λ (p : ℕ). Extends opens p old.outside.dir.trace s.begun.dir.trace) (sym s.me) (open_extends (s.begins t)) in
      let last : Extends is_finish me s.ended.dir.trace new.outside.dir.trace = subst (λ (p : ℕ). Extends is_finish p s.ended.dir.trace new.outside.dir.trace) (sym s.me) (finish_part s t is_finish refl) in
      let alone = rm_complete pod now s.begun.dir s.ended.dir r (rm_known word pod r s.ran.refusals) s.ran.says.0 (s.told ∙ t) (seen_at_begin (rm_intent word now draw)) (begun_knows s t) (begun_removes now draw s.meant) in
      fails_alone pod r old.outside.dir s.begun.dir s.ended.dir new.outside.dir first last s.me alone conforms free

  failed : (r : Refusal) (s : InProcess (Rm word pod) now draw (rm_intent word now draw) old.outside new.outside (Err r)) → FailsFor r s.begun.dir.process s.begun.dir.trace s.ended.dir.trace → Ends (exit_status_of r)
  failed DirFault s is = inl refl
  failed NoMemory s is = inl refl
  failed Stray s is = inr (refl, once_wrote (once_found AppWroteOn s t is))
  failed r s is = absurd is

  ended : (o : CommandOutcome) (end : End) → Performs (Rm word pod) now draw (intent_of (Rm word pod) now draw) old.outside new.outside o → Printed o old.out new.out end → Ends (end_status end)
  ended (Ok text) (Ok done) performs printed = inl refl
  ended (Ok text) (Err r) performs printed = inl (unwritten r old.out new.out (printed.cause text refl))
  ended (Err r) end (inl s) printed = subst (λ (e : End). Ends (end_status e)) (sym printed.refused.0) (failed r s (refused r s))
  ended (Err r) end (inr n) printed = subst (λ (e : End). Ends (end_status e)) (sym printed.refused.0) (let same : r ≡ NoMemory = (let e : ◌≡◌ {A = CommandOutcome} (Err r) (Err NoMemory) = n.is in cc) in subst (λ (e : Refusal). Ends (exit_status_of e)) (sym same) (inl refl))

  pub rm_ends : (plain : ℕ) → RunsTaskOrNothing (Rm word pod) now draw old new plain → Ends plain
  rm_ends plain (inl r) = subst Ends (sym r.is) (ended r.outcome r.end r.performs r.printed)
  rm_ends plain (inr n) = subst Ends (sym n.is) (inl refl)

-- a claim of a pod that is free throughout isn't refused but by a failure
claim_apart : (pod : PodId) (error : ClaimError) → IsClaimFailure error → is_unfree_status (exit_status_of (claim_refusal pod error)) ≡ false
claim_apart pod error (inl e) = ap (λ (x : ClaimError). is_unfree_status (exit_status_of (claim_refusal pod x))) e
claim_apart pod error (inr e) = ap (λ (x : ClaimError). is_unfree_status (exit_status_of (claim_refusal pod x))) e

run_apart : (pod : PodId) (error : RunError) → is_unfree_status (exit_status_of (run_refusal pod error)) ≡ false
run_apart pod run.NoManifest = refl
run_apart pod (run.Damaged path) = refl
run_apart pod (run.NoProgram app word) = refl
run_apart pod run.SpawnFault = refl
run_apart pod run.DirFault = refl
run_apart pod run.Stray = refl
run_apart pod run.NoMemory = refl

said_apart : (pod : PodId) (error : RunError) (r : Refusal) → IsRunSaid pod error r → is_unfree_status (exit_status_of r) ≡ false
said_apart pod error r (inl e) = ap (λ (x : Refusal). is_unfree_status (exit_status_of x)) e ∙ run_apart pod error
said_apart pod error r (inr e) = ap (λ (x : Refusal). is_unfree_status (exit_status_of x)) e

-- what is free in the whole is free in a part
free_part : (pod : PodId) (old new d d' : DirAt) (more rest : List Event) → d.process ≡ old.process → d.trace ≡ old.trace ++ more → new.trace ≡ d'.trace ++ rest → IsFreeThroughout pod old new → IsFreeThroughout pod d d'
free_part pod old new d d' more rest me first last free before later left step begins ends own =
    subst (λ (p : ℕ). IsFree pod p (before ++ step ∷ [])) (sym me)
    (free before (more ++ later) (left ++ rest) step (begins ∙ (ap (λ (h : List Event). h ++ later) first ∙ append_assoc old.trace more later))
    (last ∙ (ap (λ (h : List Event). h ++ rest) ends ∙ append_assoc (before ++ step ∷ []) left rest)) (subst (λ (p : ℕ). is_foreign p step ≡ false) me own))

module _ (word address : List ℕ) (pod : PodId) (now : ℕ) (draw : Draw) (a b : Inside) (t : a.observed ≡ true) (conforms : IsConforming b.dir.trace) (free : IsFreeThroughout pod a.dir b.dir) where
  abbrev its_intent : Intent
  its_intent = intent_for kind.RunPrepared word now draw

  unfree : (r : Refusal) → AppsToldBetween (RunPrepared word pod address) now draw (Some its_intent) a b (Err r) → is_unfree_status (exit_status_of r) ≡ false
  unfree r (inr x) = ap (λ (z : Refusal). is_unfree_status (exit_status_of z)) (same_refusal r NoMemory x.0)
  unfree r (inl x) = by x.came
    where
      last : Extends is_finish a.dir.process x.ended.trace b.dir.trace
      last = finish_ext x t is_finish refl

      by : ClaimsAndRuns a.observed a.spawner.observed pod address x.begun x.ended a.spawner.shown b.spawner.shown (Err r) ⊎ IsUnclaimed a.observed pod x.begun x.ended a.spawner.shown b.spawner.shown (Err r) → is_unfree_status (exit_status_of r) ≡ false
      by (inl c) = stopped c.says
        where
          stopped : RunSays a.observed a.spawner.observed c.owned address [] c.claimed x.ended a.spawner.shown b.spawner.shown (Err r) → is_unfree_status (exit_status_of r) ≡ false
          stopped (inl w) = ap (λ (z : Refusal). is_unfree_status (exit_status_of z)) (same_refusal r w.is.0 w.is.1) ∙ said_apart c.owned.pod w.error w.is.0 w.is.2
          stopped (inr w) = ap (λ (z : Refusal). is_unfree_status (exit_status_of z)) (same_refusal r NoMemory w.is)
      by (inr u) =
          let grew = first x t in
          let there = conforming_left x.ended.trace last.more (subst IsConforming last.grown conforms) in
          let fails = u.complete t (just_begun its_intent) (may_begin its_intent refl) (x.knows t) there
          (free_part pod a.dir b.dir x.begun x.ended grew.more last.more x.me grew.grown last.grown free) in
          ap (λ (z : Refusal). is_unfree_status (exit_status_of z)) (same_refusal r (claim_refusal pod u.error) u.is) ∙ claim_apart pod u.error fails

unwritten_apart : (r : Refusal) (old new : SinkSeen) → Unwritten r old new → is_unfree_status (exit_status_of r) ≡ false
unwritten_apart r old new (inl x) = ap (λ (e : Refusal). is_unfree_status (exit_status_of e)) x.0
unwritten_apart r old new (inr x) = ap (λ (e : Refusal). is_unfree_status (exit_status_of e)) x.0

module _ (pod : PodId) (now : ℕ) (draw : Draw) (old new : Moment) (t : old.outside.observed ≡ true) (conforms : IsConforming new.outside.dir.trace)
    (free : IsFreeThroughout pod old.outside.dir new.outside.dir) where
  run_ended : (word address : List ℕ) (answer : Answer) (end : End) → AppsToldBetween (RunPrepared word pod address) now draw (intent_of (RunPrepared word pod address) now draw) (inside_in old) (inside_in new) answer → Printed (outcome_of answer) old.out new.out end → is_unfree_status (end_status end) ≡ false
  run_ended word address (Ok told) (Ok done) came printed = refl
  run_ended word address (Ok told) (Err r) came printed = unwritten_apart r old.out new.out (printed.cause told.text refl)
  run_ended word address (Err r) end came printed = ap (λ (e : End). is_unfree_status (end_status e)) printed.refused.0 ∙ unfree word address pod now draw (inside_in old) (inside_in new) t conforms free r came

  run_plainly : (word address : List ℕ) (plain : ℕ) → RunsTaskOrNothing (RunPrepared word pod address) now draw old new plain → is_unfree_status plain ≡ false
  run_plainly word address plain (inl r) = ap is_unfree_status r.is ∙ run_ended word address r.answer r.end r.came (subst (λ (o : CommandOutcome). Printed o old.out new.out r.end) r.outcome_is r.printed)
  run_plainly word address plain (inr n) = ap is_unfree_status n.is

  graded_apart : (word address : List ℕ) (plain status : ℕ) → IsStatusWithApps (RunPrepared word pod address) plain status → is_unfree_status plain ≡ false → is_unfree_status status ≡ false
  graded_apart word address plain status (inl same) apart = ap is_unfree_status same ∙ apart
  graded_apart word address plain status (inr x) apart = ap is_unfree_status x.0

pub claim_ends : (word address : List ℕ) (pod : PodId) (now : ℕ) (draw : Draw) (old new : Moment) → old.outside.observed ≡ true → IsConforming new.outside.dir.trace → IsFreeThroughout pod old.outside.dir new.outside.dir →
    (plain status : ℕ) → IsStatusWithApps (RunPrepared word pod address) plain status → RunsTaskOrNothing (RunPrepared word pod address) now draw old new plain → is_unfree_status status ≡ false
claim_ends word address pod now draw old new t conforms free plain status graded ran = graded_apart pod now draw old new t conforms free word address plain status graded (run_plainly pod now draw old new t conforms free word address plain ran)
