-- Each phase that a command's answer names was the pod's at an own event, where every process keeps the local rules.
use Rattle.std.proofs.Common.{◌≡◌, inl, inr, ℕ, Bool, true, Some, List, Ok, Err, refl, sym, ap, subst, ◌∙◌}
use Rattle.std.specs.List.{AllByRecursion}
use Rattle.dir_model.specs.declared.area.Area.{Area}
use Rattle.dir_model.specs.declared.area.Phase.{Phase}
use Rattle.dir_model.specs.declared.event.Event.{Event}
use Rattle.dir_model.specs.declared.intent.Intent.{Intent}
use Rattle.dir_model.specs.declared.pod.PodId.{PodId}
use Rattle.dir_model.specs.declared.request.Request.{Request}
use Rattle.dir_model.specs.declared.request.Request.TheVariants.{Finish}
use Rattle.dir_model.specs.declared.request.Reply.TheVariants.{Done}
use Rattle.dir_model.specs.Calls.{Extends, is_finish}
use Rattle.dir_model.proofs.Chains.{step_extends}
use Rattle.dir_model.proofs.Lists.{all_weaker}
use Rattle.dir_trait.specs.DirCalls.{DirAt}
use Rattle.spawner.specs.Calls.{SpawnerAt}
use Rattle.lifecycle.specs.Executions.{IsConforming}
use Rattle.lifecycle.proofs.Draws.{conforming_left}
use Rattle.phase_read.specs.Exact.{AtOwnEvent, IsInPhase}
use Rattle.phase_read.proofs.Exact.{event_within}
use Rattle.pod_locks.specs.declared.claim_error.ClaimError.{ClaimError}
use Rattle.pod_locks.specs.declared.claim_error.ClaimError.TheVariants as claim
use Rattle.pod_locks.specs.Work.{Grew}
use Rattle.pod_locks.proofs.Traces.{grown_more, grown_by}
use Rattle.stage1.specs.declared.error.RunError.{RunError}
use Rattle.stage1.specs.declared.error.RunError.TheVariants as run
use Rattle.pod_gc.specs.declared.ages.Times.{Times}
use Rattle.pod_gc.specs.declared.line.GcLine.{GcLine}
use Rattle.pod_gc.specs.Told.{IsLineOfTurn}
use Rattle.pod_report.specs.declared.line.PodLine.{PodLine}
use Rattle.pod_report.specs.Snapshot.{IsPodLine}
use Rattle.pod_report.specs.Visits.{IsPhase}
use Rattle.metadata.proofs.Views.{event_so}
use Rattle.command_outcomes.specs.declared.refusal.Refusal.TheVariants.{WrongPhase}
use Rattle.command_outcomes.specs.Meanwhile.{Meanwhile}
use Rattle.command_outcomes.specs.Moments.{Inside, SpawnerSeen}
use Rattle.commands.specs.AppsTold.{WithinProcess}
use Rattle.commands.specs.Gc.{HasSweptPods, NamesKept, SweepsByPasses, names_kept}
use Rattle.commands.specs.Opening.{Approach}
use Rattle.commands.specs.Phases.{HadPhase}
use Rattle.commands.specs.PodList.{TellsLines, names_lines}
use Rattle.commands.specs.Rm.{HasFoundWrong}
use Rattle.commands.specs.RunPrepared.{ClaimsAndRuns, IsUnclaimed, RunPreparedSays}
use Rattle.commands.specs.RunRefusals.{claim_refusal, run_refusal}
use Rattle.commands.specs.Status.{TellsStatus, names_status}
use Rattle.commands.proofs.GcQuiet.{lines_told}
use Rattle.commands.proofs.OwnSteps.{event_process}
use Rattle.commands.proofs.RunRefused.{claimed_refusal, same_refusal}
use Rattle.commands.proofs.Starts.{open_extends}

-- the phase of a pod that stood in some area
had : {pod : PodId} {phase : Phase} {area : Area} {me : ℕ} {old new : List Event} → AtOwnEvent me old new (IsInPhase pod phase area) → HadPhase me old new pod phase
had {pod} {phase} at = event_so (IsPhase pod phase) (λ h x. x.is) at

pub status_named : (pod : PodId) (me : ℕ) (old new : List Event) (text : List ℕ) → TellsStatus pod me old new (Ok text) → names_status pod (Ok text) (HadPhase me old new)
status_named pod me old new text p = record { status = p.status; so = had p.so.phase; is = p.is }

pub lines_named : (me : ℕ) (old new : List Event) (text : List ℕ) → TellsLines me old new (Ok text) → names_lines (Ok text) (HadPhase me old new)
lines_named me old new text p = record {
  lines = p.lines;
  so = all_weaker (IsPodLine me old new) (λ (line : PodLine). HadPhase me old new line.pod line.phase) (λ line x. x.phase) p.lines p.so.each;
  is = p.is;
}

-- what came about before the finish is of a conforming execution where the whole is
pub before_finish : {me : ℕ} {ended new : List Event} → Extends is_finish me ended new → IsConforming new → IsConforming ended
before_finish {ended = ended} last conforming = conforming_left ended last.more (subst IsConforming last.grown conforming)

pub removal_named : (pod : PodId) (phase : Phase) (old new : DirAt) → HasFoundWrong pod phase old new → IsConforming new.trace → HadPhase old.process old.trace new.trace pod phase
removal_named pod phase old new x conforming = event_process x.was.begins x.was.finishes (had (x.was.so (before_finish x.was.finishes conforming)).was)

-- a claim that is refused so met that phase, and no run is
wrong_claim : (pod : PodId) (phase : Phase) (error : ClaimError) → claim_refusal pod error ≡ WrongPhase phase → error ≡ claim.WrongPhase phase
wrong_claim pod phase (claim.WrongPhase other) is = let same : other ≡ phase = cc in ap claim.WrongPhase same
wrong_claim pod phase error is = cc

never_run : (pod : PodId) (phase : Phase) (error : RunError) {X : Type 0} → WrongPhase phase ≡ run_refusal pod error → X
never_run pod phase run.NoManifest is = cc
never_run pod phase error is = cc

module _ (pod : PodId) (phase : Phase) (address : List ℕ) {approach : Approach} {asks : Request → Bool} {intent : Intent} {old new : Inside} (w : WithinProcess approach asks (λ a b. RunPreparedSays pod address a b (Err (WrongPhase phase))) intent old new) (t : old.observed ≡ true)
    (conforming : IsConforming new.dir.trace) where
  last : Extends is_finish w.ended.process w.ended.trace new.dir.trace
  last = step_extends is_finish w.ended.process w.ended.trace Finish Done new.dir.trace refl (w.finishes t)

  unclaimed : {s s' : SpawnerAt} → IsUnclaimed old.observed pod w.begun w.ended s s' (Err (WrongPhase phase)) → AtOwnEvent w.begun.process w.begun.trace w.ended.trace (IsPhase pod phase)
  unclaimed x =
      let is = wrong_claim pod phase x.error (sym (same_refusal (WrongPhase phase) (claim_refusal pod x.error) x.is)) in
      had (x.cause.phase phase is t (before_finish last conforming)).was

  never_claimed : {seen observed : Bool} {s s' : SpawnerAt} {X : Type 0} → ClaimsAndRuns seen observed pod address w.begun w.ended s s' (Err (WrongPhase phase)) → X
  never_claimed {observed = observed} {s = s} {s' = s'} x =
      let before : SpawnerSeen = record { observed = observed; shown = s } in
      let after : SpawnerSeen = record { observed = observed; shown = s' } in
      elim (claimed_refusal before after (WrongPhase phase) x) [ inl e ↦ cc | inr e ↦ never_run pod phase e.0 e.1 ]

  came_upon : AtOwnEvent w.begun.process w.begun.trace w.ended.trace (IsPhase pod phase)
  came_upon = elim w.came [ inl x ↦ never_claimed x | inr x ↦ unclaimed x ]

  pub claim_named : HadPhase old.dir.process old.dir.trace new.dir.trace pod phase
  claim_named =
      event_process (open_extends (w.begins t)) (subst (λ (p : ℕ). Extends is_finish p w.ended.trace new.dir.trace) (w.same ∙ w.me) last)
      (subst (λ (me : ℕ). AtOwnEvent me w.begun.trace w.ended.trace (IsPhase pod phase)) w.me came_upon)

-- the lines of a sweep
module _ (times : Times) (lines : List GcLine) {me : ℕ} {old new : List Event} (m : Meanwhile (SweepsByPasses times lines) me old new) (conforming : IsConforming new) where
  told_kept : {Can : Type 0} {here : Area} {names : List (List ℕ)} (a b : List Event) → Grew old a → Grew b new → (line : GcLine) → IsLineOfTurn Can times here names line me a b → NamesKept (HadPhase me old new) line
  told_kept {Can} {here} {names} a b to_a from_b line x pod phase is deed =
      let same : x.shown ≡ pod = let e : Some x.shown ≡ Some pod = sym x.pod_is ∙ is in cc in
      let first = grown_more to_a (grown_by x.first) in
      let last = grown_more (grown_by x.last) from_b in
      let at = (x.dealt.cause.kept phase deed).1 (conforming_left x.upto last.more (subst IsConforming last.grown conforming)) in
      subst (λ (q : PodId). HadPhase me old new q phase) same (event_within first.more last.more first.grown last.grown (had at))

  pub lines_kept : AllByRecursion (NamesKept (HadPhase me old new)) lines
  lines_kept = lines_told times lines m (NamesKept (HadPhase me old new)) (λ Can can here names a b to_a from_b line x. told_kept a b to_a from_b line x) (λ pod phase is deed. cc)

pub sweep_named : (times : Times) (old new : DirAt) (text : List ℕ) → HasSweptPods times old new text → IsConforming new.trace → names_kept (Ok text) (HadPhase old.process old.trace new.trace)
sweep_named times old new text x conforming = record { lines = x.lines; so = lines_kept times x.lines x.swept conforming; is = x.is }
