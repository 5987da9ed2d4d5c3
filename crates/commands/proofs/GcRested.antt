-- Where nobody else steps, a pod that a sweep lets rest, and that stood in exited-garbage before, rested there before.
use Rattle.std.proofs.Common.{◌≡◌, ◌==◌, ℕ, Bool, true, false, cond, Option, Some, None, List, refl, sym, ap, subst, ◌∙◌}
use Rattle.std.specs.List.{AllByRecursion}
use Rattle.plain_laws.proofs.Texts.{same_bytes}
use Rattle.dir_model.specs.declared.area.Area.{Area}
use Rattle.dir_model.specs.declared.area.Area.TheVariants as area
use Rattle.dir_model.specs.declared.area.Phase.TheVariants as kind
use Rattle.dir_model.specs.declared.event.Event.{Event}
use Rattle.dir_model.specs.declared.pod.PodId.{PodId}
use Rattle.dir_model.specs.declared.request.Request.{Request}
use Rattle.dir_model.specs.declared.request.Reply.{Reply}
use Rattle.dir_model.specs.Calls.{Extends}
use Rattle.dir_model.specs.Pods.{pod_text}
use Rattle.dir_model.specs.Quiet.{Quiet, OwnsNothing}
use Rattle.dir_model.specs.State.{Namespace}
use Rattle.dir_model.specs.Trace.{state_after}
use Rattle.lifecycle.specs.declared.machine.PodState.{PodState}
use Rattle.lifecycle.specs.declared.machine.PodState.TheVariants as state
use Rattle.lifecycle.specs.declared.machine.Transition.{Transition}
use Rattle.lifecycle.specs.declared.machine.Transition.TheVariants as turn
use Rattle.lifecycle.specs.PodMachine.{pod_state, phase_of_state, is_owner, is_area_of_state, enabled, leads, after_transition, transition}
use Rattle.lifecycle.specs.Executions.{IsConforming}
use Rattle.lifecycle.proofs.Draws.{conforming_left}
use Rattle.lifecycle.proofs.Phases.{stands_exists}
use Rattle.phase_read.specs.Exact.{AtOwnEvent, IsInPhase}
use Rattle.dir_model.specs.Spots.{pod_spot}
use Rattle.phase_read.proofs.Exact.{event_within}
use Rattle.metadata.proofs.Views.{event_so}
use Rattle.pod_locks.specs.Work.{Grew}
use Rattle.pod_locks.proofs.Traces.{grown_more, grown_by}
use Rattle.pod_gc.specs.declared.ages.Times.{Times}
use Rattle.pod_gc.specs.declared.line.GcLine.{GcLine}
use Rattle.pod_gc.specs.Requests.{sweeps}
use Rattle.pod_gc.specs.Told.{IsLineOfTurn}
use Rattle.command_outcomes.specs.Meanwhile.{Meanwhile}
use Rattle.commands.specs.Gc.{SweepsByPasses}
use Rattle.commands.specs.RemovalQuiet.{RestedAsBefore}
use Rattle.commands.proofs.OwnSteps.{in_process, history_back}
use Rattle.commands.proofs.RmFrom.{owns_nothing}
use Rattle.commands.proofs.RmBefore.{has_phase_now}
use Rattle.commands.proofs.GcQuiet.{each_line}

-- what another process deletes, no own step turns
module _ (me owner : ℕ) (from : Area) (other : (me == owner) ≡ false) where
  abbrev held : PodState
  held = state.Deleting owner from

  not_turned : (t : Transition) → enabled t me held ≡ false → after_transition (Some t) me held ≡ held
  not_turned t off = ap (λ b. cond b (leads t me held) held) off

  held_fast : (o : Option Transition) → after_transition o me held ≡ held
  held_fast None = refl
  held_fast (Some turn.End) = not_turned turn.End other
  held_fast (Some turn.Remove) = not_turned turn.Remove other
  held_fast (Some t) = refl

  held_back : (u : List ℕ) (n : Namespace) (x : PodState) (request : Request) (reply : Reply) → (after_transition (transition u n x me request reply) me x ≡ held → ⊥) → x ≡ held → ⊥
  held_back u n x request reply not is = not (ap (after_transition (transition u n x me request reply) me) is ∙ held_fast (transition u n x me request reply))

module _ (times : Times) (lines : List GcLine) {me : ℕ} {old new : List Event} (ext : Extends (in_process (sweeps times.now)) me old new) (quiet : Quiet me old new) (m : Meanwhile (SweepsByPasses times lines) me old new) (idle : OwnsNothing me (state_after old).namespace) (conforming : IsConforming new) where
  before : IsConforming old
  before = conforming_left old quiet.more (subst IsConforming quiet.grown conforming)

  -- it rested at an own event
  rested_before : (pod : PodId) → AtOwnEvent me old new (λ h. phase_of_state (pod_state (pod_text pod.bytes) h) ≡ Some kind.ExitedGarbage) → (x : PodState) → pod_state (pod_text pod.bytes) old ≡ x → is_area_of_state area.ExitedGarbage x ≡ true
      → phase_of_state (pod_state (pod_text pod.bytes) old) ≡ Some kind.ExitedGarbage
  rested_before pod at state.ExitedGarbage is there = ap phase_of_state is
  rested_before pod at (state.Deleting owner from) is there = by (me == owner) refl
    where
      u : List ℕ
      u = pod_text pod.bytes

      not_held : (h : List Event) → phase_of_state (pod_state u h) ≡ Some kind.ExitedGarbage → pod_state u h ≡ state.Deleting owner from → ⊥
      not_held h rests held = let clash : Some kind.Deleting ≡ Some kind.ExitedGarbage = sym (ap phase_of_state held) ∙ rests in cc

      by : (b : Bool) → (me == owner) ≡ b → phase_of_state (pod_state u old) ≡ Some kind.ExitedGarbage
      by true mine = absurd (owns_nothing u me old before idle (subst (λ (y : PodState). is_owner me y ≡ true) (sym is) mine))
      by false other = absurd (history_back u (λ y. y ≡ state.Deleting owner from → ⊥) (in_process (sweeps times.now)) me (λ n y request reply h not. held_back me owner from other u n y request reply not)
          (event_so (λ h. pod_state u h ≡ state.Deleting owner from → ⊥) not_held at) ext quiet is)
  rested_before pod at x is there = cc

  told_rested : {Can : Type 0} {here : Area} {names : List (List ℕ)} (a b : List Event) → Grew old a → Grew b new → (line : GcLine) → IsLineOfTurn Can times here names line me a b → RestedAsBefore old line
  told_rested {Can} {here} {names} a b to_a from_b line x pod is deed there =
      let same : x.shown ≡ pod = let e : Some x.shown ≡ Some pod = sym x.pod_is ∙ is in cc in
      let u = pod_text pod.bytes in
      let first = grown_more to_a (grown_by x.first) in
      let last = grown_more (grown_by x.last) from_b in
      let at = subst (λ (q : PodId). AtOwnEvent me x.from x.upto (IsInPhase q kind.ExitedGarbage here)) same ((x.dealt.cause.kept kind.ExitedGarbage deed).1 (conforming_left x.upto last.more (subst IsConforming last.grown conforming))) in
      let moment = event_within first.more last.more first.grown last.grown (event_so (λ h. phase_of_state (pod_state u h) ≡ Some kind.ExitedGarbage) (λ h y. y.is) at) in
      let place = (stands_exists u old (pod_spot pod area.ExitedGarbage) before (same_bytes u) there).1 in
      has_phase_now pod old before kind.ExitedGarbage (rested_before pod moment (pod_state u old) refl place)

  pub gc_rested : AllByRecursion (RestedAsBefore old) lines
  gc_rested = each_line times lines ext quiet m (RestedAsBefore old) (λ Can can here names a b to_a from_b line x. told_rested a b to_a from_b line x) (λ pod is deed there. cc)
