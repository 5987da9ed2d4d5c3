-- Where nobody else steps, a pod that a sweep moved had a phase before that allows it.
use Rattle.std.proofs.Common.{◌≡◌, ◌⊎◌, inl, inr, ℕ, Bool, true, false, ◌&&◌, ◌==◌, cond, bytes_eq, Option, Some, None, List, [], ◌∷◌, ◌++◌, refl, sym, ap, subst, ◌∙◌}
use Rattle.std.specs.List.{AllByRecursion}
use Rattle.plain_laws.proofs.Texts.{same_bytes}
use Rattle.dir_model.specs.declared.area.Area.{Area}
use Rattle.dir_model.specs.declared.area.Area.TheVariants as area
use Rattle.dir_model.specs.declared.area.Phase.{Phase}
use Rattle.dir_model.specs.declared.area.Phase.TheVariants as kind
use Rattle.dir_model.specs.declared.event.Event.{Event}
use Rattle.dir_model.specs.declared.pod.PodId.{PodId}
use Rattle.dir_model.specs.declared.request.Request.TheVariants.{MoveFolder}
use Rattle.dir_model.specs.declared.request.Reply.TheVariants.{Done}
use Rattle.dir_model.specs.Areas.{is_stage}
use Rattle.dir_model.specs.Calls.{event, CallStep, TookPlace, LeftNothing, Extends}
use Rattle.dir_model.specs.Pods.{pod_text}
use Rattle.dir_model.specs.Quiet.{Quiet, OwnsNothing}
use Rattle.dir_model.specs.State.{Namespace}
use Rattle.dir_model.specs.Trace.{state_after}
use Rattle.dir_model.proofs.Allowed.{allowed_reply}
use Rattle.dir_model.proofs.Lists.{all_weaker}
use Rattle.dir_rules.specs.Standing.{is_spot_of_pod}
use Rattle.lifecycle.specs.declared.machine.PodState.{PodState}
use Rattle.lifecycle.specs.declared.machine.PodState.TheVariants as state
use Rattle.lifecycle.specs.declared.machine.Transition.{Transition}
use Rattle.lifecycle.specs.declared.machine.Transition.TheVariants as turn
use Rattle.lifecycle.specs.PodMachine.{pod_state, phase_of_state, is_owner, is_area_of_state, enabled, leads, undeleted, after_transition, transition}
use Rattle.lifecycle.specs.Executions.{IsConforming}
use Rattle.lifecycle.proofs.Draws.{conforming_left}
use Rattle.lifecycle.proofs.Phases.{enabled_each, stands_exists}
use Rattle.lifecycle.proofs.Step.{stands_from}
use Rattle.dir_model.specs.Spots.{pod_spot}
use Rattle.pod_locks.specs.Work.{Grew}
use Rattle.pod_locks.proofs.Traces.{grown_more, grown_by}
use Rattle.pod_locks.specs.Causes.{Did}
use Rattle.pod_gc.specs.declared.ages.Times.{Times}
use Rattle.pod_gc.specs.declared.line.GcLine.{GcLine}
use Rattle.pod_gc.specs.Requests.{goes_to, moves_pods, sweeps}
use Rattle.pod_gc.specs.Told.{IsLineOfTurn}
use Rattle.command_outcomes.specs.Meanwhile.{Meanwhile}
use Rattle.commands.specs.Gc.{SweepsByPasses}
use Rattle.commands.specs.RemovalQuiet.{swept_phase, SweptAsBefore, GoneAfter}
use Rattle.commands.specs.RemovalHistory.{IsDeletedForGood, ExistedThenGone}
use Rattle.commands.proofs.OwnSteps.{in_process, history_from}
use Rattle.commands.proofs.LateTurns.{is_late, late_turn, sweeps_late}
use Rattle.pod_gc.proofs.Rounds.{garbage_stage}
use Rattle.commands.proofs.RmQuiet.{did_remove, did_exist, gone_after, gone_nowhere}
use Rattle.commands.proofs.RmFrom.{owns_nothing}
use Rattle.commands.proofs.RmBefore.{has_phase_now}
use Rattle.commands.proofs.GcQuiet.{each_line, lines_told}

abbrev is_swept : Phase → Bool
is_swept kind.Embryo = true
is_swept kind.AbortedPrepare = true
is_swept kind.Prepared = true
is_swept kind.Exited = true
is_swept _ = false

swept_is : (place : Area) → is_swept (swept_phase place) ≡ true
swept_is area.Embryo = refl
swept_is area.Prepare = refl
swept_is area.Prepared = refl
swept_is place = refl

-- this process makes or runs it
abbrev is_held_by : ℕ → PodState → Bool
is_held_by me (state.Preparing owner) = me == owner
is_held_by me (state.Running owner) = me == owner
is_held_by me _ = false

held_owner : (me : ℕ) (x : PodState) → is_held_by me x ≡ true → is_owner me x ≡ true
held_owner me (state.Preparing owner) is = is
held_owner me (state.Running owner) is = is
held_owner me x is = cc

-- before its own steps the pod had this phase, or this process made or ran it
module _ (p : Phase) (swept : is_swept p ≡ true) (me : ℕ) where
  abbrev Was : PodState → Type 0
  Was x = (phase_of_state x ≡ Some p) ⊎ (is_held_by me x ≡ true)

  never : (x : PodState) (q : Phase) {X : Type 0} → phase_of_state x ≡ Some q → is_swept q ≡ false → is_held_by me x ≡ false → Was x → X
  never x q has off free (inl is) =
      let e : Some q ≡ Some p = sym has ∙ is in
      let same : q ≡ p = cc in
      let clash : false ≡ true = sym off ∙ (ap is_swept same ∙ swept) in cc
  never x q has off free (inr held) = let clash : true ≡ false = sym held ∙ free in cc

  undeleted_never : (from : Area) {X : Type 0} → Was (undeleted from) → X
  undeleted_never area.ExitedGarbage w = never state.ExitedGarbage kind.ExitedGarbage refl refl refl w
  undeleted_never from w = never state.Garbage kind.Garbage refl refl refl w

  before_turn : (t : Transition) (x : PodState) → is_late (Some t) ≡ true → enabled t me x ≡ true → Was (leads t me x) → Was x
  before_turn turn.Sweep x late may w = never state.Garbage kind.Garbage refl refl refl w
  before_turn turn.Mark x late may w = never state.ExitedGarbage kind.ExitedGarbage refl refl refl w
  before_turn turn.BeginDelete x late may w = never (leads turn.BeginDelete me x) kind.Deleting refl refl refl w
  before_turn turn.Remove x late may (inl is) = cc
  before_turn turn.Remove x late may (inr held) = cc
  before_turn turn.End (state.Preparing owner) late may w = inr may
  before_turn turn.End (state.Running owner) late may w = inr may
  before_turn turn.End (state.Deleting owner from) late may w = undeleted_never from w
  before_turn turn.End x late may w = cc
  before_turn t x late may w = cc

  was_back : (o : Option Transition) (x : PodState) → is_late o ≡ true → Was (after_transition o me x) → Was x
  was_back None x late w = w
  was_back (Some t) x late w = by (enabled t me x) refl w
    where
      by : (b : Bool) → enabled t me x ≡ b → Was (cond b (leads t me x) x) → Was x
      by true may w = before_turn t x late may w
      by false may w = w

-- when it was moved
abbrev turn_to : Area → Transition
turn_to area.Run = turn.Mark
turn_to _ = turn.Sweep

swept_state : (place : Area) (me : ℕ) (x : PodState) → moves_pods place ≡ true → is_area_of_state place x ≡ true → enabled (turn_to place) me x ≡ true → phase_of_state x ≡ Some (swept_phase place)
swept_state area.Embryo me (state.Embryo maker) moves at may = refl
swept_state area.Prepare me state.AbortedPrepare moves at may = refl
swept_state area.Prepared me state.Prepared moves at may = refl
swept_state area.Run me state.Exited moves at may = refl
swept_state place me x moves at may = cc

goes_turn : (place : Area) (pod : PodId) (n : Namespace) (x : PodState) (me : ℕ) → transition (pod_text pod.bytes) n x me (MoveFolder (pod_spot pod place) (pod_spot pod (goes_to place))) Done ≡ Some (turn_to place)
goes_turn area.Run pod n x me = ap (λ b. cond b (Some turn.Mark) None) (same_bytes (pod_text pod.bytes))
goes_turn place pod n x me = ap (λ b. cond b (Some turn.Sweep) None) (same_bytes (pod_text pod.bytes))

move_stage : (place : Area) → moves_pods place ≡ true → is_stage place ≡ true
move_stage area.Embryo moves = refl
move_stage area.Prepare moves = refl
move_stage area.Prepared moves = refl
move_stage area.Run moves = refl
move_stage place moves = cc

-- the state just before the own move
pub record MovedThen (pod : PodId) (place : Area) (old new : List Event) : Type 0 where
  pub at : List Event
  pub first : Grew old at
  pub last : Grew at new
  pub has : phase_of_state (pod_state (pod_text pod.bytes) at) ≡ Some (swept_phase place)

moved_then : (pod : PodId) (place : Area) (me : ℕ) (old new : List Event) → moves_pods place ≡ true → Did (MoveFolder (pod_spot pod place) (pod_spot pod (goes_to place))) Done me old new → IsConforming new → MovedThen pod place old new
moved_then pod place me old new moves did conforming = by s.own
  where
    s : CallStep me did.each.0 (MoveFolder (pod_spot pod place) (pod_spot pod (goes_to place))) Done did.each.1
    s = did.each.3

    e : Event
    e = event me (MoveFolder (pod_spot pod place) (pod_spot pod (goes_to place))) Done

    u : List ℕ
    u = pod_text pod.bytes

    by : TookPlace s.before me (MoveFolder (pod_spot pod place) (pod_spot pod (goes_to place))) Done did.each.1 ⊎ LeftNothing s.before me (MoveFolder (pod_spot pod place) (pod_spot pod (goes_to place))) Done did.each.1 → MovedThen pod place old new
    by (inr left) = let clash : false ≡ true = left.late in cc
    by (inl took) =
        let then : IsConforming (s.before ++ e ∷ []) = subst IsConforming took.grown (conforming_left did.each.1 did.each.4.more (subst IsConforming did.each.4.grown conforming)) in
        let there = (stands_from (state_after s.before) me (pod_spot pod place) (pod_spot pod (goes_to place)) (allowed_reply (state_after s.before) me (MoveFolder (pod_spot pod place) (pod_spot pod (goes_to place))) Done took.allowed)).0 in
        let its : is_spot_of_pod u (pod_spot pod place) ≡ true = ap (λ b. b && bytes_eq u u) (move_stage place moves) ∙ same_bytes u in
        let at = (stands_exists u s.before (pod_spot pod place) (conforming_left s.before (e ∷ []) then) its there).1 in
        let may = enabled_each u s.before e [] then (turn_to place) (goes_turn place pod (state_after s.before).namespace (pod_state u s.before) me) in
        record {
          at = s.before;
          first = grown_more did.each.2 (record { more = s.meanwhile.others; grown = s.meanwhile.grown });
          last = grown_more (record { more = e ∷ []; grown = took.grown }) did.each.4;
          has = swept_state place me (pod_state u s.before) moves at may;
        }

-- a pod that it calls deleted was there, and is gone, whatever others did
module _ (times : Times) (lines : List GcLine) {me : ℕ} {old new : List Event} (m : Meanwhile (SweepsByPasses times lines) me old new) (conforming : IsConforming new) where
  told_deleted : {Can : Type 0} {here : Area} {names : List (List ℕ)} (a b : List Event) → Grew old a → Grew b new → (line : GcLine) → IsLineOfTurn Can times here names line me a b → IsDeletedForGood old new line
  told_deleted {Can} {here} {names} a b to_a from_b line x pod is deed =
      let same : x.shown ≡ pod = let e : Some x.shown ≡ Some pod = sym x.pod_is ∙ is in cc in
      let u = pod_text x.shown.bytes in
      let c = x.dealt.cause.deleted deed in
      let last = grown_more (grown_by x.last) from_b in
      let its : is_spot_of_pod u (pod_spot x.shown here) ≡ true = ap (λ b. b && bytes_eq u u) (garbage_stage here c.0) ∙ same_bytes u in
      let then = conforming_left x.upto last.more (subst IsConforming last.grown conforming) in
      let gone = gone_after u x.upto new last (did_remove u (pod_spot x.shown here) me x.from x.upto its c.1 then) in
      let there = did_exist x.shown (pod_spot x.shown here) me x.from x.upto its c.1 then in
      subst (λ (p : PodId). ExistedThenGone p old new) same (record {
        existed = record { then = there.then; first = grown_more (grown_more to_a (grown_by x.first)) there.first; last = grown_more there.last last; was = there.was };
        gone = record { is = gone; nowhere = gone_nowhere x.shown new conforming gone };
      })

  pub gc_deleted : AllByRecursion (IsDeletedForGood old new) lines
  gc_deleted = lines_told times lines m (IsDeletedForGood old new) (λ Can can here names a b to_a from_b line x. told_deleted a b to_a from_b line x) (λ pod is deed. cc)

module _ (times : Times) (lines : List GcLine) {me : ℕ} {old new : List Event} (ext : Extends (in_process (sweeps times.now)) me old new) (quiet : Quiet me old new) (m : Meanwhile (SweepsByPasses times lines) me old new) (idle : OwnsNothing me (state_after old).namespace) (conforming : IsConforming new) where
  before : IsConforming old
  before = conforming_left old quiet.more (subst IsConforming quiet.grown conforming)

  had : (pod : PodId) (p : Phase) → is_swept p ≡ true → (b : List Event) → Grew old b → Grew b new → phase_of_state (pod_state (pod_text pod.bytes) b) ≡ Some p → phase_of_state (pod_state (pod_text pod.bytes) old) ≡ Some p
  had pod p swept b first last is =
      let u = pod_text pod.bytes in
      elim (history_from u (Was p swept me) (in_process (sweeps times.now)) me
      (λ n x request reply h w. was_back p swept me (transition u n x me request reply) x (late_turn (sweeps times.now) (sweeps_late times.now) u n x me request reply h) w) b first last ext quiet (inl is)) [
        | inl has ↦ has
        | inr held ↦ absurd (owns_nothing u me old before idle (held_owner me (pod_state u old) held))
      ]

  told_swept : {Can : Type 0} {here : Area} {names : List (List ℕ)} (a b : List Event) → Grew old a → Grew b new → (line : GcLine) → IsLineOfTurn Can times here names line me a b → SweptAsBefore old line
  told_swept {Can} {here} {names} a b to_a from_b line x pod to is deed =
      let same : x.shown ≡ pod = let e : Some x.shown ≡ Some pod = sym x.pod_is ∙ is in cc in
      let c = x.dealt.cause.moved to deed in
      let last = grown_more (grown_by x.last) from_b in
      let did = subst (λ (t : Area). Did (MoveFolder (pod_spot x.shown here) (pod_spot x.shown t)) Done me x.from x.upto) c.1 c.2 in
      let y = moved_then x.shown here me x.from x.upto c.0 did (conforming_left x.upto last.more (subst IsConforming last.grown conforming)) in
      let has = had x.shown (swept_phase here) (swept_is here) y.at (grown_more to_a (grown_more (grown_by x.first) y.first)) (grown_more y.last last) y.has in
      has_phase_now pod old before (swept_phase line.place)
      (subst (λ (a : Area). phase_of_state (pod_state (pod_text pod.bytes) old) ≡ Some (swept_phase a)) (sym x.place_is) (subst (λ (q : PodId). phase_of_state (pod_state (pod_text q.bytes) old) ≡ Some (swept_phase here)) same has))

  pub gc_gone : AllByRecursion (GoneAfter new) lines
  gc_gone = all_weaker (IsDeletedForGood old new) (GoneAfter new) (λ line x pod is deed. (x pod is deed).gone) lines (gc_deleted times lines m conforming)

  pub gc_had : AllByRecursion (SweptAsBefore old) lines
  gc_had = each_line times lines ext quiet m (SweptAsBefore old) (λ Can can here names a b to_a from_b line x. told_swept a b to_a from_b line x) (λ pod to is deed. cc)
