-- What `rm` comes to where nobody else steps.
use Rattle.std.proofs.Common.{arith, ◌≡◌, ◌⊎◌, inl, inr, ◌≤◌, ℕ, Bool, true, false, ◌&&◌, ◌||◌, cond, Option, Some, None, is_some, bytes_eq, List, [], ◌∷◌, ◌++◌, refl, sym, ap, subst, ◌∙◌, append_assoc}
use Rattle.std.specs.List.{AllByRecursion}
use Rattle.std.proofs.lemmas.Bool.Decides.{nat_tests}
use Rattle.plain_laws.proofs.Texts.{same_bytes}
use Rattle.dir_model.specs.declared.area.Area.{Area}
use Rattle.dir_model.specs.declared.area.Area.TheVariants as area
use Rattle.dir_model.specs.declared.area.Phase.{Phase}
use Rattle.dir_model.specs.declared.event.Event.{Event}
use Rattle.dir_model.specs.declared.pod.PodId.{PodId}
use Rattle.dir_model.specs.declared.spot.Spot.{Spot}
use Rattle.dir_model.specs.declared.request.Request.{Request}
use Rattle.dir_model.specs.declared.request.Request.TheVariants.{MakeFolder, MoveFolder, RemoveFolder}
use Rattle.dir_model.specs.declared.request.Reply.{Reply}
use Rattle.dir_model.specs.declared.request.Reply.TheVariants.{Done}
use Rattle.dir_model.specs.Areas.{rank, is_stage}
use Rattle.dir_model.specs.Calls.{event, is_kill, TookPlace, LeftNothing, Extends, AtOwnStep}
use Rattle.dir_model.specs.Pods.{pod_text}
use Rattle.dir_model.specs.Quiet.{Quiet}
use Rattle.dir_model.specs.Replies.{is_look_at}
use Rattle.dir_model.specs.State.{Namespace, DirState, empty_state, folder_at, stands}
use Rattle.dir_model.specs.Trace.{state_after, namespace_replied}
use Rattle.dir_model.proofs.Moments.{at_grown, at_weaker}
use Rattle.dir_rules.specs.Standing.{is_spot_of_pod}
use Rattle.lifecycle.specs.declared.machine.PodState.{PodState}
use Rattle.lifecycle.specs.declared.machine.PodState.TheVariants as state
use Rattle.lifecycle.specs.declared.machine.Transition.{Transition}
use Rattle.lifecycle.specs.declared.machine.Transition.TheVariants as turn
use Rattle.lifecycle.specs.PodMachine.{pod_state, phase_of_state, pod_progress, exists, enabled, after_transition, transition_if, transition}
use Rattle.lifecycle.specs.Executions.{IsConforming}
use Rattle.lifecycle.proofs.Phases.{enabled_each, stands_exists}
use Rattle.lifecycle.proofs.Stays.{machine_append}
use Rattle.lifecycle.proofs.Looking.{existing, grows}
use Rattle.dir_model.specs.Spots.{pod_spot}
use Rattle.phase_read.specs.Read.{is_pod_spot, stages, LeftOut, WasFound, IsFound}
use Rattle.phase_read.proofs.InTurn.{left_out_grown}
use Rattle.pod_locks.specs.Work.{Grew}
use Rattle.pod_locks.proofs.Times.{at_part}
use Rattle.pod_locks.proofs.Traces.{grown_none, grown_more, grown_call}
use Rattle.pod_locks.specs.Causes.{Did}
use Rattle.pod_locks.proofs.ClaimLawful.{conforms_before}
use Rattle.pod_gc.specs.RemovalCauses.{HasDeletedPod}
use Rattle.pod_gc.specs.Removals.{FoundNoPod, FoundThenEnded}
use Rattle.commands.specs.Opening.{OnceFound}
use Rattle.commands.specs.Rm.{RemovesPod}
use Rattle.commands.specs.RemovalQuiet.{StandsNowhere, IsGoneForGood}
use Rattle.commands.specs.RemovalHistory.{ExistedBetween, ExistedThenGone}
use Rattle.commands.proofs.OwnSteps.{in_process, back_at, at_process, same_folders, whole_process}

-- the pod is gone for good

is_last : (s : PodState) → 9 ≤ pod_progress s → s ≡ state.Gone
is_last state.Gone h = refl
is_last (state.Deleting owner area.ExitedGarbage) h = absurd (omega (arith, h))
is_last (state.Deleting owner from) h = absurd (omega (arith, h))
is_last s h = absurd (omega (arith, h))

none_last : (s : PodState) → phase_of_state s ≡ None → 1 ≤ pod_progress s → s ≡ state.Gone
none_last state.Gone none h = refl
none_last state.Absent none h = absurd (omega (arith, h))
none_last s none h = cc

gone_on : (u : List ℕ) (h more : List Event) → pod_state u h ≡ state.Gone → pod_state u (h ++ more) ≡ state.Gone
gone_on u h more gone = is_last (pod_state u (h ++ more)) (subst (λ (s : PodState). pod_progress s ≤ pod_progress (pod_state u (h ++ more))) gone (grows u h more))

pub gone_after : (u : List ℕ) (a b : List Event) → Grew a b → pod_state u a ≡ state.Gone → pod_state u b ≡ state.Gone
gone_after u a b ab gone = subst (λ (h : List Event). pod_state u h ≡ state.Gone) (sym ab.grown) (gone_on u a ab.more gone)

removed_now : (u : List ℕ) (spot : Spot) (me : ℕ) (h : List Event) → is_spot_of_pod u spot ≡ true → IsConforming (h ++ event me (RemoveFolder spot) Done ∷ []) → pod_state u (h ++ event me (RemoveFolder spot) Done ∷ []) ≡ state.Gone
removed_now u spot me h its conforming =
    let e = event me (RemoveFolder spot) Done in
    let x = pod_state u h in
    let turns : transition u (state_after h).namespace x me (RemoveFolder spot) Done ≡ Some turn.Remove = ap (λ b. transition_if b turn.Remove) its in
    let may = enabled_each u h e [] conforming turn.Remove turns in
    machine_append u h (e ∷ []) empty_state state.Absent ∙ (ap (λ (o : Option Transition). after_transition o me x) turns ∙ ap (λ b. cond b state.Gone x) may)

pub did_remove : (u : List ℕ) (spot : Spot) (me : ℕ) (old new : List Event) → is_spot_of_pod u spot ≡ true → Did (RemoveFolder spot) Done me old new → IsConforming new → pod_state u new ≡ state.Gone
did_remove u spot me old new its did conforming = by did.each.3.own
  where
    by : TookPlace did.each.3.before me (RemoveFolder spot) Done did.each.1 ⊎ LeftNothing did.each.3.before me (RemoveFolder spot) Done did.each.1 → pod_state u new ≡ state.Gone
    by (inr left) = let clash : false ≡ true = left.late in cc
    by (inl took) =
        let c = subst IsConforming took.grown (conforms_before did.each.4 conforming) in
        gone_after u did.each.1 new did.each.4 (subst (λ (h : List Event). pod_state u h ≡ state.Gone) (sym took.grown) (removed_now u spot me did.each.3.before its c))

-- and it existed just before
remove_exists : (me : ℕ) (x : PodState) → enabled turn.Remove me x ≡ true → exists x ≡ true
remove_exists me state.Absent h = cc
remove_exists me state.Gone h = cc
remove_exists me x h = refl

pub did_exist : (pod : PodId) (spot : Spot) (me : ℕ) (old new : List Event) → is_spot_of_pod (pod_text pod.bytes) spot ≡ true → Did (RemoveFolder spot) Done me old new → IsConforming new → ExistedBetween pod old new
did_exist pod spot me old new its did conforming = by did.each.3.own
  where
    by : TookPlace did.each.3.before me (RemoveFolder spot) Done did.each.1 ⊎ LeftNothing did.each.3.before me (RemoveFolder spot) Done did.each.1 → ExistedBetween pod old new
    by (inr left) = let clash : false ≡ true = left.late in cc
    by (inl took) =
        let e = event me (RemoveFolder spot) Done in
        let h = did.each.3.before in
        let c = subst IsConforming took.grown (conforms_before did.each.4 conforming) in
        record {
          then = h;
          first = grown_more did.each.2 (record { more = did.each.3.meanwhile.others; grown = did.each.3.meanwhile.grown });
          last = grown_more (record { more = e ∷ []; grown = took.grown }) did.each.4;
          was = remove_exists me (pod_state (pod_text pod.bytes) h) (enabled_each (pod_text pod.bytes) h e [] c turn.Remove (ap (λ b. transition_if b turn.Remove) its));
        }

module _ (pod : PodId) where
  abbrev u : List ℕ
  u = pod_text pod.bytes

  did_grown : {me : ℕ} {a b : List Event} {request : Request} → Did request Done me a b → Grew a b
  did_grown did = grown_more did.each.2 (grown_more (grown_call did.each.3) did.each.4)

  deleted_gone : (me : ℕ) (old new : List Event) → HasDeletedPod pod me old new → IsConforming new → pod_state u new ≡ state.Gone
  deleted_gone me old new (inl did) conforming = did_remove u (pod_spot pod area.ExitedGarbage) me old new (same_bytes u) did conforming
  deleted_gone me old new (inr did) conforming = did_remove u (pod_spot pod area.Garbage) me old new (same_bytes u) did conforming

  abbrev StoodAt : Area → DirState → Type 0
  StoodAt a s = stands s.namespace (pod_spot pod a) ≡ true

  found_at : {me : ℕ} {old new : List Event} (a : Area) (p : Phase) → WasFound me old new (pod_spot pod a) p → AtOwnStep me old new (StoodAt a)
  found_at a p (inl x) = x.there
  found_at {me} {old} {new} a p (inr x) =
      let last = at_grown x.1.told in
      at_part grown_none refl (record { more = last.0; grown = last.1 }) (at_weaker (StoodAt a) (λ s h. ap (λ (o : Option ℕ). is_some o) h) x.1.found)

  stood_at : {me : ℕ} {old new : List Event} (p : Phase) (a : Area) → IsFound me old new pod p a → AtOwnStep me old new (StoodAt a)
  stood_at {me} {old} {new} p a f =
      let first = left_out_grown pod me old f.between _ f.earlier in
      at_part (record { more = first.0; grown = first.1 }) refl grown_none (found_at a p f.found)

  pub stage_of : (a : Area) → rank a ≤ 5 → is_stage a ≡ true
  stage_of a l = grind (arith, nat_tests)

  ended_grown : {me : ℕ} (a b : List Event) → HasDeletedPod pod me a b ⊎ FoundNoPod pod me a b → Grew a b
  ended_grown a b (inl (inl did)) = did_grown did
  ended_grown a b (inl (inr did)) = did_grown did
  ended_grown a b (inr none) = record { more = none.only.more; grown = none.only.grown }

  -- where it stood, it had been made
  was_young : (a : Area) (h : List Event) → rank a ≤ 5 → IsConforming h → stands (state_after h).namespace (pod_spot pod a) ≡ true → 1 ≤ pod_progress (pod_state u h)
  was_young a h stage conforming there =
      let its : is_spot_of_pod u (pod_spot pod a) ≡ true = ap (λ b. b && bytes_eq u u) (stage_of a stage) ∙ same_bytes u in
      existing (pod_state u h) (stands_exists u h (pod_spot pod a) conforming its there).0

  ended_gone : (me : ℕ) (old new : List Event) → FoundThenEnded pod me old new → IsConforming new → pod_state u new ≡ state.Gone
  ended_gone me old new e conforming = by e.ended.ended
    where
      by : HasDeletedPod pod me e.ended.between new ⊎ FoundNoPod pod me e.ended.between new → pod_state u new ≡ state.Gone
      by (inl did) = deleted_gone me e.ended.between new did conforming
      by (inr none) =
          let x = stood_at e.missed.phase e.missed.area e.missed.read in
          let y = none.nowhere conforming in
          let hx = x.before ++ x.step ∷ [] in
          let hy = y.before ++ y.step ∷ [] in
          let m = at_grown e.missed.missed in
          let to_first : Grew hx e.ended.between = grown_more (record { more = x.rest; grown = x.ends }) (grown_more (record { more = m.0; grown = m.1 }) e.ended.first) in
          let on : Grew hx hy = grown_more to_first (record { more = y.later ++ y.step ∷ []; grown = ap (λ (t : List Event). t ++ y.step ∷ []) y.begins ∙ append_assoc e.ended.between y.later (y.step ∷ []) }) in
          let last : Grew hy new = record { more = y.rest; grown = y.ends } in
          let young = was_young e.missed.area hx e.missed.read.stage (conforms_before (grown_more on last) conforming) x.holds in
          let old_enough : pod_progress (pod_state u hx) ≤ pod_progress (pod_state u hy) = subst (λ (h : List Event). pod_progress (pod_state u hx) ≤ pod_progress (pod_state u h)) (sym on.grown) (grows u hx on.more) in
          gone_after u hy new last (none_last (pod_state u hy) y.holds (omega (arith, young, old_enough)))

  -- that it was there
  existed_by : (me : ℕ) (old new : List Event) → HasDeletedPod pod me old new ⊎ FoundThenEnded pod me old new → IsConforming new → ExistedBetween pod old new
  existed_by me old new (inl (inl did)) c = did_exist pod (pod_spot pod area.ExitedGarbage) me old new (same_bytes u) did c
  existed_by me old new (inl (inr did)) c = did_exist pod (pod_spot pod area.Garbage) me old new (same_bytes u) did c
  existed_by me old new (inr e) c =
      let x = stood_at e.missed.phase e.missed.area e.missed.read in
      let hx = x.before ++ x.step ∷ [] in
      let missed = at_grown e.missed.missed in
      let rest : Grew hx e.missed.between = record { more = x.rest; grown = x.ends } in
      let to_end = grown_more rest (grown_more (record { more = missed.0; grown = missed.1 }) (grown_more e.ended.first (ended_grown e.ended.between new e.ended.ended))) in
      let its : is_spot_of_pod u (pod_spot pod e.missed.area) ≡ true = ap (λ b. b && bytes_eq u u) (stage_of e.missed.area e.missed.read.stage) ∙ same_bytes u in
      record {
        then = hx;
        first = record { more = x.later ++ x.step ∷ []; grown = ap (λ (t : List Event). t ++ x.step ∷ []) x.begins ∙ append_assoc old x.later (x.step ∷ []) };
        last = to_end;
        was = (stands_exists u hx (pod_spot pod e.missed.area) (conforms_before to_end c) its x.holds).0;
      }

  existed : (me : ℕ) (old new : List Event) → RemovesPod pod me old new → IsConforming new → ExistedBetween pod old new
  existed me old new r c = existed_by me old new r.did c

  pub rm_existed : {me : ℕ} {old new : List Event} → OnceFound (RemovesPod pod) me old new → IsConforming new → ExistedBetween pod old new
  rm_existed {me} {old} {new} m conforming =
      let last : Grew m.ended new = record { more = m.finishes.more; grown = m.finishes.grown } in
      let first : Grew old m.begun = record { more = m.begins.more; grown = m.begins.grown } in
      let x = existed me m.begun m.ended m.so (conforms_before last conforming) in
      record { then = x.then; first = grown_more first x.first; last = grown_more x.last last; was = x.was }

  pub was_there : {me : ℕ} {old new : List Event} (m : OnceFound (RemovesPod pod) me old new) → IsConforming new → pod_state u old ≡ state.Gone → ⊥
  was_there {me} {old} {new} m conforming gone =
      let x = rm_existed m conforming in
      let clash : true ≡ false = sym x.was ∙ ap exists (gone_after u old x.then x.first gone) in cc

  pub gone_nowhere : (h : List Event) → IsConforming h → pod_state u h ≡ state.Gone → StandsNowhere pod (state_after h)
  gone_nowhere h conforming gone a stage = by (stands (state_after h).namespace (pod_spot pod a)) refl
    where
      by : (b : Bool) → stands (state_after h).namespace (pod_spot pod a) ≡ b → b ≡ false
      by false is = refl
      by true is =
          let its : is_spot_of_pod u (pod_spot pod a) ≡ true = ap (λ b. b && bytes_eq u u) stage ∙ same_bytes u in
          let x = (stands_exists u h (pod_spot pod a) conforming its is).0 in
          let clash : true ≡ false = sym x ∙ ap exists gone in cc

  pub rm_gone : {me : ℕ} {old new : List Event} → OnceFound (RemovesPod pod) me old new → IsConforming new → IsGoneForGood pod new
  rm_gone {me} {old} {new} m conforming =
      let last : Grew m.ended new = record { more = m.finishes.more; grown = m.finishes.grown } in
      let then = conforms_before last conforming in
      let gone = gone_after u m.ended new last (elim m.so.did [ inl did ↦ deleted_gone me m.begun m.ended did then | inr e ↦ ended_gone me m.begun m.ended e then ]) in
      record { is = gone; nowhere = gone_nowhere new conforming gone }

  -- it was there, and is gone
  pub rm_removed : {me : ℕ} {old new : List Event} → OnceFound (RemovesPod pod) me old new → IsConforming new → ExistedThenGone pod old new
  rm_removed m conforming = record { existed = rm_existed m conforming; gone = rm_gone m conforming }

-- where it looked alone and found none, there was none before

looks_leave : (test : Spot → Bool) (p : ℕ) (w : Namespace) (request : Request) (reply : Reply) → (is_kill request || in_process (is_look_at test) request) ≡ true → (namespace_replied w p request reply).folders ≡ w.folders
looks_leave test p w (MakeFolder here) reply h = cc
looks_leave test p w (MoveFolder from to) reply h = cc
looks_leave test p w (RemoveFolder gone) reply h = cc
looks_leave test p w request reply h = same_folders p w request reply refl (λ handle. refl)

left_out_all : (pod : PodId) (me : ℕ) (old new : List Event) (areas : List Area) (between : List Event) → LeftOut me old between pod areas → Grew between new → AllByRecursion (λ a. AtOwnStep me old new (λ s. stands s.namespace (pod_spot pod a) ≡ false)) areas
left_out_all pod me old new [] between l more = tt
left_out_all pod me old new (a ∷ earlier) between l more =
    let first = left_out_grown pod me old l.0 earlier l.1 in
    let last = at_grown l.2 in (
      at_part (record { more = first.0; grown = first.1 }) refl more l.2,
      left_out_all pod me old new earlier l.0 l.1 (grown_more (record { more = last.0; grown = last.1 }) more),
    )

each_stage : (P : Area → Type 0) → AllByRecursion P stages → (a : Area) → is_stage a ≡ true → P a
each_stage P all area.Garbage is = all.0
each_stage P all area.ExitedGarbage is = all.1.0
each_stage P all area.Run is = all.1.1.0
each_stage P all area.Prepared is = all.1.1.1.0
each_stage P all area.Prepare is = all.1.1.1.1.0
each_stage P all area.Embryo is = all.1.1.1.1.1.0
each_stage P all a is = cc

pub rm_none_before : (pod : PodId) {me : ℕ} {old new : List Event} → Quiet me old new → OnceFound (FoundNoPod pod) me old new → StandsNowhere pod (state_after old)
rm_none_before pod {me} {old} {new} quiet m a stage =
    let asks = in_process (is_look_at (is_pod_spot pod)) in
    let ext : Extends asks me old new = whole_process m.begins m.so.only m.finishes in
    let at = each_stage (λ x. AtOwnStep me m.begun m.ended (λ s. stands s.namespace (pod_spot pod x) ≡ false)) (left_out_all pod me m.begun m.ended stages m.ended m.so.read grown_none) a stage in
    back_at (λ s. stands s.namespace (pod_spot pod a) ≡ false) asks me
    (λ s request reply h none. subst (λ (fs : List (Option Spot)). is_some (folder_at (record s.namespace { folders = fs }) (pod_spot pod a)) ≡ false) (looks_leave (is_pod_spot pod) me s.namespace request reply h) none)
    (at_process m.begins m.finishes at) ext quiet
