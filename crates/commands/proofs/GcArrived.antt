-- Where nobody else steps, the folder of a pod that a sweep moved is the one that stood where the pod was moved from.
use Rattle.std.proofs.Common.{◌≡◌, ◌⊎◌, inl, inr, ℕ, true, false, Option, Some, is_some, List, [], ◌∷◌, sym, ap, subst, ◌∙◌}
use Rattle.std.specs.List.{AllByRecursion}
use Rattle.dir_model.specs.declared.area.Area.{Area}
use Rattle.dir_model.specs.declared.event.Event.{Event}
use Rattle.dir_model.specs.declared.pod.PodId.{PodId}
use Rattle.dir_model.specs.declared.spot.Spot.{Spot}
use Rattle.dir_model.specs.declared.request.Request.TheVariants.{MoveFolder}
use Rattle.dir_model.specs.declared.request.Reply.TheVariants.{Done}
use Rattle.dir_model.specs.Areas.{is_stage}
use Rattle.dir_model.specs.Calls.{event, CallStep, TookPlace, LeftNothing, Extends}
use Rattle.dir_model.specs.Quiet.{Quiet}
use Rattle.dir_model.specs.State.{DirState, folder_at, stands}
use Rattle.dir_model.specs.Trace.{state_after, state_next}
use Rattle.dir_model.proofs.Allowed.{allowed_reply}
use Rattle.dir_model.proofs.Chains.{state_after-push}
use Rattle.dir_model.proofs.Moments.{some_number}
use Rattle.dir_model.proofs.Spots.{spot_self}
use Rattle.lifecycle.specs.Executions.{IsConforming}
use Rattle.lifecycle.proofs.Places.{none_stands, moved_there}
use Rattle.lifecycle.proofs.Step.{stands_from}
use Rattle.dir_model.specs.Spots.{pod_spot}
use Rattle.pod_locks.specs.Work.{Grew}
use Rattle.pod_locks.proofs.Traces.{grown_more}
use Rattle.pod_locks.specs.Causes.{Did}
use Rattle.pod_gc.specs.declared.ages.Times.{Times}
use Rattle.pod_gc.specs.declared.line.Deed.TheVariants.{Moved}
use Rattle.pod_gc.specs.declared.line.GcLine.{GcLine}
use Rattle.pod_gc.specs.Requests.{sweeps}
use Rattle.pod_gc.specs.Told.{IsLineOfTurn, TellsShown}
use Rattle.command_outcomes.specs.Meanwhile.{Meanwhile}
use Rattle.commands.specs.Gc.{SweepsByPasses}
use Rattle.commands.proofs.OwnSteps.{in_process, back_from}
use Rattle.commands.proofs.OneNumber.{one_number}
use Rattle.commands.proofs.GcQuiet.{each_shown, stood_back}
use Rattle.commands.proofs.GcTurn.{turn_after, turn_before}

-- just before an own move the folder stood in one place, and just after it in the other
pub record MovedBy (from to : Spot) (old new : List Event) : Type 0 where
  pub folder : ℕ
  pub before : List Event
  pub after : List Event
  pub first : Grew old before
  pub rest : Grew before new
  pub last : Grew after new
  pub was : folder_at (state_after before).namespace from ≡ Some folder
  pub is : folder_at (state_after after).namespace to ≡ Some folder

pub moved_by : (from to : Spot) (me : ℕ) (old new : List Event) → Did (MoveFolder from to) Done me old new → MovedBy from to old new
moved_by from to me old new did = by s.own
  where
    s : CallStep me did.each.0 (MoveFolder from to) Done did.each.1
    s = did.each.3

    e : Event
    e = event me (MoveFolder from to) Done

    by : TookPlace s.before me (MoveFolder from to) Done did.each.1 ⊎ LeftNothing s.before me (MoveFolder from to) Done did.each.1 → MovedBy from to old new
    by (inr left) = let clash : false ≡ true = left.late in cc
    by (inl took) =
        let w = state_after s.before in
        let stood = stands_from w me from to (allowed_reply w me (MoveFolder from to) Done took.allowed) in
        let f = some_number (folder_at w.namespace from) stood.0 in
        let next : state_after did.each.1 ≡ state_next w e = ap state_after took.grown ∙ state_after-push s.before e in
        record {
          folder = f.0;
          before = s.before;
          after = did.each.1;
          first = grown_more did.each.2 (record { more = s.meanwhile.others; grown = s.meanwhile.grown });
          rest = grown_more (record { more = e ∷ []; grown = took.grown }) did.each.4;
          last = did.each.4;
          was = f.1;
          is = ap (λ (z : DirState). folder_at z.namespace to) next ∙ (moved_there w.namespace to from to (none_stands w.namespace to stood.1) (spot_self to) ∙ f.1);
        }

-- the folder that stood there before stands here at some time
pub record Arrived (pod : PodId) (from to : Area) (old new : List Event) : Type 0 where
  pub folder : ℕ
  pub stood : folder_at (state_after old).namespace (pod_spot pod from) ≡ Some folder
  pub at : List Event
  pub rest : Grew at new
  pub there : folder_at (state_after at).namespace (pod_spot pod to) ≡ Some folder

abbrev pub ArrivesSo : List Event → List Event → GcLine → Type 0
ArrivesSo old new line = (pod : PodId) (to : Area) → line.pod ≡ Some pod → line.deed ≡ Moved to → Arrived pod line.place to old new

module _ (times : Times) (lines : List GcLine) {me : ℕ} {old new : List Event} (ext : Extends (in_process (sweeps times.now)) me old new) (quiet : Quiet me old new) (m : Meanwhile (SweepsByPasses times lines) me old new) (conforming : IsConforming new) where
  to_new : Grew old new
  to_new = record { more = quiet.more; grown = quiet.grown }

  -- of one turn
  pub turn_arrives : {Can : Type 0} (here : Area) → is_stage here ≡ true → (ls : List GcLine) (a b : List Event) → Grew old a → Grew b new → (t : TellsShown Can times here ls me a b) → (line : GcLine) → (x : IsLineOfTurn Can times here t.names line me t.listed b) → (to : Area) → line.deed ≡ Moved to
      → (y : MovedBy (pod_spot x.shown here) (pod_spot x.shown to) x.from x.upto) × (folder_at (state_after old).namespace (pod_spot x.shown here) ≡ Some y.folder)
  turn_arrives {Can} here stage ls a b to_a from_b t line x to deed =
      let c = x.dealt.cause.moved to deed in
      let first = turn_after stage quiet to_a from_b t x in
      let last = turn_before stage quiet to_a from_b t x in
      let y = moved_by (pod_spot x.shown here) (pod_spot x.shown to) me x.from x.upto c.2 in
      let stood = back_from (λ s. stands s.namespace (pod_spot x.shown here) ≡ true) (in_process (sweeps times.now)) me (λ s request reply h there. stood_back times.now x.shown here c.0 me s request reply h there) y.before
      (grown_more first y.first) (grown_more y.rest last) ext quiet (ap (λ (o : Option ℕ). is_some o) y.was) in
      let k = some_number (folder_at (state_after old).namespace (pod_spot x.shown here)) stood in
      let one : k.0 ≡ y.folder = one_number new conforming (pod_spot x.shown here) stage old y.before to_new (grown_more y.rest last) k.0 y.folder k.1 y.was in
      (y, k.1 ∙ ap Some one)

  told_arrives : {Can : Type 0} (here : Area) → is_stage here ≡ true → (ls : List GcLine) (a b : List Event) → Grew old a → Grew b new → (t : TellsShown Can times here ls me a b) → (line : GcLine) → IsLineOfTurn Can times here t.names line me t.listed b → ArrivesSo old new line
  told_arrives {Can} here stage ls a b to_a from_b t line x pod to is deed =
      let same : x.shown ≡ pod = let e : Some x.shown ≡ Some pod = sym x.pod_is ∙ is in cc in
      let z = turn_arrives here stage ls a b to_a from_b t line x to deed in
      let last = turn_before stage quiet to_a from_b t x in
      let arrived : Arrived x.shown here to old new = record { folder = z.0.folder; stood = z.1; at = z.0.after; rest = grown_more z.0.last last; there = z.0.is } in
      subst (λ (p : Area). Arrived pod p to old new) (sym x.place_is) (subst (λ (q : PodId). Arrived q here to old new) same arrived)

  pub gc_arrives : AllByRecursion (ArrivesSo old new) lines
  gc_arrives = each_shown times lines ext quiet m (ArrivesSo old new) (λ Can can here stage ls a b to_a from_b t line x. told_arrives here stage ls a b to_a from_b t line x) (λ pod to is deed. cc)
