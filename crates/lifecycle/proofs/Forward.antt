-- A pod only gets further along; until it leaves an area its folder stands there.
use Rattle.std.proofs.Common.{arith, ◌≡◌, ◌≤◌, ℕ, Bool, true, false, cond, bytes_eq, Option, Some, None, is_some, List, [], ◌∷◌, refl, ap, ◌∙◌}
use Rattle.std.proofs.lemmas.Bool.{and_parts}
use Rattle.plain_laws.proofs.Booleans.{clash}
use Rattle.dir_model.specs.declared.area.Area.{Area}
use Rattle.dir_model.specs.declared.area.Area.TheVariants as area
use Rattle.dir_model.specs.declared.spot.Spot.{Spot}
use Rattle.dir_model.specs.declared.request.Request.{Request}
use Rattle.dir_model.specs.declared.request.Request.TheVariants.{MakeFolder, MoveFolder, Open, OpenArea, RemoveFolder}
use Rattle.dir_model.specs.declared.request.Reply.{Reply}
use Rattle.dir_model.specs.declared.request.Reply.TheVariants.{Done, Opened, Refused}
use Rattle.dir_model.specs.State.{spot_eq, DirState, folder_at, stands}
use Rattle.dir_model.specs.Trace.{namespace_replied, state_next, states_next}
use Rattle.dir_model.specs.Replies.{is_reply}
use Rattle.dir_rules.specs.Standing.{is_spot_of_pod, stood}
use Rattle.dir_model.specs.Areas.{is_stage}
use Rattle.lifecycle.specs.declared.machine.PodState.{PodState}
use Rattle.lifecycle.specs.declared.machine.PodState.TheVariants.{Absent, Embryo, Preparing, AbortedPrepare, Prepared, Running, Exited, ExitedGarbage, Garbage, Deleting, Gone}
use Rattle.lifecycle.specs.declared.machine.Transition.{Transition}
use Rattle.lifecycle.specs.declared.machine.Transition.TheVariants as turn
use Rattle.lifecycle.specs.PodMachine.{enabled, leads, after_transition, transition, is_area_of_state, pod_progress, age_in}
use Rattle.dir_rules.specs.declared.standing.Standing.{Standing}
use Rattle.lifecycle.proofs.Handles.{none_refused, refused_if}
use Rattle.lifecycle.proofs.Invariant.{placed_age}
use Rattle.dir_model.specs.declared.event.Event.{Event}
use Rattle.lifecycle.specs.PodMachine.{pod_state_next, pod_state_from}
use Rattle.lifecycle.proofs.Places.{made_elsewhere, moved_away, moved_elsewhere, removed_there, removed_elsewhere, none_stands, folder_like}
use Rattle.dir_model.specs.declared.request.DirError.TheVariants.{Exists}
use Rattle.lifecycle.proofs.Opens.{found_pod}
use Rattle.lifecycle.proofs.Ends.{ended_age}
use Rattle.lifecycle.proofs.Step.{stands_from}
use Rattle.lifecycle.proofs.Run.{Good, ConformingFrom, given, next_good, conforming_tail}
use Rattle.lifecycle.proofs.Lists.{no_less}

leads_on : (x : Transition) (p : ℕ) (s : PodState) → enabled x p s ≡ true → pod_progress s ≤ pod_progress (leads x p s)
leads_on turn.Make p Absent h = omega arith
leads_on turn.BeginPrepare p (Embryo m) h = omega arith
leads_on turn.Finish p (Preparing o) h = omega arith
leads_on turn.Start p (Preparing o) h = omega arith
leads_on turn.Start p Prepared h = omega arith
leads_on turn.End p s h = ended_age s
leads_on turn.Mark p Exited h = omega arith
leads_on turn.Sweep p (Embryo m) h = omega arith
leads_on turn.Sweep p AbortedPrepare h = omega arith
leads_on turn.Sweep p Prepared h = omega arith
leads_on turn.BeginDelete p ExitedGarbage h = omega arith
leads_on turn.BeginDelete p Garbage h = omega arith
leads_on turn.Remove p (Deleting o area.ExitedGarbage) h = omega arith
leads_on turn.Remove p (Deleting o f) h = omega arith
leads_on x p s h = cc

turned_on : (o : Option Transition) (p : ℕ) (s : PodState) → pod_progress s ≤ pod_progress (after_transition o p s)
turned_on None p s = no_less (pod_progress s)
turned_on (Some x) p s = by (enabled x p s) refl
  where
    by : (b : Bool) → enabled x p s ≡ b → pod_progress s ≤ pod_progress (cond b (leads x p s) s)
    by true e = leads_on x p s e
    by false e = no_less (pod_progress s)

-- along any trace
pub ages : (u : List ℕ) (es : List Event) (n : DirState) (s : PodState) → pod_progress s ≤ pod_progress (pod_state_from u n s es)
ages u [] n s = no_less (pod_progress s)
ages u (e ∷ es) n s =
    let x : pod_progress s ≤ pod_progress (pod_state_next u n.namespace s e) =
    turned_on (transition u n.namespace s e.process e.request e.reply) e.process s in
    let y : pod_progress (pod_state_next u n.namespace s e) ≤ pod_progress (pod_state_from u (state_next n e)
    (pod_state_next u n.namespace s e) es) = ages u es (state_next n e) (pod_state_next u n.namespace s e) in
    omega (arith, x, y)

-- how far along it is at most in an area
abbrev pub age_out : Area → ℕ
age_out area.Embryo = 1
age_out area.Prepare = 3
age_out area.Prepared = 4
age_out area.Run = 6
age_out area.ExitedGarbage = 7
age_out area.Garbage = 8
age_out _ = 0

pub out_age : (a : Area) (s : PodState) → is_area_of_state a s ≡ true → pod_progress s ≤ age_out a
out_age area.Embryo (Embryo m) h = omega arith
out_age area.Prepare (Preparing o) h = omega arith
out_age area.Prepare AbortedPrepare h = omega arith
out_age area.Prepared Prepared h = omega arith
out_age area.Run (Running o) h = omega arith
out_age area.Run Exited h = omega arith
out_age area.ExitedGarbage ExitedGarbage h = omega arith
out_age area.Garbage Garbage h = omega arith
out_age area.ExitedGarbage (Deleting o area.ExitedGarbage) h = omega arith
out_age area.Garbage (Deleting o area.ExitedGarbage) h = cc
out_age area.Garbage (Deleting o f) h = omega arith
out_age a s h = cc

abbrev place_number : PodState → ℕ
place_number Absent = 0
place_number (Embryo m) = 1
place_number (Preparing o) = 2
place_number AbortedPrepare = 2
place_number Prepared = 3
place_number (Running o) = 4
place_number Exited = 4
place_number ExitedGarbage = 5
place_number (Deleting o area.ExitedGarbage) = 5
place_number (Deleting o f) = 6
place_number Garbage = 6
place_number Gone = 7

-- between these it stands there
pub between : (a : Area) (s : PodState) → is_stage a ≡ true → age_in a ≤ pod_progress s → pod_progress s ≤ age_out a → is_area_of_state a s ≡ true
between area.Embryo (Embryo m) is l g = refl
between area.Prepare (Preparing o) is l g = refl
between area.Prepare AbortedPrepare is l g = refl
between area.Prepared Prepared is l g = refl
between area.Run (Running o) is l g = refl
between area.Run Exited is l g = refl
between area.ExitedGarbage ExitedGarbage is l g = refl
between area.Garbage Garbage is l g = refl
between area.ExitedGarbage (Deleting o area.ExitedGarbage) is l g = refl
between area.Garbage (Deleting o area.ExitedGarbage) is l g = absurd (omega (arith, l, g))
between area.Garbage (Deleting o f) is l g = refl
between area.Embryo (Deleting o area.ExitedGarbage) is l g = absurd (omega (arith, l, g))
between area.Embryo (Deleting o f) is l g = absurd (omega (arith, l, g))
between area.Embryo s is l g = absurd (omega (arith, l, g))
between area.Prepare (Deleting o area.ExitedGarbage) is l g = absurd (omega (arith, l, g))
between area.Prepare (Deleting o f) is l g = absurd (omega (arith, l, g))
between area.Prepare s is l g = absurd (omega (arith, l, g))
between area.Prepared (Deleting o area.ExitedGarbage) is l g = absurd (omega (arith, l, g))
between area.Prepared (Deleting o f) is l g = absurd (omega (arith, l, g))
between area.Prepared s is l g = absurd (omega (arith, l, g))
between area.Run (Deleting o area.ExitedGarbage) is l g = absurd (omega (arith, l, g))
between area.Run (Deleting o f) is l g = absurd (omega (arith, l, g))
between area.Run s is l g = absurd (omega (arith, l, g))
between area.ExitedGarbage (Deleting o f) is l g = absurd (omega (arith, l, g))
between area.ExitedGarbage s is l g = absurd (omega (arith, l, g))
between area.Garbage s is l g = absurd (omega (arith, l, g))
between a s is l g = cc

-- a step that leaves a folder standing at a location where one stood leaves that folder
pub stand_step : (n : DirState) (p : ℕ) (request : Request) (reply : Reply) (spot : Spot) →
    is_reply n p request reply ≡ true → stands n.namespace spot ≡ true →
    stands (namespace_replied n.namespace p request reply) spot ≡ true →
    folder_at (namespace_replied n.namespace p request reply) spot ≡ folder_at n.namespace spot
stand_step n p request (Refused e left) spot is was stays = refl
stand_step n p (Open s w) (Opened h) spot is was stays = refl
stand_step n p (OpenArea a) (Opened h) spot is was stays = refl
stand_step n p request (Opened h) spot is was stays = refl
stand_step n p (MakeFolder new) Done spot is was stays = by (spot_eq new spot) refl
  where
    free : stands n.namespace new ≡ false
    free = refused_if (stands n.namespace new) Exists (none_refused n p (MakeFolder new) refl is)

    by : (b : Bool) → spot_eq new spot ≡ b → folder_at (namespace_replied n.namespace p (MakeFolder new) Done) spot ≡
        folder_at n.namespace spot
    by false e = made_elsewhere n.namespace spot new e
    by true e = clash (stands n.namespace spot) was (ap (λ (o : Option ℕ). is_some o)
        (folder_like n.namespace new spot e (none_stands n.namespace new free)))
stand_step n p (MoveFolder from to) Done spot is was stays = by (spot_eq to spot) (spot_eq from spot) refl refl
  where
    stand : (stands n.namespace from ≡ true) × (stands n.namespace to ≡ false)
    stand = stands_from n p from to is

    by : (b c : Bool) → spot_eq to spot ≡ b → spot_eq from spot ≡ c →
        folder_at (namespace_replied n.namespace p (MoveFolder from to) Done) spot ≡ folder_at n.namespace spot
    by true c e f = clash (stands n.namespace spot) was (ap (λ (o : Option ℕ). is_some o)
        (folder_like n.namespace to spot e (none_stands n.namespace to stand.1)))
    by false true e f = clash (stands (namespace_replied n.namespace p (MoveFolder from to) Done) spot) stays
        (ap (λ (o : Option ℕ). is_some o) (moved_away n.namespace spot from to e f))
    by false false e f = moved_elsewhere n.namespace spot from to e f
stand_step n p (RemoveFolder gone) Done spot is was stays = by (spot_eq gone spot) refl
  where
    by : (b : Bool) → spot_eq gone spot ≡ b → folder_at (namespace_replied n.namespace p (RemoveFolder gone) Done) spot
        ≡ folder_at n.namespace spot
    by true e = clash (stands (namespace_replied n.namespace p (RemoveFolder gone) Done) spot) stays
        (ap (λ (o : Option ℕ). is_some o) (removed_there n.namespace spot gone e))
    by false e = removed_elsewhere n.namespace spot gone e
stand_step n p request Done spot is was stays = refl
stand_step n p request reply spot is was stays = refl

-- along a part after which the pod hasn't left the place, its folder stands there
pub stays_from : (u : List ℕ) (es : List Event) (n : DirState) (s : PodState) (σ : ℕ → Standing) (spot : Spot) (f : ℕ) →
    Good u n s σ → ConformingFrom u n σ es → is_spot_of_pod u spot ≡ true → folder_at n.namespace spot ≡ Some f →
    pod_progress (pod_state_from u n s es) ≤ age_out spot.area → folder_at (states_next n es).namespace spot ≡ Some f
stays_from u [] n s σ spot f good conforming of at bound = at
stays_from u (e ∷ es) n s σ spot f good conforming of at bound =
    let g = given u n s σ e es good conforming in
    let next = next_good u n s σ e g in
    let t : PodState = pod_state_next u n.namespace s e in
    let was : is_area_of_state spot.area s ≡ true = (found_pod u n.namespace s good.inv.pod spot of
    (ap (λ (o : Option ℕ). is_some o) at)).0 in
    let low : age_in spot.area ≤ pod_progress s = placed_age spot.area s was in
    let up : pod_progress s ≤ pod_progress t = turned_on (transition u n.namespace s e.process e.request e.reply) e.process s in
    let top : pod_progress t ≤ pod_progress (pod_state_from u (state_next n e) t es) = ages u es (state_next n e) t in
    let there : is_area_of_state spot.area t ≡ true = between spot.area t
    (and_parts (is_stage spot.area) (bytes_eq spot.name u) of).0 (omega (arith, low, up)) (omega (arith, top, bound)) in
    let stays : stands (state_next n e).namespace spot ≡ true =
    ap (λ (o : Option ℕ). is_some o) (next.inv.pod.at spot of ∙ ap (λ b. cond b (Some next.inv.pod.number) None)
    there) in
    stays_from u es (state_next n e) t (λ q. stood q (σ q) e) spot f next (conforming_tail u n σ e es conforming) of
    (stand_step n e.process e.request e.reply spot g.is (ap (λ (o : Option ℕ). is_some o) at) stays ∙ at) bound
