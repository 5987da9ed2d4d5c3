-- A handle on Own that stands for the folder of a pod was opened at a place of the pod.
use Rattle.std.proofs.Common.{arith, ◌≡◌, ◌⊎◌, inl, inr, ◌<◌, ℕ, Bool, true, false, not, ◌&&◌, ◌==◌, cond, bytes_eq, Some, None, unwrap_or, List, [], ◌∷◌, length, refl, sym, ap, subst, ◌∙◌}
use Rattle.std.proofs.lemmas.Bool.{and_parts}
use Rattle.plain_laws.proofs.Texts.{same_text}
use Rattle.dir_model.specs.declared.area.Area.{Area}
use Rattle.dir_model.specs.declared.spot.Spot.{Spot}
use Rattle.dir_model.specs.declared.spot.Handle.{Handle}
use Rattle.dir_model.specs.declared.spot.Mode.{Mode}
use Rattle.dir_model.specs.declared.spot.Which.{Which}
use Rattle.dir_model.specs.declared.spot.Which.TheVariants as which
use Rattle.dir_model.specs.declared.opening.Opening.{Opening}
use Rattle.dir_model.specs.declared.opening.Target.{Target}
use Rattle.dir_model.specs.declared.request.Request.{Request}
use Rattle.dir_model.specs.declared.request.Request.TheVariants.{Begin, MakeFolder, MoveFolder, Open, OpenArea, TryLock, Close, RemoveFolder, Kill}
use Rattle.dir_model.specs.declared.request.Request.TheVariants as request
use Rattle.dir_model.specs.declared.request.Reply.{Reply}
use Rattle.dir_model.specs.declared.request.Reply.TheVariants.{Done, Opened, Refused}
use Rattle.dir_model.specs.Locks.{is_handle, target_of, is_own}
use Rattle.dir_model.specs.State.{spot_eq, Namespace, DirState, folder_at, stands, empty_state}
use Rattle.dir_model.specs.Trace.{namespace_replied, opened, opened_gate, state_next, states_next, state_after}
use Rattle.dir_model.specs.Replies.{is_reply}
use Rattle.dir_rules.specs.Standing.{is_spot_of_pod, nothing_standing, stood}
use Rattle.dir_model.specs.Local.{is_own_of}
use Rattle.dir_model.specs.Areas.{is_stage}
use Rattle.dir_rules.specs.LockRules.{locks_allow_move}
use Rattle.lifecycle.specs.declared.machine.PodState.{PodState}
use Rattle.lifecycle.specs.declared.machine.PodState.TheVariants.{Absent}
use Rattle.dir_rules.specs.declared.standing.Standing.{Standing}
use Rattle.lifecycle.proofs.Lists.{In, in_push, in_filter}
use Rattle.lifecycle.proofs.Handles.{Sound, Was, locked_in, none_refused, refused_if}
use Rattle.dir_model.specs.declared.event.Event.{Event}
use Rattle.lifecycle.specs.PodMachine.{pod_state_next}
use Rattle.lifecycle.specs.Executions.{IsConforming}
use Rattle.lifecycle.proofs.Places.{same_name, made_there, made_elsewhere, moved_there, moved_away, moved_elsewhere, removed_there, removed_elsewhere, none_stands}
use Rattle.lifecycle.proofs.Numbers.{one_spot}
use Rattle.dir_model.specs.declared.request.DirError.TheVariants.{Exists}
use Rattle.lifecycle.proofs.Makes.{of_same, of_name}
use Rattle.lifecycle.proofs.Arrivals.{moves_pods}
use Rattle.lifecycle.proofs.Step.{Given, stands_from}
use Rattle.lifecycle.proofs.Run.{Good, ConformingFrom, given, next_good, conforming_tail, good_start, conforming_from}
use Rattle.dir_model.proofs.Lists.{and_both, or_last}

abbrev pub Right : List ℕ → Namespace → Type 0
Right u n = (spot : Spot) → is_spot_of_pod u spot ≡ true → (f : ℕ) → folder_at n spot ≡ Some f → (o : Opening) →
    In o n.openings → is_own o.target ≡ true → o.folder ≡ Some f → is_own_of u o.target ≡ true

right_opened : (u : List ℕ) (n : DirState) (p : ℕ) (spot : Spot) (kind : Which) (h : Handle) →
    is_reply n p (Open spot kind) (Opened h) ≡ true → Right u n.namespace →
    Right u (namespace_replied n.namespace p (Open spot kind) (Opened h))
right_opened u n p spot kind h is right here of f at o i on same =
    by (in_push o n.namespace.openings (opened n.namespace p h spot kind) i)
  where
    new : (w : Which) → is_own (target_of spot w) ≡ true → folder_at n.namespace spot ≡ Some f →
        is_own_of u (target_of spot w) ≡ true
    new which.Own on same = sym (of_same u here spot (one_spot n.namespace here spot f at same)) ∙ of
    new which.Claim on same = cc

    by : In o n.namespace.openings ⊎ (o ≡ opened n.namespace p h spot kind) → is_own_of u o.target ≡ true
    by (inl j) = right here of f at o j on same
    by (inr e) = subst (λ (x : Opening). is_own_of u x.target ≡ true) (sym e)
        (new kind (subst (λ (x : Opening). is_own x.target ≡ true) e on)
        (ap (λ (x : Opening). x.folder) (sym e) ∙ same))

right_gate : (u : List ℕ) (n : Namespace) (p : ℕ) (a : Area) (h : Handle) → Right u n →
    Right u (namespace_replied n p (OpenArea a) (Opened h))
right_gate u n p a h right here of f at o i on same = by (in_push o n.openings (opened_gate p h a) i)
  where
    by : In o n.openings ⊎ (o ≡ opened_gate p h a) → is_own_of u o.target ≡ true
    by (inl j) = right here of f at o j on same
    by (inr e) = let x : false ≡ true = subst (λ (x : Opening). is_own x.target ≡ true) e on in absurd (cc)

right_made : (u : List ℕ) (n : DirState) (p : ℕ) (spot : Spot) → is_reply n p (MakeFolder spot) Done ≡ true →
    Sound n.namespace → Right u n.namespace → Right u (namespace_replied n.namespace p (MakeFolder spot) Done)
right_made u n p spot is sound right here of f at o i on same = by (spot_eq spot here) refl
  where
    by : (b : Bool) → spot_eq spot here ≡ b → is_own_of u o.target ≡ true
    by false e = right here of f (sym (made_elsewhere n.namespace here spot e) ∙ at) o i on same
    by true e =
        let l : f < length n.namespace.folders = sound.bounded o i f same in
        let g : length n.namespace.folders ≡ f = ap (λ z. unwrap_or z 0)
        (sym (made_there n.namespace here spot (none_stands n.namespace spot
        (refused_if (stands n.namespace spot) Exists (none_refused n p (MakeFolder spot) refl is))) e) ∙ at) in
        absurd (omega (arith, l, g))

right_fewer : (u : List ℕ) (n m : Namespace) → ((spot : Spot) (f : ℕ) → folder_at m spot ≡ Some f →
    is_spot_of_pod u spot ≡ true → (here : Spot) × ((is_spot_of_pod u here ≡ true) × (folder_at n here ≡ Some f))) →
    ((o : Opening) → In o m.openings → (a : Opening) ×
    (In a n.openings × ((o.target ≡ a.target) × (o.folder ≡ a.folder)))) → Right u n → Right u m
right_fewer u n m places less right spot of f at o i on same =
    let x = places spot f at of in
    let a = less o i in
    subst (λ (t : Target). is_own_of u t ≡ true) (sym a.1.1.0)
    (right x.0 x.1.0 f x.1.1 a.0 a.1.0 (subst (λ (t : Target). is_own t ≡ true) a.1.1.0 on) (sym a.1.1.1 ∙ same))

same_places : (u : List ℕ) (n : Namespace) (spot : Spot) (f : ℕ) → folder_at n spot ≡ Some f → is_spot_of_pod u spot ≡ true →
    (here : Spot) × ((is_spot_of_pod u here ≡ true) × (folder_at n here ≡ Some f))
same_places u n spot f at of = (spot, (of, at))

none_found : {X : Type 0} (f : ℕ) → None ≡ Some f → X
none_found f e = absurd (cc)

right_moved : (u : List ℕ) (n : DirState) (s : PodState) (σ : ℕ → Standing) (p : ℕ) (from to : Spot) →
    Given u n s σ p (MoveFolder from to) Done → Right u n.namespace →
    Right u (namespace_replied n.namespace p (MoveFolder from to) Done)
right_moved u n s σ p from to g right =
    right_fewer u n.namespace (namespace_replied n.namespace p (MoveFolder from to) Done) places
    (λ o i. (o, (i, (refl, refl)))) right
  where
    stand : (stands n.namespace from ≡ true) × (stands n.namespace to ≡ false)
    stand = stands_from n p from to g.is

    ruled : is_spot_of_pod u to ≡ true → is_spot_of_pod u from ≡ true
    ruled of =
        let pod = and_parts (is_stage to.area) (bytes_eq to.name u) of in
        let r = and_parts (bytes_eq from.name to.name) (locks_allow_move (σ p) from.name from.area to.area)
        (sym (ap (λ b. cond b (bytes_eq from.name to.name && locks_allow_move (σ p) from.name from.area to.area)
        true) (or_last (is_stage from.area) (is_stage to.area) pod.0)) ∙ g.rule refl) in
        and_both (is_stage from.area) (bytes_eq from.name u) (moves_pods (σ p) from.name from.area to.area r.1).0
        (same_name from.name u (same_text from.name to.name r.0 ∙ of_name u to of))

    places : (spot : Spot) (f : ℕ) → folder_at (namespace_replied n.namespace p (MoveFolder from to) Done) spot ≡ Some f
        → is_spot_of_pod u spot ≡ true → (here : Spot) × ((is_spot_of_pod u here ≡ true) × (folder_at n.namespace here ≡ Some f))
    places spot f at of = by (spot_eq to spot) (spot_eq from spot) refl refl
      where
        by : (b c : Bool) → spot_eq to spot ≡ b → spot_eq from spot ≡ c →
            (here : Spot) × ((is_spot_of_pod u here ≡ true) × (folder_at n.namespace here ≡ Some f))
        by true c e h = (
          from,
          (
            ruled (of_same u to spot e ∙ of),
            sym
                (moved_there n.namespace spot from to (none_stands n.namespace to stand.1) e) ∙ at,
          ),
        )
        by false true e h = none_found f (sym (moved_away n.namespace spot from to e h) ∙ at)
        by false false e h = (spot, (of, sym (moved_elsewhere n.namespace spot from to e h) ∙ at))

right_removed : (u : List ℕ) (n : Namespace) (p : ℕ) (gone : Spot) → Right u n →
    Right u (namespace_replied n p (RemoveFolder gone) Done)
right_removed u n p gone right =
    right_fewer u n (namespace_replied n p (RemoveFolder gone) Done) places (λ o i. (o, (i, (refl, refl)))) right
  where
    places : (spot : Spot) (f : ℕ) → folder_at (namespace_replied n p (RemoveFolder gone) Done) spot ≡ Some f →
        is_spot_of_pod u spot ≡ true → (here : Spot) × ((is_spot_of_pod u here ≡ true) × (folder_at n here ≡ Some f))
    places spot f at of = by (spot_eq gone spot) refl
      where
        by : (b : Bool) → spot_eq gone spot ≡ b → (here : Spot) × ((is_spot_of_pod u here ≡ true) × (folder_at n here ≡ Some f))
        by true e = none_found f (sym (removed_there n spot gone e) ∙ at)
        by false e = (spot, (of, sym (removed_elsewhere n spot gone e) ∙ at))

right_locked : (u : List ℕ) (n : Namespace) (p : ℕ) (h : Handle) (m : Mode) → Right u n →
    Right u (namespace_replied n p (TryLock h m) Done)
right_locked u n p h m right =
    right_fewer u n (namespace_replied n p (TryLock h m) Done) (λ spot f at of. same_places u n spot f at of)
    (λ o i. by o (locked_in p h m n.openings o i)) right
  where
    by : (o : Opening) → Was p h m n.openings o →
        (a : Opening) × (In a n.openings × ((o.target ≡ a.target) × (o.folder ≡ a.folder)))
    by o (a, (i, (inl e))) = (a, (i, (ap (λ (x : Opening). x.target) e.1, ap (λ (x : Opening). x.folder) e.1)))
    by o (a, (i, (inr e))) = (a, (i, (ap (λ (x : Opening). x.target) e.1, ap (λ (x : Opening). x.folder) e.1)))

pub right_step : (u : List ℕ) (n : DirState) (s : PodState) (σ : ℕ → Standing) (p : ℕ) (request : Request)
    (reply : Reply) → Given u n s σ p request reply → Right u n.namespace →
    Right u (namespace_replied n.namespace p request reply)
right_step u n s σ p request (Refused e left) g right = right
right_step u n s σ p (MakeFolder spot) Done g right = right_made u n p spot g.is g.inv.sound right
right_step u n s σ p (MoveFolder from to) Done g right = right_moved u n s σ p from to g right
right_step u n s σ p (RemoveFolder spot) Done g right = right_removed u n.namespace p spot right
right_step u n s σ p (TryLock h m) Done g right = right_locked u n.namespace p h m right
right_step u n s σ p (Close h) Done g right =
    right_fewer u n.namespace (namespace_replied n.namespace p (Close h) Done)
    (λ spot f at of. same_places u n.namespace spot f at of)
    (λ o i. (o, ((in_filter (λ o. not (is_handle p h o)) o n.namespace.openings i).0, (refl, refl)))) right
right_step u n s σ p request.Finish Done g right =
    right_fewer u n.namespace (namespace_replied n.namespace p request.Finish Done)
    (λ spot f at of. same_places u n.namespace spot f at of)
    (λ o i. (o, ((in_filter (λ o. not (o.process == p)) o n.namespace.openings i).0, (refl, refl)))) right
right_step u n s σ p Kill Done g right =
    right_fewer u n.namespace (namespace_replied n.namespace p Kill Done)
    (λ spot f at of. same_places u n.namespace spot f at of)
    (λ o i. (o, ((in_filter (λ o. not (o.process == p)) o n.namespace.openings i).0, (refl, refl)))) right
right_step u n s σ p (Open spot which) (Opened h) g right = right_opened u n p spot which h g.is right
right_step u n s σ p (OpenArea a) (Opened h) g right = right_gate u n.namespace p a h right
right_step u n s σ p request (Opened h) g right = right
right_step u n s σ p request Done g right = right
right_step u n s σ p request reply g right = right

right_from : (u : List ℕ) (es : List Event) (n : DirState) (s : PodState) (σ : ℕ → Standing) → Good u n s σ →
    ConformingFrom u n σ es → Right u n.namespace → Right u (states_next n es).namespace
right_from u [] n s σ good conforming right = right
right_from u (e ∷ es) n s σ good conforming right =
    let g = given u n s σ e es good conforming in
    right_from u es (state_next n e) (pod_state_next u n.namespace s e) (λ q. stood q (σ q) e) (next_good u n s σ e g)
    (conforming_tail u n σ e es conforming) (right_step u n s σ e.process e.request e.reply g right)

pub right : (u : List ℕ) (h : List Event) → IsConforming h → Right u (state_after h).namespace
right u h conforming = right_from u h empty_state Absent (λ q. nothing_standing) (good_start u)
    (conforming_from u h conforming) (λ spot of f at o i on same. absurd i)
