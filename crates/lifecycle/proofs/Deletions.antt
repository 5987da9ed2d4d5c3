-- What is removed of a pod, its owner removes, who deletes it; and a prepared pod is swept only where it is asked for.
use Rattle.std.proofs.Common.{◌≡◌, ℕ, Bool, true, false, not, ◌&&◌, cond, bytes_eq, Option, Some, None, is_some, List, [], ◌∷◌, ◌++◌, append_assoc, refl, sym, ap, subst, ◌∙◌}
use Rattle.std.proofs.lemmas.Bool.{and_parts}
use Rattle.plain_laws.proofs.Booleans.{clash}
use Rattle.plain_laws.proofs.Texts.{same_text}
use Rattle.dir_model.specs.declared.area.Area.{Area}
use Rattle.dir_model.specs.declared.area.Area.TheVariants as area
use Rattle.dir_model.specs.declared.spot.Spot.{Spot}
use Rattle.dir_model.specs.declared.item.Inner.{Inner}
use Rattle.dir_model.specs.declared.opening.Opening.{Opening}
use Rattle.dir_model.specs.declared.event.Event.{Event}
use Rattle.dir_model.specs.declared.request.Request.{Request}
use Rattle.dir_model.specs.declared.request.Request.TheVariants.{MoveFolder, RemoveFileIn, RemoveDirIn, RemoveFolder}
use Rattle.dir_model.specs.declared.request.Reply.{Reply}
use Rattle.dir_model.specs.declared.request.Reply.TheVariants.{Done, Opened, Refused}
use Rattle.dir_model.specs.Areas.{is_stage}
use Rattle.dir_model.specs.Paths.{is_well_formed}
use Rattle.dir_model.specs.State.{DirState, empty_state, folder_at, has_begun, lives, stands}
use Rattle.dir_model.specs.Trace.{state_next, state_after}
use Rattle.dir_model.specs.Replies.{is_reply, is_own_at, refused_in, file_refusal, dir_refusal, folder_refusal}
use Rattle.dir_model.specs.Calls.{is_begin, is_kill, is_allowed, is_run_from, IsRun, may_step, event}
use Rattle.dir_model.proofs.Chains.{run_from-right}
use Rattle.dir_rules.specs.declared.seen.Seen.{Seen}
use Rattle.dir_rules.specs.declared.standing.Standing.{Standing}
use Rattle.dir_rules.specs.Standing.{is_spot_of_pod, is_garbage, area_of, holds_own, standing_of}
use Rattle.dir_rules.specs.LockRules.{lock_rules_allow, locks_allow_move, may_remove}
use Rattle.dir_rules.specs.Rules.{has_asked_for_removal, allows, content_rules_allow, contents_allow_move}
use Rattle.dir_rules.specs.Conforms.{Conforms, seen_of}
use Rattle.lifecycle.specs.declared.machine.PodState.{PodState}
use Rattle.lifecycle.specs.declared.machine.PodState.TheVariants.{Prepared, Deleting}
use Rattle.lifecycle.specs.declared.machine.Transition.TheVariants as turn
use Rattle.lifecycle.specs.PodMachine.{pod_state, arrival, transition, is_area_of_state, is_owner, is_being_deleted}
use Rattle.lifecycle.specs.Executions.{IsConforming}
use Rattle.lifecycle.specs.Ownership.{is_removal_of}
use Rattle.lifecycle.proofs.Lists.{In}
use Rattle.lifecycle.proofs.Handles.{is_due}
use Rattle.lifecycle.proofs.Places.{same_name}
use Rattle.lifecycle.proofs.Linked.{own}
use Rattle.lifecycle.proofs.Invariant.{Pod, Knows, may_own, grip_of, holding}
use Rattle.lifecycle.proofs.Opens.{found_pod}
use Rattle.lifecycle.proofs.Arrivals.{moves_pods}
use Rattle.lifecycle.proofs.Removes.{deleting}
use Rattle.dir_rules.proofs.Standings.{standing_is}
use Rattle.dir_rules.proofs.Tied.{conforms-left, was_allowed}
use Rattle.lifecycle.proofs.Step.{removal_own, stands_from}
use Rattle.lifecycle.proofs.Phases.{Reached, reached}
use Rattle.lifecycle.proofs.Owners.{is_move_of, is_stay, stay_turn}
use Rattle.dir_model.proofs.Lists.{and_both, or_last, same_self}
use Rattle.dir_model.proofs.Allowed.{allowed_parts}

-- each request was allowed
pub allowed_at : (before : List Event) (p : ℕ) (request : Request) (reply : Reply) (later : List Event) →
    IsConforming (before ++ event p request reply ∷ later) → is_kill request ≡ false →
    allows (seen_of p before) request ≡ true
allowed_at before p request reply later l alive = was_allowed p before request reply alive
    (conforms-left p (before ++ event p request reply ∷ []) later
    (subst (λ (h : List Event). Conforms p h) (sym (append_assoc before (event p request reply ∷ []) later)) (l.rules p)))

pub asked_at : (before : List Event) (p : ℕ) (request : Request) (reply : Reply) (later : List Event) →
    IsConforming (before ++ event p request reply ∷ later) → is_kill request ≡ false →
    lock_rules_allow (standing_of p before) request ≡ true
asked_at before p request reply later l alive =
    ap (λ (s : Standing). lock_rules_allow s request) (sym (standing_is p before))
    ∙ (and_parts (lock_rules_allow (seen_of p before).standing request) (content_rules_allow (seen_of p before) request)
    (allowed_at before p request reply later l alive)).0

asked_by : (s : Seen) (from to : Spot) (x y : Area) → x ≡ area.Prepared → y ≡ area.Garbage →
    contents_allow_move s from to x y ≡ true → has_asked_for_removal s from.name ≡ true
asked_by s from to area.Prepared area.Garbage e f h = h
asked_by s from to area.Prepared y e f h = cc
asked_by s from to x y e f h = cc

-- a move of a prepared pod to garbage
pub sweep_asked : (before : List Event) (p : ℕ) (from to : Spot) (later : List Event) →
    IsConforming (before ++ event p (MoveFolder from to) Done ∷ later) → from.area ≡ area.Prepared →
    to.area ≡ area.Garbage → has_asked_for_removal (seen_of p before) from.name ≡ true
sweep_asked before p from to later l e f =
    let s = seen_of p before in
    let may = (and_parts (lock_rules_allow s.standing (MoveFolder from to)) (content_rules_allow s (MoveFolder from to))
    (allowed_at before p (MoveFolder from to) Done later l refl)).1 in
    asked_by s from to from.area to.area e f (and_parts (contents_allow_move s from to from.area to.area) _ may).0

-- the reply was one of the state
pub reply_at : (before : List Event) (p : ℕ) (request : Request) (reply : Reply) (later : List Event) →
    IsRun (before ++ event p request reply ∷ later) → is_reply (state_after before) p request reply ≡ true
reply_at before p request reply later run =
    let a = and_parts (is_allowed (state_after before) (event p request reply))
    (is_run_from (state_next (state_after before) (event p request reply)) later)
    (run_from-right empty_state before (event p request reply ∷ later) run) in
    (allowed_parts (state_after before) (event p request reply) a.0).1

due_at : (before : List Event) (p : ℕ) (request : Request) (reply : Reply) (later : List Event) →
    IsRun (before ++ event p request reply ∷ later) → is_due (state_after before).namespace p request ≡ true
due_at before p request reply later run =
    let a = and_parts (is_allowed (state_after before) (event p request reply))
    (is_run_from (state_next (state_after before) (event p request reply)) later)
    (run_from-right empty_state before (event p request reply ∷ later) run) in
    let b = allowed_parts (state_after before) (event p request reply) a.0 in
    (and_parts (is_well_formed request) (is_due (state_after before).namespace p request) b.0).1

-- a removal in a pod whose folder stands there
removal_deletes : (u : List ℕ) (before : List Event) (p : ℕ) (request : Request) (reply : Reply) (later : List Event)
    (spot : Spot) → IsConforming (before ++ event p request reply ∷ later) → is_begin request ≡ false →
    is_spot_of_pod u spot ≡ true → stands (state_after before).namespace spot ≡ true →
    may_remove (standing_of p before) spot ≡ true →
    (is_being_deleted (pod_state u before) ≡ true) × (is_owner p (pod_state u before) ≡ true)
removal_deletes u before p request reply later spot l on of there h =
    by (deleting p s spot.area (area_of o.0.target) z.0 at (ap (λ q. may_own s q (area_of o.0.target)) (sym o.1.1.0)
    ∙ pod.owns o.0 o.1.0 o.1.1.1))
  where
    s : PodState
    s = pod_state u before

    r : Reached u (state_after before) (pod_state u before) (λ q. standing_of q before) (event p request reply ∷ later)
    r = reached u before (event p request reply ∷ later) l

    pod : Pod u (state_after before).namespace (pod_state u before)
    pod = r.good.inv.pod

    knows : Knows u p (state_after before).namespace (pod_state u before) (standing_of p before)
    knows = r.good.inv.knows p (ap (λ c. cond c (not (has_begun (state_after before).namespace p))
        (lives (state_after before).namespace p)) (sym on) ∙ due_at before p request reply later l.run)

    at : is_area_of_state spot.area s ≡ true
    at = (found_pod u (state_after before).namespace s pod spot of there).0

    z : (is_garbage spot.area ≡ true) × (holds_own spot.name (standing_of p before) ≡ true)
    z = removal_own (standing_of p before) spot (and_parts (is_stage spot.area) (bytes_eq spot.name u) of).0 h

    holds : holds_own u (standing_of p before) ≡ true
    holds = ap (λ (v : List ℕ). holds_own v (standing_of p before))
        (sym (same_text spot.name u (and_parts (is_stage spot.area) (bytes_eq spot.name u) of).1)) ∙ z.1

    o : (o : Opening) × (In o (state_after before).namespace.openings × ((o.process ≡ p) × (grip_of u (own o) ≡ true)))
    o = holding p (state_after before).namespace (standing_of p before) (grip_of u) knows.linked holds

    by : (f : Area) × (s ≡ Deleting p f) → (is_being_deleted s ≡ true) × (is_owner p s ≡ true)
    by (f, e) = (ap is_being_deleted e, ap (λ (x : PodState). is_owner p x) e ∙ same_self p)

-- an Ok removal at a path in a folder found that folder
file_stands : (s : DirState) (p : ℕ) (inner : Inner) → is_reply s p (RemoveFileIn inner) Done ≡ true →
    stands s.namespace inner.spot ≡ true
file_stands s p inner h = by (folder_at s.namespace inner.spot) h
  where
    by : (o : Option ℕ) → cond (is_own_at s inner.path o) true
        (not (is_some (refused_in (file_refusal inner.path) s.entries o)) && true) ≡ true → is_some o ≡ true
    by (Some folder) h = refl
    by None h = cc

dir_stands : (s : DirState) (p : ℕ) (inner : Inner) → is_reply s p (RemoveDirIn inner) Done ≡ true →
    stands s.namespace inner.spot ≡ true
dir_stands s p inner h = by (folder_at s.namespace inner.spot) h
  where
    by : (o : Option ℕ) → cond (is_own_at s inner.path o) true
        (not (is_some (refused_in (dir_refusal inner.path) s.entries o)) && true) ≡ true → is_some o ≡ true
    by (Some folder) h = refl
    by None h = cc

folder_stands : (s : DirState) (p : ℕ) (spot : Spot) → is_reply s p (RemoveFolder spot) Done ≡ true →
    stands s.namespace spot ≡ true
folder_stands s p spot h = by (folder_at s.namespace spot) h
  where
    by : (o : Option ℕ) → (not (is_some (refused_in folder_refusal s.entries o)) && true) ≡ true → is_some o ≡ true
    by (Some folder) h = refl
    by None h = cc

-- what is removed of a pod, its owner removes, who deletes the pod
pub removed_by_owner : (u : List ℕ) (before : List Event) (p : ℕ) (request : Request) (later : List Event) →
    IsConforming (before ++ event p request Done ∷ later) → is_removal_of u request ≡ true →
    (is_being_deleted (pod_state u before) ≡ true) × (is_owner p (pod_state u before) ≡ true)
removed_by_owner u before p (RemoveFileIn inner) later l of =
    removal_deletes u before p (RemoveFileIn inner) Done later inner.spot l refl of
    (file_stands (state_after before) p inner (reply_at before p (RemoveFileIn inner) Done later l.run))
    (asked_at before p (RemoveFileIn inner) Done later l refl)
removed_by_owner u before p (RemoveDirIn inner) later l of =
    removal_deletes u before p (RemoveDirIn inner) Done later inner.spot l refl of
    (dir_stands (state_after before) p inner (reply_at before p (RemoveDirIn inner) Done later l.run))
    (asked_at before p (RemoveDirIn inner) Done later l refl)
removed_by_owner u before p (RemoveFolder spot) later l of =
    removal_deletes u before p (RemoveFolder spot) Done later spot l refl of
    (folder_stands (state_after before) p spot (reply_at before p (RemoveFolder spot) Done later l.run))
    (asked_at before p (RemoveFolder spot) Done later l refl)
removed_by_owner u before p request later l of = cc

-- a prepared pod is swept only where it is asked for
garbage_of : (a : Area) → arrival a ≡ Some turn.Sweep → a ≡ area.Garbage
garbage_of area.Garbage e = refl
garbage_of area.Prepare e = cc
garbage_of area.Prepared e = cc
garbage_of area.Run e = cc
garbage_of area.ExitedGarbage e = cc
garbage_of a e = cc

prepared_of : (a : Area) → is_area_of_state a Prepared ≡ true → a ≡ area.Prepared
prepared_of area.Prepared h = refl
prepared_of a h = cc

pub sweep_wanted : (u : List ℕ) (before : List Event) (p : ℕ) (request : Request) (reply : Reply) (later : List Event) →
    IsConforming (before ++ event p request reply ∷ later) →
    transition u (state_after before).namespace (pod_state u before) p request reply ≡ Some turn.Sweep →
    pod_state u before ≡ Prepared → has_asked_for_removal (seen_of p before) u ≡ true
sweep_wanted u before p request reply later l turns prepared = by (is_move_of u request reply) refl
  where
    moves : (from to : Spot) → IsConforming (before ++ event p (MoveFolder from to) Done ∷ later) → is_spot_of_pod u to ≡ true →
        arrival to.area ≡ Some turn.Sweep → has_asked_for_removal (seen_of p before) u ≡ true
    moves from to l of arrives =
        let pods = and_parts (is_stage to.area) (bytes_eq to.name u) of in
        let may = sym (ap (λ b. cond b (bytes_eq from.name to.name && locks_allow_move (standing_of p before) from.name
        from.area to.area) true) (or_last (is_stage from.area) (is_stage to.area) pods.0))
        ∙ asked_at before p (MoveFolder from to) Done later l refl in
        let x = and_parts (bytes_eq from.name to.name) (locks_allow_move (standing_of p before) from.name from.area to.area) may in
        let name : from.name ≡ u = same_text from.name to.name x.0 ∙ same_text to.name u pods.1 in
        let of_from : is_spot_of_pod u from ≡ true = and_both (is_stage from.area) (bytes_eq from.name u)
        (moves_pods (standing_of p before) from.name from.area to.area x.1).0 (same_name from.name u name) in
        let stand = stands_from (state_after before) p from to (reply_at before p (MoveFolder from to) Done later l.run) in
        let r = reached u before (event p (MoveFolder from to) Done ∷ later) l in
        let at = (found_pod u (state_after before).namespace (pod_state u before) r.good.inv.pod from of_from stand.0).0 in
        ap (λ (v : List ℕ). has_asked_for_removal (seen_of p before) v) (sym name)
        ∙ sweep_asked before p from to later l
        (prepared_of from.area (ap (λ (s : PodState). is_area_of_state from.area s) (sym prepared) ∙ at))
        (garbage_of to.area arrives)

    of_move : (request : Request) (reply : Reply) → IsConforming (before ++ event p request reply ∷ later) →
        is_move_of u request reply ≡ true → transition u (state_after before).namespace (pod_state u before) p request
        reply ≡ Some turn.Sweep → has_asked_for_removal (seen_of p before) u ≡ true
    of_move (MoveFolder from to) Done l of turns = moves from to l of (ap (λ b. cond b (arrival to.area) None) (sym of) ∙ turns)
    of_move (MoveFolder from to) (Refused error left) l of turns = cc
    of_move (MoveFolder from to) (Opened handle) l of turns = cc
    of_move request reply l of turns = cc

    by : (b : Bool) → is_move_of u request reply ≡ b → has_asked_for_removal (seen_of p before) u ≡ true
    by true of = of_move request reply l of turns
    by false off = clash (is_stay turn.Sweep) (stay_turn u (state_after before).namespace (pod_state u before) p request
        reply off turn.Sweep turns) refl
