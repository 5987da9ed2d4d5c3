-- What stands in prepared and in run was handed over by its maker, and lasts.
use Rattle.std.proofs.Common.{◌≡◌, ◌⊎◌, inl, inr, ◌<◌, ℕ, Bool, true, false, Some, None, List, [], ◌∷◌, ◌++◌, append_assoc, refl, sym, ap, subst, ◌∙◌}
use Rattle.plain_laws.proofs.Booleans.{clash}
use Rattle.plain_laws.proofs.Numbers.{one_number}
use Rattle.dir_model.specs.declared.area.Area.{Area}
use Rattle.dir_model.specs.declared.area.Area.TheVariants.{Prepare, Prepared, Run}
use Rattle.dir_model.specs.declared.event.Event.{Event}
use Rattle.dir_model.specs.declared.spot.Spot.{Spot}
use Rattle.dir_model.specs.declared.request.Request.{Request}
use Rattle.dir_model.specs.declared.request.Request.TheVariants.{MakeFolder, MoveFolder, RemoveFolder, Open, OpenArea}
use Rattle.dir_model.specs.declared.request.Reply.{Reply}
use Rattle.dir_model.specs.declared.request.Reply.TheVariants.{Done, Opened, Refused}
use Rattle.dir_model.specs.State.{DirState, folder_at, spot_eq}
use Rattle.dir_model.specs.Trace.{state_after, namespace_replied}
use Rattle.dir_model.specs.Calls.{is_kill, event}
use Rattle.dir_model.proofs.Chains.{state_after-push}
use Rattle.dir_model.proofs.Lists.{and_right}
use Rattle.dir_model.proofs.Spots.{spot_self}
use Rattle.dir_rules.specs.declared.seen.Seen.{Seen}
use Rattle.dir_rules.specs.LockRules.{lock_rules_allow}
use Rattle.dir_rules.specs.Rules.{allows, may_make_in, contents_allow_move}
use Rattle.dir_rules.specs.Conforms.{seen_of}
use Rattle.lifecycle.specs.Executions.{IsConforming}
use Rattle.lifecycle.proofs.Places.{made_elsewhere, moved_there, moved_away, moved_elsewhere, removed_there, removed_elsewhere, none_stands}
use Rattle.lifecycle.proofs.Step.{stands_from}
use Rattle.folder_contents.specs.Handing.{hands_over, then_moved, HandsOver}
use Rattle.folder_contents.proofs.Along.{Happens, along, happens}
use Rattle.folder_contents.proofs.Handed.{brought, handed}
use Rattle.folder_contents.proofs.Spots.{one_location}
use Rattle.folder_contents.specs.Filled.{is_after_handover, lasting, lasting_after, KeepsMadeContents, PodsAreFilled}
use Rattle.folder_contents.proofs.FilledSteps.{lasts}
use Rattle.folder_contents.proofs.LeftThere.{none_found}

-- how a folder comes to stand at a location: it stood there, was made there, or was moved there
abbrev Came : Spot → ℕ → DirState → Request → Reply → Type 0
Came spot folder st request reply =
    (folder_at st.namespace spot ≡ Some folder) ⊎
    ((new : Spot) × ((new ≡ spot) × ((request ≡ MakeFolder new) ⊎ ((from : Spot) × ((request ≡ MoveFolder from new) × (reply ≡ Done))))))

came : (st : DirState) (p : ℕ) (request : Request) (reply : Reply) (spot : Spot) (folder : ℕ) →
    folder_at (namespace_replied st.namespace p request reply) spot ≡ Some folder → Came spot folder st request reply
came st p (MakeFolder new) Done spot folder at = by (spot_eq new spot) refl
  where
    by : (b : Bool) → spot_eq new spot ≡ b → Came spot folder st (MakeFolder new) Done
    by true e = inr (new, (one_location new spot e, inl refl))
    by false e = inl (sym (made_elsewhere st.namespace spot new e) ∙ at)
came st p (MoveFolder from to) Done spot folder at = by (spot_eq to spot) (spot_eq from spot) refl refl
  where
    by : (b c : Bool) → spot_eq to spot ≡ b → spot_eq from spot ≡ c → Came spot folder st (MoveFolder from to) Done
    by true c e f = inr (to, (one_location to spot e, inr (from, (refl, refl))))
    by false true e f = none_found (folder_at (namespace_replied st.namespace p (MoveFolder from to) Done) spot) folder
        (moved_away st.namespace spot from to e f) at
    by false false e f = inl (sym (moved_elsewhere st.namespace spot from to e f) ∙ at)
came st p (RemoveFolder gone) Done spot folder at = by (spot_eq gone spot) refl
  where
    by : (b : Bool) → spot_eq gone spot ≡ b → Came spot folder st (RemoveFolder gone) Done
    by true e = none_found (folder_at (namespace_replied st.namespace p (RemoveFolder gone) Done) spot) folder
        (removed_there st.namespace spot gone e) at
    by false e = inl (sym (removed_elsewhere st.namespace spot gone e) ∙ at)
came st p (MakeFolder new) (Refused e left) spot folder at = inl at
came st p (MoveFolder from to) (Refused e left) spot folder at = inl at
came st p (RemoveFolder gone) (Refused e left) spot folder at = inl at
came st p request (Refused e left) spot folder at = inl at
came st p (Open here which) (Opened handle) spot folder at = inl at
came st p (OpenArea a) (Opened handle) spot folder at = inl at
came st p request Done spot folder at = inl at
came st p request (Opened handle) spot folder at = inl at
came st p (MoveFolder from to) reply spot folder at = inl at
came st p (RemoveFolder gone) reply spot folder at = inl at
came st p request reply spot folder at = inl at

-- one event later
later_filled : (h : List Event) (e : Event) (folder : ℕ) → lasting_after folder (h ++ e ∷ []) ≡ lasting_after folder h →
    KeepsMadeContents h folder → KeepsMadeContents (h ++ e ∷ []) folder
later_filled h e folder same l = record {
  before = l.before;
  later = l.later ++ e ∷ [];
  process = l.process;
  from = l.from;
  to = l.to;
  moved = ap (λ (x : List Event). x ++ e ∷ []) l.moved ∙ append_assoc l.before (event l.process (MoveFolder l.from l.to) Done ∷ l.later) (e ∷ []);
  left = l.left;
  reached = l.reached;
  handed = l.handed;
  same = same ∙ l.same;
}

-- a move there is a handing over, or a move on from prepared
abbrev Enters : Area → Area → Type 0
Enters a b = ((a ≡ Prepare) × (hands_over a b ≡ true)) ⊎ (is_after_handover a ≡ true)

enters : (s : Seen) (from to : Spot) (a b : Area) → is_after_handover b ≡ true → contents_allow_move s from to a b ≡ true → Enters a b
enters s from to a Prepared f h = by a h
  where
    by : (a : Area) → contents_allow_move s from to a Prepared ≡ true → Enters a Prepared
    by Prepare h = inl (refl, refl)
    by a h = cc
enters s from to a Run f h = by a h
  where
    by : (a : Area) → contents_allow_move s from to a Run ≡ true → Enters a Run
    by Prepare h = inl (refl, refl)
    by Prepared h = inr refl
    by a h = cc
enters s from to a b f h = cc

no_make : (s : Seen) (name : List ℕ) (a : Area) → is_after_handover a ≡ true → may_make_in s name a ≡ false
no_make s name Prepared f = refl
no_make s name Run f = refl
no_make s name a f = cc

moved_in : (h : List Event) (p : ℕ) (from to : Spot) (folder : ℕ) → IsConforming (then_moved h p from to) → PodsAreFilled h →
    is_after_handover to.area ≡ true → folder_at (state_after (then_moved h p from to)).namespace to ≡ Some folder → KeepsMadeContents (then_moved h p from to) folder
moved_in h p from to folder c left filled at = by (enters (seen_of p h) from to from.area to.area filled (brought (seen_of p h) from to (x.may refl)))
  where
    e : Event
    e = event p (MoveFolder from to) Done

    x : Happens h e
    x = happens h e c

    by : Enters from.area to.area → KeepsMadeContents (then_moved h p from to) folder
    by (inl (source, hands)) =
        let h_o = handed h p from to c hands in
        let over : HandsOver h p from to folder = subst (λ (f : ℕ). HandsOver h p from to f) (one_number h_o.0 folder (sym h_o.1.stands ∙ at)) h_o.1 in
        record { before = h; later = []; process = p; from = from; to = to; moved = refl; left = source; reached = filled; handed = over; same = ap lasting over.same }
    by (inr on) =
        let n = (state_after h).namespace in
        let was : folder_at n from ≡ Some folder =
        sym (moved_there n to from to (none_stands n to (stands_from (state_after h) p from to x.is).1) (spot_self to))
        ∙ (sym (ap (λ (z : DirState). folder_at z.namespace to) (state_after-push h e)) ∙ at) in
        later_filled h e folder (lasts h e x from folder on was) (left from folder on was)

filled_next : (h : List Event) (e : Event) → IsConforming (h ++ e ∷ []) → PodsAreFilled h → PodsAreFilled (h ++ e ∷ [])
filled_next h e c left spot folder filled at =
    by (came (state_after h) e.process e.request e.reply spot folder (sym (ap (λ (z : DirState). folder_at z.namespace spot) (state_after-push h e)) ∙ at))
  where
    x : Happens h e
    x = happens h e c

    by : Came spot folder (state_after h) e.request e.reply → KeepsMadeContents (h ++ e ∷ []) folder
    by (inl was) = later_filled h e folder (lasts h e x spot folder filled was) (left spot folder filled was)
    by (inr (new, (there, inl make))) =
        let may : allows (seen_of e.process h) (MakeFolder new) ≡ true =
        ap (λ (q : Request). allows (seen_of e.process h) q) (sym make) ∙ x.may (ap is_kill make) in
        clash (may_make_in (seen_of e.process h) new.name new.area)
        (and_right (lock_rules_allow (seen_of e.process h).standing (MakeFolder new)) _ may)
        (no_make (seen_of e.process h) new.name new.area (ap (λ (z : Spot). is_after_handover z.area) there ∙ filled))
    by (inr (new, (there, inr (from, (move, done))))) =
        let same : h ++ e ∷ [] ≡ then_moved h e.process from new =
        ap (λ (q : Request). h ++ event e.process q e.reply ∷ []) move ∙ ap (λ (y : Reply). h ++ event e.process (MoveFolder from new) y ∷ []) done in
        subst (λ (t : List Event). KeepsMadeContents t folder) (sym same)
        (moved_in h e.process from new folder (subst (λ (t : List Event). IsConforming t) same c) left
        (ap (λ (z : Spot). is_after_handover z.area) there ∙ filled)
        (subst (λ (t : List Event). folder_at (state_after t).namespace new ≡ Some folder) same
        (subst (λ (z : Spot). folder_at (state_after (h ++ e ∷ [])).namespace z ≡ Some folder) (sym there) at)))

pub pods_are_filled : (trace : List Event) → IsConforming trace → PodsAreFilled trace
pods_are_filled trace conforming = along PodsAreFilled nothing filled_next trace conforming
  where
    nothing : PodsAreFilled []
    nothing spot folder filled at = absurd (never at)
      where
        never : None ≡ Some folder → ⊥
        never h = cc
