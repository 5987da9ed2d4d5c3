-- What every conforming execution keeps of every pod.
use Rattle.std.proofs.Common.{◌≡◌, ℕ, true, ◌==◌, Some, List, ◌∷◌, ◌++◌, refl, sym, ap, subst, ◌∙◌}
use Rattle.std.proofs.lemmas.Bool.{and_parts}
use Rattle.dir_model.specs.declared.event.Event.{Event}
use Rattle.dir_model.specs.declared.request.Reply.{Reply}
use Rattle.dir_model.specs.State.{lives}
use Rattle.dir_model.specs.Trace.{state_after}
use Rattle.dir_model.specs.Calls.{event}
use Rattle.dir_rules.specs.declared.seen.Seen.{Seen}
use Rattle.dir_rules.specs.LockRules.{holds_pod}
use Rattle.dir_rules.specs.Rules.{owns_pod, has_asked_for_removal}
use Rattle.dir_rules.specs.Conforms.{seen_of}
use Rattle.lifecycle.specs.declared.machine.PodState.{PodState}
use Rattle.lifecycle.specs.declared.machine.PodState.TheVariants.{Prepared, Preparing, Running, Deleting}
use Rattle.lifecycle.specs.declared.machine.Transition.{Transition}
use Rattle.lifecycle.specs.declared.machine.Transition.TheVariants.{Sweep}
use Rattle.lifecycle.specs.PodMachine.{enabled, exists, is_area_of_state, is_owner, is_being_deleted, owner_of, pod_state}
use Rattle.lifecycle.specs.Executions.{IsConforming}
use Rattle.lifecycle.specs.Ownership.{is_requested_if_discarded, TransitionsAreEnabled, StandsWhereItExists, PlaceTellsPhase, holds, IsHeldByItsOwner, ShowsPod, NamesOneFolder, GoesForward, IsRemovedByItsOwner, SweepsAreAsked}
use Rattle.dir_rules.proofs.Standings.{standing_is}
use Rattle.lifecycle.proofs.Draws.{conforming_left}
use Rattle.lifecycle.proofs.Phases.{enabled_each, exists_stands, stands_exists, phase_of_place}
use Rattle.lifecycle.proofs.Owners.{owner_holds, holder_owns}
use Rattle.lifecycle.proofs.Places.{spot_turn}
use Rattle.lifecycle.proofs.OneFolder.{on_place, single, number_there, number_stands}
use Rattle.lifecycle.proofs.Stays.{one_folder, forward}
use Rattle.lifecycle.proofs.Deletions.{removed_by_owner, sweep_asked, sweep_wanted}
use Rattle.dir_model.proofs.Lists.{and_both, same_self, same_number}

wanted : (t : Transition) (s : PodState) (seen : Seen) (name : List ℕ) →
    (t ≡ Sweep → s ≡ Prepared → has_asked_for_removal seen name ≡ true) → is_requested_if_discarded t s seen name ≡ true
wanted Sweep Prepared seen name asked = asked refl refl
wanted t s seen name asked = refl

pub transitions_are_enabled : (name : List ℕ) (trace : List Event) → IsConforming trace → TransitionsAreEnabled name trace
transitions_are_enabled name trace conforming before e later t is turns =
    let l = subst (λ (x : List Event). IsConforming x) is conforming in
    and_both (enabled t e.process (pod_state name before)) (is_requested_if_discarded t (pod_state name before) (seen_of e.process before)
    name) (enabled_each name before e later l t turns)
    (wanted t (pod_state name before) (seen_of e.process before) name
    (λ sweep prepared. sweep_wanted name before e.process e.request e.reply later l (turns ∙ ap Some sweep)
    prepared))

pub stands_where_it_exists : (name : List ℕ) (trace : List Event) → IsConforming trace →
    StandsWhereItExists name (state_after trace).namespace (pod_state name trace)
stands_where_it_exists name trace conforming = record {
  somewhere = λ e. let x = exists_stands name trace conforming e in (x.0, x.1.0, x.1.1);
  only = λ spot of there. let x =
      stands_exists name trace spot conforming of there in
      and_both (exists (pod_state name trace)) (is_area_of_state spot.area (pod_state name trace)) x.0 x.1;
}

pub place_tells_phase : (name : List ℕ) (trace : List Event) → IsConforming trace →
    PlaceTellsPhase name (state_after trace).namespace (pod_state name trace)
place_tells_phase name trace conforming spot folder of at = phase_of_place name trace spot folder conforming of at

owner_is : (p : ℕ) (s : PodState) → is_owner p s ≡ true → owner_of s ≡ Some p
owner_is p (Preparing owner) h = ap Some (sym (same_number p owner h))
owner_is p (Running owner) h = ap Some (sym (same_number p owner h))
owner_is p (Deleting owner from) h = ap Some (sym (same_number p owner h))
owner_is p s h = cc

is_the_owner : (p : ℕ) (s : PodState) → owner_of s ≡ Some p → is_owner p s ≡ true
is_the_owner p (Preparing owner) h = same p owner h
  where
    same : (p owner : ℕ) → Some owner ≡ Some p → (p == owner) ≡ true
    same p owner h = let is : owner ≡ p = cc in ap (λ q. p == q) is ∙ same_self p
is_the_owner p (Running owner) h = same p owner h
  where
    same : (p owner : ℕ) → Some owner ≡ Some p → (p == owner) ≡ true
    same p owner h = let is : owner ≡ p = cc in ap (λ q. p == q) is ∙ same_self p
is_the_owner p (Deleting owner from) h = same p owner h
  where
    same : (p owner : ℕ) → Some owner ≡ Some p → (p == owner) ≡ true
    same p owner h = let is : owner ≡ p = cc in ap (λ q. p == q) is ∙ same_self p
is_the_owner p s h = cc

pub held_by_its_owner : (name : List ℕ) (trace : List Event) → IsConforming trace →
    IsHeldByItsOwner name trace (pod_state name trace)
held_by_its_owner name trace conforming p e = (owns_it, holds_it)
  where
    owns_it : holds p name trace ≡ true → owner_of (pod_state name trace) ≡ Some p
    owns_it h =
        let x = and_parts (lives (state_after trace).namespace p) (owns_pod (seen_of p trace) name) h in
        owner_is p (pod_state name trace) (holder_owns name trace p conforming e x.0
        (ap (holds_pod name) (sym (standing_is p trace)) ∙ x.1))

    holds_it : owner_of (pod_state name trace) ≡ Some p → holds p name trace ≡ true
    holds_it h =
        let x = owner_holds name trace p conforming (is_the_owner p (pod_state name trace) h) in
        and_both (lives (state_after trace).namespace p) (owns_pod (seen_of p trace) name) x.0
        (ap (holds_pod name) (standing_is p trace) ∙ x.1)

pub shows_pod : (name : List ℕ) (trace : List Event) → IsConforming trace → ShowsPod name trace (pod_state name trace)
shows_pod name trace conforming = record {
  folder = stands_where_it_exists name trace conforming;
  phase = place_tells_phase name trace conforming;
  owner = held_by_its_owner name trace conforming;
}

pub names_one_folder : (trace : List Event) → IsConforming trace → NamesOneFolder (state_after trace).namespace
names_one_folder trace conforming f g a b x y p q same =
    let n = (state_after trace).namespace in
    let one = one_folder trace a b conforming p q same (number_stands n f a x) (number_stands n g b y) in
    single trace conforming.run a f g (number_there n.folders f a x) (ap (λ o. on_place a o) y ∙ spot_turn a b one)

pub goes_forward : (trace : List Event) → IsConforming trace → GoesForward trace
goes_forward trace conforming before more later a b is p q same x y =
    forward before more a b (conforming_left (before ++ more) later
    (subst (λ (x : List Event). IsConforming x) is conforming)) p q same x y

pub removed_by_its_owner : (name : List ℕ) (trace : List Event) → IsConforming trace → IsRemovedByItsOwner name trace
removed_by_its_owner name trace conforming before e later is removes done =
    let l = subst (λ (x : List Event). IsConforming x) is conforming in
    let x = removed_by_owner name before e.process e.request later
    (subst (λ (r : Reply). IsConforming (before ++ event e.process e.request r ∷ later)) done l) removes in
    and_both (is_being_deleted (pod_state name before)) (is_owner e.process (pod_state name before)) x.0 x.1

pub sweeps_are_asked : (trace : List Event) → IsConforming trace → SweepsAreAsked trace
sweeps_are_asked trace conforming before p from to later is e f =
    sweep_asked before p from to later (subst (λ (x : List Event). IsConforming x) is conforming) e f
