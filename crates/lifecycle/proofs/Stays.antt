-- A folder that is found twice at a stage of a pod's life stood there between; a name names one folder, which goes forward.
use Rattle.std.proofs.Common.{arith, ◌≡◌, ◌≤◌, ℕ, Bool, true, ◌||◌, ◌==◌, bytes_eq, List, [], ◌∷◌, ◌++◌, refl, sym, ap, subst, ◌∙◌}
use Rattle.dir_model.specs.declared.area.Area.{Area}
use Rattle.dir_model.specs.declared.area.Area.TheVariants as area
use Rattle.dir_model.specs.declared.spot.Spot.{Spot}
use Rattle.dir_model.specs.Areas.{rank, is_stage, phase_in}
use Rattle.dir_model.specs.State.{spot_eq, DirState, folder_at, stands, empty_state}
use Rattle.dir_rules.specs.Standing.{is_spot_of_pod, standing_of, stood}
use Rattle.dir_rules.specs.LockRules.{keeps_lock_rules_from, lock_rules_allow}
use Rattle.dir_model.specs.Trace.{state_next, states_next, state_after}
use Rattle.dir_model.specs.Between.{IsOwnedAt, StaysBetween}
use Rattle.dir_model.specs.Calls.{is_foreign}
use Rattle.lifecycle.specs.declared.machine.PodState.{PodState}
use Rattle.lifecycle.specs.declared.machine.PodState.TheVariants.{Absent}
use Rattle.lifecycle.specs.PodMachine.{pod_progress, age_in}
use Rattle.dir_rules.specs.declared.standing.Standing.{Standing}
use Rattle.lifecycle.proofs.Invariant.{placed_age}
use Rattle.std.proofs.Common.{append_assoc}
use Rattle.std.proofs.lemmas.Bool.{and_parts}
use Rattle.plain_laws.proofs.Numbers.{at_most}
use Rattle.dir_model.specs.declared.event.Event.{Event}
use Rattle.dir_model.proofs.Chains.{states_next-append, run_from-left}
use Rattle.lifecycle.specs.PodMachine.{pod_state_next, pod_state_from, pod_state, phase_of_state}
use Rattle.lifecycle.specs.Executions.{IsConforming}
use Rattle.lifecycle.proofs.Places.{same_name}
use Rattle.lifecycle.proofs.Moves.{place_once}
use Rattle.lifecycle.proofs.Opens.{found_pod}
use Rattle.lifecycle.proofs.Run.{ConformingFrom, good}
use Rattle.lifecycle.proofs.Phases.{reached, phase_of_place}
use Rattle.lifecycle.proofs.Forward.{ages, age_out, out_age, stays_from}
use Rattle.dir_model.proofs.Lists.{and_both, same_self}

pub machine_append : (u : List ℕ) (xs ys : List Event) (n : DirState) (s : PodState) →
    pod_state_from u n s (xs ++ ys) ≡ pod_state_from u (states_next n xs) (pod_state_from u n s xs) ys
machine_append u [] ys n s = refl
machine_append u (x ∷ xs) ys n s = machine_append u xs ys (state_next n x) (pod_state_next u n.namespace s x)

pub shorter : (u : List ℕ) (es rest : List Event) (n : DirState) (σ : ℕ → Standing) →
    ConformingFrom u n σ (es ++ rest) → ConformingFrom u n σ es
shorter u es rest n σ l = record {
  run = run_from-left n es rest l.run;
  rules = λ p. keeps_left p es (σ p) (l.rules p);
  distinct = λ before later is. l.distinct before (later ++ rest)
      (ap (λ (x : List Event). x ++ rest) is ∙ append_assoc before later rest);
}
  where
    keeps_left : (p : ℕ) (xs : List Event) (k : Standing) → keeps_lock_rules_from p k (xs ++ rest) ≡ true → keeps_lock_rules_from p k xs ≡ true
    keeps_left p [] k h = refl
    keeps_left p (x ∷ xs) k h =
        let y = and_parts (is_foreign p x || lock_rules_allow k x.request) (keeps_lock_rules_from p (stood p k x) (xs ++ rest)) h in
        and_both (is_foreign p x || lock_rules_allow k x.request) (keeps_lock_rules_from p (stood p k x) xs) y.0
        (keeps_left p xs (stood p k x) y.1)

-- a folder that is found twice at a stage of a pod's life stood there between
pub stays_between : (h : List Event) → IsConforming h → StaysBetween h
stays_between h conforming spot folder a b c d stage whole at again =
    let u : List ℕ = spot.name in
    let is : is_stage spot.area ≡ true = at_most (rank spot.area) 5 stage in
    let of : is_spot_of_pod u spot ≡ true = and_both (is_stage spot.area) (bytes_eq spot.name u) is (same_name u u refl) in
    let law : IsConforming (((a ++ b) ++ c) ++ d) = subst (λ (x : List Event). IsConforming x) whole conforming in
    let last = reached u ((a ++ b) ++ c) d law in
    let first = reached u a (b ++ (c ++ d)) (subst (λ (x : List Event). IsConforming x)
    (append_assoc (a ++ b) c d ∙ append_assoc a b (c ++ d)) law) in
    let there = found_pod u (state_after ((a ++ b) ++ c)).namespace (pod_state u ((a ++ b) ++ c)) last.good.inv.pod spot
    of again in
    let top : pod_progress (pod_state u ((a ++ b) ++ c)) ≤ age_out spot.area = out_age spot.area (pod_state u ((a ++ b) ++ c)) there.0 in
    let split : pod_state u ((a ++ b) ++ c) ≡ pod_state_from u (state_after (a ++ b)) (pod_state u (a ++ b)) c =
    machine_append u (a ++ b) c empty_state Absent in
    let up : pod_progress (pod_state u (a ++ b)) ≤ pod_progress (pod_state u ((a ++ b) ++ c)) =
    subst (λ (x : PodState). pod_progress (pod_state u (a ++ b)) ≤ pod_progress x) (sym split)
    (ages u c (state_after (a ++ b)) (pod_state u (a ++ b))) in
    let bound : pod_progress (pod_state u (a ++ b)) ≤ age_out spot.area = omega (arith, top, up) in
    let part : ConformingFrom u (state_after a) (λ q. standing_of q a) b = left first.conforming in
    ap (λ (x : DirState). folder_at x.namespace spot) (states_next-append empty_state a b)
    ∙ stays_from u b (state_after a) (pod_state u a) (λ q. standing_of q a) spot folder first.good part of at
    (subst (λ (x : PodState). pod_progress x ≤ age_out spot.area) (machine_append u a b empty_state Absent) bound)
  where
    left : {u : List ℕ} → ConformingFrom u (state_after a) (λ q. standing_of q a) (b ++ (c ++ d)) →
        ConformingFrom u (state_after a) (λ q. standing_of q a) b
    left {u} l = shorter u b (c ++ d) (state_after a) (λ q. standing_of q a) l

-- where the lock of a pod's folder is held exclusively or not, the phase is the table's
pub owned_phase : (h : List Event) (spot : Spot) (owned : Bool) → IsConforming h → is_stage spot.area ≡ true →
    IsOwnedAt (state_after h).namespace spot owned → phase_in spot.area owned ≡ phase_of_state (pod_state spot.name h)
owned_phase h spot owned conforming is at =
    ap (phase_in spot.area) (sym at.held) ∙ phase_of_place spot.name h spot at.folder conforming
    (and_both (is_stage spot.area) (bytes_eq spot.name spot.name) is (same_name spot.name spot.name refl)) at.there

-- a name names at most one folder of a pod
pub one_folder : (h : List Event) (a b : Spot) → IsConforming h → is_stage a.area ≡ true → is_stage b.area ≡ true →
    a.name ≡ b.name → stands (state_after h).namespace a ≡ true → stands (state_after h).namespace b ≡ true →
    spot_eq a b ≡ true
one_folder h a b conforming p q same x y =
    let u : List ℕ = a.name in
    let g = good u h conforming in
    let i = found_pod u (state_after h).namespace (pod_state u h) g.inv.pod a
    (and_both (is_stage a.area) (bytes_eq a.name u) p (same_name u u refl)) x in
    let j = found_pod u (state_after h).namespace (pod_state u h) g.inv.pod b
    (and_both (is_stage b.area) (bytes_eq b.name u) q (same_name b.name u (sym same))) y in
    and_both (rank a.area == rank b.area) (bytes_eq a.name b.name)
    (ap (λ r. rank a.area == r) (sym (place_once a.area b.area (pod_state u h) i.0 j.0)) ∙ same_self (rank a.area))
    (same_name a.name b.name same)

-- and its places only go forward
rank_ages : (a b : Area) → is_stage a ≡ true → is_stage b ≡ true → age_in a ≤ age_out b → rank a ≤ rank b
rank_ages area.Embryo b p q l = omega arith
rank_ages area.Prepare area.Embryo p q l = absurd (omega (arith, l))
rank_ages area.Prepare b p q l = omega arith
rank_ages area.Prepared area.Embryo p q l = absurd (omega (arith, l))
rank_ages area.Prepared area.Prepare p q l = absurd (omega (arith, l))
rank_ages area.Prepared b p q l = omega arith
rank_ages area.Run area.Embryo p q l = absurd (omega (arith, l))
rank_ages area.Run area.Prepare p q l = absurd (omega (arith, l))
rank_ages area.Run area.Prepared p q l = absurd (omega (arith, l))
rank_ages area.Run b p q l = omega arith
rank_ages area.ExitedGarbage area.ExitedGarbage p q l = omega arith
rank_ages area.ExitedGarbage area.Garbage p q l = omega arith
rank_ages area.ExitedGarbage area.Embryo p q l = absurd (omega (arith, l))
rank_ages area.ExitedGarbage area.Prepare p q l = absurd (omega (arith, l))
rank_ages area.ExitedGarbage area.Prepared p q l = absurd (omega (arith, l))
rank_ages area.ExitedGarbage area.Run p q l = absurd (omega (arith, l))
rank_ages area.Garbage area.Garbage p q l = omega arith
rank_ages area.Garbage area.Embryo p q l = absurd (omega (arith, l))
rank_ages area.Garbage area.Prepare p q l = absurd (omega (arith, l))
rank_ages area.Garbage area.Prepared p q l = absurd (omega (arith, l))
rank_ages area.Garbage area.Run p q l = absurd (omega (arith, l))
rank_ages area.Garbage area.ExitedGarbage p q l = absurd (omega (arith, l))
rank_ages a b p q l = cc

pub forward : (h more : List Event) (a b : Spot) → IsConforming (h ++ more) → is_stage a.area ≡ true →
    is_stage b.area ≡ true → a.name ≡ b.name → stands (state_after h).namespace a ≡ true →
    stands (state_after (h ++ more)).namespace b ≡ true → rank a.area ≤ rank b.area
forward h more a b conforming p q same x y =
    let u : List ℕ = a.name in
    let first = reached u h more conforming in
    let g = good u (h ++ more) conforming in
    let i = found_pod u (state_after h).namespace (pod_state u h) first.good.inv.pod a
    (and_both (is_stage a.area) (bytes_eq a.name u) p (same_name u u refl)) x in
    let j = found_pod u (state_after (h ++ more)).namespace (pod_state u (h ++ more)) g.inv.pod b
    (and_both (is_stage b.area) (bytes_eq b.name u) q (same_name b.name u (sym same))) y in
    let low : age_in a.area ≤ pod_progress (pod_state u h) = placed_age a.area (pod_state u h) i.0 in
    let up : pod_progress (pod_state u h) ≤ pod_progress (pod_state u (h ++ more)) = subst (λ (z : PodState). pod_progress (pod_state u h) ≤ pod_progress z)
    (sym (machine_append u h more empty_state Absent)) (ages u more (state_after h) (pod_state u h)) in
    let top : pod_progress (pod_state u (h ++ more)) ≤ age_out b.area = out_age b.area (pod_state u (h ++ more)) j.0 in
    rank_ages a.area b.area p q (omega (arith, low, up, top))
