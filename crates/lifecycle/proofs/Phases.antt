-- Each event is a transition that the pod's state has, and the phase is what place and lock say.
use Rattle.std.proofs.Common.{◌≡◌, ℕ, Bool, true, false, ◌&&◌, cond, bytes_eq, Option, Some, None, is_some, List, [], ◌∷◌, ◌++◌, refl, sym, ap, ◌∙◌}
use Rattle.std.proofs.lemmas.Bool.{and_parts}
use Rattle.plain_laws.proofs.Booleans.{clash}
use Rattle.dir_model.specs.declared.area.Area.{Area}
use Rattle.dir_model.specs.declared.area.Area.TheVariants as area
use Rattle.dir_model.specs.declared.spot.Spot.{Spot}
use Rattle.dir_model.specs.declared.opening.Target.{Target}
use Rattle.dir_model.specs.declared.opening.Target.TheVariants.{Own, Claim, Gate}
use Rattle.dir_model.specs.Locks.{is_exclusive, is_own, is_folder, owns}
use Rattle.dir_model.specs.State.{Namespace, DirState, folder_at, stands, empty_state, is_owned}
use Rattle.dir_rules.specs.Standing.{area_of, is_spot_of_pod, nothing_standing, standing_from, standing_of, stood}
use Rattle.dir_model.specs.Local.{is_own_of}
use Rattle.dir_model.specs.Areas.{is_stage, phase_in}
use Rattle.dir_model.specs.Trace.{state_next, states_next, state_after}
use Rattle.lifecycle.specs.declared.machine.PodState.{PodState}
use Rattle.lifecycle.specs.declared.machine.PodState.TheVariants.{Absent, Embryo, Preparing, AbortedPrepare, Prepared, Running, Exited, ExitedGarbage, Garbage, Deleting, Gone}
use Rattle.lifecycle.specs.declared.machine.Transition.{Transition}
use Rattle.lifecycle.specs.PodMachine.{enabled, transition, is_owner, is_area_of_state}
use Rattle.dir_rules.specs.declared.standing.Standing.{Standing}
use Rattle.lifecycle.proofs.Lists.{any_in, in_any}
use Rattle.lifecycle.proofs.Linked.{own}
use Rattle.lifecycle.proofs.Invariant.{may_own, Pod, own_named}
use Rattle.dir_model.specs.declared.area.Phase.TheVariants as phase
use Rattle.dir_model.specs.declared.event.Event.{Event}
use Rattle.lifecycle.specs.PodMachine.{pod_state_next, pod_state_from, pod_state, exists, phase_of_state}
use Rattle.lifecycle.specs.Executions.{IsConforming}
use Rattle.lifecycle.proofs.Places.{same_name}
use Rattle.lifecycle.proofs.Makes.{absent_place}
use Rattle.lifecycle.proofs.Opens.{found_pod}
use Rattle.lifecycle.proofs.Step.{stepped}
use Rattle.lifecycle.proofs.Run.{Good, ConformingFrom, given, next_good, conforming_tail, good_start, conforming_from, good}
use Rattle.lifecycle.proofs.OwnHandles.{Right, right}
use Rattle.dir_model.proofs.Lists.{and_both, same_self, same_number}

-- what holds after a beginning of a conforming execution, and what is left
pub record Reached (u : List ℕ) (n : DirState) (s : PodState) (σ : ℕ → Standing) (rest : List Event) : Type 0 where
  pub good : Good u n s σ
  pub conforming : ConformingFrom u n σ rest

pub reached_from : (u : List ℕ) (es rest : List Event) (n : DirState) (s : PodState) (σ : ℕ → Standing) → Good u n s σ →
    ConformingFrom u n σ (es ++ rest) → Reached u (states_next n es) (pod_state_from u n s es)
    (λ q. standing_from q (σ q) es) rest
reached_from u [] rest n s σ good conforming = record { good = good; conforming = conforming }
reached_from u (e ∷ es) rest n s σ good conforming =
    reached_from u es rest (state_next n e) (pod_state_next u n.namespace s e) (λ q. stood q (σ q) e)
    (next_good u n s σ e (given u n s σ e (es ++ rest) good conforming))
    (conforming_tail u n σ e (es ++ rest) conforming)

pub reached : (u : List ℕ) (before rest : List Event) → IsConforming (before ++ rest) →
    Reached u (state_after before) (pod_state u before) (λ q. standing_of q before) rest
reached u before rest conforming =
    reached_from u before rest empty_state Absent (λ q. nothing_standing) (good_start u)
    (conforming_from u (before ++ rest) conforming)

-- each event is a transition that the pod's state has
pub enabled_each : (u : List ℕ) (before : List Event) (e : Event) (later : List Event) →
    IsConforming (before ++ e ∷ later) → (x : Transition) →
    transition u (state_after before).namespace (pod_state u before) e.process e.request e.reply ≡ Some x →
    enabled x e.process (pod_state u before) ≡ true
enabled_each u before e later conforming x is =
    let r = reached u before (e ∷ later) conforming in
    (stepped u (state_after before) (pod_state u before) (λ q. standing_of q before) e.process e.request e.reply
    (given u (state_after before) (pod_state u before) (λ q. standing_of q before) e later r.good r.conforming)).has
    x is

there : List ℕ → Area → Spot
there u a = record { area = a; name = u }

pub stands_in : (u : List ℕ) (n : Namespace) (s : PodState) (a : Area) → Pod u n s → is_stage a ≡ true →
    is_area_of_state a s ≡ true → stands n (record { area = a; name = u }) ≡ true
stands_in u n s a pod is at = ap (λ (o : Option ℕ). is_some o)
    (pod.at (record { area = a; name = u }) (and_both (is_stage a) (bytes_eq u u) is (same_name u u refl))
    ∙ ap (λ b. cond b (Some pod.number) None) at)

-- a pod that exists stands in an area
pub stands_where : (u : List ℕ) (n : Namespace) (s : PodState) → Pod u n s → exists s ≡ true →
    (a : Area) × ((is_stage a ≡ true) × (stands n (record { area = a; name = u }) ≡ true))
stands_where u n (Embryo m) pod e = (area.Embryo, (refl, stands_in u n (Embryo m) area.Embryo pod refl refl))
stands_where u n (Preparing o) pod e = (area.Prepare, (refl, stands_in u n (Preparing o) area.Prepare pod refl refl))
stands_where u n AbortedPrepare pod e = (area.Prepare, (refl, stands_in u n AbortedPrepare area.Prepare pod refl refl))
stands_where u n Prepared pod e = (area.Prepared, (refl, stands_in u n Prepared area.Prepared pod refl refl))
stands_where u n (Running o) pod e = (area.Run, (refl, stands_in u n (Running o) area.Run pod refl refl))
stands_where u n Exited pod e = (area.Run, (refl, stands_in u n Exited area.Run pod refl refl))
stands_where u n ExitedGarbage pod e =
    (area.ExitedGarbage, (refl, stands_in u n ExitedGarbage area.ExitedGarbage pod refl refl))
stands_where u n Garbage pod e = (area.Garbage, (refl, stands_in u n Garbage area.Garbage pod refl refl))
stands_where u n (Deleting o area.ExitedGarbage) pod e =
    (area.ExitedGarbage, (refl, stands_in u n (Deleting o area.ExitedGarbage) area.ExitedGarbage pod refl refl))
stands_where u n (Deleting o f) pod e = by f pod
  where
    by : (f : Area) → Pod u n (Deleting o f) → (a : Area) ×
        ((is_stage a ≡ true) × (stands n (record { area = a; name = u }) ≡ true))
    by area.ExitedGarbage pod = (
      area.ExitedGarbage,
      (
        refl,
        stands_in u n (Deleting o area.ExitedGarbage)
            area.ExitedGarbage pod refl refl,
      ),
    )
    by f pod = (area.Garbage, (refl, stands_in u n (Deleting o f) area.Garbage pod refl refl))
stands_where u n Absent pod e = cc
stands_where u n Gone pod e = cc

place_exists : (a : Area) (s : PodState) → is_area_of_state a s ≡ true → exists s ≡ true
place_exists a Absent h = clash (is_area_of_state a Absent) h (absent_place a)
place_exists a Gone h = clash (is_area_of_state a Gone) h (gone a)
  where
    gone : (a : Area) → is_area_of_state a Gone ≡ false
    gone area.Embryo = refl
    gone a = refl
place_exists a s h = refl

-- a pod's folder stands exactly where the pod exists
pub exists_stands : (u : List ℕ) (h : List Event) → IsConforming h → exists (pod_state u h) ≡ true →
    (a : Area) × ((is_stage a ≡ true) × (stands (state_after h).namespace (record { area = a; name = u }) ≡ true))
exists_stands u h conforming e = stands_where u (state_after h).namespace (pod_state u h) (good u h conforming).inv.pod e

pub stands_exists : (u : List ℕ) (h : List Event) (spot : Spot) → IsConforming h → is_spot_of_pod u spot ≡ true →
    stands (state_after h).namespace spot ≡ true →
    (exists (pod_state u h) ≡ true) × (is_area_of_state spot.area (pod_state u h) ≡ true)
stands_exists u h spot conforming of at =
    let x = found_pod u (state_after h).namespace (pod_state u h) (good u h conforming).inv.pod spot of at in
    (place_exists spot.area (pod_state u h) x.0, x.0)

-- the table of phases
phase_table : (a : Area) (s : PodState) (b : Bool) → is_area_of_state a s ≡ true →
    (b ≡ true → (q : ℕ) × ((c : Area) × (may_own s q c ≡ true))) → ((q : ℕ) → is_owner q s ≡ true → b ≡ true) →
    phase_in a b ≡ phase_of_state s
phase_table area.Embryo (Embryo m) b at may own = refl
phase_table area.Prepare (Preparing o) b at may own =
    ap (λ c. Some (cond c phase.Preparing phase.AbortedPrepare)) (own o (same_self o))
phase_table area.Prepare AbortedPrepare true at may own = let x : false ≡ true = (may refl).1.1 in absurd (cc)
phase_table area.Prepare AbortedPrepare false at may own = refl
phase_table area.Prepared Prepared b at may own = refl
phase_table area.Run (Running o) b at may own = ap (λ c. Some (cond c phase.Running phase.Exited)) (own o (same_self o))
phase_table area.Run Exited true at may own = let x : false ≡ true = (may refl).1.1 in absurd (cc)
phase_table area.Run Exited false at may own = refl
phase_table area.ExitedGarbage ExitedGarbage true at may own = let x : false ≡ true = (may refl).1.1 in absurd (cc)
phase_table area.ExitedGarbage ExitedGarbage false at may own = refl
phase_table area.Garbage Garbage true at may own = let x : false ≡ true = (may refl).1.1 in absurd (cc)
phase_table area.Garbage Garbage false at may own = refl
phase_table area.ExitedGarbage (Deleting o f) b at may own =
    ap (λ c. Some (cond c phase.Deleting phase.ExitedGarbage)) (own o (same_self o))
phase_table area.Garbage (Deleting o f) b at may own =
    ap (λ c. Some (cond c phase.Deleting phase.Garbage)) (own o (same_self o))
phase_table a s b at may own = cc

-- phase_of(place, Own held exclusively) is the phase
pub phase_is : (u : List ℕ) (n : Namespace) (s : PodState) (spot : Spot) (f : ℕ) → Pod u n s → Right u n →
    is_spot_of_pod u spot ≡ true → folder_at n spot ≡ Some f → phase_in spot.area (is_owned n f) ≡ phase_of_state s
phase_is u n s spot f pod right of at = phase_table spot.area s (is_owned n f) place owner owned
  where
    found : (is_area_of_state spot.area s ≡ true) × (folder_at n spot ≡ Some pod.number)
    found = found_pod u n s pod spot of (ap (λ (o : Option ℕ). is_some o) at)

    place : is_area_of_state spot.area s ≡ true
    place = found.0

    number : Some f ≡ Some pod.number
    number = sym at ∙ found.1

    folder_is : (o : Option ℕ) → is_folder f o ≡ true → o ≡ Some f
    folder_is (Some k) h = ap Some (same_number k f h)
    folder_is None h = cc

    owner : is_owned n f ≡ true → (q : ℕ) × ((c : Area) × (may_own s q c ≡ true))
    owner h =
        let o = any_in (owns f) n.openings h in
        let x = and_parts (is_folder f o.0.folder) (is_own o.0.target && is_exclusive o.0.lock) o.1.1 in
        let y = and_parts (is_own o.0.target) (is_exclusive o.0.lock) x.1 in (
          o.0.process,
          (
            area_of o.0.target,
            pod.owns o.0 o.1.0 (and_both (is_own_of u o.0.target) (is_exclusive o.0.lock)
                (right spot of f at o.0 o.1.0 y.0 (folder_is o.0.folder x.0)) y.1),
          ),
        )

    on_own : (t : Target) → is_own_of u t ≡ true → is_own t ≡ true
    on_own (Own s) h = refl
    on_own (Claim s) h = cc
    on_own (Gate a) h = cc

    owned : (q : ℕ) → is_owner q s ≡ true → is_owned n f ≡ true
    owned q h =
        let o = pod.held q h in
        let x = and_parts (is_own_of u o.0.target) (is_exclusive o.0.lock) o.1.1.0 in
        in_any (owns f) o.0 n.openings o.1.0
        (and_both (is_folder f o.0.folder) (is_own o.0.target && is_exclusive o.0.lock)
        (ap (is_folder f) ((pod.named o.0 o.1.0 (own_named u o.0.target x.0)).0 ∙ sym number) ∙ same_self f)
        (and_both (is_own o.0.target) (is_exclusive o.0.lock) (on_own o.0.target x.0) x.1))

pub phase_of_place : (u : List ℕ) (h : List Event) (spot : Spot) (f : ℕ) → IsConforming h → is_spot_of_pod u spot ≡ true →
    folder_at (state_after h).namespace spot ≡ Some f → phase_in spot.area (is_owned (state_after h).namespace f) ≡
    phase_of_state (pod_state u h)
phase_of_place u h spot f conforming of at =
    phase_is u (state_after h).namespace (pod_state u h) spot f (good u h conforming).inv.pod (right u h conforming) of
    at
