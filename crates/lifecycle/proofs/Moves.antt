-- A folder is moved.
use Rattle.std.proofs.Common.{arith, ◌≡◌, ◌⊎◌, inl, inr, ◌≤◌, ℕ, Bool, true, false, not, ◌&&◌, ◌==◌, cond, bytes_eq, Some, None, List, map, refl, sym, ap, subst, ◌∙◌}
use Rattle.std.specs.List.{list_any}
use Rattle.std.proofs.lemmas.Bool.{and_parts}
use Rattle.plain_laws.proofs.Booleans.{clash}
use Rattle.dir_model.specs.declared.area.Area.{Area}
use Rattle.dir_model.specs.declared.area.Area.TheVariants as area
use Rattle.dir_model.specs.declared.spot.Spot.{Spot}
use Rattle.dir_model.specs.declared.opening.Opening.{Opening}
use Rattle.dir_model.specs.declared.request.Request.TheVariants.{MoveFolder}
use Rattle.dir_model.specs.declared.request.Reply.TheVariants.{Done}
use Rattle.dir_model.specs.Areas.{rank, is_stage}
use Rattle.dir_model.specs.State.{spot_eq, Namespace, folder_at, stands}
use Rattle.dir_model.specs.Trace.{moved}
use Rattle.dir_rules.specs.Standing.{area_of, draws, holds_claim, shares_area, is_claim_held, is_gate_shared, is_in, is_spot_of_pod, is_own_held, standing_done, uncover}
use Rattle.dir_model.specs.Local.{is_own_of}
use Rattle.lifecycle.specs.declared.machine.PodState.{PodState}
use Rattle.lifecycle.specs.declared.machine.PodState.TheVariants.{Embryo, Preparing, AbortedPrepare, Prepared, Running, Exited, ExitedGarbage, Garbage, Deleting}
use Rattle.lifecycle.specs.declared.machine.Transition.{Transition}
use Rattle.lifecycle.specs.PodMachine.{enabled, after_transition, arrival, is_exclusive_own, is_owner, is_area_of_state, pod_progress, age_in, age_free}
use Rattle.dir_rules.specs.declared.standing.Held.{Held}
use Rattle.dir_rules.specs.declared.standing.Standing.{Standing}
use Rattle.lifecycle.proofs.Lists.{In, in_map}
use Rattle.lifecycle.proofs.Linked.{Linked, linked_own}
use Rattle.lifecycle.proofs.Invariant.{may_own, Pod, Knows, others}
use Rattle.lifecycle.proofs.Places.{same_name, area_same, moved_there, moved_away, moved_elsewhere, none_stands}
use Rattle.lifecycle.proofs.Closes.{any_mapped}
use Rattle.lifecycle.proofs.Makes.{of_same, of_name}
use Rattle.dir_model.proofs.Lists.{and_both, not_true, same_self, same_number}

-- the number of the place where it stands
abbrev place_rank : PodState → ℕ
place_rank (Embryo m) = 0
place_rank (Preparing o) = 1
place_rank AbortedPrepare = 1
place_rank Prepared = 2
place_rank (Running o) = 3
place_rank Exited = 3
place_rank ExitedGarbage = 4
place_rank Garbage = 5
place_rank (Deleting o area.ExitedGarbage) = 4
place_rank (Deleting o f) = 5
place_rank s = 10

place_is : (a : Area) (s : PodState) → is_area_of_state a s ≡ (rank a == place_rank s)
place_is area.Embryo (Embryo m) = refl
place_is area.Prepare (Preparing o) = refl
place_is area.Prepare AbortedPrepare = refl
place_is area.Prepared Prepared = refl
place_is area.Run (Running o) = refl
place_is area.Run Exited = refl
place_is area.ExitedGarbage ExitedGarbage = refl
place_is area.Garbage Garbage = refl
place_is area.ExitedGarbage (Deleting o area.ExitedGarbage) = refl
place_is area.ExitedGarbage (Deleting o f) = refl
place_is area.Garbage (Deleting o area.ExitedGarbage) = refl
place_is area.Garbage (Deleting o f) = refl
place_is a (Deleting o area.ExitedGarbage) = refl
place_is a (Deleting o f) = refl
place_is a s = refl

-- it stands in one place
pub place_like : (a b : Area) (s : PodState) → rank a ≡ rank b → is_area_of_state a s ≡ is_area_of_state b s
place_like a b s e = place_is a s ∙ (ap (λ r. r == place_rank s) e ∙ sym (place_is b s))

pub place_once : (a b : Area) (s : PodState) → is_area_of_state a s ≡ true → is_area_of_state b s ≡ true → rank a ≡ rank b
place_once a b s h k = same_number (rank a) (place_rank s) (sym (place_is a s) ∙ h)
    ∙ sym (same_number (rank b) (place_rank s) (sym (place_is b s) ∙ k))

pub embryo_is : (s : PodState) → is_area_of_state area.Embryo s ≡ true → (m : ℕ) × (s ≡ Embryo m)
embryo_is (Embryo m) h = (m, refl)
embryo_is s h = cc

pub prepare_is : (s : PodState) → is_area_of_state area.Prepare s ≡ true → ((o : ℕ) × (s ≡ Preparing o)) ⊎ (s ≡ AbortedPrepare)
prepare_is (Preparing o) h = inl (o, refl)
prepare_is AbortedPrepare h = inr refl
prepare_is s h = cc

pub run_is : (s : PodState) → is_area_of_state area.Run s ≡ true → ((o : ℕ) × (s ≡ Running o)) ⊎ (s ≡ Exited)
run_is (Running o) h = inl (o, refl)
run_is Exited h = inr refl
run_is s h = cc

abbrev pub and_moved : Namespace → Spot → Spot → Namespace
and_moved n from to = record n { folders = map (moved from to) n.folders }

-- what a move of the pod does
pub record Arrival (u : List ℕ) (p : ℕ) (n : Namespace) (s t : PodState) (b : Area) : Type 0 where
  pub turns : after_transition (arrival b) p s ≡ t
  pub has : (x : Transition) → arrival b ≡ Some x → enabled x p s ≡ true
  pub place : is_area_of_state b t ≡ true
  pub aged : pod_progress s ≤ pod_progress t
  pub past_embryo : (q : ℕ) → t ≡ Embryo q → ⊥
  pub before : t ≡ Prepared → pod_progress s ≤ 3
  pub owns : (o : Opening) → In o n.openings → is_exclusive_own u o ≡ true → may_own t o.process (area_of o.target) ≡ true
  pub held : (q : ℕ) → is_owner q t ≡ true → (o : Opening) × (In o n.openings × ((is_exclusive_own u o ≡ true) × (o.process ≡ q)))
  -- no other process finds its own pod gone from embryo, or the pod that it claims from prepared
  pub leaves : (q : ℕ) (l : Standing) → (p == q) ≡ false → Linked q n l → l.embryo_under_lock ≡ true →
      shares_area area.Embryo l ≡ true → s ≡ Embryo q → ⊥
  pub claims : (q : ℕ) (l : Standing) → (p == q) ≡ false → Linked q n l → holds_claim u l ≡ true → s ≡ Prepared → ⊥

pub move_pod : (u : List ℕ) (n : Namespace) (s t : PodState) (p : ℕ) (from to : Spot) (pod : Pod u n s) →
    is_spot_of_pod u from ≡ true → is_spot_of_pod u to ≡ true → is_area_of_state from.area s ≡ true → stands n to ≡ false →
    Arrival u p n s t to.area → Pod u (and_moved n from to) t
move_pod u n s t p from to pod of_from of_to there free arrives = record {
  number = pod.number;
  at = λ here is. by here is (spot_eq to here) (spot_eq from here) refl refl;
  named = λ o i h. let x = pod.named o i h in (
    x.0,
    (let l : age_in (area_of o.target) ≤ pod_progress s = x.1 in let g : pod_progress s ≤ pod_progress t = arrives.aged in
        omega (arith, l, g)),
  );
  owns = arrives.owns;
  held = arrives.held;
}
  where
    none : (here : Spot) (b : Bool) → b ≡ false → None ≡ cond b (Some pod.number) None
    none here false e = refl
    none here true e = cc

    away : (here : Spot) (x : PodState) (spot : Spot) → is_spot_of_pod u here ≡ true → is_spot_of_pod u spot ≡ true →
        is_area_of_state spot.area x ≡ true → spot_eq spot here ≡ false → (b : Bool) → is_area_of_state here.area x ≡ b →
        is_area_of_state here.area x ≡ false
    away here x spot is of at off false e = e
    away here x spot is of at off true e =
        clash (spot_eq spot here) (and_both (rank spot.area == rank here.area) (bytes_eq spot.name here.name)
        (ap (λ r. rank spot.area == r) (sym (place_once spot.area here.area x at e)) ∙ same_self (rank spot.area))
        (same_name spot.name here.name (of_name u spot of ∙ sym (of_name u here is)))) off

    by : (here : Spot) → is_spot_of_pod u here ≡ true → (b c : Bool) → spot_eq to here ≡ b → spot_eq from here ≡ c →
        folder_at (and_moved n from to) here ≡ cond (is_area_of_state here.area t) (Some pod.number) None
    by here is true c e f = moved_there n here from to (none_stands n to free) e
        ∙ (pod.at from of_from ∙ (ap (λ b. cond b (Some pod.number) None) there
        ∙ sym (ap (λ b. cond b (Some pod.number) None) (sym (place_like to.area here.area t (area_same to here e))
        ∙ arrives.place))))
    by here is false true e f = moved_away n here from to e f
        ∙ none here (is_area_of_state here.area t) (away here t to is of_to arrives.place e (is_area_of_state here.area t) refl)
    by here is false false e f = moved_elsewhere n here from to e f
        ∙ (pod.at here is ∙ (ap (λ b. cond b (Some pod.number) None)
        (away here s from is of_from there f (is_area_of_state here.area s) refl)
        ∙ none here (is_area_of_state here.area t) (away here t to is of_to arrives.place e (is_area_of_state here.area t) refl)))

pub move_others : (u : List ℕ) (n : Namespace) (s t : PodState) (p q : ℕ) (from to : Spot) (l : Standing) →
    (p == q) ≡ false → Arrival u p n s t to.area → Knows u q n s l → Knows u q (and_moved n from to) t l
move_others u n s t p q from to l off arrives knows = others u q n (and_moved n from to) s t l refl arrives.aged
    (λ g d e. absurd (arrives.leaves q l off knows.linked g (knows.gates g) e)) (λ e. absurd (arrives.past_embryo q e))
    (λ c e. absurd (arrives.claims q l off knows.linked c e))
    (λ past c r e. let x : pod_progress s ≤ 3 = arrives.before e in absurd (omega (arith, past, x))) knows

in_embryo : (a : Area) (s : PodState) (p : ℕ) → is_area_of_state a s ≡ true → s ≡ Embryo p → is_in area.Embryo a ≡ true
in_embryo a s p h e = from a (ap (is_area_of_state a) (sym e) ∙ h)
  where
    from : (a : Area) → is_area_of_state a (Embryo p) ≡ true → is_in area.Embryo a ≡ true
    from area.Embryo h = refl
    from a h = cc

pub move_knows : (u : List ℕ) (n : Namespace) (s t : PodState) (p : ℕ) (from to : Spot) (k : Standing) →
    is_spot_of_pod u from ≡ true → is_spot_of_pod u to ≡ true → is_area_of_state from.area s ≡ true → Arrival u p n s t to.area →
    Knows u p n s k → Knows u p (and_moved n from to) t (standing_done k (MoveFolder from to))
move_knows u n s t p from to k of_from of_to there arrives knows = record {
  linked = linked_own p n k (MoveFolder from to) Done refl knows.linked;
  embryo_under_lock = λ g d. let x = and_parts (not (is_in area.Embryo from.area && draws from.name k)) k.embryo_under_lock g in
      absurd (clash (is_in area.Embryo from.area && draws from.name k)
      (and_both (is_in area.Embryo from.area) (draws from.name k) (in_embryo from.area s p there (knows.embryo_under_lock x.1 d))
      (ap (λ (v : List ℕ). draws v k) (of_name u from of_from) ∙ d))
      (not_true (is_in area.Embryo from.area && draws from.name k) x.0));
  gates = λ g. same (is_gate_shared area.Embryo) (λ h. refl)
      ∙ knows.gates (and_parts (not (is_in area.Embryo from.area && draws from.name k)) k.embryo_under_lock g).1;
  owned = λ e x. absurd (arrives.past_embryo p e);
  covered = λ h i x c. absurd (uncovered h (in_map (uncover from) k.holdings h i) x c);
  seen_unowned = λ a x. let l : age_free a ≤ pod_progress s = knows.seen_unowned a x in let g : pod_progress s ≤ pod_progress t = arrives.aged in omega (arith, l, g);
  seen_unowned_under_claim = λ x. let c = knows.seen_unowned_under_claim x in let l : 4 ≤ pod_progress s = c.past in let g : pod_progress s ≤ pod_progress t = arrives.aged in record {
    claim = same (is_claim_held u) (λ h. refl) ∙ c.claim;
    remover = c.remover;
    past = omega (arith, l, g);
    free = λ e. let b : pod_progress s ≤ 3 = arrives.before e in absurd (omega (arith, l, b));
  };
}
  where
    same : (r : Held → Bool) → ((h : Held) → r (uncover from h) ≡ r h) →
        list_any r (map (uncover from) k.holdings) ≡ list_any r k.holdings
    same r e = any_mapped r (uncover from) k.holdings e

    uncovered : (h : Held) → (x : Held) × (In x k.holdings × (h ≡ uncover from x)) → is_own_of u h.target ≡ true →
        h.covered ≡ true → ⊥
    uncovered h (x, (i, e)) of c =
        let y = and_parts (not (is_stage from.area && is_own_of from.name x.target)) x.covered
        (subst (λ (z : Held). z.covered ≡ true) e c) in
        clash (is_stage from.area && is_own_of from.name x.target)
        (and_both (is_stage from.area) (is_own_of from.name x.target)
        (and_parts (is_stage from.area) (bytes_eq from.name u) of_from).0
        (ap (λ (v : List ℕ). is_own_of v x.target) (of_name u from of_from)
        ∙ subst (λ (z : Held). is_own_of u z.target ≡ true) e of))
        (not_true (is_stage from.area && is_own_of from.name x.target) y.0)

-- another folder is moved
pub move_pod_other : (u : List ℕ) (n : Namespace) (s : PodState) (from to : Spot) → is_spot_of_pod u from ≡ false →
    is_spot_of_pod u to ≡ false → Pod u n s → Pod u (and_moved n from to) s
move_pod_other u n s from to not_from not_to pod = record {
  number = pod.number;
  at = λ here is. moved_elsewhere n here from to (off to here not_to is (spot_eq to here) refl)
      (off from here not_from is (spot_eq from here) refl) ∙ pod.at here is;
  named = pod.named;
  owns = pod.owns;
  held = pod.held;
}
  where
    off : (spot here : Spot) → is_spot_of_pod u spot ≡ false → is_spot_of_pod u here ≡ true → (b : Bool) → spot_eq spot here ≡ b →
        spot_eq spot here ≡ false
    off spot here not_of is false e = e
    off spot here not_of is true e = clash (is_spot_of_pod u spot) (of_same u spot here e ∙ is) not_of

pub move_knows_other : (u : List ℕ) (n : Namespace) (s : PodState) (p : ℕ) (from to : Spot) (k : Standing) →
    (is_in area.Embryo from.area ≡ true → draws from.name k ≡ true → draws u k ≡ true → ⊥) → Knows u p n s k →
    Knows u p (and_moved n from to) s (standing_done k (MoveFolder from to))
move_knows_other u n s p from to k apart knows = record {
  linked = linked_own p n k (MoveFolder from to) Done refl knows.linked;
  embryo_under_lock = λ g d. knows.embryo_under_lock (and_parts (not (is_in area.Embryo from.area && draws from.name k)) k.embryo_under_lock g).1 d;
  gates = λ g. same (is_gate_shared area.Embryo) (λ h. refl)
      ∙ knows.gates (and_parts (not (is_in area.Embryo from.area && draws from.name k)) k.embryo_under_lock g).1;
  owned = λ e x. let y = knows.owned e (sym (same (is_own_held u) (λ h. refl)) ∙ x) in (
    and_both (not (is_in area.Embryo from.area && draws from.name k)) k.embryo_under_lock
        (unmoved y.1 (is_in area.Embryo from.area) (draws from.name k) refl refl) y.0,
    y.1,
  );
  covered = λ h i x c. cover h (in_map (uncover from) k.holdings h i) x c;
  seen_unowned = knows.seen_unowned;
  seen_unowned_under_claim = λ x. let c = knows.seen_unowned_under_claim x in record {
    claim = same (is_claim_held u) (λ h. refl) ∙ c.claim;
    remover =
        c.remover;
    past = c.past;
    free = c.free;
  };
}
  where
    same : (r : Held → Bool) → ((h : Held) → r (uncover from h) ≡ r h) →
        list_any r (map (uncover from) k.holdings) ≡ list_any r k.holdings
    same r e = any_mapped r (uncover from) k.holdings e

    unmoved : draws u k ≡ true → (b c : Bool) → is_in area.Embryo from.area ≡ b → draws from.name k ≡ c → not (b && c) ≡ true
    unmoved d true true e f = absurd (apart e f d)
    unmoved d true false e f = refl
    unmoved d false c e f = refl

    cover : (h : Held) → (x : Held) × (In x k.holdings × (h ≡ uncover from x)) → is_own_of u h.target ≡ true →
        h.covered ≡ true → (s ≡ Prepared) × (holds_claim u (standing_done k (MoveFolder from to)) ≡ true)
    cover h (x, (i, e)) of c =
        let y = and_parts (not (is_stage from.area && is_own_of from.name x.target)) x.covered
        (subst (λ (z : Held). z.covered ≡ true) e c) in
        let z = knows.covered x i (subst (λ (z : Held). is_own_of u z.target ≡ true) e of) y.1 in
        (z.0, same (is_claim_held u) (λ h. refl) ∙ z.1)
