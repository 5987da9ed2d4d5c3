-- Each move of a pod that the rules allow is a transition that its state has.
use Rattle.std.proofs.Common.{arith, ◌≡◌, ◌⊎◌, inl, inr, ◌≤◌, ℕ, true, ◌&&◌, ◌==◌, cond, Some, List, refl, sym, ap, subst, ◌∙◌}
use Rattle.std.proofs.lemmas.Bool.{and_parts}
use Rattle.plain_laws.proofs.Booleans.{clash}
use Rattle.dir_model.specs.declared.area.Area.{Area}
use Rattle.dir_model.specs.declared.area.Area.TheVariants as area
use Rattle.dir_model.specs.declared.opening.Opening.{Opening}
use Rattle.dir_model.specs.State.{Namespace, lives}
use Rattle.dir_rules.specs.Standing.{is_prepare, is_run, area_of, began_as, excludes_area, draws, is_name_among, has_place, holds_claim, holds_own, is_gc, is_remover, is_run_prepared}
use Rattle.dir_model.specs.Areas.{is_stage}
use Rattle.dir_rules.specs.LockRules.{locks_allow_move}
use Rattle.lifecycle.specs.declared.machine.PodState.{PodState}
use Rattle.lifecycle.specs.declared.machine.PodState.TheVariants.{Embryo, Preparing, AbortedPrepare, Prepared, Running, Exited, ExitedGarbage, Garbage}
use Rattle.lifecycle.specs.declared.machine.Transition.TheVariants as turn
use Rattle.lifecycle.specs.PodMachine.{enabled, is_exclusive_own, is_area_of_state, pod_progress}
use Rattle.dir_rules.specs.declared.standing.Standing.{Standing}
use Rattle.lifecycle.proofs.Lists.{In}
use Rattle.lifecycle.proofs.Handles.{Sound}
use Rattle.lifecycle.proofs.Linked.{Linked}
use Rattle.lifecycle.proofs.Invariant.{may_own, Pod, Cleared, Knows, one_grip, holding, held_by, grip_of, claims_meet, gates_meet}
use Rattle.lifecycle.proofs.Opens.{prepared_is}
use Rattle.lifecycle.proofs.Makes.{embryo_same}
use Rattle.lifecycle.proofs.Moves.{Arrival, embryo_is, prepare_is}
use Rattle.dir_model.proofs.Lists.{same_self, same_number}

-- what the process that moves the pod has by its rules
abbrev AllKnow : List ℕ → Namespace → PodState → (ℕ → Standing) → Type 0
AllKnow u n s σ = (q : ℕ) → lives n q ≡ true → Knows u q n s (σ q)

-- the handle by which a process holds Own
abbrev Grip : List ℕ → Namespace → ℕ → Type 0
Grip u n p = (o : Opening) × (In o n.openings × ((o.process ≡ p) × (is_exclusive_own u o ≡ true)))

grips : (u : List ℕ) (n : Namespace) (p : ℕ) (k : Standing) → Linked p n k → holds_own u k ≡ true → Grip u n p
grips u n p k linked h = holding p n k (grip_of u) linked h

-- all that hold Own exclusively are this process
all_mine : (u : List ℕ) (n : Namespace) (s : PodState) (p : ℕ) → Sound n → Pod u n s → Grip u n p → (o : Opening) →
    In o n.openings → is_exclusive_own u o ≡ true → (o.process == p) ≡ true
all_mine u n s p sound pod g o i h =
    ap (λ (x : Opening). x.process == p) (one_grip u n s sound pod o g.0 i g.1.0 h g.1.1.1)
    ∙ (ap (λ q. q == p) g.1.1.0 ∙ same_self p)

by_me : (u : List ℕ) (n : Namespace) (p : ℕ) → Grip u n p → (q : ℕ) → (q == p) ≡ true →
    (o : Opening) × (In o n.openings × ((is_exclusive_own u o ≡ true) × (o.process ≡ q)))
by_me u n p g q e = (g.0, (g.1.0, (g.1.1.1, g.1.1.0 ∙ sym (same_number q p e))))

only : {X : Type 0} (t : X) (P : X → Type 0) → P t → (x : X) → Some t ≡ Some x → P x
only {X} t P h x e = subst P (out e) h
  where
    out : Some t ≡ Some x → t ≡ x
    out e = cc

begin_prepare : (u : List ℕ) (n : Namespace) (p : ℕ) → Sound n → Pod u n (Embryo p) → Grip u n p →
    Arrival u p n (Embryo p) (Preparing p) area.Prepare
begin_prepare u n p sound pod g = record {
  turns = ap (λ b. cond b (Preparing p) (Embryo p)) (same_self p);
  has = λ x e. only turn.BeginPrepare (λ x. enabled x p (Embryo p) ≡ true) (same_self p) x e;
  place = refl;
  aged = omega arith;
  past_embryo = λ q e. absurd (cc);
  before = λ e. omega arith;
  owns = λ o i h. all_mine u n (Embryo p) p sound pod g o i h;
  held = λ q e. by_me u n p g q e;
  leaves = λ q l off linked gd gate e. embryo_same p q off e;
  claims = λ q l off linked c e. absurd (cc);
}

sweep_embryo : (u : List ℕ) (n : Namespace) (p m : ℕ) (k : Standing) (σ : ℕ → Standing) → Sound n → Pod u n (Embryo m) →
    AllKnow u n (Embryo m) σ → Linked p n k → excludes_area area.Embryo k ≡ true →
    Arrival u p n (Embryo m) Garbage area.Garbage
sweep_embryo u n p m k σ sound pod know linked closes = record {
  turns = refl;
  has = λ x e. only turn.Sweep (λ x. enabled x p (Embryo m) ≡ true) refl x e;
  place = refl;
  aged = omega arith;
  past_embryo = λ q e. absurd (cc);
  before = λ e. absurd (cc);
  owns = λ o i h. free o i h;
  held = λ q e. absurd (cc);
  leaves = λ q l off ll gd gate e. gates_meet n p q k l sound linked ll closes gate;
  claims = λ q l off ll c e. absurd (cc);
}
  where
    free : {X : Type 0} (o : Opening) → In o n.openings → is_exclusive_own u o ≡ true → X
    free o i h =
        let is : o.process ≡ m = same_number o.process m (pod.owns o i h) in
        let knows = know o.process (sound.living o i) in
        let x = knows.owned (ap Embryo (sym is)) (held_by o.process n (σ o.process) (grip_of u) knows.linked o i refl h) in
        gates_meet n p o.process k (σ o.process) sound linked knows.linked closes (knows.gates x.0)

-- who holds Own in prepare is its owner
preparing : (u : List ℕ) (n : Namespace) (s : PodState) (p : ℕ) → Pod u n s → Grip u n p →
    is_area_of_state area.Prepare s ≡ true → s ≡ Preparing p
preparing u n s p pod g at = by (prepare_is s at)
  where
    by : ((o : ℕ) × (s ≡ Preparing o)) ⊎ (s ≡ AbortedPrepare) → s ≡ Preparing p
    by (inl (o, e)) =
        let may : may_own s g.0.process (area_of g.0.target) ≡ true = pod.owns g.0 g.1.0 g.1.1.1 in
        e ∙ ap Preparing (sym (same_number g.0.process o (ap (λ (x : PodState). may_own x g.0.process (area_of g.0.target))
        (sym e) ∙ may)) ∙ g.1.1.0)
    by (inr e) =
        let may : may_own s g.0.process (area_of g.0.target) ≡ true = pod.owns g.0 g.1.0 g.1.1.1 in
        clash (may_own AbortedPrepare g.0.process (area_of g.0.target))
        (ap (λ (x : PodState). may_own x g.0.process (area_of g.0.target)) (sym e) ∙ may) refl

finish : (u : List ℕ) (n : Namespace) (p : ℕ) → Pod u n (Preparing p) → Arrival u p n (Preparing p) Prepared area.Prepared
finish u n p pod = record {
  turns = ap (λ b. cond b Prepared (Preparing p)) (same_self p);
  has = λ x e. only turn.Finish (λ x. enabled x p (Preparing p) ≡ true) (same_self p) x e;
  place = refl;
  aged = omega arith;
  past_embryo = λ q e. absurd (cc);
  before = λ e. omega arith;
  owns = λ o i h. refl;
  held = λ q e. absurd (cc);
  leaves = λ q l off ll gd gate e. absurd (cc);
  claims = λ q l off ll c e. absurd (cc);
}

run_prepare : (u : List ℕ) (n : Namespace) (p : ℕ) → Sound n → Pod u n (Preparing p) → Grip u n p →
    Arrival u p n (Preparing p) (Running p) area.Run
run_prepare u n p sound pod g = record {
  turns = ap (λ b. cond b (Running p) (Preparing p)) (same_self p);
  has = λ x e. only turn.Start (λ x. enabled x p (Preparing p) ≡ true) (same_self p) x e;
  place = refl;
  aged = omega arith;
  past_embryo = λ q e. absurd (cc);
  before = λ e. absurd (cc);
  owns = λ o i h. all_mine u n (Preparing p) p sound pod g o i h;
  held = λ q e. by_me u n p g q e;
  leaves = λ q l off ll gd gate e. absurd (cc);
  claims = λ q l off ll c e. absurd (cc);
}

aborted : (s : PodState) → is_area_of_state area.Prepare s ≡ true → 3 ≤ pod_progress s → s ≡ AbortedPrepare
aborted AbortedPrepare h l = refl
aborted (Preparing o) h l = absurd (omega (arith, l))
aborted s h l = cc

sweep_aborted : (u : List ℕ) (n : Namespace) (p : ℕ) → Pod u n AbortedPrepare →
    Arrival u p n AbortedPrepare Garbage area.Garbage
sweep_aborted u n p pod = record {
  turns = refl;
  has = λ x e. only turn.Sweep (λ x. enabled x p AbortedPrepare ≡ true) refl x e;
  place = refl;
  aged = omega arith;
  past_embryo = λ q e. absurd (cc);
  before = λ e. absurd (cc);
  owns = λ o i h. pod.owns o i h;
  held = λ q e. absurd (cc);
  leaves = λ q l off ll gd gate e. absurd (cc);
  claims = λ q l off ll c e. absurd (cc);
}

start : (u : List ℕ) (n : Namespace) (p : ℕ) (k : Standing) → Sound n → Pod u n Prepared → Linked p n k → Grip u n p →
    holds_claim u k ≡ true → Arrival u p n Prepared (Running p) area.Run
start u n p k sound pod linked g claim = record {
  turns = refl;
  has = λ x e. only turn.Start (λ x. enabled x p Prepared ≡ true) refl x e;
  place = refl;
  aged = omega arith;
  past_embryo = λ q e. absurd (cc);
  before = λ e. absurd (cc);
  owns = λ o i h. all_mine u n Prepared p sound pod g o i h;
  held = λ q e. by_me u n p g q e;
  leaves = λ q l off ll gd gate e. absurd (cc);
  claims = λ q l off ll c e. clash (p == q)
      (ap (λ x. p == x) (sym (claims_meet u n Prepared p q k l sound pod linked ll claim c)) ∙ same_self p) off;
}

sweep_prepared : (u : List ℕ) (n : Namespace) (p : ℕ) (k : Standing) → Sound n → Pod u n Prepared → Linked p n k →
    Cleared u n Prepared k → Arrival u p n Prepared Garbage area.Garbage
sweep_prepared u n p k sound pod linked clear = record {
  turns = refl;
  has = λ x e. only turn.Sweep (λ x. enabled x p Prepared ≡ true) refl x e;
  place = refl;
  aged = omega arith;
  past_embryo = λ q e. absurd (cc);
  before = λ e. absurd (cc);
  owns = λ o i h. clash (is_exclusive_own u o) h (clear.free refl o i);
  held = λ q e. absurd (cc);
  leaves = λ q l off ll gd gate e. absurd (cc);
  claims = λ q l off ll c e. clash (p == q)
      (ap (λ x. p == x) (sym (claims_meet u n Prepared p q k l sound pod linked ll clear.claim c)) ∙ same_self p) off;
}

exited : (s : PodState) → is_area_of_state area.Run s ≡ true → 6 ≤ pod_progress s → s ≡ Exited
exited Exited h l = refl
exited (Running o) h l = absurd (omega (arith, l))
exited s h l = cc

mark : (u : List ℕ) (n : Namespace) (p : ℕ) → Pod u n Exited → Arrival u p n Exited ExitedGarbage area.ExitedGarbage
mark u n p pod = record {
  turns = refl;
  has = λ x e. only turn.Mark (λ x. enabled x p Exited ≡ true) refl x e;
  place = refl;
  aged = omega arith;
  past_embryo = λ q e. absurd (cc);
  before = λ e. absurd (cc);
  owns = λ o i h. pod.owns o i h;
  held = λ q e. absurd (cc);
  leaves = λ q l off ll gd gate e. absurd (cc);
  claims = λ q l off ll c e. absurd (cc);
}

abbrev pub Arrives : List ℕ → ℕ → Namespace → PodState → Area → Type 0
Arrives u p n s b = (t : PodState) × Arrival u p n s t b

pub arrives : (u : List ℕ) (n : Namespace) (s : PodState) (p : ℕ) (σ : ℕ → Standing) (a b : Area) → Sound n →
    Pod u n s → AllKnow u n s σ → Knows u p n s (σ p) → locks_allow_move (σ p) u a b ≡ true → is_area_of_state a s ≡ true →
    Arrives u p n s b
arrives u n s p σ area.Embryo area.Prepare sound pod know knows may at =
    let x = and_parts ((σ p).embryo_under_lock && draws u (σ p)) (holds_own u (σ p)) may in
    let y = and_parts (σ p).embryo_under_lock (draws u (σ p)) x.0 in
    let e : s ≡ Embryo p = knows.embryo_under_lock y.0 y.1 in (
      Preparing p,
      subst (λ (z : PodState). Arrival u p n z (Preparing p) area.Prepare) (sym e)
          (begin_prepare u n p sound (subst (λ (z : PodState). Pod u n z) e pod) (grips u n p (σ p) knows.linked x.1)),
    )
arrives u n s p σ area.Embryo area.Garbage sound pod know knows may at =
    let x = and_parts (began_as is_gc (σ p)) (excludes_area area.Embryo (σ p)) may in
    let m = embryo_is s at in (
      Garbage,
      subst (λ (z : PodState). Arrival u p n z Garbage area.Garbage) (sym m.1)
          (sweep_embryo u n p m.0 (σ p) σ sound (subst (λ (z : PodState). Pod u n z) m.1 pod)
          (subst (λ (z : PodState). AllKnow u n z σ) m.1 know) knows.linked x.1),
    )
arrives u n s p σ area.Prepare area.Prepared sound pod know knows may at =
    let x = and_parts (began_as is_prepare (σ p)) (holds_own u (σ p)) may in
    let g = grips u n p (σ p) knows.linked x.1 in
    let e = preparing u n s p pod g at in (
      Prepared,
      subst (λ (z : PodState). Arrival u p n z Prepared area.Prepared) (sym e)
          (finish u n p (subst (λ (z : PodState). Pod u n z) e pod)),
    )
arrives u n s p σ area.Prepare area.Run sound pod know knows may at =
    let x = and_parts (began_as is_run (σ p)) (holds_own u (σ p)) may in
    let g = grips u n p (σ p) knows.linked x.1 in
    let e = preparing u n s p pod g at in (
      Running p,
      subst (λ (z : PodState). Arrival u p n z (Running p) area.Run) (sym e)
          (run_prepare u n p sound (subst (λ (z : PodState). Pod u n z) e pod) g),
    )
arrives u n s p σ area.Prepare area.Garbage sound pod know knows may at =
    let x = and_parts (began_as is_remover (σ p)) (has_place u area.Prepare (σ p).seen_unowned) may in
    let e = aborted s at (knows.seen_unowned area.Prepare x.1) in (
      Garbage,
      subst (λ (z : PodState). Arrival u p n z Garbage area.Garbage) (sym e)
          (sweep_aborted u n p (subst (λ (z : PodState). Pod u n z) e pod)),
    )
arrives u n s p σ area.Prepared area.Run sound pod know knows may at =
    let x = and_parts (began_as is_run_prepared (σ p)) (holds_own u (σ p) && holds_claim u (σ p)) may in
    let y = and_parts (holds_own u (σ p)) (holds_claim u (σ p)) x.1 in
    let e = prepared_is s at in (
      Running p,
      subst (λ (z : PodState). Arrival u p n z (Running p) area.Run) (sym e)
          (start u n p (σ p) sound (subst (λ (z : PodState). Pod u n z) e pod) knows.linked
          (grips u n p (σ p) knows.linked y.0) y.1),
    )
arrives u n s p σ area.Prepared area.Garbage sound pod know knows may at =
    let x = and_parts (began_as is_remover (σ p)) (is_name_among u (σ p).seen_unowned_under_claim) may in
    let e = prepared_is s at in (
      Garbage,
      subst (λ (z : PodState). Arrival u p n z Garbage area.Garbage) (sym e)
          (sweep_prepared u n p (σ p) sound (subst (λ (z : PodState). Pod u n z) e pod) knows.linked
          (subst (λ (z : PodState). Cleared u n z (σ p)) e (knows.seen_unowned_under_claim x.1))),
    )
arrives u n s p σ area.Run area.ExitedGarbage sound pod know knows may at =
    let x = and_parts (began_as is_remover (σ p)) (has_place u area.Run (σ p).seen_unowned) may in
    let e = exited s at (knows.seen_unowned area.Run x.1) in (
      ExitedGarbage,
      subst (λ (z : PodState). Arrival u p n z ExitedGarbage area.ExitedGarbage) (sym e)
          (mark u n p (subst (λ (z : PodState). Pod u n z) e pod)),
    )
arrives u n s p σ a b sound pod know knows may at = cc

-- the rules move pods among the places of pods
pub moves_pods : (k : Standing) (u : List ℕ) (a b : Area) → locks_allow_move k u a b ≡ true →
    (is_stage a ≡ true) × (is_stage b ≡ true)
moves_pods k u area.Embryo area.Prepare h = (refl, refl)
moves_pods k u area.Embryo area.Garbage h = (refl, refl)
moves_pods k u area.Prepare area.Prepared h = (refl, refl)
moves_pods k u area.Prepare area.Run h = (refl, refl)
moves_pods k u area.Prepare area.Garbage h = (refl, refl)
moves_pods k u area.Prepared area.Run h = (refl, refl)
moves_pods k u area.Prepared area.Garbage h = (refl, refl)
moves_pods k u area.Run area.ExitedGarbage h = (refl, refl)
moves_pods k u a b h = cc
