-- One event of a conforming execution.
use Rattle.std.proofs.Common.{◌≡◌, ◌⊎◌, inl, inr, ℕ, Bool, true, false, not, ◌&&◌, ◌||◌, ◌==◌, cond, bytes_eq, Option, Some, None, is_some, List, [], ◌∷◌, ◌++◌, map, refl, sym, ap, subst, ◌∙◌}
use Rattle.std.specs.List.{list_any}
use Rattle.std.proofs.lemmas.Bool.{and_parts}
use Rattle.plain_laws.proofs.Booleans.{clash}
use Rattle.plain_laws.proofs.Texts.{same_text}
use Rattle.dir_model.specs.declared.area.Area.{Area}
use Rattle.dir_model.specs.declared.area.Area.TheVariants as area
use Rattle.dir_model.specs.declared.spot.Spot.{Spot}
use Rattle.dir_model.specs.declared.spot.Handle.{Handle}
use Rattle.dir_model.specs.declared.spot.Mode.{Mode}
use Rattle.dir_model.specs.declared.spot.Mode.TheVariants.{Shared, Exclusive}
use Rattle.dir_model.specs.declared.opening.Target.{Target}
use Rattle.dir_model.specs.declared.opening.Target.TheVariants.{Own, Claim, Gate}
use Rattle.dir_model.specs.declared.request.Request.{Request}
use Rattle.dir_model.specs.declared.request.Request.TheVariants.{Begin, MakeFolder, MoveFolder, Open, OpenArea, TryLock, Close, RemoveFolder, Kill}
use Rattle.dir_model.specs.declared.request.Request.TheVariants as request
use Rattle.dir_model.specs.declared.request.Reply.{Reply}
use Rattle.dir_model.specs.declared.request.Reply.TheVariants.{Done, Opened, Refused}
use Rattle.dir_model.specs.Locks.{is_exclusive}
use Rattle.dir_model.specs.State.{folder_at, spot_eq, Namespace, DirState, stands, lives, has_begun}
use Rattle.dir_model.specs.Trace.{without_process, namespace_replied, opened, opened_gate, moved, removed}
use Rattle.dir_model.specs.Replies.{is_reply, refused_in, folder_refusal}
use Rattle.dir_model.specs.Calls.{is_kill}
use Rattle.dir_rules.specs.LockRules.{is_removal_held, is_removal_target, lock_rules_allow, locks_allow_move, may_remove}
use Rattle.dir_rules.specs.Standing.{area_of, draws, find_held, shares_area, holds_own, is_garbage, is_in, is_spot_of_pod, is_own_held, nothing_standing, standing_done, standing_replied}
use Rattle.dir_model.specs.Local.{is_own_of}
use Rattle.dir_model.specs.Areas.{is_stage}
use Rattle.lifecycle.specs.declared.machine.PodState.{PodState}
use Rattle.lifecycle.specs.declared.machine.PodState.TheVariants.{Absent, Embryo, Deleting, Gone}
use Rattle.lifecycle.specs.declared.machine.Transition.{Transition}
use Rattle.lifecycle.specs.declared.machine.Transition.TheVariants as turn
use Rattle.lifecycle.specs.PodMachine.{enabled, after_transition, transition, arrival, transition_if, on_opening, find_opening, is_deleter, is_exclusive_own, is_owner, is_gone, is_area_of_state}
use Rattle.dir_rules.specs.declared.standing.Standing.{Standing}
use Rattle.dir_rules.proofs.Standings.{looked_holdings}
use Rattle.lifecycle.proofs.Lists.{last_in, any_in, in_any}
use Rattle.lifecycle.proofs.Handles.{lock_free, none_refused, refused_if, is_due}
use Rattle.lifecycle.proofs.Linked.{bare, mine, Linked, linked_own, linked_other}
use Rattle.lifecycle.proofs.Invariant.{may_own, Pod, Knows, Invariant, holding, grip_of, others, others_still}
use Rattle.dir_model.specs.declared.request.DirError.{DirError}
use Rattle.dir_model.specs.declared.request.DirError.TheVariants.{Missing, Exists}
use Rattle.lifecycle.proofs.Places.{same_name}
use Rattle.lifecycle.proofs.Opens.{open_pod, open_knows, gate_pod, gate_knows, found_pod, ungripped_opened}
use Rattle.lifecycle.proofs.Ends.{end_pod, end_others, close_pod, close_others, enabled_end, ends_or_not, either}
use Rattle.lifecycle.proofs.Closes.{close_knows}
use Rattle.lifecycle.proofs.Makes.{of_same, of_name, draws_meet, Made, made_by, make_pod, make_knows, make_others, make_pod_other, make_knows_other, knows_folders, and_folder, absent_place}
use Rattle.lifecycle.proofs.Moves.{move_pod, move_others, move_knows, move_pod_other, move_knows_other}
use Rattle.lifecycle.proofs.Arrivals.{arrives, moves_pods}
use Rattle.lifecycle.proofs.Removes.{deleting, remove_pod, remove_knows, remove_pod_other}
use Rattle.lifecycle.proofs.Locks.{Lock, lock_of, lock_pod, lock_others, lock_knows, and_locked, and_held_in}
use Rattle.lifecycle.proofs.LockCases.{locks, lock_still}
use Rattle.lifecycle.proofs.Looks.{look_knows}
use Rattle.lifecycle.proofs.Begins.{and_begun, begin_pod, begin_knows, knows_begun}
use Rattle.dir_model.proofs.Lists.{and_both, not_true, or_last, same_self}

-- after the event
pub record Stepped (u : List ℕ) (n : Namespace) (s : PodState) (σ : ℕ → Standing) (p : ℕ) (request : Request)
    (reply : Reply) : Type 0 where
  pub state : PodState
  pub turns : after_transition (transition u n s p request reply) p s ≡ state
  pub has : (x : Transition) → transition u n s p request reply ≡ Some x → enabled x p s ≡ true
  pub pod : Pod u (namespace_replied n p request reply) state
  pub me : lives (namespace_replied n p request reply) p ≡ true → Knows u p (namespace_replied n p request reply) state
      (standing_replied (σ p) request reply)
  pub others : (q : ℕ) → (p == q) ≡ false → Knows u q n s (σ q) → Knows u q (namespace_replied n p request reply) state (σ q)
  pub absent : (s ≡ Absent → state ≡ Absent) ⊎ ((draws u (standing_replied (σ p) request reply) ≡ true) ×
      ((standing_replied (σ p) request reply).made ≡ true))

-- what is given
pub record Given (u : List ℕ) (n : DirState) (s : PodState) (σ : ℕ → Standing) (p : ℕ) (request : Request)
    (reply : Reply) : Type 0 where
  pub inv : Invariant u n.namespace s σ
  pub unborn : (q : ℕ) → has_begun n.namespace q ≡ false → σ q ≡ nothing_standing
  pub may : is_due n.namespace p request ≡ true
  pub is : is_reply n p request reply ≡ true
  pub rule : is_kill request ≡ false → lock_rules_allow (σ p) request ≡ true
  pub distinct : (a b : ℕ) → draws u (σ a) ≡ true → draws u (σ b) ≡ true → a ≡ b

pub no_turn : {X : Type 0} (x : Transition) → None ≡ Some x → X
no_turn x e = absurd (cc)

refused : (u : List ℕ) (n : Namespace) (s : PodState) (p : ℕ) (request : Request) (e : DirError) (left : ℕ) →
    transition u n s p request (Refused e left) ≡ None
refused u n s p (TryLock h Shared) e left = refl
refused u n s p (TryLock h Exclusive) e left = refl
refused u n s p request e left = refl

opened_none : (u : List ℕ) (n : Namespace) (s : PodState) (p : ℕ) (request : Request) (h : Handle) →
    transition u n s p request (Opened h) ≡ None
opened_none u n s p (TryLock h Shared) g = refl
opened_none u n s p (TryLock h Exclusive) g = refl
opened_none u n s p request g = refl

-- an event that is no transition
still : (u : List ℕ) (n : Namespace) (s : PodState) (σ : ℕ → Standing) (p : ℕ) (request : Request) (reply : Reply) →
    transition u n s p request reply ≡ None → Pod u (namespace_replied n p request reply) s
    → (lives (namespace_replied n p request reply) p ≡ true → Knows u p (namespace_replied n p request reply) s
    (standing_replied (σ p) request reply))
    → ((q : ℕ) → (p == q) ≡ false → Knows u q n s (σ q) → Knows u q (namespace_replied n p request reply) s (σ q)) →
    Stepped u n s σ p request reply
still u n s σ p request reply none pod me others = record {
  state = s;
  turns = ap (λ (t : Option Transition). after_transition t p s) none;
  has = λ x e. no_turn x (sym none ∙ e);
  pod = pod;
  me = me;
  others = others;
  absent = inl (λ e. e);
}

pub stands_from : (n : DirState) (p : ℕ) (from to : Spot) → is_reply n p (MoveFolder from to) Done ≡ true →
    (stands n.namespace from ≡ true) × (stands n.namespace to ≡ false)
stands_from n p from to is = by (stands n.namespace from) (stands n.namespace to) refl refl
    (none_refused n p (MoveFolder from to) refl is)
  where
    by : (b c : Bool) → stands n.namespace from ≡ b → stands n.namespace to ≡ c →
        is_some (cond b (cond c (Some Exists) None) (Some Missing)) ≡ false →
        (stands n.namespace from ≡ true) × (stands n.namespace to ≡ false)
    by true false e f h = (e, f)
    by true true e f h = cc
    by false c e f h = cc

move : (u : List ℕ) (n : DirState) (s : PodState) (σ : ℕ → Standing) (p : ℕ) (from to : Spot) →
    Given u n s σ p (MoveFolder from to) Done → Stepped u n.namespace s σ p (MoveFolder from to) Done
move u n s σ p from to g = by (is_spot_of_pod u to) (is_stage from.area) (is_stage to.area) refl refl refl
  where
    k : Standing
    k = σ p

    knows : Knows u p n.namespace s k
    knows = g.inv.knows p g.may

    ruled : (b : Bool) → (is_stage from.area || is_stage to.area) ≡ b → b ≡ true →
        (bytes_eq from.name to.name ≡ true) × (locks_allow_move k from.name from.area to.area ≡ true)
    ruled true e h = and_parts (bytes_eq from.name to.name) (locks_allow_move k from.name from.area to.area)
        (sym (ap (λ b. cond b (bytes_eq from.name to.name && locks_allow_move k from.name from.area to.area) true) e)
        ∙ g.rule refl)
    ruled false e h = cc

    mine_moves : is_spot_of_pod u to ≡ true → (bytes_eq from.name to.name ≡ true) ×
        (locks_allow_move k from.name from.area to.area ≡ true) → Stepped u n.namespace s σ p (MoveFolder from to) Done
    mine_moves of_to r =
        let name : from.name ≡ u = same_text from.name to.name r.0 ∙ of_name u to of_to in
        let pods = moves_pods k from.name from.area to.area r.1 in
        let of_from : is_spot_of_pod u from ≡ true = and_both (is_stage from.area) (bytes_eq from.name u) pods.0
        (same_name from.name u name) in
        let stand = stands_from n p from to g.is in
        let at = found_pod u n.namespace s g.inv.pod from of_from stand.0 in
        let a = arrives u n.namespace s p σ from.area to.area g.inv.sound g.inv.pod g.inv.knows knows
        (subst (λ (v : List ℕ). locks_allow_move k v from.area to.area ≡ true) name r.1) at.0 in
        record {
          state = a.0;
          turns = ap (λ b. after_transition (cond b (arrival to.area) None) p s) of_to ∙ a.1.turns;
          has = λ x e. a.1.has x (ap (λ b. cond b (arrival to.area) None) (sym of_to) ∙ e);
          pod = move_pod u n.namespace s a.0 p from to g.inv.pod of_from of_to at.0 stand.1 a.1;
          me = λ living. move_knows u n.namespace s a.0 p from to k of_from of_to at.0 a.1 knows;
          others = λ q off other. move_others u n.namespace s a.0 p q from to (σ q) off a.1 other;
          absent = inl (λ e. clash (is_area_of_state from.area Absent) (subst (λ (x : PodState). is_area_of_state from.area x ≡ true) e
              at.0) (absent_place from.area));
        }

    not_mine : is_spot_of_pod u to ≡ false → is_spot_of_pod u from ≡ false → Stepped u n.namespace s σ p (MoveFolder from to) Done
    not_mine not_to not_from =
        still u n.namespace s σ p (MoveFolder from to) Done (ap (λ b. cond b (arrival to.area) None) not_to)
        (move_pod_other u n.namespace s from to not_from not_to g.inv.pod)
        (λ living. move_knows_other u n.namespace s p from to k
        (λ e d f. clash (is_spot_of_pod u from) (and_both (is_stage from.area) (bytes_eq from.name u) (embryo_pod from.area e)
        (same_name from.name u (draws_meet from.name u k.intent d f))) not_from) knows)
        (λ q off other. knows_folders u n.namespace q s (σ q) (map (moved from to) n.namespace.folders) other)
      where
        embryo_pod : (a : Area) → is_in area.Embryo a ≡ true → is_stage a ≡ true
        embryo_pod area.Embryo h = refl
        embryo_pod a h = cc

    from_not : is_spot_of_pod u to ≡ false → (bytes_eq from.name to.name ≡ true) ×
        (locks_allow_move k from.name from.area to.area ≡ true) → (b : Bool) → is_spot_of_pod u from ≡ b → is_spot_of_pod u from ≡ false
    from_not not_to r false e = e
    from_not not_to r true e = clash (is_spot_of_pod u to) (and_both (is_stage to.area) (bytes_eq to.name u)
        (moves_pods k from.name from.area to.area r.1).1
        (same_name to.name u (sym (same_text from.name to.name r.0) ∙ of_name u from e))) not_to

    by : (b c d : Bool) → is_spot_of_pod u to ≡ b → is_stage from.area ≡ c → is_stage to.area ≡ d →
        Stepped u n.namespace s σ p (MoveFolder from to) Done
    by true c d e f h = mine_moves e (ruled (is_stage from.area || is_stage to.area) refl
        (or_last (is_stage from.area) (is_stage to.area) (and_parts (is_stage to.area) (bytes_eq to.name u) e).0))
    by false true d e f h = not_mine e
        (from_not e (ruled (is_stage from.area || is_stage to.area) refl (ap (λ b. b || is_stage to.area) f))
        (is_spot_of_pod u from) refl)
    by false false d e f h = not_mine e (ap (λ b. b && bytes_eq from.name u) f)

make : (u : List ℕ) (n : DirState) (s : PodState) (σ : ℕ → Standing) (p : ℕ) (spot : Spot) →
    Given u n s σ p (MakeFolder spot) Done → Stepped u n.namespace s σ p (MakeFolder spot) Done
make u n s σ p spot g = by (is_spot_of_pod u spot) refl
  where
    knows : Knows u p n.namespace s (σ p)
    knows = g.inv.knows p g.may

    absent : is_spot_of_pod u spot ≡ true → Made u (σ p) spot →
        (s ≡ Absent) ⊎ ((q : ℕ) × ((draws u (σ q) ≡ true) × ((σ q).made ≡ true))) → s ≡ Absent
    absent of m (inl e) = e
    absent of m (inr (q, (d, made))) =
        clash (σ p).made (subst (λ (r : ℕ). (σ r).made ≡ true)
        (g.distinct q p d (ap (λ (v : List ℕ). draws v (σ p)) (sym (of_name u spot of)) ∙ m.draws)) made) m.first

    first : is_spot_of_pod u spot ≡ true → Made u (σ p) spot → s ≡ Absent → Stepped u n.namespace s σ p (MakeFolder spot) Done
    first of m e = record {
      state = Embryo p;
      turns = ap (λ b. after_transition (transition_if b turn.Make) p s) of ∙ ap (λ (x : PodState). after_transition (Some turn.Make) p x) e;
      has = λ x f. subst (λ (t : Transition). enabled t p s ≡ true) (out x (ap (λ b. transition_if b turn.Make) (sym of) ∙ f))
          (ap (λ (z : PodState). enabled turn.Make p z) e);
      pod = make_pod u n.namespace p spot (refused_if (stands n.namespace spot) _
          (none_refused n p (MakeFolder spot) refl g.is)) of m.embryo
          (subst (λ (x : PodState). Pod u n.namespace x) e g.inv.pod);
      me = λ living. subst (λ b. Knows u p (and_folder n.namespace spot) (Embryo p)
          (cond b (record (σ p) { made = true; embryo_under_lock = shares_area area.Embryo (σ p) }) (σ p)))
          (sym (and_parts (is_stage spot.area) (bytes_eq spot.name u) of).0)
          (make_knows u n.namespace p spot (σ p) of m (subst (λ (x : PodState). Knows u p n.namespace x (σ p)) e
          knows));
      others = λ q off other. make_others u n.namespace p q spot (σ q) off
          (subst (λ (x : PodState). Knows u q n.namespace x (σ q)) e other);
      absent = inr (subst (λ b. (draws u (cond b (record (σ p) { made = true; embryo_under_lock = shares_area area.Embryo (σ p) })
          (σ p)) ≡ true) × ((cond b (record (σ p) { made = true; embryo_under_lock = shares_area area.Embryo (σ p) }) (σ p)).made ≡
          true)) (sym (and_parts (is_stage spot.area) (bytes_eq spot.name u) of).0)
          (ap (λ (v : List ℕ). draws v (σ p)) (sym (of_name u spot of)) ∙ m.draws, refl));
    }
      where
        out : (x : Transition) → Some turn.Make ≡ Some x → turn.Make ≡ x
        out x f = cc

    by : (b : Bool) → is_spot_of_pod u spot ≡ b → Stepped u n.namespace s σ p (MakeFolder spot) Done
    by true of =
        let m = made_by u (σ p) spot (and_parts (is_stage spot.area) (bytes_eq spot.name u) of).0 (g.rule refl) in
        first of m (absent of m g.inv.maker)
    by false off = still u n.namespace s σ p (MakeFolder spot) Done (ap (λ b. transition_if b turn.Make) off)
        (make_pod_other u n.namespace s spot off g.inv.pod)
        (λ living. make_knows_other u n.namespace p s spot (σ p) off (g.rule refl) knows)
        (λ q apart other. knows_folders u n.namespace q s (σ q) (n.namespace.folders ++ Some spot ∷ []) other)

-- the lock that a removal at a place of a pod needs is Own
pub removal_own : (k : Standing) (spot : Spot) → is_stage spot.area ≡ true → may_remove k spot ≡ true →
    (is_garbage spot.area ≡ true) × (holds_own spot.name k ≡ true)
removal_own k spot pod may =
    let e = any_in (is_removal_held spot) k.holdings may in
    let x = and_parts (is_exclusive e.0.lock) (is_removal_target spot e.0.target) e.1.1 in
    let y = on e.0.target x.1 in (
      y.0,
      in_any (is_own_held spot.name) e.0 k.holdings e.1.0
          (and_both (is_own_of spot.name e.0.target) (is_exclusive e.0.lock) y.1 x.0),
    )
  where
    apart : {X : Type 0} (a : Area) → is_in area.Removed a ≡ true → is_stage a ≡ true → X
    apart area.Removed h p = cc
    apart a h p = cc

    on : (t : Target) → is_removal_target spot t ≡ true → (is_garbage spot.area ≡ true) × (is_own_of spot.name t ≡ true)
    on (Own here) h =
        let x = and_parts (is_garbage spot.area) (spot_eq here spot) h in (
          x.0,
          of_same spot.name here spot x.1 ∙ and_both (is_stage spot.area) (bytes_eq spot.name spot.name) pod
              (same_name spot.name spot.name refl),
        )
    on (Claim here) h = cc
    on (Gate gate) h = apart spot.area (and_parts (is_in area.Removed spot.area) (is_in area.Removed gate) h).0 pod

remove : (u : List ℕ) (n : DirState) (s : PodState) (σ : ℕ → Standing) (p : ℕ) (spot : Spot) →
    Given u n s σ p (RemoveFolder spot) Done → Stepped u n.namespace s σ p (RemoveFolder spot) Done
remove u n s σ p spot g = by (is_spot_of_pod u spot) refl
  where
    knows : Knows u p n.namespace s (σ p)
    knows = g.inv.knows p g.may

    standing_by : (o : Option ℕ) → is_some (refused_in folder_refusal n.entries o) ≡ false → is_some o ≡ true
    standing_by (Some folder) h = refl
    standing_by None h = cc

    there : is_spot_of_pod u spot ≡ true → is_area_of_state spot.area s ≡ true
    there of = (found_pod u n.namespace s g.inv.pod spot of
        (standing_by (folder_at n.namespace spot) (none_refused n p (RemoveFolder spot) refl g.is))).0

    ruled : is_spot_of_pod u spot ≡ true → (is_garbage spot.area ≡ true) × (holds_own spot.name (σ p) ≡ true)
    ruled of = removal_own (σ p) spot (and_parts (is_stage spot.area) (bytes_eq spot.name u) of).0 (g.rule refl)

    removes : is_spot_of_pod u spot ≡ true → (f : Area) × (s ≡ Deleting p f) → Stepped u n.namespace s σ p (RemoveFolder spot) Done
    removes of (f, e) = record {
      state = Gone;
      turns = ap (λ b. after_transition (transition_if b turn.Remove) p s) of ∙ ap (λ b. cond b Gone s) (able e);
      has = λ x h. subst (λ (t : Transition). enabled t p s ≡ true) (out x (ap (λ b. transition_if b turn.Remove) (sym of) ∙ h))
          (able e);
      pod = remove_pod u n.namespace s spot of (there of) g.inv.pod;
      me = λ living. remove_knows u n.namespace p p f spot (σ p)
          (subst (λ (x : PodState). Knows u p n.namespace x (σ p)) e knows);
      others = λ q off other. remove_knows u n.namespace p q f spot (σ q)
          (subst (λ (x : PodState). Knows u q n.namespace x (σ q)) e other);
      absent = inl (λ x. absurd (never (sym e ∙ x)));
    }
      where
        never : Deleting p f ≡ Absent → ⊥
        never x = cc

        able : s ≡ Deleting p f → enabled turn.Remove p s ≡ true
        able e = ap (λ (x : PodState). enabled turn.Remove p x) e ∙ same_self p

        out : (x : Transition) → Some turn.Remove ≡ Some x → turn.Remove ≡ x
        out x f = cc

    by : (b : Bool) → is_spot_of_pod u spot ≡ b → Stepped u n.namespace s σ p (RemoveFolder spot) Done
    by true of =
        let r = ruled of in
        let o = holding p n.namespace (σ p) (grip_of u) knows.linked
        (ap (λ (v : List ℕ). holds_own v (σ p)) (sym (of_name u spot of)) ∙ r.1) in
        removes of (deleting p s spot.area (area_of o.0.target) r.0 (there of)
        (ap (λ q. may_own s q (area_of o.0.target)) (sym o.1.1.0) ∙ g.inv.pod.owns o.0 o.1.0 o.1.1.1))
    by false off = still u n.namespace s σ p (RemoveFolder spot) Done (ap (λ b. transition_if b turn.Remove) off)
        (remove_pod_other u n.namespace s spot off g.inv.pod)
        (λ living. knows_folders u n.namespace p s (σ p) (map (removed spot) n.namespace.folders) knows)
        (λ q apart other. knows_folders u n.namespace q s (σ q) (map (removed spot) n.namespace.folders) other)

deletes_nothing : (p : ℕ) (b : Bool) → after_transition (transition_if b turn.BeginDelete) p Absent ≡ Absent
deletes_nothing p true = refl
deletes_nothing p false = refl

lock : (u : List ℕ) (n : DirState) (s : PodState) (σ : ℕ → Standing) (p : ℕ) (h : Handle) (m : Mode) →
    Given u n s σ p (TryLock h m) Done → Stepped u n.namespace s σ p (TryLock h m) Done
lock u n s σ p h m g = by m (lock_of p n.namespace (σ p) h m g.inv.sound knows.linked (lock_free n p h m g.is)
    (g.rule refl)) (linked_own p n.namespace (σ p) (TryLock h m) Done refl knows.linked)
    (λ q off. linked_other q p n.namespace (TryLock h m) Done off)
  where
    knows : Knows u p n.namespace s (σ p)
    knows = g.inv.knows p g.may

    by : (m : Mode) → Lock p n.namespace (σ p) h m →
        Linked p (and_locked n.namespace p h m) (standing_done (σ p) (TryLock h m)) →
        ((q : ℕ) → (p == q) ≡ false → mine q (and_locked n.namespace p h m).openings ≡ mine q n.namespace.openings) →
        Stepped u n.namespace s σ p (TryLock h m) Done
    by Exclusive l linked same =
        let x = locks u p n.namespace s (σ p) h Exclusive g.inv.sound g.inv.pod knows l in
        record {
          state = x.state;
          turns = x.turns;
          has = x.has;
          pod = lock_pod u n.namespace s x.state p (σ p) h Exclusive g.inv.pod x.locking;
          me = λ living. lock_knows u n.namespace s x.state p (σ p) h Exclusive g.inv.sound l linked x.locking knows;
          others = λ q off other. lock_others u n.namespace s x.state p q (σ p) (σ q) h Exclusive off (same q off)
              x.locking other;
          absent = inl (λ e. sym x.turns ∙
              (ap (λ (y : PodState). after_transition (transition u n.namespace y p (TryLock h Exclusive) Done) p y) e
              ∙ deletes_nothing p (not (is_gone Absent) && on_opening (is_deleter u) (find_opening n.namespace p h))));
        }
    by Shared l linked same =
        let x = lock_still u p n.namespace s (σ p) h g.inv.sound g.inv.pod knows l in
        still u n.namespace s σ p (TryLock h Shared) Done refl (lock_pod u n.namespace s s p (σ p) h Shared g.inv.pod x)
        (λ living. look_knows u p n.namespace s (σ p) h g.inv.sound g.inv.pod knows l
        (lock_knows u n.namespace s s p (σ p) h Shared g.inv.sound l
        (sym (ap (map bare) (looked_holdings (find_held h (σ p)) (and_held_in (σ p) h Shared))) ∙ linked) x knows))
        (λ q off other. lock_others u n.namespace s s p q (σ p) (σ q) h Shared off (same q off) x other)

end_has : (p : ℕ) (s : PodState) (c : Bool) (x : Transition) → transition_if (is_owner p s && c) turn.End ≡ Some x →
    enabled x p s ≡ true
end_has p s c x e = by (is_owner p s && c) refl e
  where
    out : Some turn.End ≡ Some x → turn.End ≡ x
    out f = cc

    by : (b : Bool) → (is_owner p s && c) ≡ b → transition_if b turn.End ≡ Some x → enabled x p s ≡ true
    by true f e = subst (λ (t : Transition). enabled t p s ≡ true) (out e) (enabled_end p s ∙ (and_parts (is_owner p s) c f).0)
    by false f e = no_turn x e

end_has_own : (p : ℕ) (s : PodState) (x : Transition) → transition_if (is_owner p s) turn.End ≡ Some x → enabled x p s ≡ true
end_has_own p s x e = by (is_owner p s) refl e
  where
    out : Some turn.End ≡ Some x → turn.End ≡ x
    out f = cc

    by : (b : Bool) → is_owner p s ≡ b → transition_if b turn.End ≡ Some x → enabled x p s ≡ true
    by true f e = subst (λ (t : Transition). enabled t p s ≡ true) (out e) (enabled_end p s ∙ f)
    by false f e = no_turn x e

-- who ended doesn't live
dead : (n : Namespace) (p : ℕ) → lives (without_process n p) p ≡ true → ⊥
dead n p h = clash (list_any (λ r. r == p) (n.ended ++ p ∷ []))
    (in_any (λ r. r == p) p (n.ended ++ p ∷ []) (last_in n.ended p) (same_self p))
    (not_true (list_any (λ r. r == p) (n.ended ++ p ∷ []))
    (and_parts (has_begun n p) (not (list_any (λ r. r == p) (n.ended ++ p ∷ []))) h).1)

ends : (u : List ℕ) (n : Namespace) (s : PodState) (σ : ℕ → Standing) (p : ℕ) → Pod u n s →
    Stepped u n s σ p request.Finish Done
ends u n s σ p pod = record {
  state = after_transition (transition_if (is_owner p s) turn.End) p s;
  turns = refl;
  has = λ x e. end_has_own p s x e;
  pod = end_pod u n s p pod;
  me = λ living. absurd (dead n p living);
  others = λ q off other. end_others u n s p q (σ q) (linked_other q p n request.Finish Done off) other;
  absent = inl (λ e. ap (λ (x : PodState). after_transition (transition_if (is_owner p x) turn.End) p x) e);
}

is_killed : (u : List ℕ) (n : Namespace) (s : PodState) (σ : ℕ → Standing) (p : ℕ) → Pod u n s → Stepped u n s σ p Kill Done
is_killed u n s σ p pod = record {
  state = after_transition (transition_if (is_owner p s) turn.End) p s;
  turns = refl;
  has = λ x e. end_has_own p s x e;
  pod = end_pod u n s p pod;
  me = λ living. absurd (dead n p living);
  others = λ q off other. end_others u n s p q (σ q) (linked_other q p n Kill Done off) other;
  absent = inl (λ e. ap (λ (x : PodState). after_transition (transition_if (is_owner p x) turn.End) p x) e);
}

close : (u : List ℕ) (n : DirState) (s : PodState) (σ : ℕ → Standing) (p : ℕ) (h : Handle) →
    Given u n s σ p (Close h) Done → Stepped u n.namespace s σ p (Close h) Done
close u n s σ p h g = record {
  state = after_transition (transition_if (is_owner p s && on_opening (is_exclusive_own u) (find_opening n.namespace p h)) turn.End) p s;
  turns = refl;
  has = λ x e. end_has p s (on_opening (is_exclusive_own u) (find_opening n.namespace p h)) x e;
  pod = close_pod u n.namespace s p h g.inv.sound g.inv.pod;
  me = λ living. close_knows u n.namespace s
      (after_transition (transition_if (is_owner p s && on_opening (is_exclusive_own u) (find_opening n.namespace p h)) turn.End) p s) p h (σ p)
      g.inv.sound (g.rule refl) (either p s (on_opening (is_exclusive_own u) (find_opening n.namespace p h))
      (ends_or_not p s (on_opening (is_exclusive_own u) (find_opening n.namespace p h)))) (g.inv.knows p g.may);
  others = λ q off other. close_others u n.namespace s p q h (σ q) (linked_other q p n.namespace (Close h) Done off) other;
  absent = inl (λ e. ap (λ (x : PodState). after_transition (transition_if (is_owner p x && on_opening (is_exclusive_own u) (find_opening n.namespace p h))
      turn.End) p x) e);
}

pub stepped : (u : List ℕ) (n : DirState) (s : PodState) (σ : ℕ → Standing) (p : ℕ) (request : Request) (reply : Reply)
    → Given u n s σ p request reply → Stepped u n.namespace s σ p request reply
stepped u n s σ p request (Refused e left) g =
    still u n.namespace s σ p request (Refused e left) (refused u n.namespace s p request e left) g.inv.pod
    (λ living. g.inv.knows p living) (λ q off other. other)
stepped u n s σ p (Begin intent) Done g =
    still u n.namespace s σ p (Begin intent) Done refl (begin_pod u n.namespace s
    (record { process = p; intent = intent }) g.inv.pod)
    (λ living. subst (λ (k : Standing). Knows u p (and_begun n.namespace (record { process = p; intent = intent })) s
    (standing_done k (Begin intent))) (sym (g.unborn p (not_true (has_begun n.namespace p) g.may)))
    (begin_knows u n.namespace s p intent g.inv.sound (not_true (has_begun n.namespace p) g.may)))
    (λ q off other. knows_begun u n.namespace (record { process = p; intent = intent }) q s (σ q) other)
stepped u n s σ p (MakeFolder spot) Done g = make u n s σ p spot g
stepped u n s σ p (MoveFolder from to) Done g = move u n s σ p from to g
stepped u n s σ p (TryLock h m) Done g = lock u n s σ p h m g
stepped u n s σ p (Close h) Done g = close u n s σ p h g
stepped u n s σ p (RemoveFolder spot) Done g = remove u n s σ p spot g
stepped u n s σ p request.Finish Done g = ends u n.namespace s σ p g.inv.pod
stepped u n s σ p Kill Done g = is_killed u n.namespace s σ p g.inv.pod
stepped u n s σ p (Open spot which) Done g =
    still u n.namespace s σ p (Open spot which) Done refl g.inv.pod (λ living. g.inv.knows p g.may)
    (λ q off other. other)
stepped u n s σ p (OpenArea a) Done g =
    still u n.namespace s σ p (OpenArea a) Done refl g.inv.pod (λ living. g.inv.knows p g.may) (λ q off other. other)
stepped u n s σ p (Open spot which) (Opened h) g =
    still u n.namespace s σ p (Open spot which) (Opened h) refl (open_pod u n s p spot which h g.is g.inv.pod)
    (λ living. open_knows u n s p (σ p) spot which h g.is g.inv.pod (g.inv.knows p g.may))
    (λ q off other. others_still u q n.namespace (namespace_replied n.namespace p (Open spot which) (Opened h)) s (σ q)
    (linked_other q p n.namespace (Open spot which) (Opened h) off)
    (λ c r e none. ungripped_opened u n.namespace (opened n.namespace p h spot which) refl none) other)
stepped u n s σ p (OpenArea a) (Opened h) g =
    still u n.namespace s σ p (OpenArea a) (Opened h) refl (gate_pod u n.namespace s p a h g.inv.pod)
    (λ living. gate_knows u n.namespace s p (σ p) a h (g.inv.knows p g.may))
    (λ q off other. others_still u q n.namespace (namespace_replied n.namespace p (OpenArea a) (Opened h)) s (σ q)
    (linked_other q p n.namespace (OpenArea a) (Opened h) off)
    (λ c r e none. ungripped_opened u n.namespace (opened_gate p h a) refl none) other)
stepped u n s σ p request (Opened h) g =
    still u n.namespace s σ p request (Opened h) (opened_none u n.namespace s p request h) g.inv.pod
    (λ living. g.inv.knows p living) (λ q off other. other)
stepped u n s σ p (TryLock h Shared) reply g =
    still u n.namespace s σ p (TryLock h Shared) reply refl g.inv.pod (λ living. g.inv.knows p living)
    (λ q off other. other)
stepped u n s σ p (TryLock h Exclusive) reply g =
    still u n.namespace s σ p (TryLock h Exclusive) reply refl g.inv.pod (λ living. g.inv.knows p living)
    (λ q off other. other)
stepped u n s σ p request reply g =
    still u n.namespace s σ p request reply refl g.inv.pod (λ living. g.inv.knows p living) (λ q off other. other)
