-- Who holds a pod by what it knows is its owner.
use Rattle.std.proofs.Common.{arith, ◌≡◌, ◌⊎◌, inl, inr, ◌≤◌, ℕ, Bool, true, false, not, ◌&&◌, ◌||◌, ◌==◌, cond, bytes_eq, Option, Some, None, List, [], ◌∷◌, map, refl, sym, ap, subst, ◌∙◌}
use Rattle.std.proofs.lemmas.Bool.Decides.{nat_tests}
use Rattle.std.proofs.lemmas.Bool.{or_left, and_parts}
use Rattle.dir_model.specs.declared.area.Area.{Area}
use Rattle.dir_model.specs.declared.area.Area.TheVariants as area
use Rattle.dir_model.specs.declared.spot.Spot.{Spot}
use Rattle.dir_model.specs.declared.spot.Mode.TheVariants.{Shared, Exclusive}
use Rattle.dir_model.specs.declared.opening.Opening.{Opening}
use Rattle.dir_model.specs.declared.request.Request.{Request}
use Rattle.dir_model.specs.declared.request.Request.TheVariants.{Begin, MakeFolder, MoveFolder, Open, OpenArea, TryLock, Close, RemoveFolder, Kill}
use Rattle.dir_model.specs.declared.request.Request.TheVariants as request
use Rattle.dir_model.specs.declared.request.Reply.{Reply}
use Rattle.dir_model.specs.declared.request.Reply.TheVariants.{Done, Opened, Refused}
use Rattle.dir_model.specs.Locks.{is_exclusive}
use Rattle.dir_model.specs.State.{Namespace, DirState, lives, empty_state}
use Rattle.dir_rules.specs.Standing.{and_move, area_of, find_held, held_with_mode, shares_area, is_garbage, is_in, is_spot_of_pod, last_move_of, looked_by, nothing_standing, standing_done, standing_from, standing_of, standing_replied, stood}
use Rattle.dir_rules.specs.LockRules.{holds_pod, lock_rules_allow, locks_allow_move, moved_in, on_spot}
use Rattle.dir_model.specs.Local.{is_own_of}
use Rattle.dir_model.specs.Areas.{is_stage}
use Rattle.dir_model.specs.Trace.{state_next, state_after}
use Rattle.lifecycle.specs.declared.machine.PodState.{PodState}
use Rattle.lifecycle.specs.declared.machine.PodState.TheVariants.{Absent, Embryo, Preparing, AbortedPrepare, Prepared, Running, Exited, ExitedGarbage, Garbage, Deleting, Gone}
use Rattle.lifecycle.specs.declared.machine.Transition.{Transition}
use Rattle.lifecycle.specs.declared.machine.Transition.TheVariants as turn
use Rattle.lifecycle.specs.PodMachine.{enabled, leads, after_transition, transition, arrival, transition_if, on_opening, find_opening, is_deleter, is_exclusive_own, is_owner, is_gone, pod_progress, age_in}
use Rattle.dir_rules.specs.declared.standing.Held.{Held}
use Rattle.dir_rules.specs.declared.standing.Standing.{Standing}
use Rattle.lifecycle.proofs.Lists.{In}
use Rattle.lifecycle.proofs.Linked.{own}
use Rattle.lifecycle.proofs.Invariant.{may_own, own_named, holding, held_by, grip_of}
use Rattle.dir_model.specs.declared.event.Event.{Event}
use Rattle.lifecycle.specs.PodMachine.{pod_state_next, pod_state_from, pod_state, exists, is_being_deleted}
use Rattle.lifecycle.specs.Executions.{IsConforming}
use Rattle.lifecycle.proofs.Lives.{saw_other, saw_me}
use Rattle.lifecycle.proofs.Step.{Given, stepped, no_turn}
use Rattle.lifecycle.proofs.Run.{Good, ConformingFrom, given, next_good, conforming_tail, good_start, conforming_from, good}
use Rattle.dir_model.proofs.Lists.{and_both, or_last, same_self, same_number}

-- the states in which this process moved it last to prepare, and to run
abbrev pub after_prepare : PodState → ℕ → Bool
after_prepare (Preparing o) p = p == o
after_prepare AbortedPrepare p = true
after_prepare Garbage p = true
after_prepare (Deleting o area.ExitedGarbage) p = false
after_prepare (Deleting o f) p = true
after_prepare Gone p = true
after_prepare s p = false

abbrev pub after_run : PodState → ℕ → Bool
after_run (Running o) p = p == o
after_run Exited p = true
after_run ExitedGarbage p = true
after_run (Deleting o area.ExitedGarbage) p = true
after_run (Deleting o f) p = false
after_run Gone p = true
after_run s p = false

abbrev pub may_last : PodState → ℕ → Area → Bool
may_last s p area.Prepare = after_prepare s p
may_last s p area.Run = after_run s p
may_last s p a = true

pub record Traced (u : List ℕ) (p : ℕ) (s : PodState) (k : Standing) : Type 0 where
  pub last : (spot : Spot) → last_move_of u k.moves ≡ Some spot → may_last s p spot.area ≡ true
  pub mover : is_owner p s ≡ true → (is_being_deleted s || moved_in u k) ≡ true

apart : {X : Type 0} (p q o : ℕ) → (p == q) ≡ false → (p == o) ≡ true → (q == o) ≡ true → X
apart p q o off h k = absurd (grind (arith, nat_tests))

not_me : {X : Type 0} (p q : ℕ) → (p == q) ≡ false → (q == p) ≡ true → X
not_me p q off h = absurd (grind (arith, nat_tests))

-- another process's transition
other_prepare : (x : Transition) (p q : ℕ) (s : PodState) → (p == q) ≡ false → enabled x p s ≡ true →
    after_prepare s q ≡ true → after_prepare (leads x p s) q ≡ true
other_prepare turn.Finish p q (Preparing o) off e h = apart p q o off e h
other_prepare turn.Start p q (Preparing o) off e h = apart p q o off e h
other_prepare turn.End p q (Preparing o) off e h = refl
other_prepare turn.End p q (Deleting o area.ExitedGarbage) off e h = cc
other_prepare turn.End p q (Deleting o f) off e h = refl
other_prepare turn.Sweep p q AbortedPrepare off e h = refl
other_prepare turn.BeginDelete p q Garbage off e h = refl
other_prepare turn.Remove p q s off e h = refl
other_prepare turn.Make p q Absent off e h = cc
other_prepare turn.BeginPrepare p q (Embryo m) off e h = cc
other_prepare turn.Mark p q Exited off e h = cc
other_prepare x p q s off e h = cc

other_run : (x : Transition) (p q : ℕ) (s : PodState) → (p == q) ≡ false → enabled x p s ≡ true → after_run s q ≡ true →
    after_run (leads x p s) q ≡ true
other_run turn.End p q (Running o) off e h = refl
other_run turn.End p q (Deleting o area.ExitedGarbage) off e h = refl
other_run turn.End p q (Deleting o f) off e h = cc
other_run turn.Mark p q Exited off e h = refl
other_run turn.BeginDelete p q ExitedGarbage off e h = refl
other_run turn.Remove p q s off e h = refl
other_run turn.Make p q Absent off e h = cc
other_run turn.BeginPrepare p q (Embryo m) off e h = cc
other_run turn.Finish p q (Preparing o) off e h = cc
other_run turn.Start p q (Preparing o) off e h = cc
other_run turn.Sweep p q Prepared off e h = cc
other_run x p q s off e h = cc

other_last : (x : Transition) (p q : ℕ) (s : PodState) (a : Area) → (p == q) ≡ false → enabled x p s ≡ true →
    may_last s q a ≡ true → may_last (leads x p s) q a ≡ true
other_last x p q s area.Prepare off e h = other_prepare x p q s off e h
other_last x p q s area.Run off e h = other_run x p q s off e h
other_last x p q s a off e h = refl

other_owner : {X : Type 0} (x : Transition) (p q : ℕ) (s : PodState) → (p == q) ≡ false → enabled x p s ≡ true →
    is_owner q (leads x p s) ≡ true → X
other_owner turn.BeginPrepare p q s off e h = not_me p q off h
other_owner turn.Start p q s off e h = not_me p q off h
other_owner turn.BeginDelete p q s off e h = not_me p q off h
other_owner turn.End p q (Deleting o area.ExitedGarbage) off e h = absurd (cc)
other_owner turn.End p q (Deleting o f) off e h = absurd (cc)
other_owner x p q s off e h = absurd (cc)

-- its own, but for moves
abbrev pub is_stay : Transition → Bool
is_stay turn.Make = true
is_stay turn.End = true
is_stay turn.BeginDelete = true
is_stay turn.Remove = true
is_stay x = false

own_prepare : (x : Transition) (p : ℕ) (s : PodState) → is_stay x ≡ true → enabled x p s ≡ true →
    after_prepare s p ≡ true → after_prepare (leads x p s) p ≡ true
own_prepare turn.End p (Preparing o) i e h = refl
own_prepare turn.End p (Deleting o area.ExitedGarbage) i e h = cc
own_prepare turn.End p (Deleting o f) i e h = refl
own_prepare turn.BeginDelete p Garbage i e h = refl
own_prepare turn.Remove p s i e h = refl
own_prepare turn.Make p Absent i e h = cc
own_prepare x p s i e h = cc

own_run : (x : Transition) (p : ℕ) (s : PodState) → is_stay x ≡ true → enabled x p s ≡ true → after_run s p ≡ true →
    after_run (leads x p s) p ≡ true
own_run turn.End p (Running o) i e h = refl
own_run turn.End p (Deleting o area.ExitedGarbage) i e h = refl
own_run turn.End p (Deleting o f) i e h = cc
own_run turn.BeginDelete p ExitedGarbage i e h = refl
own_run turn.Remove p s i e h = refl
own_run turn.Make p Absent i e h = cc
own_run x p s i e h = cc

own_last : (x : Transition) (p : ℕ) (s : PodState) (a : Area) → is_stay x ≡ true → enabled x p s ≡ true →
    may_last s p a ≡ true → may_last (leads x p s) p a ≡ true
own_last x p s area.Prepare i e h = own_prepare x p s i e h
own_last x p s area.Run i e h = own_run x p s i e h
own_last x p s a i e h = refl

own_owner : (x : Transition) (p : ℕ) (s : PodState) → is_stay x ≡ true → enabled x p s ≡ true →
    is_owner p (leads x p s) ≡ true → is_being_deleted (leads x p s) ≡ true
own_owner turn.BeginDelete p s i e h = refl
own_owner turn.End p (Deleting o area.ExitedGarbage) i e h = cc
own_owner turn.End p (Deleting o f) i e h = cc
own_owner x p s i e h = cc

-- what a step does, as a transition or as none
abbrev Turns : Option Transition → ℕ → PodState → PodState → Type 0
Turns o p s t = (t ≡ s) ⊎ ((x : Transition) × ((o ≡ Some x) × ((enabled x p s ≡ true) × (t ≡ leads x p s))))

turns : (o : Option Transition) (p : ℕ) (s : PodState) → ((x : Transition) → o ≡ Some x → enabled x p s ≡ true) →
    Turns o p s (after_transition o p s)
turns None p s has = inl refl
turns (Some x) p s has = inr (x, (refl, (has x refl, ap (λ b. cond b (leads x p s) s) (has x refl))))

pub traced_other : (u : List ℕ) (o : Option Transition) (p q : ℕ) (s t : PodState) (k : Standing) → (p == q) ≡ false →
    Turns o p s t → Traced u q s k → Traced u q t k
traced_other u o p q s t k off (inl e) x = subst (λ (z : PodState). Traced u q z k) (sym e) x
traced_other u o p q s t k off (inr (y, (is, (able, e)))) x =
    subst (λ (z : PodState). Traced u q z k) (sym e)
    (record {
      last = λ spot h. other_last y p q s spot.area off able (x.last spot h);
      mover =
          λ h. other_owner y p q s off able h;
    })

pub traced_stay : (u : List ℕ) (o : Option Transition) (p : ℕ) (s t : PodState) (k l : Standing) →
    ((x : Transition) → o ≡ Some x → is_stay x ≡ true) → last_move_of u l.moves ≡ last_move_of u k.moves → Turns o p s t →
    Traced u p s k → Traced u p t l
traced_stay u o p s t k l stay same (inl e) x =
    subst (λ (z : PodState). Traced u p z l) (sym e)
    (record {
      last = λ spot h. x.last spot (sym same ∙ h);
      mover =
          λ h. ap (λ (m : Option Spot). is_being_deleted s || on_spot (λ spot. is_in area.Prepare spot.area || is_in area.Run
          spot.area) m) same ∙ x.mover h;
    })
traced_stay u o p s t k l stay same (inr (y, (is, (able, e)))) x =
    subst (λ (z : PodState). Traced u p z l) (sym e)
    (record {
      last = λ spot h. own_last y p s spot.area (stay y is) able (x.last spot (sym same ∙ h));
      mover =
          λ h. or_left (is_being_deleted (leads y p s)) (moved_in u l) (own_owner y p s (stay y is) able h);
    })

-- a move of the pod
arrived : (a : Area) (x : Transition) (p : ℕ) (s : PodState) → arrival a ≡ Some x → may_last (leads x p s) p a ≡ true
arrived area.Prepare x p s is =
    subst (λ (y : Transition). may_last (leads y p s) p area.Prepare ≡ true) (out turn.BeginPrepare x is) (same_self p)
  where
    out : (a b : Transition) → Some a ≡ Some b → a ≡ b
    out a b e = cc
arrived area.Run x p s is = subst (λ (y : Transition). may_last (leads y p s) p area.Run ≡ true) (out turn.Start x is)
    (same_self p)
  where
    out : (a b : Transition) → Some a ≡ Some b → a ≡ b
    out a b e = cc
arrived a x p s is = refl

arrived_in : (a : Area) (x : Transition) (p : ℕ) (s : PodState) → arrival a ≡ Some x → is_owner p (leads x p s) ≡ true →
    (is_in area.Prepare a || is_in area.Run a) ≡ true
arrived_in area.Prepare x p s is own = refl
arrived_in area.Run x p s is own = refl
arrived_in area.Prepared x p s is own = none turn.Finish x is (λ (y : Transition). is_owner p (leads y p s) ≡ true) own (λ h. h)
  where
    none : (a b : Transition) → Some a ≡ Some b → (P : Transition → Type 0) → P b → (P a → false ≡ true) → false ≡ true
    none a b e P h f = f (subst P (sym (out e)) h)
      where
        out : Some a ≡ Some b → a ≡ b
        out e = cc
arrived_in area.ExitedGarbage x p s is own =
    none turn.Mark x is (λ (y : Transition). is_owner p (leads y p s) ≡ true) own (λ h. h)
  where
    none : (a b : Transition) → Some a ≡ Some b → (P : Transition → Type 0) → P b → (P a → false ≡ true) → false ≡ true
    none a b e P h f = f (subst P (sym (out e)) h)
      where
        out : Some a ≡ Some b → a ≡ b
        out e = cc
arrived_in area.Garbage x p s is own = none turn.Sweep x is (λ (y : Transition). is_owner p (leads y p s) ≡ true) own (λ h. h)
  where
    none : (a b : Transition) → Some a ≡ Some b → (P : Transition → Type 0) → P b → (P a → false ≡ true) → false ≡ true
    none a b e P h f = f (subst P (sym (out e)) h)
      where
        out : Some a ≡ Some b → a ≡ b
        out e = cc
arrived_in a x p s is own = cc

pub traced_move : (u : List ℕ) (p : ℕ) (s t : PodState) (k : Standing) (from to : Spot) → is_spot_of_pod u to ≡ true →
    (x : Transition) → arrival to.area ≡ Some x → t ≡ leads x p s → Traced u p t (standing_done k (MoveFolder from to))
traced_move u p s t k from to of x is e =
    subst (λ (z : PodState). Traced u p z (standing_done k (MoveFolder from to))) (sym e) (record {
      last = λ spot h. subst (λ (z : Spot). may_last (leads x p s) p z.area ≡ true) (out spot (sym newest ∙ h))
          (arrived to.area x p s is);
      mover = λ h. or_last (is_being_deleted (leads x p s)) (moved_in u (standing_done k (MoveFolder from to)))
          (ap (λ (m : Option Spot). on_spot (λ spot. is_in area.Prepare spot.area || is_in area.Run spot.area) m) newest
          ∙ arrived_in to.area x p s is h);
    })
  where
    newest : last_move_of u (and_move to k.moves) ≡ Some to
    newest = ap (λ b. last_move_of u (cond b (to ∷ k.moves) k.moves)) (and_parts (is_stage to.area) (bytes_eq to.name u) of).0
        ∙ ap (λ b. cond b (Some to) (last_move_of u k.moves)) of

    out : (spot : Spot) → Some to ≡ Some spot → to ≡ spot
    out spot e = cc

so : (b : Bool) (a x : Transition) → transition_if b a ≡ Some x → a ≡ x
so true a x e = cc
so false a x e = cc

stays_so : (b : Bool) (a x : Transition) → is_stay a ≡ true → transition_if b a ≡ Some x → is_stay x ≡ true
stays_so b a x h e = subst (λ (y : Transition). is_stay y ≡ true) (so b a x e) h

abbrev pub is_move_of : List ℕ → Request → Reply → Bool
is_move_of u (MoveFolder from to) Done = is_spot_of_pod u to
is_move_of u request reply = false

pub stay_turn : (u : List ℕ) (n : Namespace) (s : PodState) (p : ℕ) (request : Request) (reply : Reply) →
    is_move_of u request reply ≡ false → (x : Transition) → transition u n s p request reply ≡ Some x → is_stay x ≡ true
stay_turn u n s p (MakeFolder spot) Done off x e = stays_so (is_spot_of_pod u spot) turn.Make x refl e
stay_turn u n s p (MoveFolder from to) Done off x e = no_turn x (sym (ap (λ b. cond b (arrival to.area) None) off) ∙ e)
stay_turn u n s p (TryLock h Exclusive) Done off x e =
    stays_so (not (is_gone s) && on_opening (is_deleter u) (find_opening n p h)) turn.BeginDelete x refl e
stay_turn u n s p (TryLock h Shared) Done off x e = no_turn x e
stay_turn u n s p (Close h) Done off x e = stays_so (is_owner p s && on_opening (is_exclusive_own u) (find_opening n p h)) turn.End x refl e
stay_turn u n s p (RemoveFolder spot) Done off x e = stays_so (is_spot_of_pod u spot) turn.Remove x refl e
stay_turn u n s p request.Finish Done off x e = stays_so (is_owner p s) turn.End x refl e
stay_turn u n s p Kill Done off x e = stays_so (is_owner p s) turn.End x refl e
stay_turn u n s p (TryLock h Exclusive) reply off x e = no_turn x e
stay_turn u n s p (TryLock h Shared) reply off x e = no_turn x e
stay_turn u n s p request reply off x e = no_turn x e

pub same_moves : (u : List ℕ) (k : Standing) (request : Request) (reply : Reply) → is_move_of u request reply ≡ false →
    last_move_of u (standing_replied k request reply).moves ≡ last_move_of u k.moves
same_moves u k request (Refused e left) off = refl
same_moves u k (Open spot which) (Opened h) off = refl
same_moves u k (OpenArea a) (Opened h) off = refl
same_moves u k request (Opened h) off = refl
same_moves u k (MakeFolder spot) Done off = by (is_stage spot.area)
  where
    by : (b : Bool) → last_move_of u (cond b (record k { made = true; embryo_under_lock = shares_area area.Embryo k }) k).moves ≡ last_move_of
        u k.moves
    by true = refl
    by false = refl
same_moves u k (MoveFolder from to) Done off = by (is_stage to.area)
  where
    by : (b : Bool) → last_move_of u (cond b (to ∷ k.moves) k.moves) ≡ last_move_of u k.moves
    by true = ap (λ b. cond b (Some to) (last_move_of u k.moves)) off
    by false = refl
same_moves u k (TryLock h Shared) Done off = by (find_held h k)
  where
    by : (o : Option Held) → last_move_of u (looked_by o (record k { holdings = map (held_with_mode h Shared) k.holdings })).moves ≡
        last_move_of u k.moves
    by None = refl
    by (Some x) = refl
same_moves u k (TryLock h Exclusive) Done off = refl
same_moves u k request Done off = refl
same_moves u k request reply off = refl

-- a move of a pod that the rules allow is a transition
some_arrival : (u : List ℕ) (n : DirState) (s : PodState) (σ : ℕ → Standing) (p : ℕ) (from to : Spot) →
    is_spot_of_pod u to ≡ true → lock_rules_allow (σ p) (MoveFolder from to) ≡ true → (x : Transition) × (arrival to.area ≡ Some x)
some_arrival u n s σ p from to of may =
    by from.area to.area (and_parts (bytes_eq from.name to.name) (locks_allow_move (σ p) from.name from.area to.area)
    (sym (ap (λ b. cond b (bytes_eq from.name to.name && locks_allow_move (σ p) from.name from.area to.area) true)
    (or_last (is_stage from.area) (is_stage to.area) (and_parts (is_stage to.area) (bytes_eq to.name u) of).0)) ∙ may)).1
  where
    by : (a b : Area) → locks_allow_move (σ p) from.name a b ≡ true → (x : Transition) × (arrival b ≡ Some x)
    by area.Embryo area.Prepare h = (turn.BeginPrepare, refl)
    by area.Embryo area.Garbage h = (turn.Sweep, refl)
    by area.Prepare area.Prepared h = (turn.Finish, refl)
    by area.Prepare area.Run h = (turn.Start, refl)
    by area.Prepare area.Garbage h = (turn.Sweep, refl)
    by area.Prepared area.Run h = (turn.Start, refl)
    by area.Prepared area.Garbage h = (turn.Sweep, refl)
    by area.Run area.ExitedGarbage h = (turn.Mark, refl)
    by a b h = cc

pub traced_step : (u : List ℕ) (n : DirState) (s : PodState) (σ : ℕ → Standing) (e : Event) →
    Given u n s σ e.process e.request e.reply → (q : ℕ) → Traced u q s (σ q) →
    Traced u q (pod_state_next u n.namespace s e) (stood q (σ q) e)
traced_step u n s σ e g q x = by (e.process == q) refl
  where
    p : ℕ
    p = e.process

    t : PodState
    t = pod_state_next u n.namespace s e

    turning : Turns (transition u n.namespace s e.process e.request e.reply) e.process s t
    turning = turns (transition u n.namespace s e.process e.request e.reply) e.process s
        (stepped u n s σ e.process e.request e.reply g).has

    moves : (request : Request) (reply : Reply) → Given u n s σ e.process request reply →
        is_move_of u request reply ≡ true → ((x : Transition) → transition u n.namespace s e.process request reply ≡
        Some x → enabled x e.process s ≡ true) → Traced u e.process
        (after_transition (transition u n.namespace s e.process request reply) e.process s)
        (standing_replied (σ e.process) request reply)
    moves (MoveFolder from to) Done g of has =
        let x = some_arrival u n s σ e.process from to of (g.rule refl) in
        let is : transition u n.namespace s e.process (MoveFolder from to) Done ≡ Some x.0 =
        ap (λ b. cond b (arrival to.area) None) of ∙ x.1 in
        traced_move u e.process s (after_transition (transition u n.namespace s e.process (MoveFolder from to) Done) e.process s)
        (σ e.process) from to of x.0 x.1 (ap (λ (o : Option Transition). after_transition o e.process s) is
        ∙ ap (λ b. cond b (leads x.0 e.process s) s) (has x.0 is))
    moves (MoveFolder from to) (Refused er left) g of has = cc
    moves (MoveFolder from to) (Opened h) g of has = cc
    moves request reply g of has = cc

    own : Traced u e.process s (σ e.process) → (b : Bool) → is_move_of u e.request e.reply ≡ b →
        Traced u e.process t (standing_replied (σ e.process) e.request e.reply)
    own x true of = moves e.request e.reply g of (stepped u n s σ e.process e.request e.reply g).has
    own x false off = traced_stay u (transition u n.namespace s e.process e.request e.reply) e.process s t (σ e.process)
        (standing_replied (σ e.process) e.request e.reply) (stay_turn u n.namespace s e.process e.request e.reply off)
        (same_moves u (σ e.process) e.request e.reply off) turning x

    by : (b : Bool) → (e.process == q) ≡ b → Traced u q t (stood q (σ q) e)
    by false off = subst (λ (k : Standing). Traced u q t k) (sym (saw_other e.process q (σ q) e.request e.reply off))
        (traced_other u (transition u n.namespace s e.process e.request e.reply) e.process q s t (σ q) off turning x)
    by true on = subst (λ (r : ℕ). Traced u r t (stood r (σ r) e)) (same_number e.process q on)
        (subst (λ (k : Standing). Traced u e.process t k) (sym (saw_me e.process (σ e.process) e.request e.reply))
        (own (subst (λ (r : ℕ). Traced u r s (σ r)) (sym (same_number e.process q on)) x) (is_move_of u e.request e.reply)
        refl))

traced_from : (u : List ℕ) (es : List Event) (n : DirState) (s : PodState) (σ : ℕ → Standing) → Good u n s σ →
    ConformingFrom u n σ es → ((q : ℕ) → Traced u q s (σ q)) → (q : ℕ) →
    Traced u q (pod_state_from u n s es) (standing_from q (σ q) es)
traced_from u [] n s σ good conforming x = x
traced_from u (e ∷ es) n s σ good conforming x =
    let g = given u n s σ e es good conforming in
    traced_from u es (state_next n e) (pod_state_next u n.namespace s e) (λ q. stood q (σ q) e) (next_good u n s σ e g)
    (conforming_tail u n σ e es conforming) (λ q. traced_step u n s σ e g q (x q))

pub traced : (u : List ℕ) (h : List Event) → IsConforming h → (q : ℕ) → Traced u q (pod_state u h) (standing_of q h)
traced u h conforming = traced_from u h empty_state Absent (λ q. nothing_standing) (good_start u)
    (conforming_from u h conforming) (λ q. record { last = λ spot e. absurd (cc); mover = λ e. absurd (cc) })

-- the owner holds it by what it knows
pub owner_holds : (u : List ℕ) (h : List Event) (p : ℕ) → IsConforming h → is_owner p (pod_state u h) ≡ true →
    (lives (state_after h).namespace p ≡ true) × (holds_pod u (standing_of p h) ≡ true)
owner_holds u h p conforming own = (
  living,
  held_by p (state_after h).namespace (standing_of p h)
      (λ b. grip_of u b && (moved_in u (standing_of p h) || is_garbage (area_of b.target))) (g.inv.knows p living).linked
      o.0 o.1.0 o.1.1.1 (and_both (is_exclusive_own u o.0) (moved_in u (standing_of p h) || is_garbage (area_of o.0.target)) o.1.1.0
      (by (pod_state u h) (is_being_deleted (pod_state u h)) (moved_in u (standing_of p h)) refl
      ((traced u h conforming p).mover own) (g.inv.pod.owns o.0 o.1.0 o.1.1.0))),
)
  where
    g : Good u (state_after h) (pod_state u h) (λ q. standing_of q h)
    g = good u h conforming

    o : (o : Opening) × (In o (state_after h).namespace.openings × ((is_exclusive_own u o ≡ true) × (o.process ≡ p)))
    o = g.inv.pod.held p own

    living : lives (state_after h).namespace p ≡ true
    living = subst (λ (q : ℕ). lives (state_after h).namespace q ≡ true) o.1.1.1 (g.inv.sound.living o.0 o.1.0)

    by : (s : PodState) (d m : Bool) → is_being_deleted s ≡ d → (d || m) ≡ true →
        may_own s o.0.process (area_of o.0.target) ≡ true → (m || is_garbage (area_of o.0.target)) ≡ true
    by s d true e f may = refl
    by (Deleting w f) true false e x may = (and_parts (o.0.process == w) (is_garbage (area_of o.0.target)) may).1
    by s true false e x may = cc
    by s false false e x may = cc

-- where it stands that exists
hold_moved : (s : PodState) (p : ℕ) (a : Area) → exists s ≡ true → may_own s p a ≡ true →
    (after_prepare s p || after_run s p) ≡ true → is_owner p s ≡ true
hold_moved (Preparing o) p a e may m = may
hold_moved (Running o) p a e may m = may
hold_moved (Deleting o f) p a e may m = (and_parts (p == o) (is_garbage a) may).0
hold_moved s p a e may m = cc

hold_garbage : (s : PodState) (p : ℕ) (a : Area) → exists s ≡ true → may_own s p a ≡ true → is_garbage a ≡ true →
    age_in a ≤ pod_progress s → is_owner p s ≡ true
hold_garbage (Preparing o) p a e may g l = may
hold_garbage (Running o) p a e may g l = may
hold_garbage (Deleting o f) p a e may g l = (and_parts (p == o) (is_garbage a) may).0
hold_garbage (Embryo m) p area.ExitedGarbage e may g l = absurd (omega (arith, l))
hold_garbage (Embryo m) p area.Garbage e may g l = absurd (omega (arith, l))
hold_garbage Prepared p area.ExitedGarbage e may g l = absurd (omega (arith, l))
hold_garbage Prepared p area.Garbage e may g l = absurd (omega (arith, l))
hold_garbage s p a e may g l = cc

-- who holds it by what it knows is its owner
pub holder_owns : (u : List ℕ) (h : List Event) (p : ℕ) → IsConforming h → exists (pod_state u h) ≡ true →
    lives (state_after h).namespace p ≡ true → holds_pod u (standing_of p h) ≡ true → is_owner p (pod_state u h) ≡ true
holder_owns u h p conforming e living holds = by (moved_in u (standing_of p h)) refl x.1
  where
    g : Good u (state_after h) (pod_state u h) (λ q. standing_of q h)
    g = good u h conforming

    o : (o : Opening) × (In o (state_after h).namespace.openings ×
        ((o.process ≡ p) × ((grip_of u (own o) && (moved_in u (standing_of p h) || is_garbage (area_of o.target))) ≡
        true)))
    o = holding p (state_after h).namespace (standing_of p h)
        (λ b. grip_of u b && (moved_in u (standing_of p h) || is_garbage (area_of b.target)))
        (g.inv.knows p living).linked holds

    x : (is_exclusive_own u o.0 ≡ true) × ((moved_in u (standing_of p h) || is_garbage (area_of o.0.target)) ≡ true)
    x = and_parts (is_exclusive_own u o.0) (moved_in u (standing_of p h) || is_garbage (area_of o.0.target)) o.1.1.1

    may : may_own (pod_state u h) p (area_of o.0.target) ≡ true
    may = ap (λ q. may_own (pod_state u h) q (area_of o.0.target)) (sym o.1.1.0) ∙ g.inv.pod.owns o.0 o.1.0 x.0

    places : (a : Area) → (is_in area.Prepare a || is_in area.Run a) ≡ true → may_last (pod_state u h) p a ≡ true →
        (after_prepare (pod_state u h) p || after_run (pod_state u h) p) ≡ true
    places area.Prepare i m = or_left (after_prepare (pod_state u h) p) (after_run (pod_state u h) p) m
    places area.Run i m = or_last (after_prepare (pod_state u h) p) (after_run (pod_state u h) p) m
    places a i m = cc

    last : (m : Option Spot) → last_move_of u (standing_of p h).moves ≡ m →
        on_spot (λ spot. is_in area.Prepare spot.area || is_in area.Run spot.area) m ≡ true →
        (after_prepare (pod_state u h) p || after_run (pod_state u h) p) ≡ true
    last (Some spot) f m = places spot.area m ((traced u h conforming p).last spot f)
    last None f m = cc

    by : (b : Bool) → moved_in u (standing_of p h) ≡ b → (b || is_garbage (area_of o.0.target)) ≡ true →
        is_owner p (pod_state u h) ≡ true
    by true m k = hold_moved (pod_state u h) p (area_of o.0.target) e may (last (last_move_of u (standing_of p h).moves) refl m)
    by false m k = hold_garbage (pod_state u h) p (area_of o.0.target) e may k
        (g.inv.pod.named o.0 o.1.0 (own_named u o.0.target (and_parts (is_own_of u o.0.target) (is_exclusive o.0.lock)
        x.0).0)).1
