-- Each lock that the rules allow: what it does to the pod.
use Rattle.std.proofs.Common.{arith, ◌≡◌, ◌⊎◌, inl, inr, ◌≤◌, ℕ, Bool, true, false, not, ◌&&◌, ◌==◌, cond, Option, Some, None, is_some, List, map, refl, sym, ap, subst, ◌∙◌}
use Rattle.std.proofs.lemmas.Bool.{and_parts}
use Rattle.plain_laws.proofs.Booleans.{clash, off_right}
use Rattle.dir_model.specs.declared.area.Area.{Area}
use Rattle.dir_model.specs.declared.area.Area.TheVariants as area
use Rattle.dir_model.specs.declared.spot.Handle.{Handle}
use Rattle.dir_model.specs.declared.spot.Mode.{Mode}
use Rattle.dir_model.specs.declared.spot.Mode.TheVariants.{Shared, Exclusive}
use Rattle.dir_model.specs.declared.opening.Opening.{Opening}
use Rattle.dir_model.specs.declared.opening.Target.{Target}
use Rattle.dir_model.specs.declared.opening.Target.TheVariants.{Own, Claim, Gate}
use Rattle.dir_model.specs.declared.request.Request.TheVariants.{TryLock}
use Rattle.dir_model.specs.declared.request.Reply.TheVariants.{Done}
use Rattle.dir_model.specs.Locks.{is_handle, is_exclusive, opposes}
use Rattle.dir_model.specs.State.{Namespace}
use Rattle.dir_model.specs.Trace.{locked}
use Rattle.dir_rules.specs.Standing.{area_of, began_as, draws, held_with_mode, holds_claim, holds_own, intends, is_garbage, is_own_held, is_remover, is_run_prepared}
use Rattle.dir_model.specs.Local.{is_own_of}
use Rattle.dir_rules.specs.LockRules.{may_lock_own, may_lock_target}
use Rattle.lifecycle.specs.declared.machine.PodState.{PodState}
use Rattle.lifecycle.specs.declared.machine.PodState.TheVariants.{Absent, Embryo, Preparing, AbortedPrepare, Prepared, Running, Exited, ExitedGarbage, Garbage, Deleting, Gone}
use Rattle.lifecycle.specs.declared.machine.Transition.{Transition}
use Rattle.lifecycle.specs.declared.machine.Transition.TheVariants as turn
use Rattle.lifecycle.specs.PodMachine.{enabled, after_transition, deleted_from, transition, transition_if, on_opening, find_opening, is_deleter, is_exclusive_own, is_owner, is_gone, is_area_of_state, pod_progress, age_in}
use Rattle.dir_rules.specs.declared.standing.Held.{Held}
use Rattle.dir_rules.specs.declared.standing.Standing.{Standing}
use Rattle.lifecycle.proofs.Lists.{In, map_in, any_in, in_any, no_less}
use Rattle.lifecycle.proofs.Handles.{Sound, handle_meet, held, Was, locked_in, locked_is}
use Rattle.lifecycle.proofs.Linked.{Bare, own, Linked}
use Rattle.lifecycle.proofs.Invariant.{Pod, Ungripped, Knows, own_named, some_exclusive, claims_meet}
use Rattle.lifecycle.proofs.Handles.{opposed_by_exclusive}
use Rattle.dir_model.specs.declared.intent.Intent.{Intent}
use Rattle.dir_model.specs.declared.intent.Kind.{Kind}
use Rattle.dir_model.specs.declared.intent.Kind.TheVariants as kind
use Rattle.lifecycle.proofs.Invariant.{own_lock}
use Rattle.lifecycle.proofs.Makes.{of_name}
use Rattle.lifecycle.proofs.Closes.{held_once}
use Rattle.lifecycle.proofs.Locks.{Lock, Locking, look_is, and_locked, Had, had_in}
use Rattle.dir_model.proofs.Lists.{and_both, same_self, same_number}

-- the opening that holds the lock is that one
the_one : (p : ℕ) (n : Namespace) (k : Standing) (h : Handle) (m : Mode) → Sound n → (l : Lock p n k h m) →
    (a : Opening) → In a n.openings → is_handle p h a ≡ true → a ≡ l.opening
the_one p n k h m sound l a i is = sound.unique a l.opening i l.there (handle_meet p h a l.opening is l.mine)

-- the lock isn't this pod's Own
grip_back : (u : List ℕ) (p : ℕ) (n : Namespace) (k : Standing) (h : Handle) (m : Mode) → Sound n →
    (l : Lock p n k h m) → is_own_of u l.opening.target ≡ false → (o : Opening) → In o (and_locked n p h m).openings →
    is_exclusive_own u o ≡ true → In o n.openings
grip_back u p n k h m sound l off o i g = by o (locked_in p h m n.openings o i) g
  where
    by : (o : Opening) → Was p h m n.openings o → is_exclusive_own u o ≡ true → In o n.openings
    by o (a, (i, (inl e))) g = clash (is_own_of u o.target) (and_parts (is_own_of u o.target) (is_exclusive o.lock) g).0
        (ap (λ (x : Opening). is_own_of u x.target) e.1 ∙ (ap (λ (x : Opening). is_own_of u x.target)
        (the_one p n k h m sound l a i e.0) ∙ off))
    by o (a, (i, (inr e))) g = subst (λ (x : Opening). In x n.openings) (sym e.1) i

ungripped_else : (u : List ℕ) (p : ℕ) (n : Namespace) (k : Standing) (h : Handle) (m : Mode) → Sound n →
    (l : Lock p n k h m) → is_own_of u l.opening.target ≡ false → Ungripped u n → Ungripped u (and_locked n p h m)
ungripped_else u p n k h m sound l off none o i = by (is_exclusive_own u o) refl
  where
    by : (b : Bool) → is_exclusive_own u o ≡ b → is_exclusive_own u o ≡ false
    by false e = e
    by true e = clash (is_exclusive_own u o) e (none o (grip_back u p n k h m sound l off o i e))

still_there : (p : ℕ) (h : Handle) (m : Mode) (os : List Opening) (o : Opening) → In o os → is_handle p h o ≡ false →
    In o (map (locked p h m) os)
still_there p h m os o i off = by (locked_is p h m o)
  where
    by : ((is_handle p h o ≡ true) × (locked p h m o ≡ held m o)) ⊎ ((is_handle p h o ≡ false) × (locked p h m o ≡ o)) →
        In o (map (locked p h m) os)
    by (inl e) = clash (is_handle p h o) e.0 off
    by (inr e) = subst (λ (x : Opening). In x (map (locked p h m) os)) e.1 (map_in (locked p h m) o os i)

pub lock_elsewhere : (u : List ℕ) (p : ℕ) (n : Namespace) (s : PodState) (k : Standing) (h : Handle) (m : Mode) →
    Sound n → Pod u n s → Knows u p n s k → (l : Lock p n k h m) → is_own_of u l.opening.target ≡ false →
    Locking u p n s s k h m
lock_elsewhere u p n s k h m sound pod knows l off = record {
  place = λ a. refl;
  aged = no_less (pod_progress s);
  embryo = λ q e. e;
  embryo_back = λ q e. e;
  prepared = λ e. e;
  prepared_back = λ e. e;
  owns = λ o i g. pod.owns o (grip_back u p n k h m sound l off o i g) g;
  held = λ q own. let e = pod.held q own in
      (e.0, (still_there p h m n.openings e.0 e.1.0 (not_mine e.0 e.1.0 e.1.1.0 (is_handle p h e.0) refl), e.1.1));
  owned = λ e x. let y = any_in (is_own_held u) (map (held_with_mode h m) k.holdings) x in
      knows.owned e (had y.0 (had_in h m k.holdings y.0 y.1.0) y.1.1);
  mine = λ r e none. ungripped_else u p n k h m sound l off none;
  other = λ q j apart linked c e none. ungripped_else u p n k h m sound l off none;
}
  where
    not_mine : (o : Opening) → In o n.openings → is_exclusive_own u o ≡ true → (b : Bool) → is_handle p h o ≡ b → is_handle p h o ≡ false
    not_mine o i g false e = e
    not_mine o i g true e = clash (is_own_of u o.target) (and_parts (is_own_of u o.target) (is_exclusive o.lock) g).0
        (ap (λ (x : Opening). is_own_of u x.target) (the_one p n k h m sound l o i e) ∙ off)

    had : (g : Held) → Had h m k.holdings g → is_own_held u g ≡ true → holds_own u k ≡ true
    had g (x, (i, (inl e))) t =
        let z = ap (λ (b : Bare). is_own_of u b.target) (held_once p n k h x l.held sound knows.linked i l.known e.0
        l.number ∙ l.same) in
        clash (is_own_of u g.target) (and_parts (is_own_of u g.target) (is_exclusive g.lock) t).0
        (ap (λ (w : Held). is_own_of u w.target) e.1 ∙ (z ∙ off))
    had g (x, (i, (inr e))) t = in_any (is_own_held u) x k.holdings i (subst (λ (w : Held). is_own_held u w ≡ true) e.1 t)

-- the lock is this pod's Own: then nobody held it exclusively
pub nobody : (u : List ℕ) (p : ℕ) (n : Namespace) (s : PodState) (k : Standing) (h : Handle) (m : Mode) → Sound n →
    Pod u n s → (l : Lock p n k h m) → is_own_of u l.opening.target ≡ true → Ungripped u n
nobody u p n s k h m sound pod l on a i = by (is_exclusive_own u a) (is_handle p h a) refl refl
  where
    by : (b c : Bool) → is_exclusive_own u a ≡ b → is_handle p h a ≡ c → is_exclusive_own u a ≡ false
    by false c e f = e
    by true true e f = clash (is_some l.opening.lock) (ap (λ (x : Opening). is_some x.lock)
        (sym (the_one p n k h m sound l a i f)) ∙ some_exclusive a.lock
        (and_parts (is_own_of u a.target) (is_exclusive a.lock) e).1) l.free
    by true false e f =
        let x = and_parts (is_own_of u a.target) (is_exclusive a.lock) e in
        clash (opposes m a.lock) (opposed_by_exclusive m a.lock x.1)
        (l.alone l.opening a l.there i l.mine f (own_lock u l.opening.target a.target l.opening.folder a.folder
        pod.number on x.0 (pod.named l.opening l.there (own_named u l.opening.target on)).0
        (pod.named a i (own_named u a.target x.0)).0))

pub unowned : (u : List ℕ) (n : Namespace) (s : PodState) → Pod u n s → Ungripped u n → (q : ℕ) → is_owner q s ≡ true → ⊥
unowned u n s pod none q own = let e = pod.held q own in clash (is_exclusive_own u e.0) e.1.1.0 (none e.0 e.1.0)

pub lock_shared : (u : List ℕ) (p : ℕ) (n : Namespace) (s : PodState) (k : Standing) (h : Handle) → Sound n →
    Pod u n s → Knows u p n s k → (l : Lock p n k h Shared) → is_own_of u l.opening.target ≡ true →
    Locking u p n s s k h Shared
lock_shared u p n s k h sound pod knows l on = record {
  place = λ a. refl;
  aged = no_less (pod_progress s);
  embryo = λ q e. e;
  embryo_back = λ q e. e;
  prepared = λ e. e;
  prepared_back = λ e. e;
  owns = λ o i g. clash (is_exclusive_own u o) g (after o i);
  held = λ q own. absurd (unowned u n s pod none q own);
  owned = λ e x. let y = any_in (is_own_held u) (map (held_with_mode h Shared) k.holdings) x in
      knows.owned e (had y.0 (had_in h Shared k.holdings y.0 y.1.0) y.1.1);
  mine = λ r e x. after;
  other = λ q j apart linked c e x. after;
}
  where
    none : Ungripped u n
    none = nobody u p n s k h Shared sound pod l on

    free : (o : Opening) → Was p h Shared n.openings o → is_exclusive_own u o ≡ false
    free o (a, (i, (inl e))) = ap (is_exclusive_own u) e.1 ∙ off_right (is_own_of u a.target) false refl
    free o (a, (i, (inr e))) = ap (is_exclusive_own u) e.1 ∙ none a i

    after : Ungripped u (and_locked n p h Shared)
    after o i = free o (locked_in p h Shared n.openings o i)

    had : (g : Held) → Had h Shared k.holdings g → is_own_held u g ≡ true → holds_own u k ≡ true
    had g (x, (i, (inl e))) t = clash (is_own_held u g) t (ap (is_own_held u) e.1 ∙ off_right (is_own_of u x.target) false refl)
    had g (x, (i, (inr e))) t = in_any (is_own_held u) x k.holdings i (subst (λ (w : Held). is_own_held u w ≡ true) e.1 t)

pub lock_still : (u : List ℕ) (p : ℕ) (n : Namespace) (s : PodState) (k : Standing) (h : Handle) → Sound n → Pod u n s →
    Knows u p n s k → Lock p n k h Shared → Locking u p n s s k h Shared
lock_still u p n s k h sound pod knows l = by (is_own_of u l.opening.target) refl
  where
    by : (b : Bool) → is_own_of u l.opening.target ≡ b → Locking u p n s s k h Shared
    by false off = lock_elsewhere u p n s k h Shared sound pod knows l off
    by true on = lock_shared u p n s k h sound pod knows l on

-- after an exclusive lock of Own: it is held by this handle alone
abbrev Only : List ℕ → ℕ → Namespace → Handle → Opening → Type 0
Only u p n h o = (o.process ≡ p) × ((a : Opening) × (In a n.openings × ((is_handle p h a ≡ true) × (o ≡ held Exclusive a))))

just_me : (u : List ℕ) (p : ℕ) (n : Namespace) (h : Handle) → Ungripped u n → (o : Opening) →
    In o (and_locked n p h Exclusive).openings → is_exclusive_own u o ≡ true → Only u p n h o
just_me u p n h none o i g = by (locked_in p h Exclusive n.openings o i)
  where
    by : Was p h Exclusive n.openings o → Only u p n h o
    by (a, (i, (inl e))) = (
      ap (λ (x : Opening). x.process) e.1
          ∙ same_number a.process p (and_parts (a.process == p) (a.handle.number == h.number) e.0).0,
      (a, (i, (e.0, e.1))),
    )
    by (a, (i, (inr e))) = clash (is_exclusive_own u o) g (ap (is_exclusive_own u) e.1 ∙ none a i)

lock_embryo : (u : List ℕ) (p : ℕ) (n : Namespace) (k : Standing) (h : Handle) → Pod u n (Embryo p) → Ungripped u n →
    k.embryo_under_lock ≡ true → draws u k ≡ true → Locking u p n (Embryo p) (Embryo p) k h Exclusive
lock_embryo u p n k h pod none g d = record {
  place = λ a. refl;
  aged = no_less 1;
  embryo = λ q e. e;
  embryo_back = λ q e. e;
  prepared = λ e. e;
  prepared_back = λ e. e;
  owns = λ o i x. ap (λ q. q == p) (just_me u p n h none o i x).0 ∙ same_self p;
  held = λ q own. absurd (cc);
  owned = λ e x. (g, d);
  mine = λ r e x. absurd (cc);
  other = λ q j apart linked c e x. absurd (cc);
}

kinds : (k : Kind) → is_run_prepared k ≡ true → is_remover k ≡ true → ⊥
kinds kind.RunPrepared r m = cc
kinds k r m = cc

run_or_remove : (k : Standing) → began_as is_run_prepared k ≡ true → began_as is_remover k ≡ true → ⊥
run_or_remove k r m = by k.intent r m
  where
    by : (o : Option Intent) → intends (λ i. is_run_prepared i.kind) o ≡ true → intends (λ i. is_remover i.kind) o ≡ true → ⊥
    by None r m = cc
    by (Some i) r m = kinds i.kind r m

lock_prepared : (u : List ℕ) (p : ℕ) (n : Namespace) (k : Standing) (h : Handle) → Sound n → Pod u n Prepared →
    Ungripped u n → Linked p n k → began_as is_run_prepared k ≡ true → holds_claim u k ≡ true →
    Locking u p n Prepared Prepared k h Exclusive
lock_prepared u p n k h sound pod none linked kind claim = record {
  place = λ a. refl;
  aged = no_less 4;
  embryo = λ q e. e;
  embryo_back = λ q e. e;
  prepared = λ e. e;
  prepared_back = λ e. e;
  owns = λ o i x. refl;
  held = λ q own. absurd (cc);
  owned = λ e x. absurd (cc);
  mine = λ r e x. absurd (run_or_remove k kind r);
  other = λ q j apart ll c e x. clash (p == q)
      (ap (λ z. p == z) (sym (claims_meet u n Prepared p q k j sound pod linked ll claim c)) ∙ same_self p) apart;
}

deleting_place : (a : Area) (p : ℕ) (s : PodState) → (s ≡ ExitedGarbage) ⊎ (s ≡ Garbage) →
    is_area_of_state a (Deleting p (deleted_from s)) ≡ is_area_of_state a s
deleting_place a p s (inl e) = subst (λ (x : PodState). is_area_of_state a (Deleting p (deleted_from x)) ≡ is_area_of_state a x) (sym e) (by a)
  where
    by : (a : Area) → is_area_of_state a (Deleting p area.ExitedGarbage) ≡ is_area_of_state a ExitedGarbage
    by area.ExitedGarbage = refl
    by area.Garbage = refl
    by a = refl
deleting_place a p s (inr e) = subst (λ (x : PodState). is_area_of_state a (Deleting p (deleted_from x)) ≡ is_area_of_state a x) (sym e) (by a)
  where
    by : (a : Area) → is_area_of_state a (Deleting p area.Garbage) ≡ is_area_of_state a Garbage
    by area.ExitedGarbage = refl
    by area.Garbage = refl
    by a = refl

deleting_age : (p : ℕ) (s : PodState) → (s ≡ ExitedGarbage) ⊎ (s ≡ Garbage) → pod_progress s ≤ pod_progress (Deleting p (deleted_from s))
deleting_age p s (inl e) = subst (λ (x : PodState). pod_progress x ≤ pod_progress (Deleting p (deleted_from x))) (sym e) (no_less 7)
deleting_age p s (inr e) = subst (λ (x : PodState). pod_progress x ≤ pod_progress (Deleting p (deleted_from x))) (sym e) (no_less 8)

not_embryo : {X : Type 0} (q : ℕ) (s : PodState) → (s ≡ ExitedGarbage) ⊎ (s ≡ Garbage) → s ≡ Embryo q → X
not_embryo q s (inl e) f = absurd (cc)
not_embryo q s (inr e) f = absurd (cc)

not_prepared : {X : Type 0} (s : PodState) → (s ≡ ExitedGarbage) ⊎ (s ≡ Garbage) → s ≡ Prepared → X
not_prepared s (inl e) f = absurd (cc)
not_prepared s (inr e) f = absurd (cc)

lock_garbage : (u : List ℕ) (p : ℕ) (n : Namespace) (s : PodState) (k : Standing) (h : Handle) → Sound n → Pod u n s →
    Ungripped u n → (l : Lock p n k h Exclusive) → is_own_of u l.opening.target ≡ true →
    is_garbage (area_of l.opening.target) ≡ true → (s ≡ ExitedGarbage) ⊎ (s ≡ Garbage) →
    Locking u p n s (Deleting p (deleted_from s)) k h Exclusive
lock_garbage u p n s k h sound pod none l on there at = record {
  place = λ a. deleting_place a p s at;
  aged = deleting_age p s at;
  embryo = λ q e. not_embryo q s at e;
  embryo_back = λ q e. absurd (cc);
  prepared = λ e. not_prepared s at e;
  prepared_back = λ e. absurd (cc);
  owns = λ o i x. let y = just_me u p n h none o i x in and_both (o.process == p) (is_garbage (area_of o.target))
      (ap (λ q. q == p) y.0 ∙ same_self p) (ap (λ (z : Opening). is_garbage (area_of z.target))
      (y.1.1.1.1 ∙ ap (held Exclusive) (the_one p n k h Exclusive sound l y.1.0 y.1.1.0 y.1.1.1.0)) ∙ there);
  held = λ q own. (
    held Exclusive l.opening,
    (
      locked_it (locked_is p h Exclusive l.opening),
      (and_both (is_own_of u l.opening.target) true on refl, l.process ∙ sym (same_number q p own)),
    ),
  );
  owned = λ e x. not_embryo p s at e;
  mine = λ r e x. not_prepared s at e;
  other = λ q j apart ll c e x. not_prepared s at e;
}
  where
    locked_it : ((is_handle p h l.opening ≡ true) × (locked p h Exclusive l.opening ≡ held Exclusive l.opening)) ⊎
        ((is_handle p h l.opening ≡ false) × (locked p h Exclusive l.opening ≡ l.opening)) →
        In (held Exclusive l.opening) (map (locked p h Exclusive) n.openings)
    locked_it (inl e) = subst (λ (x : Opening). In x (map (locked p h Exclusive) n.openings)) e.1
        (map_in (locked p h Exclusive) l.opening n.openings l.there)
    locked_it (inr e) = clash (is_handle p h l.opening) l.mine e.0

lock_gone : (u : List ℕ) (p : ℕ) (n : Namespace) (k : Standing) (h : Handle) → Pod u n Gone →
    Locking u p n Gone Gone k h Exclusive
lock_gone u p n k h pod = record {
  place = λ a. refl;
  aged = no_less 9;
  embryo = λ q e. e;
  embryo_back = λ q e. e;
  prepared = λ e. e;
  prepared_back = λ e. e;
  owns = λ o i x. refl;
  held = λ q own. absurd (cc);
  owned = λ e x. absurd (cc);
  mine = λ r e x. absurd (cc);
  other = λ q j apart ll c e x. absurd (cc);
}

-- where it may stand that was found in a garbage place and has no owner
past_garbage : (s : PodState) → 7 ≤ pod_progress s → ((q : ℕ) → is_owner q s ≡ true → ⊥) →
    ((s ≡ ExitedGarbage) ⊎ (s ≡ Garbage)) ⊎ (s ≡ Gone)
past_garbage ExitedGarbage l none = inl (inl refl)
past_garbage Garbage l none = inl (inr refl)
past_garbage Gone l none = inr refl
past_garbage (Deleting o f) l none = absurd (none o (same_self o))
past_garbage Absent l none = absurd (omega (arith, l))
past_garbage (Embryo m) l none = absurd (omega (arith, l))
past_garbage (Preparing o) l none = absurd (omega (arith, l))
past_garbage AbortedPrepare l none = absurd (omega (arith, l))
past_garbage Prepared l none = absurd (omega (arith, l))
past_garbage (Running o) l none = absurd (omega (arith, l))
past_garbage Exited l none = absurd (omega (arith, l))

garbage_age : (a : Area) → is_garbage a ≡ true → 7 ≤ age_in a
garbage_age area.ExitedGarbage h = omega arith
garbage_age area.Garbage h = omega arith
garbage_age a h = cc

-- what the rule on an exclusive lock of Own says
abbrev Rule : Standing → Bool → List ℕ → Area → Type 0
Rule k c v a = (((k.embryo_under_lock ≡ true) × (draws v k ≡ true)) × (is_garbage a ≡ false)) ⊎
    ((((began_as is_run_prepared k ≡ true) × (c ≡ true)) × (is_garbage a ≡ false)) ⊎ (is_garbage a ≡ true))

rule : (k : Standing) (c : Bool) (v : List ℕ) (a : Area) → may_lock_own k c v a Exclusive ≡ true → Rule k c v a
rule k c v area.Embryo may = inl (and_parts k.embryo_under_lock (draws v k) may, refl)
rule k c v area.Prepared may = inr (inl (and_parts (began_as is_run_prepared k) c may, refl))
rule k c v area.ExitedGarbage may = inr (inr refl)
rule k c v area.Garbage may = inr (inr refl)
rule k c v a may = cc

rule_of : (u : List ℕ) (k : Standing) (c : Bool) (t : Target) → is_own_of u t ≡ true →
    may_lock_target k c t Exclusive ≡ true → Rule k c u (area_of t)
rule_of u k c (Own spot) on may =
    subst (λ (v : List ℕ). Rule k c v spot.area) (of_name u spot on) (rule k c spot.name spot.area may)
rule_of u k c (Claim spot) on may = cc
rule_of u k c (Gate a) on may = cc

-- what a lock leads to
pub record Locks (u : List ℕ) (p : ℕ) (n : Namespace) (s : PodState) (k : Standing) (h : Handle) (m : Mode) : Type 0 where
  pub state : PodState
  pub turns : after_transition (transition u n s p (TryLock h m) Done) p s ≡ state
  pub has : (x : Transition) → transition u n s p (TryLock h m) Done ≡ Some x → enabled x p s ≡ true
  pub locking : Locking u p n s state k h m

nothing : (u : List ℕ) (p : ℕ) (n : Namespace) (s : PodState) (k : Standing) (h : Handle) (b : Bool) → b ≡ false →
    Locking u p n s s k h Exclusive → (not (is_gone s) && on_opening (is_deleter u) (find_opening n p h)) ≡ b →
    Locks u p n s k h Exclusive
nothing u p n s k h b off x e = record {
  state = s;
  turns = ap (λ z. after_transition (transition_if z turn.BeginDelete) p s) (e ∙ off);
  has = λ y f. absurd (none y (ap (λ z. transition_if z turn.BeginDelete) (sym (e ∙ off)) ∙ f));
  locking = x;
}
  where
    none : (y : Transition) → None ≡ Some y → ⊥
    none y f = cc

looks_like : (u : List ℕ) (p : ℕ) (n : Namespace) (k : Standing) (h : Handle) (m : Mode) → Sound n →
    (l : Lock p n k h m) → on_opening (is_deleter u) (find_opening n p h) ≡ is_deleter u l.opening
looks_like u p n k h m sound l = ap (on_opening (is_deleter u)) (look_is p n h l.opening sound l.there l.mine)

off_left : (a b : Bool) → a ≡ false → (a && b) ≡ false
off_left true b h = cc
off_left false b h = refl

pub locks : (u : List ℕ) (p : ℕ) (n : Namespace) (s : PodState) (k : Standing) (h : Handle) (m : Mode) → Sound n →
    Pod u n s → Knows u p n s k → Lock p n k h m → Locks u p n s k h m
locks u p n s k h Shared sound pod knows l = by (is_own_of u l.opening.target) refl
  where
    by : (b : Bool) → is_own_of u l.opening.target ≡ b → Locks u p n s k h Shared
    by false off = record {
      state = s;
      turns = refl;
      has = λ y e. absurd (cc);
      locking =
          lock_elsewhere u p n s k h Shared sound pod knows l off;
    }
    by true on = record {
      state = s;
      turns = refl;
      has = λ y e. absurd (cc);
      locking =
          lock_shared u p n s k h sound pod knows l on;
    }
locks u p n s k h Exclusive sound pod knows l = by (is_own_of u l.opening.target) refl
  where
    deleter : (b : Bool) → is_deleter u l.opening ≡ b → (not (is_gone s) && on_opening (is_deleter u) (find_opening n p h)) ≡
        (not (is_gone s) && b)
    deleter b e = ap (λ z. not (is_gone s) && z) (looks_like u p n k h Exclusive sound l ∙ e)

    in_garbage : Ungripped u n → is_own_of u l.opening.target ≡ true → is_garbage (area_of l.opening.target) ≡ true →
        ((s ≡ ExitedGarbage) ⊎ (s ≡ Garbage)) ⊎ (s ≡ Gone) → Locks u p n s k h Exclusive
    in_garbage none on there (inl at) =
        let yes_it_is : (not (is_gone s) && on_opening (is_deleter u) (find_opening n p h)) ≡ true =
        deleter true (and_both (is_own_of u l.opening.target) (is_garbage (area_of l.opening.target)) on there)
        ∙ and_both (not (is_gone s)) true (alive at) refl in
        record {
          state = Deleting p (deleted_from s);
          turns = ap (λ z. after_transition (transition_if z turn.BeginDelete) p s) yes_it_is
              ∙ ap (λ z. cond z (Deleting p (deleted_from s)) s) (able at);
          has = λ y e. subst (λ (z : Transition). enabled z p s ≡ true)
              (out y (ap (λ z. transition_if z turn.BeginDelete) (sym yes_it_is) ∙ e)) (able at);
          locking = lock_garbage u p n s k h sound pod none l on there at;
        }
      where
        alive : (s ≡ ExitedGarbage) ⊎ (s ≡ Garbage) → not (is_gone s) ≡ true
        alive (inl e) = ap (λ (x : PodState). not (is_gone x)) e
        alive (inr e) = ap (λ (x : PodState). not (is_gone x)) e

        able : (s ≡ ExitedGarbage) ⊎ (s ≡ Garbage) → enabled turn.BeginDelete p s ≡ true
        able (inl e) = ap (λ (x : PodState). enabled turn.BeginDelete p x) e
        able (inr e) = ap (λ (x : PodState). enabled turn.BeginDelete p x) e

        out : (y : Transition) → Some turn.BeginDelete ≡ Some y → turn.BeginDelete ≡ y
        out y e = cc
    in_garbage none on there (inr gone) =
        nothing u p n s k h (not (is_gone s) && on_opening (is_deleter u) (find_opening n p h))
        (off_left (not (is_gone s)) (on_opening (is_deleter u) (find_opening n p h))
        (ap (λ (x : PodState). not (is_gone x)) gone))
        (subst (λ (x : PodState). Locking u p n x x k h Exclusive) (sym gone)
        (lock_gone u p n k h (subst (λ (x : PodState). Pod u n x) gone pod))) refl

    own_lock_taken : is_own_of u l.opening.target ≡ true → Ungripped u n →
        Rule k l.held.covered u (area_of l.opening.target) → Locks u p n s k h Exclusive
    own_lock_taken on none (inl (gd, off)) =
        let e : s ≡ Embryo p = knows.embryo_under_lock gd.0 gd.1 in
        nothing u p n s k h (not (is_gone s) && false) (off_right (not (is_gone s)) false refl)
        (subst (λ (x : PodState). Locking u p n x x k h Exclusive) (sym e)
        (lock_embryo u p n k h (subst (λ (x : PodState). Pod u n x) e pod) none gd.0 gd.1))
        (deleter false (off_right (is_own_of u l.opening.target) (is_garbage (area_of l.opening.target)) off))
    own_lock_taken on none (inr (inl (rc, off))) =
        let c = knows.covered l.held l.known (ap (λ (b : Bare). is_own_of u b.target) l.same ∙ on) rc.1 in
        nothing u p n s k h (not (is_gone s) && false) (off_right (not (is_gone s)) false refl)
        (subst (λ (x : PodState). Locking u p n x x k h Exclusive) (sym c.0)
        (lock_prepared u p n k h sound (subst (λ (x : PodState). Pod u n x) c.0 pod) none knows.linked rc.0 c.1))
        (deleter false (off_right (is_own_of u l.opening.target) (is_garbage (area_of l.opening.target)) off))
    own_lock_taken on none (inr (inr there)) =
        let x : age_in (area_of l.opening.target) ≤ pod_progress s = (pod.named l.opening l.there (own_named u l.opening.target on)).1 in
        let y : 7 ≤ age_in (area_of l.opening.target) = garbage_age (area_of l.opening.target) there in
        in_garbage none on there (past_garbage s (omega (arith, x, y)) (unowned u n s pod none))

    by : (b : Bool) → is_own_of u l.opening.target ≡ b → Locks u p n s k h Exclusive
    by false off = nothing u p n s k h (not (is_gone s) && false) (off_right (not (is_gone s)) false refl)
        (lock_elsewhere u p n s k h Exclusive sound pod knows l off)
        (deleter false (off_left (is_own_of u l.opening.target) (is_garbage (area_of l.opening.target)) off))
    by true on = own_lock_taken on (nobody u p n s k h Exclusive sound pod l on)
        (rule_of u k l.held.covered l.opening.target on l.may)
