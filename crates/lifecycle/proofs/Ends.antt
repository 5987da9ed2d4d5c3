-- A handle is given up, and a process ends.
use Rattle.std.proofs.Common.{arith, ◌≡◌, ◌⊎◌, inl, inr, ◌≤◌, ℕ, Bool, true, false, not, ◌&&◌, ◌==◌, cond, Option, Some, None, List, filter, refl, sym, ap, subst, ◌∙◌}
use Rattle.std.proofs.lemmas.Bool.Decides.{nat_tests}
use Rattle.std.proofs.lemmas.Bool.{and_parts}
use Rattle.plain_laws.proofs.Booleans.{clash}
use Rattle.dir_model.specs.declared.area.Area.{Area}
use Rattle.dir_model.specs.declared.area.Area.TheVariants as area
use Rattle.dir_model.specs.declared.spot.Spot.{Spot}
use Rattle.dir_model.specs.declared.spot.Handle.{Handle}
use Rattle.dir_model.specs.declared.opening.Opening.{Opening}
use Rattle.dir_model.specs.Locks.{is_handle}
use Rattle.dir_model.specs.State.{Namespace, folder_at}
use Rattle.dir_model.specs.Trace.{without_process}
use Rattle.dir_rules.specs.Standing.{area_of, is_garbage}
use Rattle.lifecycle.specs.declared.machine.PodState.{PodState}
use Rattle.lifecycle.specs.declared.machine.PodState.TheVariants.{Absent, Embryo, Preparing, AbortedPrepare, Prepared, Running, Exited, ExitedGarbage, Garbage, Deleting, Gone}
use Rattle.lifecycle.specs.declared.machine.Transition.TheVariants as turn
use Rattle.lifecycle.specs.PodMachine.{enabled, without_owner, after_transition, undeleted, transition_if, on_opening, find_opening, is_exclusive_own, is_owner, is_area_of_state, pod_progress, age_in}
use Rattle.dir_rules.specs.declared.standing.Standing.{Standing}
use Rattle.lifecycle.proofs.Lists.{In, in_filter, filter_in, find_in, in_find, no_less}
use Rattle.lifecycle.proofs.Handles.{Sound, handle_meet, held}
use Rattle.lifecycle.proofs.Linked.{own, mine}
use Rattle.lifecycle.proofs.Invariant.{may_own, Pod, Knows, one_grip, others}
use Rattle.dir_model.proofs.Lists.{and_both, not_true, same_self, same_number}

-- what an end is in each state
pub enabled_end : (p : ℕ) (s : PodState) → enabled turn.End p s ≡ is_owner p s
enabled_end p Absent = refl
enabled_end p (Embryo m) = refl
enabled_end p (Preparing o) = refl
enabled_end p AbortedPrepare = refl
enabled_end p Prepared = refl
enabled_end p (Running o) = refl
enabled_end p Exited = refl
enabled_end p ExitedGarbage = refl
enabled_end p Garbage = refl
enabled_end p (Deleting o f) = refl
enabled_end p Gone = refl

abbrev Ends : ℕ → PodState → Bool → Type 0
Ends p s g = (((is_owner p s ≡ true) × (g ≡ true)) × (after_transition (transition_if (is_owner p s && g) turn.End) p s ≡ without_owner s)) ⊎
    (((is_owner p s && g) ≡ false) × (after_transition (transition_if (is_owner p s && g) turn.End) p s ≡ s))

pub ends_or_not : (p : ℕ) (s : PodState) (g : Bool) → Ends p s g
ends_or_not p s g = by (is_owner p s && g) refl
  where
    by : (b : Bool) → (is_owner p s && g) ≡ b → Ends p s g
    by true e =
        let x = and_parts (is_owner p s) g e in
        inl (x, ap (λ b. after_transition (transition_if b turn.End) p s) e ∙ (ap (λ b. cond b (without_owner s) s) (enabled_end p s ∙ x.0)))
    by false e = inr (e, ap (λ b. after_transition (transition_if b turn.End) p s) e)

place_prepare : (a : Area) (o : ℕ) → is_area_of_state a AbortedPrepare ≡ is_area_of_state a (Preparing o)
place_prepare area.Prepare o = refl
place_prepare a o = refl

place_run : (a : Area) (o : ℕ) → is_area_of_state a Exited ≡ is_area_of_state a (Running o)
place_run area.Run o = refl
place_run a o = refl

place_undeleted : (a f : Area) (o : ℕ) → is_area_of_state a (undeleted f) ≡ is_area_of_state a (Deleting o f)
place_undeleted area.ExitedGarbage area.ExitedGarbage o = refl
place_undeleted area.Garbage area.ExitedGarbage o = refl
place_undeleted area.Garbage f o = refl
place_undeleted area.ExitedGarbage f o = refl
place_undeleted a area.ExitedGarbage o = refl
place_undeleted a f o = refl

pub ended_place : (a : Area) (s : PodState) → is_area_of_state a (without_owner s) ≡ is_area_of_state a s
ended_place a (Preparing o) = place_prepare a o
ended_place a (Running o) = place_run a o
ended_place a (Deleting o f) = place_undeleted a f o
ended_place a s = refl

pub ended_age : (s : PodState) → pod_progress s ≤ pod_progress (without_owner s)
ended_age (Preparing o) = omega arith
ended_age (Running o) = omega arith
ended_age (Deleting o f) = by f
  where
    by : (f : Area) → pod_progress (Deleting o f) ≤ pod_progress (undeleted f)
    by area.ExitedGarbage = omega arith
    by f = omega arith
ended_age s = omega arith

ended_embryo : (q : ℕ) (s : PodState) → without_owner s ≡ Embryo q → s ≡ Embryo q
ended_embryo q (Embryo m) h = h
ended_embryo q (Deleting o area.ExitedGarbage) h = cc
ended_embryo q (Deleting o f) h = cc
ended_embryo q s h = cc

ended_prepared : (s : PodState) → without_owner s ≡ Prepared → s ≡ Prepared
ended_prepared Prepared h = h
ended_prepared (Deleting o area.ExitedGarbage) h = cc
ended_prepared (Deleting o f) h = cc
ended_prepared s h = cc

ended_free : (p q : ℕ) (s : PodState) → is_owner p s ≡ true → is_owner q (without_owner s) ≡ false
ended_free p q (Preparing o) h = refl
ended_free p q (Running o) h = refl
ended_free p q (Deleting o area.ExitedGarbage) h = refl
ended_free p q (Deleting o f) h = refl
ended_free p q s h = cc

meet : (p q o : ℕ) → (p == o) ≡ true → (q == o) ≡ true → q ≡ p
meet p q o h k = grind (arith, nat_tests)

pub owner_owns : (p q : ℕ) (s : PodState) (a : Area) → is_owner p s ≡ true → may_own s q a ≡ true → q ≡ p
owner_owns p q (Preparing o) a h k = meet p q o h k
owner_owns p q (Running o) a h k = meet p q o h k
owner_owns p q (Deleting o f) a h k = meet p q o h (and_parts (q == o) (is_garbage a) k).0
owner_owns p q s a h k = cc

pub one_owner : (p q : ℕ) (s : PodState) → is_owner p s ≡ true → is_owner q s ≡ true → q ≡ p
one_owner p q (Preparing o) h k = meet p q o h k
one_owner p q (Running o) h k = meet p q o h k
one_owner p q (Deleting o f) h k = meet p q o h k
one_owner p q s h k = cc

-- the pod where handles were given up
pub pod_fewer : (u : List ℕ) (n m : Namespace) (s t : PodState) (pod : Pod u n s) →
    ((spot : Spot) → folder_at m spot ≡ folder_at n spot) → ((a : Opening) → In a m.openings → In a n.openings) →
    ((a : Area) → is_area_of_state a t ≡ is_area_of_state a s) → pod_progress s ≤ pod_progress t
    → ((o : Opening) → In o m.openings → is_exclusive_own u o ≡ true → may_own t o.process (area_of o.target) ≡ true)
    → ((p : ℕ) → is_owner p t ≡ true → (o : Opening) × (In o m.openings × ((is_exclusive_own u o ≡ true) × (o.process ≡ p)))) → Pod u m t
pod_fewer u n m s t pod same less place aged owns held = record {
  number = pod.number;
  at = λ spot of. same spot ∙ (pod.at spot of ∙ ap (λ b. cond b (Some pod.number) None) (sym (place spot.area)));
  named = λ o i h. let x = pod.named o (less o i) h in
      (x.0, (let l : age_in (area_of o.target) ≤ pod_progress s = x.1 in omega (arith, l, aged)));
  owns = owns;
  held = held;
}

pub others_ended : (u : List ℕ) (q : ℕ) (n m : Namespace) (s t : PodState) (k : Standing) →
    mine q m.openings ≡ mine q n.openings → (t ≡ without_owner s) ⊎ (t ≡ s) →
    ((a : Opening) → In a m.openings → In a n.openings) → Knows u q n s k → Knows u q m t k
others_ended u q n m s t k same (inl e) less knows =
    others u q n m s t k same (subst (λ (x : PodState). pod_progress s ≤ pod_progress x) (sym e) (ended_age s)) (λ g d x. e ∙ ap without_owner x)
    (λ x. ended_embryo q s (sym e ∙ x)) (λ c x. e ∙ ap without_owner x)
    (λ l c r x. (ended_prepared s (sym e ∙ x), λ none a i. none a (less a i))) knows
others_ended u q n m s t k same (inr e) less knows =
    others u q n m s t k same (subst (λ (x : PodState). pod_progress s ≤ pod_progress x) (sym e) (no_less (pod_progress s))) (λ g d x. e ∙ x)
    (λ x. sym e ∙ x) (λ c x. e ∙ x)
    (λ l c r x. (sym e ∙ x, λ none a i. none a (less a i))) knows

pub either : (p : ℕ) (s : PodState) (g : Bool) → Ends p s g →
    (after_transition (transition_if (is_owner p s && g) turn.End) p s ≡ without_owner s) ⊎ (after_transition (transition_if (is_owner p s && g) turn.End) p s ≡ s)
either p s g (inl x) = inl x.1
either p s g (inr x) = inr x.1

-- a process ends
ended_less : (n : Namespace) (p : ℕ) (a : Opening) → In a (without_process n p).openings → In a n.openings
ended_less n p a i = (in_filter (λ o. not (o.process == p)) a n.openings i).0

ended_other : (n : Namespace) (p : ℕ) (a : Opening) → In a (without_process n p).openings → (a.process == p) ≡ false
ended_other n p a i = not_true (a.process == p) (in_filter (λ o. not (o.process == p)) a n.openings i).1

pub end_pod : (u : List ℕ) (n : Namespace) (s : PodState) (p : ℕ) → Pod u n s →
    Pod u (without_process n p) (after_transition (transition_if (is_owner p s) turn.End) p s)
end_pod u n s p pod = by (is_owner p s) refl
  where
    apart : (q : ℕ) (b : Bool) → is_owner p s ≡ false → is_owner q s ≡ true → (q == p) ≡ b → (q == p) ≡ false
    apart q false off h e = e
    apart q true off h e = clash (is_owner p s) (subst (λ (x : ℕ). is_owner x s ≡ true) (same_number q p e) h) off

    by : (b : Bool) → is_owner p s ≡ b → Pod u (without_process n p) (after_transition (transition_if b turn.End) p s)
    by true is = subst (λ (t : PodState). Pod u (without_process n p) t)
        (sym (ap (λ b. cond b (without_owner s) s) (enabled_end p s ∙ is)))
        (pod_fewer u n (without_process n p) s (without_owner s) pod (λ spot. refl) (ended_less n p) (λ a. ended_place a s)
        (ended_age s)
        (λ o i h. clash (o.process == p)
        (ap (λ x. x == p) (owner_owns p o.process s (area_of o.target) is (pod.owns o (ended_less n p o i) h))
        ∙ same_self p) (ended_other n p o i))
        (λ q h. clash (is_owner q (without_owner s)) h (ended_free p q s is)))
    by false off = pod_fewer u n (without_process n p) s s pod (λ spot. refl) (ended_less n p) (λ a. refl) (no_less (pod_progress s))
        (λ o i h. pod.owns o (ended_less n p o i) h)
        (λ q h. let e = pod.held q h in (
          e.0,
          (
            filter_in (λ o. not (o.process == p)) e.0 n.openings e.1.0
                (ap not (ap (λ x. x == p) e.1.1.1 ∙ apart q (q == p) off h refl)),
            e.1.1,
          ),
        ))

pub end_states : (p : ℕ) (s : PodState) → (after_transition (transition_if (is_owner p s) turn.End) p s ≡ without_owner s) ⊎
    (after_transition (transition_if (is_owner p s) turn.End) p s ≡ s)
end_states p s = by (is_owner p s) refl
  where
    by : (b : Bool) → is_owner p s ≡ b → (after_transition (transition_if b turn.End) p s ≡ without_owner s) ⊎ (after_transition (transition_if b turn.End) p s ≡ s)
    by true is = inl (ap (λ b. cond b (without_owner s) s) (enabled_end p s ∙ is))
    by false off = inr refl

pub end_others : (u : List ℕ) (n : Namespace) (s : PodState) (p q : ℕ) (k : Standing) →
    mine q (without_process n p).openings ≡ mine q n.openings → Knows u q n s k →
    Knows u q (without_process n p) (after_transition (transition_if (is_owner p s) turn.End) p s) k
end_others u n s p q k same knows = others_ended u q n (without_process n p) s _ k same (end_states p s) (ended_less n p) knows

-- a handle is given up
abbrev pub without : Namespace → ℕ → Handle → Namespace
without n p h = record n { openings = filter (λ o. not (is_handle p h o)) n.openings }

without_less : (n : Namespace) (p : ℕ) (h : Handle) (a : Opening) → In a (without n p h).openings → In a n.openings
without_less n p h a i = (in_filter (λ o. not (is_handle p h o)) a n.openings i).0

without_other : (n : Namespace) (p : ℕ) (h : Handle) (a : Opening) → In a (without n p h).openings → is_handle p h a ≡ false
without_other n p h a i = not_true (is_handle p h a) (in_filter (λ o. not (is_handle p h o)) a n.openings i).1

pub looked_at : (u : List ℕ) (n : Namespace) (p : ℕ) (h : Handle) (t : Opening → Bool) →
    on_opening t (find_opening n p h) ≡ true → (o : Opening) × (In o n.openings × ((is_handle p h o ≡ true) × (t o ≡ true)))
looked_at u n p h t x = by (find_opening n p h) refl x
  where
    by : (l : Option Opening) → find_opening n p h ≡ l → on_opening t l ≡ true →
        (o : Opening) × (In o n.openings × ((is_handle p h o ≡ true) × (t o ≡ true)))
    by (Some o) e x = let f = find_in (is_handle p h) o n.openings e in (o, (f.0, (f.1, x)))
    by None e x = cc

pub look_finds : (n : Namespace) (p : ℕ) (h : Handle) (t : Opening → Bool) (o : Opening) → Sound n → In o n.openings →
    is_handle p h o ≡ true → t o ≡ true → on_opening t (find_opening n p h) ≡ true
look_finds n p h t o sound i is x =
    let f = in_find (is_handle p h) o n.openings i is in
    let g = find_in (is_handle p h) f.0 n.openings f.1 in
    ap (on_opening t) f.1 ∙ (ap t (sound.unique f.0 o g.0 i (handle_meet p h f.0 o g.1 is)) ∙ x)

pub close_pod : (u : List ℕ) (n : Namespace) (s : PodState) (p : ℕ) (h : Handle) → Sound n → Pod u n s →
    Pod u (without n p h) (after_transition (transition_if (is_owner p s && on_opening (is_exclusive_own u) (find_opening n p h)) turn.End) p s)
close_pod u n s p h sound pod = by (ends_or_not p s (on_opening (is_exclusive_own u) (find_opening n p h)))
  where
    both_true : (a b : Bool) → a ≡ true → b ≡ true → (a && b) ≡ false → ⊥
    both_true a b x y z = clash (a && b) (and_both a b x y) z

    stays : (q : ℕ) (o : Opening) → (is_owner p s && on_opening (is_exclusive_own u) (find_opening n p h)) ≡ false →
        is_owner q s ≡ true → In o n.openings → is_exclusive_own u o ≡ true → o.process ≡ q → (b : Bool) → is_handle p h o ≡ b →
        is_handle p h o ≡ false
    stays q o off own i g is false e = e
    stays q o off own i g is true e =
        let same : o.process ≡ p = same_number o.process p (and_parts (o.process == p) (o.handle.number == h.number) e).0 in
        absurd (both_true (is_owner p s) (on_opening (is_exclusive_own u) (find_opening n p h))
        (subst (λ (x : ℕ). is_owner x s ≡ true) (sym is ∙ same) own) (look_finds n p h (is_exclusive_own u) o sound i e g)
        off)

    by : Ends p s (on_opening (is_exclusive_own u) (find_opening n p h)) →
        Pod u (without n p h) (after_transition (transition_if (is_owner p s && on_opening (is_exclusive_own u) (find_opening n p h)) turn.End) p s)
    by (inl x) =
        let l = looked_at u n p h (is_exclusive_own u) x.0.1 in
        subst (λ (t : PodState). Pod u (without n p h) t) (sym x.1)
        (pod_fewer u n (without n p h) s (without_owner s) pod (λ spot. refl) (without_less n p h) (λ a. ended_place a s) (ended_age s)
        (λ o i g. clash (is_handle p h o)
        (ap (is_handle p h) (one_grip u n s sound pod o l.0 (without_less n p h o i) l.1.0 g l.1.1.1) ∙ l.1.1.0)
        (without_other n p h o i))
        (λ q own. clash (is_owner q (without_owner s)) own (ended_free p q s x.0.0)))
    by (inr x) = subst (λ (t : PodState). Pod u (without n p h) t) (sym x.1)
        (pod_fewer u n (without n p h) s s pod (λ spot. refl) (without_less n p h) (λ a. refl) (no_less (pod_progress s))
        (λ o i g. pod.owns o (without_less n p h o i) g)
        (λ q own. let e = pod.held q own in (
          e.0,
          (
            filter_in (λ o. not (is_handle p h o)) e.0 n.openings e.1.0
                (ap not (stays q e.0 x.0 own e.1.0 e.1.1.0 e.1.1.1 (is_handle p h e.0) refl)),
            e.1.1,
          ),
        )))

pub close_others : (u : List ℕ) (n : Namespace) (s : PodState) (p q : ℕ) (h : Handle) (k : Standing) →
    mine q (without n p h).openings ≡ mine q n.openings → Knows u q n s k →
    Knows u q (without n p h) (after_transition (transition_if (is_owner p s && on_opening (is_exclusive_own u) (find_opening n p h)) turn.End) p s) k
close_others u n s p q h k same knows =
    others_ended u q n (without n p h) s _ k same (either p s (on_opening (is_exclusive_own u) (find_opening n p h))
    (ends_or_not p s (on_opening (is_exclusive_own u) (find_opening n p h)))) (without_less n p h) knows
