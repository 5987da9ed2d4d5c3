-- A new handle.
use Rattle.std.proofs.Common.{◌≡◌, ◌⊎◌, inl, inr, ◌≤◌, ℕ, Bool, true, false, ◌&&◌, ◌||◌, cond, bytes_eq, Option, Some, None, is_some, List, [], ◌∷◌, ◌++◌, refl, sym, ap, subst, ◌∙◌}
use Rattle.std.specs.List.{list_any}
use Rattle.std.proofs.lemmas.Bool.{and_parts}
use Rattle.plain_laws.proofs.Booleans.{clash, off_right}
use Rattle.plain_laws.proofs.Texts.{same_text}
use Rattle.dir_model.specs.declared.area.Area.{Area}
use Rattle.dir_model.specs.declared.area.Area.TheVariants as area
use Rattle.dir_model.specs.declared.spot.Spot.{Spot}
use Rattle.dir_model.specs.declared.spot.Handle.{Handle}
use Rattle.dir_model.specs.declared.spot.Which.{Which}
use Rattle.dir_model.specs.declared.spot.Which.TheVariants as which
use Rattle.dir_model.specs.declared.opening.Opening.{Opening}
use Rattle.dir_model.specs.declared.request.Request.TheVariants.{Open, OpenArea}
use Rattle.dir_model.specs.declared.request.Reply.TheVariants.{Opened}
use Rattle.dir_model.specs.Locks.{is_exclusive, target_of}
use Rattle.dir_model.specs.State.{Namespace, DirState, folder_at, stands}
use Rattle.dir_model.specs.Trace.{namespace_replied, opened, opened_gate}
use Rattle.dir_model.specs.Replies.{is_reply}
use Rattle.dir_rules.specs.Standing.{area_of, holds_claim, is_claim_held, is_gate_shared, is_in, is_spot_of_pod, is_own_held, is_own_in_prepared, standing_replied}
use Rattle.dir_model.specs.Local.{is_own_of}
use Rattle.dir_model.specs.Areas.{is_stage}
use Rattle.lifecycle.specs.declared.machine.PodState.{PodState}
use Rattle.lifecycle.specs.declared.machine.PodState.TheVariants.{Prepared}
use Rattle.lifecycle.specs.PodMachine.{is_exclusive_own, is_area_of_state, pod_progress, age_in}
use Rattle.dir_rules.specs.declared.standing.Held.{Held}
use Rattle.dir_rules.specs.declared.standing.Standing.{Standing}
use Rattle.lifecycle.proofs.Lists.{In, in_push, push_in, any_in, in_any}
use Rattle.lifecycle.proofs.Handles.{open_stands}
use Rattle.lifecycle.proofs.Linked.{Linked, linked_own}
use Rattle.lifecycle.proofs.Invariant.{is_named, may_own, Pod, Ungripped, Knows, placed_age}

pub any_unpushed : {X : Type 0} (t : X → Bool) (xs : List X) (y : X) → t y ≡ false → list_any t (xs ++ y ∷ []) ≡ true →
    list_any t xs ≡ true
any_unpushed t xs y off h = let e = any_in t (xs ++ y ∷ []) h in by e.0 (in_push e.0 xs y e.1.0) e.1.1
  where
    by : (x : _) → In x xs ⊎ (x ≡ y) → t x ≡ true → list_any t xs ≡ true
    by x (inl i) k = in_any t x xs i k
    by x (inr is) k = clash (t x) k (ap t is ∙ off)

any_consed : {X : Type 0} (t : X → Bool) (xs : List X) (y : X) → list_any t xs ≡ true → (t y || list_any t xs) ≡ true
any_consed t xs y h = by (t y)
  where
    by : (b : Bool) → (b || list_any t xs) ≡ true
    by true = refl
    by false = h

any_unconsed : {X : Type 0} (t : X → Bool) (xs : List X) (y : X) → t y ≡ false → (t y || list_any t xs) ≡ true →
    list_any t xs ≡ true
any_unconsed t xs y off h = by (t y) off h
  where
    by : (b : Bool) → b ≡ false → (b || list_any t xs) ≡ true → list_any t xs ≡ true
    by true off h = cc
    by false off h = h

abbrev pub and_opening : Namespace → Opening → Namespace
and_opening n o = record n { openings = n.openings ++ o ∷ [] }

unlocked : (u : List ℕ) (o : Opening) → o.lock ≡ None → is_exclusive_own u o ≡ false
unlocked u o free = off_right (is_own_of u o.target) (is_exclusive o.lock) (ap is_exclusive free)

pub pod_opened : (u : List ℕ) (n : Namespace) (s : PodState) (o : Opening) (pod : Pod u n s) → o.lock ≡ None →
    (is_named u o.target ≡ true → (o.folder ≡ Some pod.number) × (age_in (area_of o.target) ≤ pod_progress s)) →
    Pod u (and_opening n o) s
pod_opened u n s o pod free stands = record {
  number = pod.number;
  at = pod.at;
  named = λ a i h. one a (in_push a n.openings o i) h;
  owns = λ a i h. two a (in_push a n.openings o i) h;
  held = λ p h. let e = pod.held p h in (e.0, (push_in e.0 n.openings o e.1.0, e.1.1));
}
  where
    one : (a : Opening) → In a n.openings ⊎ (a ≡ o) → is_named u a.target ≡ true →
        (a.folder ≡ Some pod.number) × (age_in (area_of a.target) ≤ pod_progress s)
    one a (inl i) h = pod.named a i h
    one a (inr is) h = subst (λ (x : Opening). (x.folder ≡ Some pod.number) × (age_in (area_of x.target) ≤ pod_progress s))
        (sym is) (stands (subst (λ (x : Opening). is_named u x.target ≡ true) is h))

    two : (a : Opening) → In a n.openings ⊎ (a ≡ o) → is_exclusive_own u a ≡ true → may_own s a.process (area_of a.target) ≡ true
    two a (inl i) h = pod.owns a i h
    two a (inr is) h = clash (is_exclusive_own u a) h (ap (is_exclusive_own u) is ∙ unlocked u o free)

pub ungripped_opened : (u : List ℕ) (n : Namespace) (o : Opening) → o.lock ≡ None → Ungripped u n →
    Ungripped u (and_opening n o)
ungripped_opened u n o free none a i = by (in_push a n.openings o i)
  where
    by : In a n.openings ⊎ (a ≡ o) → is_exclusive_own u a ≡ false
    by (inl j) = none a j
    by (inr is) = ap (is_exclusive_own u) is ∙ unlocked u o free

abbrev pub and_held : Standing → Held → Standing
and_held k h = record k { holdings = h ∷ k.holdings }

pub knows_opened : (u : List ℕ) (p : ℕ) (n : Namespace) (s : PodState) (k : Standing) (o : Opening) (h : Held) →
    o.lock ≡ None → h.lock ≡ None → Linked p (and_opening n o) (and_held k h) →
    (is_own_of u h.target ≡ true → h.covered ≡ true → (s ≡ Prepared) × (holds_claim u k ≡ true)) → Knows u p n s k →
    Knows u p (and_opening n o) s (and_held k h)
knows_opened u p n s k o h free bare_free linked cover knows = record {
  linked = linked;
  embryo_under_lock = knows.embryo_under_lock;
  gates = λ g. any_consed (is_gate_shared area.Embryo) k.holdings h (knows.gates g);
  owned = λ e x. knows.owned e (any_unconsed (is_own_held u) k.holdings h
      (off_right (is_own_of u h.target) (is_exclusive h.lock) (ap is_exclusive bare_free)) x);
  covered = λ g i x c. one g (turn i) x c;
  seen_unowned = knows.seen_unowned;
  seen_unowned_under_claim = λ x. let c = knows.seen_unowned_under_claim x in record {
    claim = claims c.claim;
    remover = c.remover;
    past = c.past;
    free =
        λ e. ungripped_opened u n o free (c.free e);
  };
}
  where
    claims : holds_claim u k ≡ true → holds_claim u (and_held k h) ≡ true
    claims c = any_consed (is_claim_held u) k.holdings h c

    turn : {g : Held} → (g ≡ h) ⊎ In g k.holdings → In g k.holdings ⊎ (g ≡ h)
    turn (inl is) = inr is
    turn (inr i) = inl i

    one : (g : Held) → In g k.holdings ⊎ (g ≡ h) → is_own_of u g.target ≡ true → g.covered ≡ true →
        (s ≡ Prepared) × (holds_claim u (and_held k h) ≡ true)
    one g (inl i) x c = let y = knows.covered g i x c in (y.0, claims y.1)
    one g (inr is) x c =
        let y = cover (subst (λ (z : Held). is_own_of u z.target ≡ true) is x)
        (subst (λ (z : Held). z.covered ≡ true) is c) in
        (y.0, claims y.1)

-- where a place of the pod is found, its folder stands there
found_number : (o : Option ℕ) (b : Bool) (k : ℕ) → o ≡ cond b (Some k) None → is_some o ≡ true → (b ≡ true) × (o ≡ Some k)
found_number (Some x) true k e h = (refl, e)
found_number (Some x) false k e h = cc
found_number None b k e h = cc

pub found_pod : (u : List ℕ) (n : Namespace) (s : PodState) (pod : Pod u n s) (spot : Spot) → is_spot_of_pod u spot ≡ true →
    stands n spot ≡ true → (is_area_of_state spot.area s ≡ true) × (folder_at n spot ≡ Some pod.number)
found_pod u n s pod spot of there = found_number (folder_at n spot) (is_area_of_state spot.area s) pod.number (pod.at spot of) there

pub prepared_is : (s : PodState) → is_area_of_state area.Prepared s ≡ true → s ≡ Prepared
prepared_is Prepared h = refl
prepared_is s h = cc

pub prepared_place : (s : PodState) (a : Area) → is_in area.Prepared a ≡ true → is_area_of_state a s ≡ true → s ≡ Prepared
prepared_place s area.Prepared h k = prepared_is s k
prepared_place s a h k = cc

cover_of : (u : List ℕ) (n : Namespace) (s : PodState) (k : Standing) (pod : Pod u n s) (spot : Spot) (which : Which) →
    stands n spot ≡ true → is_own_of u (target_of spot which) ≡ true →
    (is_own_in_prepared spot which && holds_claim spot.name k) ≡ true → (s ≡ Prepared) × (holds_claim u k ≡ true)
cover_of u n s k pod spot which.Claim there of c = cc
cover_of u n s k pod spot which.Own there of c =
    let x = and_parts (is_in area.Prepared spot.area) (holds_claim spot.name k) c in
    let y = found_pod u n s pod spot of there in (
      prepared_place s spot.area x.0 y.0,
      ap (λ (v : List ℕ). holds_claim v k)
          (sym (same_text spot.name u (and_parts (is_stage spot.area) (bytes_eq spot.name u) of).1)) ∙ x.1,
    )

opened_named : (u : List ℕ) (spot : Spot) (kind : Which) → is_named u (target_of spot kind) ≡ is_spot_of_pod u spot
opened_named u spot which.Own = refl
opened_named u spot which.Claim = refl

pub opened_area : (spot : Spot) (kind : Which) → area_of (target_of spot kind) ≡ spot.area
opened_area spot which.Own = refl
opened_area spot which.Claim = refl

pub open_pod : (u : List ℕ) (n : DirState) (s : PodState) (p : ℕ) (spot : Spot) (which : Which) (h : Handle) →
    is_reply n p (Open spot which) (Opened h) ≡ true → Pod u n.namespace s →
    Pod u (namespace_replied n.namespace p (Open spot which) (Opened h)) s
open_pod u n s p spot which h is pod =
    pod_opened u n.namespace s (opened n.namespace p h spot which) pod refl
    (λ of. let y = found_pod u n.namespace s pod spot (sym (opened_named u spot which) ∙ of)
    (open_stands n p spot which h is) in (
      y.1,
      subst (λ (a : Area). age_in a ≤ pod_progress s) (sym (opened_area spot which))
          (placed_age spot.area s y.0),
    ))

pub open_knows : (u : List ℕ) (n : DirState) (s : PodState) (p : ℕ) (k : Standing) (spot : Spot) (which : Which)
    (h : Handle) → is_reply n p (Open spot which) (Opened h) ≡ true → Pod u n.namespace s → Knows u p n.namespace s k →
    Knows u p (namespace_replied n.namespace p (Open spot which) (Opened h)) s
    (standing_replied k (Open spot which) (Opened h))
open_knows u n s p k spot which h is pod knows =
    knows_opened u p n.namespace s k (opened n.namespace p h spot which) _ refl refl
    (linked_own p n.namespace k (Open spot which) (Opened h) refl knows.linked)
    (λ of c. cover_of u n.namespace s k pod spot which (open_stands n p spot which h is) of c) knows

pub gate_pod : (u : List ℕ) (n : Namespace) (s : PodState) (p : ℕ) (a : Area) (h : Handle) → Pod u n s →
    Pod u (namespace_replied n p (OpenArea a) (Opened h)) s
gate_pod u n s p a h pod = pod_opened u n s (opened_gate p h a) pod refl (λ of. absurd (cc))

pub gate_knows : (u : List ℕ) (n : Namespace) (s : PodState) (p : ℕ) (k : Standing) (a : Area) (h : Handle) →
    Knows u p n s k → Knows u p (namespace_replied n p (OpenArea a) (Opened h)) s
    (standing_replied k (OpenArea a) (Opened h))
gate_knows u n s p k a h knows =
    knows_opened u p n s k (opened_gate p h a) _ refl refl (linked_own p n k (OpenArea a) (Opened h) refl knows.linked)
    (λ of c. absurd (cc)) knows
