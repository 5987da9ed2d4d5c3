-- What a process that had Own shared goes on to know.
use Rattle.std.proofs.Common.{arith, ◌≡◌, ◌⊎◌, inl, inr, ◌≤◌, ℕ, Bool, true, false, ◌&&◌, ◌||◌, ◌==◌, cond, bytes_eq, Option, Some, List, [], ◌∷◌, refl, sym, ap, subst, ◌∙◌}
use Rattle.std.proofs.lemmas.Bool.{and_parts}
use Rattle.plain_laws.proofs.Lists.{any_parts}
use Rattle.dir_model.specs.declared.area.Area.{Area}
use Rattle.dir_model.specs.declared.area.Area.TheVariants as area
use Rattle.dir_model.specs.declared.spot.Handle.{Handle}
use Rattle.dir_model.specs.declared.spot.Mode.TheVariants.{Shared}
use Rattle.dir_model.specs.declared.opening.Target.{Target}
use Rattle.dir_model.specs.declared.opening.Target.TheVariants.{Own, Claim, Gate}
use Rattle.dir_model.specs.declared.request.Request.TheVariants.{TryLock}
use Rattle.dir_model.specs.Areas.{rank, is_stage}
use Rattle.dir_model.specs.State.{Namespace}
use Rattle.dir_rules.specs.Standing.{area_of, began_as, is_name_among, has_place, held_with_mode, is_in, is_handle_held, is_remover, looked_by, own_spot, prepared_name, standing_done}
use Rattle.dir_model.specs.Local.{is_own_of}
use Rattle.dir_rules.specs.LockRules.{may_lock_own, may_lock_target}
use Rattle.lifecycle.specs.declared.machine.PodState.{PodState}
use Rattle.lifecycle.specs.declared.machine.PodState.TheVariants.{Absent, Embryo, Preparing, AbortedPrepare, Prepared, Running, Exited, ExitedGarbage, Garbage, Deleting, Gone}
use Rattle.lifecycle.specs.PodMachine.{is_owner, pod_progress, age_in, age_free}
use Rattle.dir_rules.specs.declared.standing.Held.{Held}
use Rattle.dir_rules.specs.declared.standing.Standing.{Standing}
use Rattle.lifecycle.proofs.Lists.{map_in}
use Rattle.lifecycle.proofs.Handles.{Sound}
use Rattle.lifecycle.proofs.Linked.{Bare}
use Rattle.lifecycle.proofs.Invariant.{Pod, Cleared, Knows, own_named}
use Rattle.lifecycle.proofs.Locks.{Lock, and_locked, and_held_in}
use Rattle.lifecycle.proofs.LockCases.{nobody, unowned, lock_shared}
use Rattle.dir_model.proofs.Lists.{and_both, same_self, same_number}

abbrev free_number : ℕ → ℕ
free_number r = cond (r == 0) 1 (cond (r == 1) 3 (cond (r == 2) 4 (cond (r == 3) 6 (cond (r == 4) 7 (cond (r == 5) 8 0)))))

free_is : (a : Area) → age_free a ≡ free_number (rank a)
free_is area.Embryo = refl
free_is a = refl

free_like : (a b : Area) → is_in a b ≡ true → age_free a ≡ age_free b
free_like a b h = free_is a ∙ (ap free_number (same_number (rank a) (rank b) h) ∙ sym (free_is b))

-- without an owner it is past the states that have one
free_age : (a : Area) (s : PodState) → age_in a ≤ pod_progress s → ((q : ℕ) → is_owner q s ≡ true → ⊥) → age_free a ≤ pod_progress s
free_age area.Prepare s l none = by s l none
  where
    by : (s : PodState) → 2 ≤ pod_progress s → ((q : ℕ) → is_owner q s ≡ true → ⊥) → 3 ≤ pod_progress s
    by (Preparing o) l none = absurd (none o (same_self o))
    by Absent l none = absurd (omega (arith, l))
    by (Embryo m) l none = absurd (omega (arith, l))
    by (Deleting o f) l none = absurd (none o (same_self o))
    by s l none = omega arith
free_age area.Run s l none = by s l none
  where
    by : (s : PodState) → 5 ≤ pod_progress s → ((q : ℕ) → is_owner q s ≡ true → ⊥) → 6 ≤ pod_progress s
    by (Running o) l none = absurd (none o (same_self o))
    by Exited l none = omega arith
    by ExitedGarbage l none = omega arith
    by Garbage l none = omega arith
    by (Deleting o f) l none = absurd (none o (same_self o))
    by Gone l none = omega arith
    by Absent l none = absurd (omega (arith, l))
    by (Embryo m) l none = absurd (omega (arith, l))
    by (Preparing o) l none = absurd (omega (arith, l))
    by AbortedPrepare l none = absurd (omega (arith, l))
    by Prepared l none = absurd (omega (arith, l))
free_age area.Embryo s l none = l
free_age a s l none = l

-- the place that was looked at
spot_of : (u : List ℕ) (a : Area) (t : Target) → has_place u a (own_spot t) ≡ true →
    (is_own_of u t ≡ true) × (is_in a (area_of t) ≡ true)
spot_of u a (Own spot) h = by (is_stage spot.area) refl h
  where
    or_false : (b : Bool) → (b || false) ≡ true → b ≡ true
    or_false true h = refl
    or_false false h = cc

    by : (b : Bool) → is_stage spot.area ≡ b → has_place u a (cond b (spot ∷ []) []) ≡ true →
        ((is_stage spot.area && bytes_eq spot.name u) ≡ true) × (is_in a spot.area ≡ true)
    by true e h =
        let x = and_parts (bytes_eq spot.name u) (is_in a spot.area) (or_false (bytes_eq spot.name u && is_in a spot.area) h)
        in
        (and_both (is_stage spot.area) (bytes_eq spot.name u) e x.0, x.1)
    by false e h = cc
spot_of u a (Claim spot) h = cc
spot_of u a (Gate b) h = cc

in_prepared_pod : (a : Area) → is_in area.Prepared a ≡ true → is_stage a ≡ true
in_prepared_pod area.Prepared h = refl
in_prepared_pod a h = cc

remover_of : (k : Standing) (c : Bool) (v : List ℕ) (a : Area) → is_in area.Prepared a ≡ true →
    may_lock_own k c v a Shared ≡ true → began_as is_remover k ≡ true
remover_of k c v area.Prepared h may = (and_parts (began_as is_remover k) c may).0
remover_of k c v a h may = cc

-- the pod whose Own was had shared under Claim
name_of : (u : List ℕ) (k : Standing) (c : Bool) (t : Target) → may_lock_target k c t Shared ≡ true →
    is_name_among u (cond c (prepared_name t) []) ≡ true →
    ((is_own_of u t ≡ true) × (c ≡ true)) × (began_as is_remover k ≡ true)
name_of u k false t may h = cc
name_of u k true (Own spot) may h = by (is_in area.Prepared spot.area) refl h
  where
    or_false : (b : Bool) → (b || false) ≡ true → b ≡ true
    or_false true h = refl
    or_false false h = cc

    by : (b : Bool) → is_in area.Prepared spot.area ≡ b → is_name_among u (cond b (spot.name ∷ []) []) ≡ true →
        (((is_stage spot.area && bytes_eq spot.name u) ≡ true) × (true ≡ true)) × (began_as is_remover k ≡ true)
    by true e h = (
      (
        and_both (is_stage spot.area) (bytes_eq spot.name u) (in_prepared_pod spot.area e)
            (or_false (bytes_eq spot.name u) h),
        refl,
      ),
      remover_of k true spot.name spot.area e may,
    )
    by false e h = cc
name_of u k true (Claim spot) may h = cc
name_of u k true (Gate a) may h = cc

pub look_knows : (u : List ℕ) (p : ℕ) (n : Namespace) (s : PodState) (k : Standing) (h : Handle) → Sound n → Pod u n s →
    Knows u p n s k → (l : Lock p n k h Shared) → Knows u p (and_locked n p h Shared) s (and_held_in k h Shared) →
    Knows u p (and_locked n p h Shared) s (standing_done k (TryLock h Shared))
look_knows u p n s k h sound pod old l knows =
    subst (λ (o : Option Held). Knows u p (and_locked n p h Shared) s (looked_by o (and_held_in k h Shared)))
    (sym l.found) (record {
      linked = knows.linked;
      embryo_under_lock = knows.embryo_under_lock;
      gates = knows.gates;
      owned = knows.owned;
      covered = knows.covered;
      seen_unowned = λ a x. places a (any_parts (λ spot. bytes_eq spot.name u && is_in a spot.area) (own_spot l.held.target)
          k.seen_unowned x);
      seen_unowned_under_claim = λ x. names (any_parts (λ name. bytes_eq name u) (cond l.held.covered (prepared_name l.held.target) [])
          k.seen_unowned_under_claim x);
    })
  where
    same_target : l.held.target ≡ l.opening.target
    same_target = ap (λ (b : Bare). b.target) l.same

    places : (a : Area) → (has_place u a (own_spot l.held.target) ≡ true) ⊎ (has_place u a k.seen_unowned ≡ true) → age_free a ≤ pod_progress s
    places a (inr x) = old.seen_unowned a x
    places a (inl x) =
        let y = spot_of u a l.opening.target (ap (λ (t : Target). has_place u a (own_spot t)) (sym same_target) ∙ x) in
        let z = (pod.named l.opening l.there (own_named u l.opening.target y.0)).1 in
        subst (λ (c : ℕ). c ≤ pod_progress s) (sym (free_like a (area_of l.opening.target) y.1))
        (free_age (area_of l.opening.target) s z (unowned u n s pod (nobody u p n s k h Shared sound pod l y.0)))

    names : (is_name_among u (cond l.held.covered (prepared_name l.held.target) []) ≡ true) ⊎ (is_name_among u k.seen_unowned_under_claim ≡ true) →
        Cleared u (and_locked n p h Shared) s (looked_by (Some l.held) (and_held_in k h Shared))
    names (inr x) = let c = knows.seen_unowned_under_claim x in record { claim = c.claim; remover = c.remover; past = c.past; free = c.free }
    names (inl x) =
        let y = name_of u k l.held.covered l.opening.target l.may
        (ap (λ (t : Target). is_name_among u (cond l.held.covered (prepared_name t) [])) (sym same_target) ∙ x) in
        let c = old.covered l.held l.known (ap (is_own_of u) same_target ∙ y.0.0) y.0.1 in
        let again = knows.covered (held_with_mode h Shared l.held) (map_in (held_with_mode h Shared) l.held k.holdings l.known)
        (held_own (is_handle_held h l.held) (ap (is_own_of u) same_target ∙ y.0.0))
        (held_cover (is_handle_held h l.held) y.0.1) in
        record {
          claim = again.1;
          remover = y.1;
          past = subst (λ (x : PodState). 4 ≤ pod_progress x) (sym c.0) (omega arith);
          free = λ e. (lock_shared u p n s k h sound pod old l y.0.0).mine y.1 c.0
              (nobody u p n s k h Shared sound pod l y.0.0);
        }
      where
        held_own : (b : Bool) → is_own_of u l.held.target ≡ true →
            is_own_of u (cond b (record {
              handle = l.held.handle;
              target = l.held.target;
              lock = Some Shared;
              covered =
                  l.held.covered;
            }) l.held).target ≡ true
        held_own true x = x
        held_own false x = x

        held_cover : (b : Bool) → l.held.covered ≡ true →
            (cond b (record {
              handle = l.held.handle;
              target = l.held.target;
              lock = Some Shared;
              covered =
                  l.held.covered;
            }) l.held).covered ≡ true
        held_cover true x = x
        held_cover false x = x
