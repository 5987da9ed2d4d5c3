-- A lock is had.
use Rattle.std.proofs.Common.{arith, ◌≡◌, ◌⊎◌, inl, inr, ◌≤◌, ℕ, Bool, true, false, not, ◌&&◌, ◌==◌, cond, Option, Some, None, is_some, List, map, refl, sym, ap, subst, ◌∙◌}
use Rattle.std.specs.List.{list_any}
use Rattle.std.proofs.lemmas.Bool.{and_parts}
use Rattle.plain_laws.proofs.Booleans.{clash}
use Rattle.dir_model.specs.declared.area.Area.{Area}
use Rattle.dir_model.specs.declared.area.Area.TheVariants as area
use Rattle.dir_model.specs.declared.spot.Handle.{Handle}
use Rattle.dir_model.specs.declared.spot.Mode.{Mode}
use Rattle.dir_model.specs.declared.opening.Opening.{Opening}
use Rattle.dir_model.specs.Locks.{is_handle, is_exclusive}
use Rattle.dir_model.specs.State.{Namespace}
use Rattle.dir_model.specs.Trace.{locked}
use Rattle.dir_model.specs.Replies.{is_locked}
use Rattle.dir_rules.specs.LockRules.{is_alone, may_lock_by, may_lock_target}
use Rattle.dir_rules.specs.Standing.{area_of, began_as, draws, find_held, held_with_mode, holds_claim, holds_own, is_claim_of, is_gate_of, is_handle_held, is_remover, is_shared}
use Rattle.dir_model.specs.Local.{is_own_of}
use Rattle.lifecycle.specs.declared.machine.PodState.{PodState}
use Rattle.lifecycle.specs.declared.machine.PodState.TheVariants.{Embryo, Prepared}
use Rattle.lifecycle.specs.PodMachine.{find_opening, is_exclusive_own, is_owner, is_area_of_state, pod_progress, age_in, age_free}
use Rattle.dir_rules.specs.declared.standing.Held.{Held}
use Rattle.dir_rules.specs.declared.standing.Standing.{Standing}
use Rattle.lifecycle.proofs.Lists.{In, in_map, map_in, any_in, in_any, find_in, in_find}
use Rattle.lifecycle.proofs.Handles.{Sound, handle_meet, Was, locked_in, Unopposed, unopposed}
use Rattle.lifecycle.proofs.Linked.{Bare, bare, own, mine, Linked, held_open}
use Rattle.lifecycle.proofs.Invariant.{is_named, may_own, Pod, Ungripped, Knows, some_exclusive, some_shared, claim_of, gate_of, others}
use Rattle.lifecycle.proofs.Closes.{held_once}
use Rattle.dir_model.proofs.Lists.{and_both, not_true, same_self}

abbrev pub and_locked : Namespace → ℕ → Handle → Mode → Namespace
and_locked n p h m = record n { openings = map (locked p h m) n.openings }

abbrev pub and_held_in : Standing → Handle → Mode → Standing
and_held_in k h m = record k { holdings = map (held_with_mode h m) k.holdings }

-- the handle by which the lock was had
pub record Lock (p : ℕ) (n : Namespace) (k : Standing) (h : Handle) (m : Mode) : Type 0 where
  pub held : Held
  pub opening : Opening
  pub found : find_held h k ≡ Some held
  pub known : In held k.holdings
  pub number : is_handle_held h held ≡ true
  pub there : In opening n.openings
  pub process : opening.process ≡ p
  pub mine : is_handle p h opening ≡ true
  pub same : bare held ≡ own opening
  pub bare_free : is_some held.lock ≡ false
  pub free : is_some opening.lock ≡ false
  pub may : may_lock_target k held.covered opening.target m ≡ true
  pub alone : Unopposed n p h m

pub lock_of : (p : ℕ) (n : Namespace) (k : Standing) (h : Handle) (m : Mode) → Sound n → Linked p n k →
    is_locked n p h m ≡ false → may_lock_by k (find_held h k) m ≡ true → Lock p n k h m
lock_of p n k h m sound linked free may = by (find_held h k) refl may
  where
    by : (o : Option Held) → find_held h k ≡ o → may_lock_by k o m ≡ true → Lock p n k h m
    by (Some y) e may =
        let f = find_in (is_handle_held h) y k.holdings e in
        let o = held_open p n k y linked f.0 in
        let x = and_parts (not (is_some y.lock)) (is_alone y k.holdings && may_lock_target k y.covered y.target m) may in
        record {
          held = y;
          opening = o.0;
          found = e;
          known = f.0;
          number = f.1;
          there = o.1.0;
          process = o.1.1.0;
          mine = and_both (o.0.process == p) (o.0.handle.number == h.number) (ap (λ q. q == p) o.1.1.0 ∙ same_self p)
              (ap (λ (b : Bare). b.handle.number == h.number) (sym o.1.1.1) ∙ f.1);
          same = o.1.1.1;
          bare_free = not_true (is_some y.lock) x.0;
          free = ap (λ (b : Bare). is_some b.lock) (sym o.1.1.1) ∙ not_true (is_some y.lock) x.0;
          may = ap (λ (b : Bare). may_lock_target k y.covered b.target m) (sym o.1.1.1)
              ∙ (and_parts (is_alone y k.holdings) (may_lock_target k y.covered y.target m) x.1).1;
          alone = unopposed n p h m sound free;
        }
    by None e may = cc

pub look_is : (p : ℕ) (n : Namespace) (h : Handle) (o : Opening) → Sound n → In o n.openings → is_handle p h o ≡ true →
    find_opening n p h ≡ Some o
look_is p n h o sound i is =
    let f = in_find (is_handle p h) o n.openings i is in
    let g = find_in (is_handle p h) f.0 n.openings f.1 in
    f.1 ∙ ap Some (sound.unique f.0 o g.0 i (handle_meet p h f.0 o g.1 is))

-- what it held it goes on to hold
pub kept_lock : (p : ℕ) (n : Namespace) (k : Standing) (h : Handle) (m : Mode) (r : Bare → Bool) → Sound n →
    Linked p n k → Lock p n k h m → ((b : Bare) → r b ≡ true → is_some b.lock ≡ true) →
    list_any (λ x. r (bare x)) k.holdings ≡ true → list_any (λ x. r (bare x)) (and_held_in k h m).holdings ≡ true
kept_lock p n k h m r sound linked lock some any =
    let e = any_in (λ x. r (bare x)) k.holdings any in
    by e.0 e.1.0 e.1.1 (is_handle_held h e.0) refl
  where
    by : (x : Held) → In x k.holdings → r (bare x) ≡ true → (b : Bool) → is_handle_held h x ≡ b →
        list_any (λ x. r (bare x)) (and_held_in k h m).holdings ≡ true
    by x i t true e = clash (is_some lock.held.lock) (ap (λ (b : Bare). is_some b.lock)
        (held_once p n k h lock.held x sound linked lock.known i lock.number e) ∙ some (bare x) t) lock.bare_free
    by x i t false e = in_any (λ x. r (bare x)) (held_with_mode h m x) (map (held_with_mode h m) k.holdings)
        (map_in (held_with_mode h m) x k.holdings i)
        (ap (λ b. r (bare (cond b (record { handle = x.handle; target = x.target; lock = Some m; covered = x.covered })
        x))) e ∙ t)

claim_some : (u : List ℕ) (b : Bare) → claim_of u b ≡ true → is_some b.lock ≡ true
claim_some u b h = some_exclusive b.lock (and_parts (is_claim_of u b.target) (is_exclusive b.lock) h).1

gate_some : (b : Bare) → gate_of b ≡ true → is_some b.lock ≡ true
gate_some b h = some_shared b.lock (and_parts (is_gate_of area.Embryo b.target) (is_shared b.lock) h).1

-- what a lock does
pub record Locking (u : List ℕ) (p : ℕ) (n : Namespace) (s t : PodState) (k : Standing) (h : Handle) (m : Mode) : Type 0 where
  pub place : (a : Area) → is_area_of_state a t ≡ is_area_of_state a s
  pub aged : pod_progress s ≤ pod_progress t
  pub embryo : (q : ℕ) → s ≡ Embryo q → t ≡ Embryo q
  pub embryo_back : (q : ℕ) → t ≡ Embryo q → s ≡ Embryo q
  pub prepared : s ≡ Prepared → t ≡ Prepared
  pub prepared_back : t ≡ Prepared → s ≡ Prepared
  pub owns : (o : Opening) → In o (and_locked n p h m).openings → is_exclusive_own u o ≡ true →
      may_own t o.process (area_of o.target) ≡ true
  pub held : (q : ℕ) → is_owner q t ≡ true → (o : Opening) ×
      (In o (and_locked n p h m).openings × ((is_exclusive_own u o ≡ true) × (o.process ≡ q)))
  pub owned : s ≡ Embryo p → holds_own u (and_held_in k h m) ≡ true → (k.embryo_under_lock ≡ true) × (draws u k ≡ true)
  pub mine : began_as is_remover k ≡ true → s ≡ Prepared → Ungripped u n → Ungripped u (and_locked n p h m)
  pub other : (q : ℕ) (l : Standing) → (p == q) ≡ false → Linked q n l → holds_claim u l ≡ true → s ≡ Prepared →
      Ungripped u n → Ungripped u (and_locked n p h m)

pub lock_pod : (u : List ℕ) (n : Namespace) (s t : PodState) (p : ℕ) (k : Standing) (h : Handle) (m : Mode) →
    Pod u n s → Locking u p n s t k h m → Pod u (and_locked n p h m) t
lock_pod u n s t p k h m pod l = record {
  number = pod.number;
  at = λ here is. pod.at here is ∙ ap (λ b. cond b (Some pod.number) None) (sym (l.place here.area));
  named = λ o i is. one o (locked_in p h m n.openings o i) is;
  owns = l.owns;
  held = l.held;
}
  where
    after : (c : ℕ) → c ≤ pod_progress s → c ≤ pod_progress t
    after c x = let g : pod_progress s ≤ pod_progress t = l.aged in omega (arith, x, g)

    one : (o : Opening) → Was p h m n.openings o → is_named u o.target ≡ true →
        (o.folder ≡ Some pod.number) × (age_in (area_of o.target) ≤ pod_progress t)
    one o (a, (i, (inl e))) is =
        let x = pod.named a i (subst (λ (z : Opening). is_named u z.target ≡ true) e.1 is) in
        subst (λ (z : Opening). (z.folder ≡ Some pod.number) × (age_in (area_of z.target) ≤ pod_progress t)) (sym e.1)
        (x.0, after (age_in (area_of a.target)) x.1)
    one o (a, (i, (inr e))) is =
        let x = pod.named a i (subst (λ (z : Opening). is_named u z.target ≡ true) e.1 is) in
        subst (λ (z : Opening). (z.folder ≡ Some pod.number) × (age_in (area_of z.target) ≤ pod_progress t)) (sym e.1)
        (x.0, after (age_in (area_of a.target)) x.1)

pub lock_others : (u : List ℕ) (n : Namespace) (s t : PodState) (p q : ℕ) (k l : Standing) (h : Handle) (m : Mode) →
    (p == q) ≡ false → mine q (and_locked n p h m).openings ≡ mine q n.openings → Locking u p n s t k h m →
    Knows u q n s l → Knows u q (and_locked n p h m) t l
lock_others u n s t p q k l h m off same x knows =
    others u q n (and_locked n p h m) s t l same x.aged (λ g d e. x.embryo q e) (λ e. x.embryo_back q e)
    (λ c e. x.prepared e) (λ past c r e. (x.prepared_back e, x.other q l off knows.linked c (x.prepared_back e))) knows

-- a holding after the lock, and what it was
abbrev pub Had : Handle → Mode → List Held → Held → Type 0
Had h m hs g = (x : Held) × (In x hs ×
    (((is_handle_held h x ≡ true) × (g ≡ record {
      handle = x.handle;
      target = x.target;
      lock = Some m;
      covered =
          x.covered;
    })) ⊎ ((is_handle_held h x ≡ false) × (g ≡ x))))

pub had_in : (h : Handle) (m : Mode) (hs : List Held) (g : Held) → In g (map (held_with_mode h m) hs) → Had h m hs g
had_in h m hs g i = let e = in_map (held_with_mode h m) hs g i in (e.0, (e.1.0, by e.0 e.1.1 (is_handle_held h e.0) refl))
  where
    by : (x : Held) → g ≡ held_with_mode h m x → (b : Bool) → is_handle_held h x ≡ b →
        ((is_handle_held h x ≡ true) × (g ≡ record {
          handle = x.handle;
          target = x.target;
          lock = Some m;
          covered =
              x.covered;
        })) ⊎ ((is_handle_held h x ≡ false) × (g ≡ x))
    by x e true f = inl (
      f,
      e ∙ ap
          (λ b. cond b (record { handle = x.handle; target = x.target; lock = Some m; covered = x.covered }) x) f,
    )
    by x e false f = inr (
      f,
      e ∙ ap
          (λ b. cond b (record { handle = x.handle; target = x.target; lock = Some m; covered = x.covered }) x) f,
    )

pub lock_knows : (u : List ℕ) (n : Namespace) (s t : PodState) (p : ℕ) (k : Standing) (h : Handle) (m : Mode) →
    Sound n → Lock p n k h m → Linked p (and_locked n p h m) (and_held_in k h m) → Locking u p n s t k h m →
    Knows u p n s k → Knows u p (and_locked n p h m) t (and_held_in k h m)
lock_knows u n s t p k h m sound lock linked x knows = record {
  linked = linked;
  embryo_under_lock = λ g d. x.embryo p (knows.embryo_under_lock g d);
  gates = λ g. kept_lock p n k h m gate_of sound knows.linked lock gate_some (knows.gates g);
  owned = λ e o. x.owned (x.embryo_back p e) o;
  covered = λ g i o c. cover g (had_in h m k.holdings g i) o c;
  seen_unowned = λ a y. let l : age_free a ≤ pod_progress s = knows.seen_unowned a y in let g : pod_progress s ≤ pod_progress t = x.aged in omega (arith, l, g);
  seen_unowned_under_claim = λ y. let c = knows.seen_unowned_under_claim y in let l : 4 ≤ pod_progress s =
      c.past in let g : pod_progress s ≤ pod_progress t = x.aged in record {
        claim = claims c.claim;
        remover = c.remover;
        past =
            omega (arith, l, g);
        free = λ e. x.mine c.remover (x.prepared_back e) (c.free (x.prepared_back e));
      };
}
  where
    claims : holds_claim u k ≡ true → holds_claim u (and_held_in k h m) ≡ true
    claims c = kept_lock p n k h m (claim_of u) sound knows.linked lock (claim_some u) c

    cover : (g : Held) → Had h m k.holdings g → is_own_of u g.target ≡ true → g.covered ≡ true →
        (t ≡ Prepared) × (holds_claim u (and_held_in k h m) ≡ true)
    cover g (y, (i, (inl e))) o c =
        let z = knows.covered y i (subst (λ (w : Held). is_own_of u w.target ≡ true) e.1 o)
        (subst (λ (w : Held). w.covered ≡ true) e.1 c) in
        (x.prepared z.0, claims z.1)
    cover g (y, (i, (inr e))) o c =
        let z = knows.covered y i (subst (λ (w : Held). is_own_of u w.target ≡ true) e.1 o)
        (subst (λ (w : Held). w.covered ≡ true) e.1 c) in
        (x.prepared z.0, claims z.1)
