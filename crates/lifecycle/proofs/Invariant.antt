-- The invariant: how a pod's state, the namespace, and what each process knows go together.
use Rattle.std.proofs.Common.{arith, ◌≡◌, ◌⊎◌, ◌≤◌, ℕ, Bool, true, false, ◌&&◌, ◌==◌, cond, Option, Some, None, is_some, List, refl, sym, ap, ◌∙◌}
use Rattle.std.specs.List.{list_any}
use Rattle.std.proofs.lemmas.Bool.{and_parts}
use Rattle.plain_laws.proofs.Numbers.{ranks_meet}
use Rattle.dir_model.specs.declared.area.Area.{Area}
use Rattle.dir_model.specs.declared.area.Area.TheVariants as area
use Rattle.dir_model.specs.declared.spot.Spot.{Spot}
use Rattle.dir_model.specs.declared.spot.Mode.{Mode}
use Rattle.dir_model.specs.declared.spot.Mode.TheVariants.{Shared, Exclusive}
use Rattle.dir_model.specs.declared.opening.Opening.{Opening}
use Rattle.dir_model.specs.declared.opening.Target.{Target}
use Rattle.dir_model.specs.declared.opening.Target.TheVariants.{Own, Claim, Gate}
use Rattle.dir_model.specs.Areas.{rank}
use Rattle.dir_model.specs.Locks.{is_exclusive, is_one_lock, is_same_folder}
use Rattle.dir_model.specs.State.{Namespace, folder_at, lives}
use Rattle.dir_rules.specs.Standing.{area_of, began_as, excludes_area, draws, is_name_among, has_place, holds_claim, shares_area, holds_own, is_claim_of, is_garbage, is_gate_of, is_spot_of_pod, is_remover, is_shared}
use Rattle.dir_model.specs.Local.{is_own_of}
use Rattle.lifecycle.specs.declared.machine.PodState.{PodState}
use Rattle.lifecycle.specs.declared.machine.PodState.TheVariants.{Absent, Embryo, Preparing, AbortedPrepare, Prepared, Running, Exited, ExitedGarbage, Garbage, Deleting, Gone}
use Rattle.lifecycle.specs.PodMachine.{is_exclusive_own, is_owner, is_area_of_state, pod_progress, age_in, age_free}
use Rattle.dir_rules.specs.declared.standing.Held.{Held}
use Rattle.dir_rules.specs.declared.standing.Standing.{Standing}
use Rattle.lifecycle.proofs.Lists.{In, any_in, in_any, no_less}
use Rattle.lifecycle.proofs.Handles.{Sound}
use Rattle.lifecycle.proofs.Linked.{Bare, bare, own, mine, Linked, held_open, open_held}
use Rattle.dir_model.proofs.Lists.{same_self}

-- a place of the pod
abbrev pub is_named : List ℕ → Target → Bool
is_named u (Own spot) = is_spot_of_pod u spot
is_named u (Claim spot) = is_spot_of_pod u spot
is_named u (Gate area) = false

-- who may hold Own exclusively, by a handle opened there
abbrev pub may_own : PodState → ℕ → Area → Bool
may_own (Embryo maker) p a = p == maker
may_own (Preparing owner) p a = p == owner
may_own Prepared p a = true
may_own (Running owner) p a = p == owner
may_own (Deleting owner from) p a = (p == owner) && is_garbage a
may_own Gone p a = true
may_own s p a = false

-- the pod in the namespace
pub record Pod (u : List ℕ) (n : Namespace) (s : PodState) : Type 0 where
  -- its folder
  pub number : ℕ
  pub at : (spot : Spot) → is_spot_of_pod u spot ≡ true → folder_at n spot ≡ cond (is_area_of_state spot.area s) (Some number) None
  -- a handle that was opened on it stands for its folder, and tells how far along it is
  pub named : (o : Opening) → In o n.openings → is_named u o.target ≡ true →
      (o.folder ≡ Some number) × (age_in (area_of o.target) ≤ pod_progress s)
  -- who holds Own exclusively is its owner, where the state has owners
  pub owns : (o : Opening) → In o n.openings → is_exclusive_own u o ≡ true → may_own s o.process (area_of o.target) ≡ true
  -- the owner holds it
  pub held : (p : ℕ) → is_owner p s ≡ true → (o : Opening) × (In o n.openings × ((is_exclusive_own u o ≡ true) × (o.process ≡ p)))

abbrev pub Ungripped : List ℕ → Namespace → Type 0
Ungripped u n = (o : Opening) → In o n.openings → is_exclusive_own u o ≡ false

-- who had Own of a prepared pod shared under Claim
pub record Cleared (u : List ℕ) (n : Namespace) (s : PodState) (k : Standing) : Type 0 where
  pub claim : holds_claim u k ≡ true
  pub remover : began_as is_remover k ≡ true
  pub past : 4 ≤ pod_progress s
  pub free : s ≡ Prepared → Ungripped u n

-- what a living process knows, and the namespace
pub record Knows (u : List ℕ) (p : ℕ) (n : Namespace) (s : PodState) (k : Standing) : Type 0 where
  pub linked : Linked p n k
  -- the maker that has held the gate since before finds its pod in embryo
  pub embryo_under_lock : k.embryo_under_lock ≡ true → draws u k ≡ true → s ≡ Embryo p
  pub gates : k.embryo_under_lock ≡ true → shares_area area.Embryo k ≡ true
  -- Own held in embryo goes with the gate held
  pub owned : s ≡ Embryo p → holds_own u k ≡ true → (k.embryo_under_lock ≡ true) × (draws u k ≡ true)
  -- who has held Claim since before its open of prepared finds the pod there until it moves it
  pub covered : (h : Held) → In h k.holdings → is_own_of u h.target ≡ true → h.covered ≡ true →
      (s ≡ Prepared) × (holds_claim u k ≡ true)
  -- where Own could be had shared, there was no owner, and there is none
  pub seen_unowned : (a : Area) → has_place u a k.seen_unowned ≡ true → age_free a ≤ pod_progress s
  pub seen_unowned_under_claim : is_name_among u k.seen_unowned_under_claim ≡ true → Cleared u n s k

pub record Invariant (u : List ℕ) (n : Namespace) (s : PodState) (σ : ℕ → Standing) : Type 0 where
  pub sound : Sound n
  pub pod : Pod u n s
  pub knows : (p : ℕ) → lives n p ≡ true → Knows u p n s (σ p)
  pub maker : (s ≡ Absent) ⊎ ((p : ℕ) × ((draws u (σ p) ≡ true) × ((σ p).made ≡ true)))

-- small facts
pub own_named : (u : List ℕ) (t : Target) → is_own_of u t ≡ true → is_named u t ≡ true
own_named u (Own spot) h = h
own_named u (Claim spot) h = cc
own_named u (Gate a) h = cc

pub claim_named : (u : List ℕ) (t : Target) → is_claim_of u t ≡ true → is_named u t ≡ true
claim_named u (Claim spot) h = h
claim_named u (Own spot) h = cc
claim_named u (Gate a) h = cc

pub some_exclusive : (l : Option Mode) → is_exclusive l ≡ true → is_some l ≡ true
some_exclusive (Some m) h = refl
some_exclusive None h = cc

pub some_shared : (l : Option Mode) → is_shared l ≡ true → is_some l ≡ true
some_shared (Some m) h = refl
some_shared None h = cc

pub shared_or_not : {X : Type 0} (l : Option Mode) → is_shared l ≡ true → is_exclusive l ≡ true → X
shared_or_not (Some Shared) h k = cc
shared_or_not (Some Exclusive) h k = cc
shared_or_not None h k = cc

same_folder : (f g : Option ℕ) (number : ℕ) → f ≡ Some number → g ≡ Some number → is_same_folder f g ≡ true
same_folder f g number e h = rw (e, h) (same_self number)

pub own_lock : (u : List ℕ) (a b : Target) (f g : Option ℕ) (number : ℕ) → is_own_of u a ≡ true → is_own_of u b ≡ true →
    f ≡ Some number → g ≡ Some number → is_one_lock a f b g ≡ true
own_lock u (Own s) (Own t) f g number h k e i = same_folder f g number e i
own_lock u (Claim s) b f g number h k e i = cc
own_lock u (Gate a) b f g number h k e i = cc
own_lock u (Own s) (Claim t) f g number h k e i = cc
own_lock u (Own s) (Gate b) f g number h k e i = cc

claim_lock : (u : List ℕ) (a b : Target) (f g : Option ℕ) (number : ℕ) → is_claim_of u a ≡ true →
    is_claim_of u b ≡ true → f ≡ Some number → g ≡ Some number → is_one_lock a f b g ≡ true
claim_lock u (Claim s) (Claim t) f g number h k e i = same_folder f g number e i
claim_lock u (Own s) b f g number h k e i = cc
claim_lock u (Gate a) b f g number h k e i = cc
claim_lock u (Claim s) (Own t) f g number h k e i = cc
claim_lock u (Claim s) (Gate b) f g number h k e i = cc

pub gate_lock : (here : Area) (a b : Target) (f g : Option ℕ) → is_gate_of here a ≡ true → is_gate_of here b ≡ true →
    is_one_lock a f b g ≡ true
gate_lock here (Gate a) (Gate b) f g h k = ranks_meet (rank here) (rank a) (rank b) h k
gate_lock here (Own s) b f g h k = cc
gate_lock here (Claim s) b f g h k = cc
gate_lock here (Gate a) (Own s) f g h k = cc
gate_lock here (Gate a) (Claim s) f g h k = cc

-- two that hold Own exclusively are one
pub one_grip : (u : List ℕ) (n : Namespace) (s : PodState) → Sound n → Pod u n s → (a b : Opening) → In a n.openings →
    In b n.openings → is_exclusive_own u a ≡ true → is_exclusive_own u b ≡ true → a ≡ b
one_grip u n s sound pod a b i j g h =
    let x = and_parts (is_own_of u a.target) (is_exclusive a.lock) g in
    let y = and_parts (is_own_of u b.target) (is_exclusive b.lock) h in
    sound.alone a b i j (own_lock u a.target b.target a.folder b.folder pod.number x.0 y.0
    (pod.named a i (own_named u a.target x.0)).0 (pod.named b j (own_named u b.target y.0)).0) x.1
    (some_exclusive b.lock y.1)

abbrev pub is_claim : List ℕ → Opening → Bool
is_claim u o = is_claim_of u o.target && is_exclusive o.lock

pub one_claim : (u : List ℕ) (n : Namespace) (s : PodState) → Sound n → Pod u n s → (a b : Opening) → In a n.openings →
    In b n.openings → is_claim u a ≡ true → is_claim u b ≡ true → a ≡ b
one_claim u n s sound pod a b i j g h =
    let x = and_parts (is_claim_of u a.target) (is_exclusive a.lock) g in
    let y = and_parts (is_claim_of u b.target) (is_exclusive b.lock) h in
    sound.alone a b i j (claim_lock u a.target b.target a.folder b.folder pod.number x.0 y.0
    (pod.named a i (claim_named u a.target x.0)).0 (pod.named b j (claim_named u b.target y.0)).0) x.1
    (some_exclusive b.lock y.1)

-- what a process holds by what it knows is held
pub holding : (p : ℕ) (n : Namespace) (k : Standing) (r : Bare → Bool) → Linked p n k →
    list_any (λ h. r (bare h)) k.holdings ≡ true →
    (o : Opening) × (In o n.openings × ((o.process ≡ p) × (r (own o) ≡ true)))
holding p n k r linked h =
    let e = any_in (λ h. r (bare h)) k.holdings h in
    let o = held_open p n k e.0 linked e.1.0 in
    (o.0, (o.1.0, (o.1.1.0, ap r (sym o.1.1.1) ∙ e.1.1)))

pub held_by : (p : ℕ) (n : Namespace) (k : Standing) (r : Bare → Bool) → Linked p n k → (o : Opening) →
    In o n.openings → o.process ≡ p → r (own o) ≡ true → list_any (λ h. r (bare h)) k.holdings ≡ true
held_by p n k r linked o i is h =
    let e = open_held p n k o linked i is in
    in_any (λ h. r (bare h)) e.0 k.holdings e.1.0 (ap r e.1.1 ∙ h)

abbrev pub grip_of : List ℕ → Bare → Bool
grip_of u b = is_own_of u b.target && is_exclusive b.lock

abbrev pub claim_of : List ℕ → Bare → Bool
claim_of u b = is_claim_of u b.target && is_exclusive b.lock

abbrev pub gate_of : Bare → Bool
gate_of b = is_gate_of area.Embryo b.target && is_shared b.lock

abbrev pub gate_for : Bare → Bool
gate_for b = is_gate_of area.Embryo b.target && is_exclusive b.lock

-- two processes don't both hold Claim
pub claims_meet : (u : List ℕ) (n : Namespace) (s : PodState) (p q : ℕ) (k l : Standing) → Sound n → Pod u n s →
    Linked p n k → Linked q n l → holds_claim u k ≡ true → holds_claim u l ≡ true → p ≡ q
claims_meet u n s p q k l sound pod lk ll h j =
    let a = holding p n k (claim_of u) lk h in
    let b = holding q n l (claim_of u) ll j in
    sym a.1.1.0 ∙ (ap (λ (o : Opening). o.process) (one_claim u n s sound pod a.0 b.0 a.1.0 b.1.0 a.1.1.1 b.1.1.1) ∙ b.1.1.0)

-- nobody holds the gate shared while another holds it exclusively
pub gates_meet : {X : Type 0} (n : Namespace) (p q : ℕ) (k l : Standing) → Sound n → Linked p n k → Linked q n l →
    excludes_area area.Embryo k ≡ true → shares_area area.Embryo l ≡ true → X
gates_meet n p q k l sound lk ll h j =
    let a = holding p n k gate_for lk h in
    let b = holding q n l gate_of ll j in
    let x = and_parts (is_gate_of area.Embryo a.0.target) (is_exclusive a.0.lock) a.1.1.1 in
    let y = and_parts (is_gate_of area.Embryo b.0.target) (is_shared b.0.lock) b.1.1.1 in
    let same : a.0 ≡ b.0 = sound.alone a.0 b.0 a.1.0 b.1.0 (gate_lock area.Embryo a.0.target b.0.target a.0.folder
    b.0.folder x.0 y.0) x.1 (some_shared b.0.lock y.1) in
    shared_or_not b.0.lock y.1 (ap (λ (o : Opening). is_exclusive o.lock) (sym same) ∙ x.1)

-- a pod found in an area is that far along at least
pub placed_age : (a : Area) (s : PodState) → is_area_of_state a s ≡ true → age_in a ≤ pod_progress s
placed_age area.Embryo (Embryo m) h = omega arith
placed_age area.Prepare (Preparing o) h = omega arith
placed_age area.Prepare AbortedPrepare h = omega arith
placed_age area.Prepared Prepared h = omega arith
placed_age area.Run (Running o) h = omega arith
placed_age area.Run Exited h = omega arith
placed_age area.ExitedGarbage ExitedGarbage h = omega arith
placed_age area.Garbage Garbage h = omega arith
placed_age area.ExitedGarbage (Deleting o area.ExitedGarbage) h = omega arith
placed_age area.Garbage (Deleting o area.ExitedGarbage) h = cc
placed_age area.Garbage (Deleting o f) h = omega arith
placed_age a s h = cc

-- what goes on for the other processes
pub others : (u : List ℕ) (q : ℕ) (n m : Namespace) (s t : PodState) (k : Standing) →
    mine q m.openings ≡ mine q n.openings → pod_progress s ≤ pod_progress t
    → (k.embryo_under_lock ≡ true → draws u k ≡ true → s ≡ Embryo q → t ≡ Embryo q) → (t ≡ Embryo q → s ≡ Embryo q)
    → (holds_claim u k ≡ true → s ≡ Prepared → t ≡ Prepared)
    → (4 ≤ pod_progress s → holds_claim u k ≡ true → began_as is_remover k ≡ true → t ≡ Prepared →
    (s ≡ Prepared) × (Ungripped u n → Ungripped u m))
    → Knows u q n s k → Knows u q m t k
others u q n m s t k same aged embryo back prepared free knows = record {
  linked = knows.linked ∙ sym same;
  embryo_under_lock = λ g d. embryo g d (knows.embryo_under_lock g d);
  gates = knows.gates;
  owned = λ e h. knows.owned (back e) h;
  covered = λ h i o c. let x = knows.covered h i o c in (prepared x.1 x.0, x.1);
  seen_unowned = λ a h. let l : age_free a ≤ pod_progress s = knows.seen_unowned a h in omega (arith, l, aged);
  seen_unowned_under_claim = λ h. let c = knows.seen_unowned_under_claim h in let l : 4 ≤ pod_progress s =
      c.past in record {
        claim = c.claim;
        remover = c.remover;
        past = omega (arith, l, aged);
        free = λ e. let f =
            free c.past c.claim c.remover e in f.1 (c.free f.0);
      };
}

-- where the state stays, only a new exclusive holder matters to them
pub others_still : (u : List ℕ) (q : ℕ) (n m : Namespace) (s : PodState) (k : Standing) → mine q m.openings ≡ mine q n.openings
    → (holds_claim u k ≡ true → began_as is_remover k ≡ true → s ≡ Prepared → Ungripped u n → Ungripped u m)
    → Knows u q n s k → Knows u q m s k
others_still u q n m s k same free knows =
    others u q n m s s k same (no_less (pod_progress s)) (λ g d e. e) (λ e. e) (λ c e. e) (λ l c r e. (e, free c r e)) knows
