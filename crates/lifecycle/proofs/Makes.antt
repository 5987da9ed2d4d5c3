-- A folder is made.
use Rattle.std.proofs.Common.{arith, ◌≡◌, ◌≤◌, ℕ, Bool, true, false, not, ◌&&◌, ◌==◌, cond, bytes_eq, Option, Some, None, List, [], ◌∷◌, ◌++◌, length, refl, sym, ap, ◌∙◌}
use Rattle.dir_model.specs.declared.area.Area.{Area}
use Rattle.dir_model.specs.declared.area.Area.TheVariants as area
use Rattle.dir_model.specs.declared.spot.Spot.{Spot}
use Rattle.dir_model.specs.declared.opening.Opening.{Opening}
use Rattle.dir_model.specs.declared.opening.Target.{Target}
use Rattle.dir_model.specs.declared.opening.Target.TheVariants.{Own, Claim, Gate}
use Rattle.dir_model.specs.declared.request.Request.TheVariants.{MakeFolder}
use Rattle.dir_model.specs.Areas.{rank, is_stage}
use Rattle.dir_model.specs.Locks.{is_exclusive}
use Rattle.dir_model.specs.State.{spot_eq, Namespace, folder_at, stands}
use Rattle.dir_rules.specs.Standing.{area_of, began_as, draws, draws_by, shares_area, is_in, is_maker, is_spot_of_pod, standing_done}
use Rattle.dir_model.specs.Local.{is_own_of}
use Rattle.dir_rules.specs.LockRules.{lock_rules_allow, may_make}
use Rattle.dir_model.specs.Pods.{pod_text}
use Rattle.lifecycle.specs.declared.machine.PodState.{PodState}
use Rattle.lifecycle.specs.declared.machine.PodState.TheVariants.{Absent, Embryo}
use Rattle.lifecycle.specs.PodMachine.{is_area_of_state, age_in, age_free}
use Rattle.dir_rules.specs.declared.standing.Standing.{Standing}
use Rattle.lifecycle.proofs.Lists.{In}
use Rattle.lifecycle.proofs.Invariant.{is_named, Pod, Knows, own_named, others}
use Rattle.std.specs.Prelude.{nat_le}
use Rattle.std.proofs.lemmas.Bool.{and_parts}
use Rattle.plain_laws.proofs.Booleans.{clash}
use Rattle.plain_laws.proofs.Texts.{same_text}
use Rattle.lifecycle.proofs.Places.{same_name, area_same, spot_name, with_folders, made_there, made_elsewhere, none_stands}
use Rattle.dir_model.specs.declared.intent.Intent.{Intent}
use Rattle.dir_model.proofs.Lists.{and_both, not_true, same_self, same_number}

-- equal locations are places of the same pod
pub of_same : (u : List ℕ) (a b : Spot) → spot_eq a b ≡ true → is_spot_of_pod u a ≡ is_spot_of_pod u b
of_same u a b h = ap (λ r. nat_le r 5 && bytes_eq a.name u) (area_same a b h)
    ∙ ap (λ (v : List ℕ). is_stage b.area && bytes_eq v u) (spot_name a b h)

pub of_name : (u : List ℕ) (a : Spot) → is_spot_of_pod u a ≡ true → a.name ≡ u
of_name u a h = same_text a.name u (and_parts (is_stage a.area) (bytes_eq a.name u) h).1

pub draws_meet : (u v : List ℕ) (o : Option Intent) → draws_by u o ≡ true → draws_by v o ≡ true → u ≡ v
draws_meet u v (Some i) h k = sym (same_text (pod_text i.draw.bytes) u h) ∙ same_text (pod_text i.draw.bytes) v k
draws_meet u v None h k = cc

embryo_place : (a : Area) (p : ℕ) → is_in area.Embryo a ≡ true → is_area_of_state a (Embryo p) ≡ true
embryo_place area.Embryo p h = refl
embryo_place a p h = cc

place_embryo : (a : Area) (p : ℕ) → is_area_of_state a (Embryo p) ≡ true → is_in area.Embryo a ≡ true
place_embryo area.Embryo p h = refl
place_embryo a p h = cc

pub absent_place : (a : Area) → is_area_of_state a Absent ≡ false
absent_place area.Embryo = refl
absent_place a = refl

pub pod_age : (a : Area) → is_stage a ≡ true → 1 ≤ age_in a
pod_age area.Embryo h = omega arith
pod_age area.Prepare h = omega arith
pod_age area.Prepared h = omega arith
pod_age area.Run h = omega arith
pod_age area.ExitedGarbage h = omega arith
pod_age area.Garbage h = omega arith
pod_age a h = cc

pub named_pod : (u : List ℕ) (t : Target) → is_named u t ≡ true → is_stage (area_of t) ≡ true
named_pod u (Own spot) h = (and_parts (is_stage spot.area) (bytes_eq spot.name u) h).0
named_pod u (Claim spot) h = (and_parts (is_stage spot.area) (bytes_eq spot.name u) h).0
named_pod u (Gate a) h = cc

-- before it is made no handle was opened on it
pub unnamed : {X : Type 0} (u : List ℕ) (n : Namespace) → Pod u n Absent → (o : Opening) → In o n.openings →
    is_named u o.target ≡ true → X
unnamed u n pod o i h =
    let l : age_in (area_of o.target) ≤ 0 = (pod.named o i h).1 in
    let g : 1 ≤ age_in (area_of o.target) = pod_age (area_of o.target) (named_pod u o.target h) in
    absurd (omega (arith, l, g))

abbrev pub and_folder : Namespace → Spot → Namespace
and_folder n spot = record n { folders = n.folders ++ Some spot ∷ [] }

-- which part of the rule on a make is used
pub record Made (u : List ℕ) (k : Standing) (spot : Spot) : Type 0 where
  pub embryo : is_in area.Embryo spot.area ≡ true
  pub draws : draws spot.name k ≡ true
  pub first : k.made ≡ false
  pub gate : shares_area area.Embryo k ≡ true

pub made_by : (u : List ℕ) (k : Standing) (spot : Spot) → is_stage spot.area ≡ true →
    lock_rules_allow k (MakeFolder spot) ≡ true → Made u k spot
made_by u k spot is may =
    let m : may_make k spot ≡ true = sym (ap (λ b. cond b (may_make k spot) true) is) ∙ may in
    let x = and_parts (is_in area.Embryo spot.area && draws spot.name k)
    ((not k.made && began_as is_maker k) && shares_area area.Embryo k) m in
    let y = and_parts (is_in area.Embryo spot.area) (draws spot.name k) x.0 in
    let z = and_parts (not k.made && began_as is_maker k) (shares_area area.Embryo k) x.1 in
    record { embryo = y.0; draws = y.1; first = not_true k.made (and_parts (not k.made) (began_as is_maker k) z.0).0; gate = z.1 }

pub make_pod : (u : List ℕ) (n : Namespace) (p : ℕ) (spot : Spot) → stands n spot ≡ false → is_spot_of_pod u spot ≡ true →
    is_in area.Embryo spot.area ≡ true → Pod u n Absent → Pod u (and_folder n spot) (Embryo p)
make_pod u n p spot free of embryo pod = record {
  number = length n.folders;
  at = λ here is. by here is (spot_eq spot here) refl;
  named = λ o i h. unnamed u n pod o i h;
  owns = λ o i h. unnamed u n pod o i (own_named u o.target (and_parts (is_own_of u o.target) (is_exclusive o.lock) h).0);
  held = λ q h. absurd (cc);
}
  where
    absent : (here : Spot) → is_spot_of_pod u here ≡ true → folder_at n here ≡ None
    absent here is = pod.at here is ∙ ap (λ b. cond b (Some pod.number) None) (absent_place here.area)

    same : (here : Spot) → is_spot_of_pod u here ≡ true → is_in area.Embryo here.area ≡ true → spot_eq spot here ≡ true
    same here is e = and_both (rank spot.area == rank here.area) (bytes_eq spot.name here.name)
        (ap (λ r. r == rank here.area) (sym (same_number 0 (rank spot.area) embryo)) ∙ e)
        (same_name spot.name here.name (of_name u spot of ∙ sym (of_name u here is)))

    off : (here : Spot) → is_spot_of_pod u here ≡ true → spot_eq spot here ≡ false → (b : Bool) →
        is_area_of_state here.area (Embryo p) ≡ b → is_area_of_state here.area (Embryo p) ≡ false
    off here is e false x = x
    off here is e true x = clash (spot_eq spot here) (same here is (place_embryo here.area p x)) e

    by : (here : Spot) → is_spot_of_pod u here ≡ true → (b : Bool) → spot_eq spot here ≡ b →
        folder_at (and_folder n spot) here ≡ cond (is_area_of_state here.area (Embryo p)) (Some (length n.folders)) None
    by here is true e = made_there n here spot (none_stands n spot free) e
        ∙ sym (ap (λ b. cond b (Some (length n.folders)) None) (embryo_place here.area p
        (ap (λ r. 0 == r) (sym (area_same spot here e)) ∙ embryo)))
    by here is false e = made_elsewhere n here spot e
        ∙ (absent here is ∙ sym (ap (λ b. cond b (Some (length n.folders)) None)
        (off here is e (is_area_of_state here.area (Embryo p)) refl)))

pub make_knows : (u : List ℕ) (n : Namespace) (p : ℕ) (spot : Spot) (k : Standing) → is_spot_of_pod u spot ≡ true →
    Made u k spot → Knows u p n Absent k → Knows u p (and_folder n spot) (Embryo p)
    (record k { made = true; embryo_under_lock = shares_area area.Embryo k })
make_knows u n p spot k of m knows = record {
  linked = knows.linked;
  embryo_under_lock = λ g d. refl;
  gates = λ g. m.gate;
  owned = λ e x. (m.gate, ap (λ (v : List ℕ). draws v k) (sym (of_name u spot of)) ∙ m.draws);
  covered = λ h i x c. let y = (knows.covered h i x c).0 in absurd (cc);
  seen_unowned = λ a x. let l : age_free a ≤ 0 = knows.seen_unowned a x in omega (arith, l);
  seen_unowned_under_claim = λ x. let l : 4 ≤ 0 = (knows.seen_unowned_under_claim x).past in absurd (omega (arith, l));
}

pub embryo_same : (p q : ℕ) → (p == q) ≡ false → Embryo p ≡ Embryo q → ⊥
embryo_same p q off e = clash (p == q) (equal p q (out e)) off
  where
    out : Embryo p ≡ Embryo q → p ≡ q
    out e = cc

    equal : (a b : ℕ) → a ≡ b → (a == b) ≡ true
    equal a b h = ap (λ k. a == k) (sym h) ∙ same_self a

pub make_others : (u : List ℕ) (n : Namespace) (p q : ℕ) (spot : Spot) (k : Standing) → (p == q) ≡ false →
    Knows u q n Absent k → Knows u q (and_folder n spot) (Embryo p) k
make_others u n p q spot k off knows =
    others u q n (and_folder n spot) Absent (Embryo p) k refl (omega arith) (λ g d e. absurd (cc))
    (λ e. absurd (embryo_same p q off e)) (λ c e. absurd (cc)) (λ l c r e. absurd (cc)) knows

-- another folder is made
pub make_pod_other : (u : List ℕ) (n : Namespace) (s : PodState) (spot : Spot) → is_spot_of_pod u spot ≡ false → Pod u n s →
    Pod u (and_folder n spot) s
make_pod_other u n s spot not_of pod = record {
  number = pod.number;
  at = λ here is. made_elsewhere n here spot (off here is (spot_eq spot here) refl) ∙ pod.at here is;
  named = pod.named;
  owns = pod.owns;
  held = pod.held;
}
  where
    off : (here : Spot) → is_spot_of_pod u here ≡ true → (b : Bool) → spot_eq spot here ≡ b → spot_eq spot here ≡ false
    off here is false e = e
    off here is true e = clash (is_spot_of_pod u spot) (of_same u spot here e ∙ is) not_of

pub knows_folders : (u : List ℕ) (n : Namespace) (p : ℕ) (s : PodState) (k : Standing) (fs : List (Option Spot)) →
    Knows u p n s k → Knows u p (with_folders n fs) s k
knows_folders u n p s k fs knows =
    record {
      linked = knows.linked;
      embryo_under_lock = knows.embryo_under_lock;
      gates = knows.gates;
      owned = knows.owned;
      covered =
          knows.covered;
      seen_unowned = knows.seen_unowned;
      seen_unowned_under_claim = λ x. let c = knows.seen_unowned_under_claim x in
          record { claim = c.claim; remover = c.remover; past = c.past; free = c.free };
    }

pub make_knows_other : (u : List ℕ) (n : Namespace) (p : ℕ) (s : PodState) (spot : Spot) (k : Standing) →
    is_spot_of_pod u spot ≡ false → lock_rules_allow k (MakeFolder spot) ≡ true → Knows u p n s k →
    Knows u p (and_folder n spot) s (standing_done k (MakeFolder spot))
make_knows_other u n p s spot k not_of may knows = by (is_stage spot.area) refl
  where
    drawn : is_stage spot.area ≡ true → Made u k spot → draws u k ≡ true → ⊥
    drawn is m d = clash (is_spot_of_pod u spot) (and_both (is_stage spot.area) (bytes_eq spot.name u) is
        (same_name spot.name u (draws_meet spot.name u k.intent m.draws d))) not_of

    by : (b : Bool) → is_stage spot.area ≡ b → Knows u p (and_folder n spot) s
        (cond b (record k { made = true; embryo_under_lock = shares_area area.Embryo k }) k)
    by false is = knows_folders u n p s k (n.folders ++ Some spot ∷ []) knows
    by true is = let m = made_by u k spot is may in record {
      linked = knows.linked;
      embryo_under_lock = λ g d. absurd (drawn is m d);
      gates = λ g. m.gate;
      owned = λ e x. absurd (drawn is m (knows.owned e x).1);
      covered = knows.covered;
      seen_unowned = knows.seen_unowned;
      seen_unowned_under_claim = λ x. let c = knows.seen_unowned_under_claim x in record { claim = c.claim; remover = c.remover; past = c.past; free = c.free };
    }
