-- A folder is removed.
use Rattle.std.proofs.Common.{arith, ◌≡◌, ◌≤◌, ℕ, Bool, true, false, ◌==◌, cond, bytes_eq, Some, None, List, map, refl, sym, ap, ◌∙◌}
use Rattle.std.proofs.lemmas.Bool.{and_parts}
use Rattle.plain_laws.proofs.Booleans.{clash}
use Rattle.dir_model.specs.declared.area.Area.{Area}
use Rattle.dir_model.specs.declared.area.Area.TheVariants as area
use Rattle.dir_model.specs.declared.spot.Spot.{Spot}
use Rattle.dir_model.specs.Areas.{rank}
use Rattle.dir_model.specs.State.{spot_eq, Namespace, folder_at}
use Rattle.dir_model.specs.Trace.{removed}
use Rattle.dir_rules.specs.Standing.{area_of, is_garbage, is_spot_of_pod}
use Rattle.lifecycle.specs.declared.machine.PodState.{PodState}
use Rattle.lifecycle.specs.declared.machine.PodState.TheVariants.{Absent, Embryo, Preparing, AbortedPrepare, Prepared, Running, Exited, ExitedGarbage, Garbage, Deleting, Gone}
use Rattle.lifecycle.specs.PodMachine.{is_area_of_state, pod_progress, age_in}
use Rattle.dir_rules.specs.declared.standing.Standing.{Standing}
use Rattle.lifecycle.proofs.Invariant.{may_own, Pod, Knows, others}
use Rattle.lifecycle.proofs.Moves.{place_once}
use Rattle.lifecycle.proofs.Places.{same_name, removed_there, removed_elsewhere}
use Rattle.lifecycle.proofs.Makes.{of_same, of_name}
use Rattle.dir_model.proofs.Lists.{and_both, same_self, same_number}

abbrev pub and_removed : Namespace → Spot → Namespace
and_removed n spot = record n { folders = map (removed spot) n.folders }

age_top : (s : PodState) → pod_progress s ≤ 9
age_top Absent = omega arith
age_top (Embryo m) = omega arith
age_top (Preparing o) = omega arith
age_top AbortedPrepare = omega arith
age_top Prepared = omega arith
age_top (Running o) = omega arith
age_top Exited = omega arith
age_top ExitedGarbage = omega arith
age_top Garbage = omega arith
age_top (Deleting o area.ExitedGarbage) = omega arith
age_top (Deleting o f) = omega arith
age_top Gone = omega arith

gone_place : (a : Area) → is_area_of_state a Gone ≡ false
gone_place area.Embryo = refl
gone_place a = refl

-- who holds Own of a pod that stands in a garbage place deletes it
pub deleting : (p : ℕ) (s : PodState) (a b : Area) → is_garbage a ≡ true → is_area_of_state a s ≡ true → may_own s p b ≡ true →
    (f : Area) × (s ≡ Deleting p f)
deleting p (Deleting o f) a b g at may = (f, ap (λ x. Deleting x f) (sym (same_number p o (and_parts (p == o) (is_garbage b) may).0)))
deleting p (Embryo m) area.ExitedGarbage b g at may = cc
deleting p (Embryo m) area.Garbage b g at may = cc
deleting p (Embryo m) a b g at may = cc
deleting p (Preparing o) area.ExitedGarbage b g at may = cc
deleting p (Preparing o) area.Garbage b g at may = cc
deleting p (Preparing o) a b g at may = cc
deleting p Prepared area.ExitedGarbage b g at may = cc
deleting p Prepared area.Garbage b g at may = cc
deleting p Prepared a b g at may = cc
deleting p (Running o) area.ExitedGarbage b g at may = cc
deleting p (Running o) area.Garbage b g at may = cc
deleting p (Running o) a b g at may = cc
deleting p Gone a b g at may = clash (is_area_of_state a Gone) at (gone_place a)
deleting p s a b g at may = cc

pub remove_pod : (u : List ℕ) (n : Namespace) (s : PodState) (spot : Spot) → is_spot_of_pod u spot ≡ true →
    is_area_of_state spot.area s ≡ true → Pod u n s → Pod u (and_removed n spot) Gone
remove_pod u n s spot of there pod = record {
  number = pod.number;
  at = λ here is. by here is (spot_eq spot here) refl ∙ sym (ap (λ b. cond b (Some pod.number) None) (gone_place here.area));
  named = λ o i h. let x = pod.named o i h in
      (x.0, (let l : age_in (area_of o.target) ≤ pod_progress s = x.1 in let g : pod_progress s ≤ 9 = age_top s in omega (arith, l, g)));
  owns = λ o i h. refl;
  held = λ q h. absurd (cc);
}
  where
    away : (here : Spot) → is_spot_of_pod u here ≡ true → spot_eq spot here ≡ false → (b : Bool) → is_area_of_state here.area s ≡ b →
        is_area_of_state here.area s ≡ false
    away here is off false e = e
    away here is off true e = clash (spot_eq spot here) (and_both (rank spot.area == rank here.area)
        (bytes_eq spot.name here.name) (ap (λ r. rank spot.area == r) (sym (place_once spot.area here.area s there e))
        ∙ same_self (rank spot.area)) (same_name spot.name here.name (of_name u spot of ∙ sym (of_name u here is)))) off

    by : (here : Spot) → is_spot_of_pod u here ≡ true → (b : Bool) → spot_eq spot here ≡ b → folder_at (and_removed n spot) here ≡ None
    by here is true e = removed_there n here spot e
    by here is false e = removed_elsewhere n here spot e ∙ (pod.at here is
        ∙ ap (λ b. cond b (Some pod.number) None) (away here is e (is_area_of_state here.area s) refl))

pub remove_knows : (u : List ℕ) (n : Namespace) (p q : ℕ) (f : Area) (spot : Spot) (k : Standing) →
    Knows u q n (Deleting p f) k → Knows u q (and_removed n spot) Gone k
remove_knows u n p q f spot k knows =
    others u q n (and_removed n spot) (Deleting p f) Gone k refl (age_top (Deleting p f)) (λ g d e. absurd (cc))
    (λ e. absurd (cc)) (λ c e. absurd (cc)) (λ l c r e. absurd (cc)) knows

pub remove_pod_other : (u : List ℕ) (n : Namespace) (s : PodState) (spot : Spot) → is_spot_of_pod u spot ≡ false → Pod u n s →
    Pod u (and_removed n spot) s
remove_pod_other u n s spot not_of pod = record {
  number = pod.number;
  at = λ here is. removed_elsewhere n here spot (off here is (spot_eq spot here) refl) ∙ pod.at here is;
  named = pod.named;
  owns = pod.owns;
  held = pod.held;
}
  where
    off : (here : Spot) → is_spot_of_pod u here ≡ true → (b : Bool) → spot_eq spot here ≡ b → spot_eq spot here ≡ false
    off here is false e = e
    off here is true e = clash (is_spot_of_pod u spot) (of_same u spot here e ∙ is) not_of
