use Rattle.std.proofs.Common.{◌≡◌, false, List, ℕ, Bor, drop, take}
use Rattle.std.specs.Prelude.{option_map}
use Rattle.std.specs.List.{list_any}
use Rattle.ac_types.specs.References.{cut}
use Rattle.ac_types.specs.ReferenceSteps.{parts_in, has_name}
use Rattle.ac_types.proofs.ref_check.came_before.Given as goal

abbrev pub invariant-loop : goal.invariant-loop
invariant-loop l = record {
  none : list_any (λ p. has_name l.name (cut 61 p)) (take l.counter (parts_in (option_map (λ (t : Bor (List ℕ)). t.now) l.labels))) ≡ false;
  left : drop l.counter (parts_in (option_map (λ (t : Bor (List ℕ)). t.now) l.labels))
      ≡ parts_in (option_map (λ (t : Bor (List ℕ)). t.now) l.rest);
}
