use Rattle.std.proofs.Common.{◌≡◌, ◌≤◌, ◌<◌, ◌+◌, ◌^◌, List, ℕ, Bor, drop, length}
use Rattle.std.specs.Prelude.{option_map}
use Rattle.ac_types.specs.ReferenceSteps.{parts_in, parts_size}
use Rattle.ac_types.proofs.RefChecks.{IsReadTo}
use Rattle.ac_types.proofs.ref_check.bad_label.Given as goal

abbrev pub invariant-loop-rest : goal.invariant-loop-rest
invariant-loop-rest l = record {
  read : IsReadTo l.versioned (parts_in (option_map (λ (t : Bor (List ℕ)). t.now) l.labels)) l.begin
      (parts_in (option_map (λ (t : Bor (List ℕ)). t.now) l.rest)) l.place l.count;
  left : drop l.count (parts_in (option_map (λ (t : Bor (List ℕ)). t.now) l.labels))
      ≡ parts_in (option_map (λ (t : Bor (List ℕ)). t.now) l.rest);
  fits : l.place + parts_size (parts_in (option_map (λ (t : Bor (List ℕ)). t.now) l.rest)) < 2 ^ 64;
  counted : l.count ≤ l.place;
}

abbrev pub decreases-loop-rest : goal.decreases-loop-rest
decreases-loop-rest l = length (parts_in (option_map (λ (t : Bor (List ℕ)). t.now) l.rest))
