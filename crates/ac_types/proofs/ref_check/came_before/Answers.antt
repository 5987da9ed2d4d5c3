use Rattle.std.proofs.Common.{sym, ◌∙◌, ap, arith, List, ℕ, Bor, Option}
use Rattle.std.specs.Prelude.{option_map}
use Rattle.ac_types.specs.References.{cut}
use Rattle.ac_types.specs.ReferenceSteps.{parts_in, has_name}
use Rattle.ac_types.proofs.RefChecks.{any_end, any_here, any_not_yet, drop_next}
use Rattle.ac_types.proofs.ref_check.came_before.Goals as goal

pub returns-in_default : goal.returns-in_default
returns-in_default c =
    any_end (λ p. has_name c.args.name.now (cut 61 p)) c.loop.counter c.args.count
    (parts_in (option_map (λ (t : Bor (List ℕ)). t.now) c.args.labels))
    (c.loop.invariant.left ∙ ap (λ (o : Option (Bor (List ℕ))). parts_in (option_map (λ (t : Bor (List ℕ)). t.now) o)) c.in_default.is)
    (omega (arith, c.loop-test.true)) c.loop.invariant.none

pub returns-then-has_name : goal.returns-then-has_name
returns-then-has_name c =
    any_here (λ p. has_name c.args.name.now (cut 61 p)) c.loop.counter c.args.count
    (parts_in (option_map (λ (t : Bor (List ℕ)). t.now) c.args.labels)) c.first_part.result.0.now
    (parts_in (option_map (λ (t : Bor (List ℕ)). t.now) c.first_part.result.1))
    (c.loop.invariant.left ∙ ap (λ (o : Option (Bor (List ℕ))). parts_in (option_map (λ (t : Bor (List ℕ)). t.now) o)) c.in-Some.is
    ∙ c.first_part.ensures)
    c.loop-test.true (sym c.has_name.ensures ∙ c.if-has_name.true)

pub loop-preserved : goal.loop-preserved
loop-preserved c =
    let here = c.loop.invariant.left
    ∙ ap (λ (o : Option (Bor (List ℕ))). parts_in (option_map (λ (t : Bor (List ℕ)). t.now) o)) c.in-Some.is
    ∙ c.first_part.ensures in
    record {
      none = any_not_yet (λ p. has_name c.args.name.now (cut 61 p)) c.loop.counter
          (parts_in (option_map (λ (t : Bor (List ℕ)). t.now) c.args.labels)) c.first_part.result.0.now
          (parts_in (option_map (λ (t : Bor (List ℕ)). t.now) c.first_part.result.1)) here c.loop.invariant.none
          (sym c.has_name.ensures ∙ c.if-has_name.false);
      left = drop_next c.loop.counter (parts_in (option_map (λ (t : Bor (List ℕ)). t.now) c.args.labels)) c.first_part.result.0.now
          (parts_in (option_map (λ (t : Bor (List ℕ)). t.now) c.first_part.result.1)) here;
    }
