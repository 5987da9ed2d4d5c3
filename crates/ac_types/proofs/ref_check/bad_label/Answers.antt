use Rattle.std.proofs.Common.{◌≡◌, ◌<◌, ◌+◌, ◌^◌, sym, ◌∙◌, ap, arith, List, ℕ, Bor, Option, length}
use Rattle.std.specs.Prelude.{option_map}
use Rattle.ac_types.specs.ReferenceSteps.{parts_in, parts_size}
use Rattle.ac_types.proofs.RefChecks.{stops_here, stops_end, goes_on, drop_next}
use Rattle.ac_types.proofs.ref_check.bad_label.Goals as goal

pub returns-then-not-is_new_label : goal.returns-then-not-is_new_label
returns-then-not-is_new_label c =
    let left = ap (λ (o : Option (Bor (List ℕ))). parts_in (option_map (λ (t : Bor (List ℕ)). t.now) o)) c.in-Some.is ∙ c.first_part.ensures in
    stops_here c.args.versioned (parts_in (option_map (λ (t : Bor (List ℕ)). t.now) c.args.labels))
    (parts_in (option_map (λ (t : Bor (List ℕ)). t.now) c.loop-rest.rest)) c.args.begin c.loop-rest.place c.loop-rest.count
    c.first_part.result.0.now (parts_in (option_map (λ (t : Bor (List ℕ)). t.now) c.first_part.result.1)) c.loop-rest.invariant.read left
    (λ before more names has. sym c.if-not-is_new_label.true ∙ c.is_new_label.ensures before more names has)

pub loop-rest-preserved : goal.loop-rest-preserved
loop-rest-preserved c =
    let left = ap (λ (o : Option (Bor (List ℕ))). parts_in (option_map (λ (t : Bor (List ℕ)). t.now) o)) c.in-Some.is ∙ c.first_part.ensures in
    let size : parts_size (parts_in (option_map (λ (t : Bor (List ℕ)). t.now) c.loop-rest.rest))
    ≡ (length c.first_part.result.0.now + 1) + parts_size (parts_in (option_map (λ (t : Bor (List ℕ)). t.now) c.first_part.result.1)) =
    ap parts_size left in
    let fits : c.loop-rest.place + parts_size (parts_in (option_map (λ (t : Bor (List ℕ)). t.now) c.loop-rest.rest)) < 2 ^ 64 =
    c.loop-rest.invariant.fits in
    record {
      read = goes_on c.args.versioned (parts_in (option_map (λ (t : Bor (List ℕ)). t.now) c.args.labels))
          (parts_in (option_map (λ (t : Bor (List ℕ)). t.now) c.loop-rest.rest)) c.args.begin c.loop-rest.place c.loop-rest.count
          c.first_part.result.0.now (parts_in (option_map (λ (t : Bor (List ℕ)). t.now) c.first_part.result.1))
          c.loop-rest.invariant.read left c.loop-rest.invariant.left
          (λ before more names has. sym c.if-not-is_new_label.false ∙ c.is_new_label.ensures before more names has);
      left = drop_next c.loop-rest.count (parts_in (option_map (λ (t : Bor (List ℕ)). t.now) c.args.labels))
          c.first_part.result.0.now (parts_in (option_map (λ (t : Bor (List ℕ)). t.now) c.first_part.result.1))
          (c.loop-rest.invariant.left ∙ left);
      fits = omega (arith, size, fits);
      counted = omega (arith, c.loop-rest.invariant.counted);
    }

pub returns : goal.returns
returns c =
    stops_end c.args.versioned (parts_in (option_map (λ (t : Bor (List ℕ)). t.now) c.args.labels))
    (parts_in (option_map (λ (t : Bor (List ℕ)). t.now) c.loop-rest.rest)) c.args.begin c.loop-rest.place c.loop-rest.count
    c.loop-rest.invariant.read
    (ap (λ (o : Option (Bor (List ℕ))). parts_in (option_map (λ (t : Bor (List ℕ)). t.now) o)) c.in_default.is)
