use Rattle.std.proofs.Common.{◌<◌, ◌+◌, ◌^◌, List, ℕ, [], Bor, arith, map, drop, inl, inr}
use Rattle.ac_types.specs.declared.label.Label.{Label}
use Rattle.ac_types.specs.ReferenceSteps.{parts_size}
use Rattle.ac_types.proofs.RefSteps.{texts, part_read, error_kept, size_next, seen_next}
use Rattle.ac_types.proofs.ref_parts.read_labels.Goals as goal

pub returns-in-Err : goal.returns-in-Err
returns-in-Err c =
    let p : Bor (List ℕ) = record { ref_ptr = (0, 0); now = [] } in
    error_kept c.loop-part.place c.args.begin c.loop-part.labels c.args.before c.args.parts.now c.loop-part.part-index p c.in-Err.error
    c.loop-part-test.true
    (elim c.in-Err.ensures.err [
      | inl is ↦ inl is
      | inr e ↦ inr (e.0, e.1 c.loop-part.labels c.loop-part.invariant.seen)
    ])
    c.loop-part.invariant.read

pub loop-part-preserved : goal.loop-part-preserved
loop-part-preserved c =
    let p : Bor (List ℕ) = record { ref_ptr = (0, 0); now = [] } in
    let size = size_next c.args.parts.now c.loop-part.part-index p c.loop-part-test.true in
    let fits : c.loop-part.place + parts_size (drop c.loop-part.part-index (texts c.args.parts.now)) < 2 ^ 64 = c.loop-part.invariant.fits in
    record {
      read = part_read c.loop-part.place c.args.begin c.loop-part.labels c.args.before c.args.parts.now c.loop-part.part-index p
          c.in-Ok.label c.in_ok-labels-in-Ok.labels c.loop-part-test.true
          (c.in-Ok.ensures.label c.loop-part.labels c.loop-part.invariant.seen) c.in_ok-labels-in-Ok.ensures
          c.loop-part.invariant.read;
      seen = seen_next c.read_label.new.seen c.loop-part.labels c.in_ok-labels-in-Ok.labels c.in-Ok.label
          c.in_ok-labels-in-Ok.ensures
          (c.in-Ok.ensures.seen (map (λ (l : Label). l.name) c.loop-part.labels) c.loop-part.invariant.seen);
      fits = omega (arith, size, fits);
    }

pub overflow_add-place-in-Ok : goal.overflow_add-place-in-Ok
overflow_add-place-in-Ok c =
    let p : Bor (List ℕ) = record { ref_ptr = (0, 0); now = [] } in
    let size = size_next c.args.parts.now c.loop-part.part-index p c.loop-part-test.true in
    let fits : c.loop-part.place + parts_size (drop c.loop-part.part-index (texts c.args.parts.now)) < 2 ^ 64 = c.loop-part.invariant.fits in
    omega (arith, size, fits)
