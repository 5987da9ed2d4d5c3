use Rattle.std.proofs.Common.{ℕ, List, sym, ◌∙◌, ap, below_more, codes}
use Rattle.std.specs.Str.{bytes_eq}
use Rattle.ac_types.proofs.LabelPlaces.{name_read, no_name_fault, reserved_found, twice_found, both_stand}
use Rattle.ac_types.proofs.LabelNames.{name_seen, names_next}
use Rattle.ac_types.proofs.labels.first_name_fault.Goals as goal

pub returns-then-eq : goal.returns-then-eq
returns-then-eq c =
    let name = name_read c.args.labels.now c.loop-i.i c.index-labels-i.result c.loop-i-test.true c.index-labels-i.is in
    record {
      fault = sym (reserved_found c.args.labels.now c.loop-i.i c.loop-i.invariant.stand c.loop-i-test.true
          (ap (λ (n : List ℕ). bytes_eq n (codes "name")) (name ∙ sym c.as_str-name.ensures.text) ∙ sym c.eq.ensures ∙ c.if-eq.true));
    }

pub returns-then-not-branch : goal.returns-then-not-branch
returns-then-not-branch c =
    let name = name_read c.args.labels.now c.loop-i.i c.index-labels-i.result c.loop-i-test.true c.index-labels-i.is in
    record {
      fault = sym (twice_found c.args.labels.now c.loop-i.i c.loop-i.invariant.stand c.loop-i-test.true
          (ap (λ (n : List ℕ). bytes_eq n (codes "name")) (name ∙ sym c.as_str-name.ensures.text) ∙ sym c.eq.ensures ∙ c.if-eq.false)
          (name_seen c.loop-i.seen c.args.labels.now c.loop-i.i (name ∙ sym c.as_str-name.ensures.text) c.loop-i.invariant.seen
          c.in_ok-add.ensures.new c.if-not-branch.true));
    }

pub loop-i-preserved : goal.loop-i-preserved
loop-i-preserved c =
    let name = name_read c.args.labels.now c.loop-i.i c.index-labels-i.result c.loop-i-test.true c.index-labels-i.is in
    record {
      stand = below_more _ _ c.loop-i.invariant.stand
          (both_stand c.args.labels.now c.loop-i.i
          (ap (λ (n : List ℕ). bytes_eq n (codes "name")) (name ∙ sym c.as_str-name.ensures.text) ∙ sym c.eq.ensures ∙ c.if-eq.false)
          (name_seen c.loop-i.seen c.args.labels.now c.loop-i.i (name ∙ sym c.as_str-name.ensures.text) c.loop-i.invariant.seen
          c.in_ok-add.ensures.new c.if-not-branch.false));
      seen = names_next c.add.new.self c.args.labels.now c.loop-i.i c.index-labels-i.result c.loop-i-test.true c.index-labels-i.is
          c.as_str-name.ensures.text (c.in_ok-add.ensures.seen _ c.loop-i.invariant.seen);
    }

pub returns : goal.returns
returns c = record { fault = sym (no_name_fault c.args.labels.now c.loop-i.i c.loop-i.invariant.stand c.loop-i-test.false) }
