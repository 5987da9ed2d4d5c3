use Rattle.std.proofs.Common.{ℕ, List, sym, ◌∙◌, ap, below_more, codes}
use Rattle.std.specs.Str.{bytes_eq}
use Rattle.ac_types.proofs.LabelPlaces.{name_read, no_name_fault, reserved_found, twice_found, both_stand, before}
use Rattle.ac_types.proofs.labels.check_names.Goals as goal

pub returns-then-eq : goal.returns-then-eq
returns-then-eq c =
    let name = name_read c.args.labels.now c.loop-i.i c.index-labels-i.result c.loop-i-test.true c.index-labels-i.is in
    reserved_found c.args.labels.now c.loop-i.i c.loop-i.invariant c.loop-i-test.true
    (ap (λ (n : List ℕ). bytes_eq n (codes "name")) (name ∙ sym c.as_str-name.ensures.text) ∙ sym c.eq.ensures ∙ c.if-eq.true)

pub returns-then-has_name : goal.returns-then-has_name
returns-then-has_name c =
    let name = name_read c.args.labels.now c.loop-i.i c.index-labels-i.result c.loop-i-test.true c.index-labels-i.is in
    twice_found c.args.labels.now c.loop-i.i c.loop-i.invariant c.loop-i-test.true
    (ap (λ (n : List ℕ). bytes_eq n (codes "name")) (name ∙ sym c.as_str-name.ensures.text) ∙ sym c.eq.ensures ∙ c.if-eq.false)
    (before c.args.labels.now c.loop-i.i (name ∙ sym c.as_str-name.ensures.text) (sym c.has_name.ensures ∙ c.if-has_name.true))

pub loop-i-preserved : goal.loop-i-preserved
loop-i-preserved c =
    let name = name_read c.args.labels.now c.loop-i.i c.index-labels-i.result c.loop-i-test.true c.index-labels-i.is in
    below_more _ _ c.loop-i.invariant
    (both_stand c.args.labels.now c.loop-i.i
    (ap (λ (n : List ℕ). bytes_eq n (codes "name")) (name ∙ sym c.as_str-name.ensures.text) ∙ sym c.eq.ensures ∙ c.if-eq.false)
    (before c.args.labels.now c.loop-i.i (name ∙ sym c.as_str-name.ensures.text) (sym c.has_name.ensures ∙ c.if-has_name.false)))

pub returns : goal.returns
returns c = no_name_fault c.args.labels.now c.loop-i.i c.loop-i.invariant c.loop-i-test.false
