use Rattle.std.proofs.Common.{ℕ, List, sym, ◌∙◌, ap, below_more}
use Rattle.std.specs.Str.{bytes_eq}
use Rattle.ac_types.proofs.LabelPlaces.{name_read, place_found, place_none}
use Rattle.ac_types.proofs.labels.place_of.Goals as goal

pub returns-then-eq-clause-place : goal.returns-then-eq-clause-place
returns-then-eq-clause-place c =
    let name = name_read c.args.labels.now c.loop-i.i c.index-labels-i.result c.loop-i-test.true c.index-labels-i.is in
    place_found c.args.name.now c.args.labels.now c.loop-i.i c.loop-i.invariant c.loop-i-test.true
    (ap (λ (n : List ℕ). bytes_eq n c.args.name.now) (name ∙ sym c.as_str.ensures.text) ∙ sym c.eq.ensures ∙ c.if-eq.true)

pub loop-i-preserved : goal.loop-i-preserved
loop-i-preserved c =
    let name = name_read c.args.labels.now c.loop-i.i c.index-labels-i.result c.loop-i-test.true c.index-labels-i.is in
    below_more _ _ c.loop-i.invariant
    (ap (λ (n : List ℕ). bytes_eq n c.args.name.now) (name ∙ sym c.as_str.ensures.text) ∙ sym c.eq.ensures ∙ c.if-eq.false)

pub returns-clause-place : goal.returns-clause-place
returns-clause-place c = place_none c.args.name.now c.args.labels.now c.loop-i.i c.loop-i.invariant c.loop-i-test.false
