use Rattle.std.proofs.Common.{◌≡◌, ◌+◌, ◌∷◌, ◌++◌, [], ℕ, take, sym, ap, subst, ◌∙◌}
use Rattle.std.proofs.lemmas.List.{take_more}
use Rattle.pod_report.specs.Inspections.{AddsAppEnd}
use Rattle.pod_report.proofs.Asking.{asks_more}
use Rattle.pod_report.proofs.TellingEnds.{each_taken}
use Rattle.pod_report.proofs.ends.ends_of.Goals as goal

pub items-preserved : goal.items-preserved
items-preserved g c =
    let D = g.D.Dir in
    let old = D.shown c.args.dir.now in
    let mid = D.shown c.items.dir in
    let new = D.shown c.add_end.new.dir in
    let items = c.args.items.now in
    let i = c.items.item-index in
    let item = c.item-item.result in
    let more : take (i + 1) items ≡ take i items ++ item ∷ [] = take_more items i item c.items-test.true ∙ ap (λ l. take i items ++ l ∷ []) (sym c.item-item.is) in
    record {
      only = asks_more c.items.invariant.only c.add_end.ensures.only;
      told = λ t.
          let a = c.items.invariant.only.extends t in
          let b = c.add_end.ensures.only.extends t in
          each_taken c.args.pod c.args.area items i item c.items.ends.items c.add_end.new.ends.items old.trace mid.trace new.trace a.more b.more a.grown b.grown (c.items.invariant.told t) more
          (subst (λ (me : ℕ). AddsAppEnd c.args.pod c.args.area item.name c.items.ends.items c.add_end.new.ends.items me mid.trace new.trace) c.items.invariant.only.same (c.in_ok-add_end.ensures.answer_holds t));
    }
