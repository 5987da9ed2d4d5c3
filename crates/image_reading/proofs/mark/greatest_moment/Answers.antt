use Rattle.std.proofs.Common.{◌≡◌, ◌+◌, ◌∷◌, ◌++◌, [], take, ap, sym, subst, ◌∙◌, Option, ℕ}
use Rattle.std.proofs.lemmas.List.{take_more}
use Rattle.dir_rules.specs.Seen.{later}
use Rattle.image_reading.specs.Marks.{imported_moment, imported_moments}
use Rattle.image_reading.proofs.Marking.{IsBest, best_next}
use Rattle.image_reading.proofs.mark.greatest_moment.Goals as goal

pub items-preserved : goal.items-preserved
items-preserved c =
    let items = c.args.items.now in
    let i = c.items.item-index in
    let item = c.item-item.result in
    let more : take (i + 1) items ≡ take i items ++ item ∷ [] = take_more items i item c.items-test.true ∙ ap (λ l. take i items ++ l ∷ []) (sym c.item-item.is) in
    let moment : c.imported_moment.result ≡ imported_moment item.name = c.imported_moment.ensures ∙ ap imported_moment (c.as_bytes.ensures.value ∙ c.as_str.ensures.text) in
    subst (λ (o : Option ℕ). IsBest (imported_moments (take (i + 1) items)) o) (sym (c.later-best.ensures ∙ ap (later c.items.best) moment)) (best_next items i item c.items.best more c.items.invariant)
