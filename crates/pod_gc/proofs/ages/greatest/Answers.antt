use Rattle.std.proofs.Common.{◌≡◌, ◌+◌, ◌∷◌, ◌++◌, [], take, sym, ap, ◌∙◌}
use Rattle.std.proofs.lemmas.List.{take_more}
use Rattle.dir_rules.specs.Seen.{later}
use Rattle.dir_rules.specs.Marks.{mark_moment}
use Rattle.pod_gc.proofs.Moments.{moment_next}
use Rattle.pod_gc.proofs.ages.greatest.Goals as goal

pub items-preserved : goal.items-preserved
items-preserved c =
    let items = c.args.items.now in
    let i = c.items.item-index in
    let item = c.item-item.result in
    let more : take (i + 1) items ≡ take i items ++ item ∷ [] = take_more items i item c.items-test.true ∙ ap (λ l. take i items ++ l ∷ []) (sym c.item-item.is) in
    let moment : c.moment_of.result ≡ mark_moment c.args.text.now item.name = c.moment_of.ensures ∙ ap (mark_moment c.args.text.now) (c.as_bytes.ensures.value ∙ c.as_str.ensures.text) in
    c.later-found.ensures ∙ (ap (later c.items.found) moment ∙ moment_next c.args.text.now items i item c.items.found more c.items.invariant)
