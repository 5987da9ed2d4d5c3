use Rattle.std.proofs.Common.{◌≡◌, ◌+◌, ◌∷◌, ◌++◌, [], Option, ℕ, List, take, sym, ap, subst, ◌∙◌}
use Rattle.std.proofs.lemmas.List.{take_more}
use Rattle.dir_model.specs.declared.item.Item.{Item}
use Rattle.dir_rules.specs.Marks.{created_moment}
use Rattle.dir_rules.specs.Seen.{later}
use Rattle.pod_report.specs.Created.{IsLatestCreation}
use Rattle.pod_report.proofs.Greatest.{greatest_none, greatest_more}
use Rattle.pod_report.proofs.created.greatest.Goals as goal

pub items-init : goal.items-init
items-init c = greatest_none

pub items-preserved : goal.items-preserved
items-preserved c =
    let items = c.args.items.now in
    let i = c.items.item-index in
    let item = c.item-item.result in
    let more : take (i + 1) items ≡ take i items ++ item ∷ [] = take_more items i item c.items-test.true ∙ ap (λ l. take i items ++ l ∷ []) (sym c.item-item.is) in
    let moment : c.created_moment.result ≡ created_moment item.name = c.created_moment.ensures ∙ ap created_moment (c.as_bytes.ensures.value ∙ c.as_str.ensures.text) in
    subst (λ (o : Option ℕ). IsLatestCreation (take (i + 1) items) o) (sym (c.later-found.ensures ∙ ap (later c.items.found) moment))
    (subst (λ (l : List Item). IsLatestCreation l (later c.items.found (created_moment item.name))) (sym more) (greatest_more (take i items) item c.items.found c.items.invariant))
