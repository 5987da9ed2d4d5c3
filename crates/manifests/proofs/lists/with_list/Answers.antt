use Rattle.std.proofs.Common.{◌≡◌, ◌∙◌, sym, subst, ap, Option, IfOk}
use Rattle.serde_json.specs.Data.{Data}
use Rattle.app_section.specs.Objects.{built, put_field}
use Rattle.app_section.proofs.WrittenLists.{filled_list, empty_list}
use Rattle.manifests.proofs.lists.with_list.Goals as goal

pub returns-then-is_empty : goal.returns-then-is_empty
unfolding put_field
returns-then-is_empty g c =
    ap (λ (v : Option Data). put_field c.args.name.now v (built c.args.object))
    (empty_list g.T.Written.json c.args.items.now (sym c.is_empty.ensures ∙ c.if-is_empty.true))

pub returns : goal.returns
returns g c =
    let Q : Option Data → Type 0 = λ v. IfOk c.json.result (λ b. built b ≡ put_field c.args.name.now v (built c.args.object)) in
    subst Q (filled_list g.T.Written.json c.args.items.now c.in_ok-values.values
    (sym c.is_empty.ensures ∙ c.if-is_empty.false) c.in_ok-values.ensures)
    c.json.ensures
