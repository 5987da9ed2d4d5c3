use Rattle.std.proofs.Common.{◌≡◌, List, codes, subst, IfOk}
use Rattle.serde_json.specs.Data.{Data}
use Rattle.serde_json.specs.View.{items_of}
use Rattle.app_section.specs.AppData.{isolator_data}
use Rattle.app_section.specs.AppObject.{isolator_object}
use Rattle.app_section.specs.Objects.{built, put_field, unless_empty}
use Rattle.app_section.proofs.WrittenLists.{once}
use Rattle.app_section.proofs.written_app.with_isolators.Goals as goal

pub returns : goal.returns
returns c =
    let Q : List Data → Type 0 = λ ds. IfOk c.list.result
    (λ b. built b ≡ put_field (codes "isolators") (unless_empty (items_of ds)) (built c.args.object)) in
    subst Q (once isolator_object isolator_data c.args.isolators.now) c.list.ensures
