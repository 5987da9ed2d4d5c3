use Rattle.std.proofs.Common.{◌≡◌, rules, ℕ, true, List, IfErr, subst}
use Rattle.stage1.specs.AppPlaces.{tree_path, told_path}
use Rattle.stage1.specs.AppFiles.{LacksRootListing}
use Rattle.stage1.specs.LoadRefusals.{IsDamageFor}
use Rattle.stage1.proofs.root.read_root.Goals as goal

pub returns-in-Ok-clause-lacks : goal.returns-in-Ok-clause-lacks
returns-in-Ok-clause-lacks g c =
    let D = g.D.Dir in
    let at : c.as_str-in-Ok.result.now ≡ tree_path c.args.app.now = search rules in
    subst (λ (path : List ℕ). IfErr c.root_at.result (IsDamageFor (told_path c.args.pod path) (D.observed ≡ true → LacksRootListing c.args.pod c.args.app.now (D.shown c.args.dir.now) (D.shown c.root_at.new.dir)))) at c.root_at.ensures.lacks
