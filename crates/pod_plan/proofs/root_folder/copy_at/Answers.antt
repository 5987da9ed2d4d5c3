use Rattle.std.proofs.Common.{◌≡◌, rules, Equal, Greater, nat_cmp, sym, ap, ◌∙◌}
use Rattle.std.specs.Option.{option_copied}
use Rattle.std.specs.Cmp.Lexicographic.{slice_cmp}
use Rattle.render.specs.Layers.{source_at}
use Rattle.render.proofs.Walks.{fewer_after, passed_over}
use Rattle.pod_plan.proofs.Behind.{same_path}
use Rattle.pod_plan.proofs.root_folder.copy_at.Goals as goal

pub copies-smaller : goal.copies-smaller
copies-smaller c = fewer_after c.args.rendering.now (option_copied c.copies.behind) c.in-Some.at.now c.in-Some.place c.in-Some.ensures

pub returns-in-Equal : goal.returns-in-Equal
returns-in-Equal c =
    let tie : slice_cmp nat_cmp c.in-Some.at.now c.args.path.now ≡ Equal = search (rules, c.cmp.ensures, c.in-Equal.is) in
    sym c.in-Some.ensures.source ∙ ap (source_at c.args.rendering.now) (same_path c.in-Some.at.now c.args.path.now tie)

pub returns-in-Greater : goal.returns-in-Greater
returns-in-Greater c =
    let greater : slice_cmp nat_cmp c.in-Some.at.now c.args.path.now ≡ Greater = search (rules, c.cmp.ensures, c.in-Greater.is) in
    sym (passed_over c.args.rendering.now (option_copied c.copies.behind) c.in-Some.at.now c.args.path.now c.in-Some.place c.in-Some.ensures c.copies.invariant greater)
