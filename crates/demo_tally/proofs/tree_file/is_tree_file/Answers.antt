use Rattle.std.proofs.Common.{not, ap, ◌∙◌}
use Rattle.demo_tally.proofs.TreeNames.{cut_end, cut_front, other_end, told_at, untold_behind}
use Rattle.demo_tally.proofs.tree_file.is_tree_file.Goals as goal

pub returns-in-Some-strip_suffix : goal.returns-in-Some-strip_suffix
returns-in-Some-strip_suffix c =
    let path = c.args.path.now in
    let rest = c.in-Some.rest in
    let app = c.in-Some-strip_suffix.app in
    ap not c.has_slash.ensures ∙ told_at path rest.now app.now (cut_front path rest c.in-Some.ensures.cases) (cut_end rest.now app c.in-Some-strip_suffix.ensures.cases)

pub returns-in-None-strip_suffix : goal.returns-in-None-strip_suffix
returns-in-None-strip_suffix c =
    let rest = c.in-Some.rest in
    untold_behind c.args.path.now rest.now (cut_front c.args.path.now rest c.in-Some.ensures.cases) (λ app. other_end rest.now app c.in-None-strip_suffix.ensures.cases)
