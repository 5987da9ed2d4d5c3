use Rattle.std.proofs.Common.{drop, ap, ◌∙◌}
use Rattle.dir_host.proofs.setup.words_of.Goals as goal

pub returns : goal.returns
returns c =
    let ran = c.in_ok-collect.ensures.ran in
    let end = ran.1.2 tt in
    (ran.0, (end.0, (ran.1.0, ran.1.1, end.1)), c.behind_name.ensures ∙ ap (λ l. drop 1 l) ran.2.0)
