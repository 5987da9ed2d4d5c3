use Rattle.std.proofs.Common.{Err, ap, ◌∙◌}
use Rattle.commands.proofs.ImageRemovals.{refused_says}
use Rattle.commands.proofs.image_rm.remove_saying.Goals as goal

pub returns-in-Err-clause-says : goal.returns-in-Err-clause-says
returns-in-Err-clause-says g c =
    let D = g.D.Dir in
    refused_says D.observed (D.shown c.args.dir.now) (D.shown c.remove.new.dir) c.args.key c.args.draw c.in-Err.error c.removal_refusal.result c.removal_refusal.ensures c.in-Err.ensures.cause c.in-Err.ensures.by_other_process (λ is. c.remove.ensures.lawful (c.in-Err.is ∙ ap Err is))

pub returns-in-Err-clause-kept : goal.returns-in-Err-clause-kept
returns-in-Err-clause-kept g c t = c.in-Err.ensures.kept t
