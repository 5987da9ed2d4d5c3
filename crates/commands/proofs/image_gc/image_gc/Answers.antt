use Rattle.std.proofs.Common.{Err, ap, ◌∙◌}
use Rattle.commands.proofs.ImageRemovals.{swept_says, early_says}
use Rattle.commands.proofs.image_gc.image_gc.Goals as goal

pub returns-in-Err-clause-says : goal.returns-in-Err-clause-says
returns-in-Err-clause-says g c =
    let D = g.D.Dir in
    early_says D.observed (D.shown c.args.dir.now) (D.shown c.sweep.new.dir) c.in-Err.error c.sweep_refusal.result c.sweep_refusal.ensures c.in-Err.ensures.cause c.in-Err.ensures.tried c.in-Err.ensures.ended (λ is. c.sweep.ensures.lawful (c.in-Err.is ∙ ap Err is))

pub returns-in-Ok-clause-says : goal.returns-in-Ok-clause-says
returns-in-Ok-clause-says g c =
    let D = g.D.Dir in
    swept_says D.observed (D.shown c.args.dir.now) (D.shown c.sweep.new.dir) c.in-Ok.lines.items c.printed_lines.result (rw c.as_slice.ensures.value at c.printed_lines.ensures) c.in-Ok.ensures.swept_unless_another
