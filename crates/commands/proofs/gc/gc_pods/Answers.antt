use Rattle.std.proofs.Common.{◌≡◌, true, Err, subst, sym, ap, ◌∙◌, arith}
use Rattle.command_outcomes.specs.declared.refusal.Refusal.{Refusal}
use Rattle.command_outcomes.specs.declared.refusal.Refusal.TheVariants.{DirFault}
use Rattle.commands.specs.Gc.{gc_refusal, times_of}
use Rattle.commands.proofs.Sweeps.{sweep_fault, sweep_allowed, swept_says, early_says}
use Rattle.commands.proofs.gc.gc_pods.Goals as goal

pub returns-in-Err-clause-cause : goal.returns-in-Err-clause-cause
returns-in-Err-clause-cause g c is =
    let said : c.sweep_refusal.result ≡ DirFault = cc in
    c.in-Err.ensures.cause.fault (sweep_fault c.in-Err.error (sym c.sweep_refusal.ensures ∙ said))

pub returns-in-Err-clause-refusals : goal.returns-in-Err-clause-refusals
returns-in-Err-clause-refusals g c = subst (λ (r : Refusal). gc_refusal r ≡ true) (sym c.sweep_refusal.ensures) (sweep_allowed c.in-Err.error)

pub returns-in-Ok-clause-says : goal.returns-in-Ok-clause-says
returns-in-Ok-clause-says g c =
    let D = g.D.Dir in
    swept_says D.observed (D.shown c.args.dir.now) (D.shown c.gc.new.dir) (times_of c.args.now c.args.grace c.args.expire) (omega (arith, c.ranges.now)) c.in-Ok.lines.items c.printed_lines.result (rw c.as_slice.ensures.value at c.printed_lines.ensures) c.in-Ok.ensures.swept

pub returns-in-Err-clause-says : goal.returns-in-Err-clause-says
returns-in-Err-clause-says g c =
    let D = g.D.Dir in
    early_says D.observed (D.shown c.args.dir.now) (D.shown c.gc.new.dir) (times_of c.args.now c.args.grace c.args.expire) (omega (arith, c.ranges.now)) c.in-Err.error c.sweep_refusal.result c.sweep_refusal.ensures c.in-Err.ensures.cause c.in-Err.ensures.ended (λ is t s k may. c.gc.ensures.lawful (c.in-Err.is ∙ ap Err is) t s k may)
