use Rattle.std.proofs.Common.{◌≡◌, true, Err, subst, sym, ap, ◌∙◌}
use Rattle.command_outcomes.specs.declared.refusal.Refusal.{Refusal}
use Rattle.command_outcomes.specs.declared.refusal.Refusal.TheVariants.{DirFault}
use Rattle.commands.specs.Rm.{rm_refusal}
use Rattle.commands.proofs.Removals.{said_fault, allowed, refused_says}
use Rattle.commands.proofs.rm.remove_saying.Goals as goal

pub returns-in-Err-clause-cause : goal.returns-in-Err-clause-cause
returns-in-Err-clause-cause g c is =
    let said : c.remove_refusal.result ≡ DirFault = cc in
    c.in-Err.ensures.cause.fault (said_fault c.args.pod c.in-Err.error (sym c.remove_refusal.ensures ∙ said))

pub returns-in-Err-clause-refusals : goal.returns-in-Err-clause-refusals
returns-in-Err-clause-refusals g c = subst (λ (r : Refusal). rm_refusal r ≡ true) (sym c.remove_refusal.ensures) (allowed c.args.pod c.in-Err.error)

pub returns-in-Err-clause-says : goal.returns-in-Err-clause-says
returns-in-Err-clause-says g c =
    let D = g.D.Dir in
    refused_says D.observed (D.shown c.args.dir.now) (D.shown c.remove_pod.new.dir) c.args.pod c.args.now c.in-Err.error c.remove_refusal.result c.remove_refusal.ensures c.in-Err.ensures.cause c.in-Err.ensures.by_other_process c.in-Err.ensures.refused (λ is. c.remove_pod.ensures.lawful (c.in-Err.is ∙ ap Err is))

pub returns-in-Ok-clause-says : goal.returns-in-Ok-clause-says
returns-in-Ok-clause-says g c = (c.requires.line, λ t. record { did = c.in-Ok.ensures.removed t; first = c.in-Ok.ensures.first t })

pub returns-in-Err-clause-kept : goal.returns-in-Err-clause-kept
returns-in-Err-clause-kept g c t = c.in-Err.ensures.kept t
