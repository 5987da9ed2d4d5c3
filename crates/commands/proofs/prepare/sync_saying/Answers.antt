use Rattle.std.proofs.Common.{◌≡◌, Err, ap, refl, sym, ◌∙◌}
use Rattle.dir_model.specs.declared.request.Reply.TheVariants.{Done, Refused}
use Rattle.command_outcomes.specs.declared.refusal.Refusal.TheVariants.{DirFault}
use Rattle.commands.proofs.Prepares.{sync_worked, sync_told, sync_fault}
use Rattle.commands.proofs.prepare.sync_saying.Goals as goal

pub returns-in-Ok-clause-worked : goal.returns-in-Ok-clause-worked
returns-in-Ok-clause-worked g c = sync_worked Done refl c.in-Ok.ensures.called

pub returns-in-Ok-clause-says : goal.returns-in-Ok-clause-says
returns-in-Ok-clause-says g c = (refl, c.in-Ok.ensures.called)

pub returns-in-Err-clause-worked : goal.returns-in-Err-clause-worked
returns-in-Err-clause-worked g c = sync_worked (Refused c.in-Err.error 0) refl c.in-Err.ensures.called

pub returns-in-Err-clause-cause : goal.returns-in-Err-clause-cause
returns-in-Err-clause-cause g c is =
    let said : c.sync_refusal.result ≡ DirFault = cc in
    c.in-Err.ensures.cause (ap Err (sync_fault c.in-Err.error (sym c.sync_refusal.ensures ∙ said)))

pub returns-in-Err-clause-says : goal.returns-in-Err-clause-says
returns-in-Err-clause-says g c = rw c.sync_refusal.ensures (sync_told c.args.line c.in-Err.error c.in-Err.ensures.refusals c.in-Err.ensures.called)
