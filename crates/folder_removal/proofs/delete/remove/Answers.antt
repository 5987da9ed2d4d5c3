use Rattle.std.proofs.Common.{◌≡◌, refl}
use Rattle.dir_model.specs.declared.request.Reply.TheVariants.{Done, Refused}
use Rattle.dir_model.proofs.Chains.{nothing_yet, and_call}
use Rattle.folder_removal.specs.declared.error.DeleteError.TheVariants.{Stray}
use Rattle.folder_removal.proofs.Steps.{asks_removal}
use Rattle.folder_removal.proofs.Keeping.{spares_removal}
use Rattle.folder_removal.proofs.Strays.{stray_removal}
use Rattle.folder_removal.proofs.Knowing.{removal_done, removes_only}
use Rattle.folder_removal.proofs.delete.remove.Goals as goal

pub returns-in-Ok-clause-extends : goal.returns-in-Ok-clause-extends
returns-in-Ok-clause-extends g c t = and_call nothing_yet refl (asks_removal c.args.spot.now c.args.task.now) (c.ask.ensures.called.step t)

pub returns-in-Err-clause-extends : goal.returns-in-Err-clause-extends
returns-in-Err-clause-extends g c t = and_call nothing_yet refl (asks_removal c.args.spot.now c.args.task.now) (c.ask.ensures.called.step t)

pub returns-in-Ok-clause-known : goal.returns-in-Ok-clause-known
returns-in-Ok-clause-known g c t = removes_only c.args.spot.now c.args.task.now c.ask.result t c.ask.ensures.called

pub returns-in-Err-clause-known : goal.returns-in-Err-clause-known
returns-in-Err-clause-known g c t = removes_only c.args.spot.now c.args.task.now c.ask.result t c.ask.ensures.called

pub returns-in-Ok-clause-removed : goal.returns-in-Ok-clause-removed
returns-in-Ok-clause-removed g c t = removal_done c.args.spot.now c.args.task.now t c.in-Ok.ensures.called

pub returns-in-Err-clause-stray : goal.returns-in-Err-clause-stray
returns-in-Err-clause-stray g c h t =
    let is : c.delete_error.result ≡ Stray = cc in
    record { reply = Refused c.in-Err.error 0; stray = stray_removal c.args.spot.now c.args.task.now c.in-Err.error c.in-Err.ensures.refusals (c.delete_error.ensures.stray is); last = c.in-Err.ensures.called.step t }

pub returns-in-Ok-clause-spares : goal.returns-in-Ok-clause-spares
returns-in-Ok-clause-spares g c t = and_call nothing_yet refl (spares_removal c.args.spot.now c.args.task.now) (c.ask.ensures.called.step t)

pub returns-in-Err-clause-spares : goal.returns-in-Err-clause-spares
returns-in-Err-clause-spares g c t = and_call nothing_yet refl (spares_removal c.args.spot.now c.args.task.now) (c.ask.ensures.called.step t)

pub returns-in-Ok-clause-asked : goal.returns-in-Ok-clause-asked
returns-in-Ok-clause-asked g c t = record { reply = Done; step = c.in-Ok.ensures.called.step t }

pub returns-in-Err-clause-asked : goal.returns-in-Err-clause-asked
returns-in-Err-clause-asked g c t = record { reply = Refused c.in-Err.error 0; step = c.in-Err.ensures.called.step t }
