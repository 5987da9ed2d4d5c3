use Rattle.std.proofs.Common.{◌≡◌, Ok, Err}
use Rattle.dir_model.specs.declared.request.Request.TheVariants.{AppendIn}
use Rattle.dir_model.specs.declared.request.Reply.TheVariants.{Refused}
use Rattle.dir_model.proofs.Spots.{spot_self}
use Rattle.folder_building.specs.declared.error.BuildError.TheVariants.{Stray}
use Rattle.folder_building.specs.Work.{builds_at}
use Rattle.folder_building.specs.Making.{inner_at}
use Rattle.folder_building.proofs.Working.{worked_append}
use Rattle.folder_building.proofs.Strays.{stray_append, stray_call}
use Rattle.folder_building.proofs.Steps.{appends, spoils}
use Rattle.folder_building.proofs.copy.append.Goals as goal

pub returns-in-Ok-clause-worked : goal.returns-in-Ok-clause-worked
returns-in-Ok-clause-worked g c = worked_append (inner_at c.args.spot.now c.args.path.now) c.args.piece.now (Ok c.in-Ok.field-0) (spot_self c.args.spot.now) c.in-Ok.ensures.called

pub returns-in-Err-clause-worked : goal.returns-in-Err-clause-worked
returns-in-Err-clause-worked g c = worked_append (inner_at c.args.spot.now c.args.path.now) c.args.piece.now (Err c.in-Err.error) (spot_self c.args.spot.now) c.in-Err.ensures.called

pub returns-in-Ok-clause-done : goal.returns-in-Ok-clause-done
returns-in-Ok-clause-done g c t = appends c.args.spot.now c.args.path.now t c.args.piece.now c.in-Ok.field-0 c.in-Ok.ensures.called

pub returns-in-Err-clause-refused : goal.returns-in-Err-clause-refused
returns-in-Err-clause-refused g c t = spoils c.args.spot.now c.args.path.now t c.args.piece.now c.in-Err.error c.in-Err.ensures.called

pub returns-in-Err-clause-stray : goal.returns-in-Err-clause-stray
returns-in-Err-clause-stray g c h t =
    let is : c.build_error.result ≡ Stray = cc in
    let inner = inner_at c.args.spot.now c.args.path.now in
    let call = c.in-Err.ensures.called.step t in
    stray_call (builds_at c.args.spot.now) (AppendIn inner c.args.piece.now) (Refused c.in-Err.error call.left) (spot_self c.args.spot.now) (stray_append inner c.args.piece.now c.in-Err.error call.left c.in-Err.ensures.refusals (c.build_error.ensures.stray is)) call.step
