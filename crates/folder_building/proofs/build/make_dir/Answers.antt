use Rattle.std.proofs.Common.{◌≡◌, refl}
use Rattle.dir_model.specs.declared.request.Request.TheVariants.{MakeDirIn}
use Rattle.dir_model.specs.declared.request.Reply.TheVariants.{Refused}
use Rattle.dir_model.proofs.Spots.{spot_self}
use Rattle.folder_building.specs.declared.error.BuildError.TheVariants.{Stray}
use Rattle.folder_building.specs.Work.{builds_at}
use Rattle.folder_building.specs.Making.{inner_at}
use Rattle.folder_building.proofs.Working.{worked_call}
use Rattle.folder_building.proofs.Strays.{stray_dir, stray_call}
use Rattle.folder_building.proofs.Steps.{dir_makes, dir_refuses}
use Rattle.folder_building.proofs.build.make_dir.Goals as goal

pub returns-in-Ok-clause-worked : goal.returns-in-Ok-clause-worked
returns-in-Ok-clause-worked g c = worked_call (spot_self c.args.spot.now) refl c.in-Ok.ensures.called

pub returns-in-Err-clause-worked : goal.returns-in-Err-clause-worked
returns-in-Err-clause-worked g c = worked_call (spot_self c.args.spot.now) refl c.in-Err.ensures.called

pub returns-in-Ok-clause-done : goal.returns-in-Ok-clause-done
returns-in-Ok-clause-done g c t = dir_makes c.args.spot.now c.args.path.now t c.in-Ok.ensures.called

pub returns-in-Err-clause-refused : goal.returns-in-Err-clause-refused
returns-in-Err-clause-refused g c t = dir_refuses c.args.spot.now c.args.path.now t c.in-Err.error c.in-Err.ensures.called

pub returns-in-Err-clause-stray : goal.returns-in-Err-clause-stray
returns-in-Err-clause-stray g c h t =
    let is : c.build_error.result ≡ Stray = cc in
    let inner = inner_at c.args.spot.now c.args.path.now in
    stray_call (builds_at c.args.spot.now) (MakeDirIn inner) (Refused c.in-Err.error 0) (spot_self c.args.spot.now) (stray_dir inner c.in-Err.error c.in-Err.ensures.refusals (c.build_error.ensures.stray is)) (c.in-Err.ensures.called.step t)
