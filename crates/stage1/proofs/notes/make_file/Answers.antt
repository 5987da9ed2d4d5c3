use Rattle.std.proofs.Common.{Err, refl, ap, sym, subst}
use Rattle.dir_model.specs.declared.request.Request.TheVariants.{MakeFileIn}
use Rattle.dir_model.specs.declared.request.Reply.TheVariants.{Done, Refused}
use Rattle.dir_model.proofs.Spots.{spot_self}
use Rattle.folder_building.specs.Making.{inner_at}
use Rattle.folder_building.proofs.Working.{worked_call}
use Rattle.folder_building.proofs.Strays.{stray_file}
use Rattle.stage1.specs.declared.error.Fault.{Fault}
use Rattle.stage1.specs.Refusals.{NoteCause}
use Rattle.stage1.proofs.Noted.{stays_call}
use Rattle.stage1.proofs.Causes.{note_cause}
use Rattle.stage1.proofs.notes.make_file.Goals as goal

pub returns-in-Ok-clause-worked : goal.returns-in-Ok-clause-worked
returns-in-Ok-clause-worked g c = worked_call (spot_self c.args.spot.now) refl c.in-Ok.ensures.called

pub returns-in-Err-clause-worked : goal.returns-in-Err-clause-worked
returns-in-Err-clause-worked g c = worked_call (spot_self c.args.spot.now) refl c.in-Err.ensures.called

pub returns-in-Ok-clause-stays : goal.returns-in-Ok-clause-stays
returns-in-Ok-clause-stays g c t = stays_call t refl refl (λ s. refl) refl c.in-Ok.ensures.called

pub returns-in-Err-clause-stays : goal.returns-in-Err-clause-stays
returns-in-Err-clause-stays g c t = stays_call t refl refl (λ s. refl) refl c.in-Err.ensures.called

pub returns-in-Err-clause-cause : goal.returns-in-Err-clause-cause
returns-in-Err-clause-cause g c =
    let D = g.D.Dir in
    let old = D.shown c.args.dir.now in
    let new = D.shown c.make_file_in.new.self in
    let inner = inner_at c.args.spot.now c.args.path.now in
    subst (λ (f : Fault). NoteCause D.observed f old new) (sym c.change_fault.ensures)
    (note_cause old new (MakeFileIn inner) (Refused c.in-Err.error 0) c.in-Err.error (stray_file inner c.in-Err.error c.in-Err.ensures.refusals) (λ is. c.in-Err.ensures.cause (ap Err is)) (λ t. c.in-Err.ensures.called.step t))

pub returns-in-Ok-clause-called : goal.returns-in-Ok-clause-called
returns-in-Ok-clause-called g c t = record { reply = Done; called = c.in-Ok.ensures.called }

pub returns-in-Err-clause-called : goal.returns-in-Err-clause-called
returns-in-Err-clause-called g c t = record { reply = Refused c.in-Err.error 0; called = c.in-Err.ensures.called }
