use Rattle.std.proofs.Common.{Ok, Err, refl, ap, sym, subst}
use Rattle.dir_model.specs.declared.request.Request.TheVariants.{AppendIn}
use Rattle.dir_model.specs.Replies.{append_reply}
use Rattle.dir_model.proofs.Spots.{spot_self}
use Rattle.folder_building.specs.Making.{inner_at}
use Rattle.folder_building.proofs.Working.{append_call, worked_append}
use Rattle.folder_building.proofs.Strays.{stray_append}
use Rattle.stage1.specs.declared.error.Fault.{Fault}
use Rattle.stage1.specs.Refusals.{NoteCause}
use Rattle.stage1.proofs.Noted.{stays_call}
use Rattle.stage1.proofs.Causes.{note_cause_at}
use Rattle.stage1.proofs.notes.append.Goals as goal

pub returns-in-Ok-clause-worked : goal.returns-in-Ok-clause-worked
returns-in-Ok-clause-worked g c = worked_append (inner_at c.args.spot.now c.args.path.now) c.args.piece.now (Ok tt) (spot_self c.args.spot.now) c.in-Ok.ensures.called

pub returns-in-Err-clause-worked : goal.returns-in-Err-clause-worked
returns-in-Err-clause-worked g c = worked_append (inner_at c.args.spot.now c.args.path.now) c.args.piece.now (Err c.in-Err.error) (spot_self c.args.spot.now) c.in-Err.ensures.called

pub returns-in-Ok-clause-stays : goal.returns-in-Ok-clause-stays
returns-in-Ok-clause-stays g c t = stays_call t refl refl (λ s. refl) refl (append_call (inner_at c.args.spot.now c.args.path.now) c.args.piece.now (Ok tt) t c.in-Ok.ensures.called).1

pub returns-in-Err-clause-stays : goal.returns-in-Err-clause-stays
returns-in-Err-clause-stays g c t = stays_call t refl refl (λ s. refl) refl (append_call (inner_at c.args.spot.now c.args.path.now) c.args.piece.now (Err c.in-Err.error) t c.in-Err.ensures.called).1

pub returns-in-Err-clause-cause : goal.returns-in-Err-clause-cause
returns-in-Err-clause-cause g c =
    let D = g.D.Dir in
    let old = D.shown c.args.dir.now in
    let new = D.shown c.append_in.new.self in
    let inner = inner_at c.args.spot.now c.args.path.now in
    let e = c.in-Err.error in
    subst (λ (f : Fault). NoteCause D.observed f old new) (sym c.change_fault.ensures)
    (note_cause_at old new (AppendIn inner c.args.piece.now) e (λ left. stray_append inner c.args.piece.now e left c.in-Err.ensures.refusals) (λ is. c.in-Err.ensures.cause (ap Err is)) (λ t. c.in-Err.ensures.called.step t))

pub returns-in-Ok-clause-called : goal.returns-in-Ok-clause-called
returns-in-Ok-clause-called g c t =
    let left = append_call (inner_at c.args.spot.now c.args.path.now) c.args.piece.now (Ok tt) t c.in-Ok.ensures.called in
    record { reply = append_reply (Ok tt) left.0; called = left.1 }

pub returns-in-Err-clause-called : goal.returns-in-Err-clause-called
returns-in-Err-clause-called g c t =
    let left = append_call (inner_at c.args.spot.now c.args.path.now) c.args.piece.now (Err c.in-Err.error) t c.in-Err.ensures.called in
    record { reply = append_reply (Err c.in-Err.error) left.0; called = left.1 }
