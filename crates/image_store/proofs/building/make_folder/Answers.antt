use Rattle.std.proofs.Common.{Ok, Err, ap, sym, subst}
use Rattle.dir_model.specs.declared.spot.Spot.{Spot}
use Rattle.dir_model.specs.declared.request.Reply.TheVariants.{Done, Refused}
use Rattle.dir_model.specs.declared.request.Request.TheVariants.{MakeFolder}
use Rattle.dir_trait.specs.DirCalls.{DirCall}
use Rattle.image_reading.specs.declared.error.StoreError.{StoreError}
use Rattle.image_store.specs.Causes.{ChangeCause}
use Rattle.image_store.proofs.Changes.{worked_make, make_cause, knows_made, knows_unmade}
use Rattle.image_store.proofs.building.make_folder.Goals as goal

pub returns-in-Ok-clause-worked : goal.returns-in-Ok-clause-worked
returns-in-Ok-clause-worked g c =
    let D = g.D.Dir in
    worked_make (Ok tt) (subst (λ (s : Spot). DirCall D.observed (D.shown c.args.dir.now) (MakeFolder s) Done (D.shown c.make_folder.new.self)) c.building_spot-spot.ensures c.in-Ok.ensures.called)

pub returns-in-Ok-clause-made : goal.returns-in-Ok-clause-made
returns-in-Ok-clause-made g c t =
    let D = g.D.Dir in
    knows_made t (subst (λ (s : Spot). DirCall D.observed (D.shown c.args.dir.now) (MakeFolder s) Done (D.shown c.make_folder.new.self)) c.building_spot-spot.ensures c.in-Ok.ensures.called)

pub returns-in-Err-clause-worked : goal.returns-in-Err-clause-worked
returns-in-Err-clause-worked g c =
    let D = g.D.Dir in
    worked_make (Err c.in-Err.error) (subst (λ (s : Spot). DirCall D.observed (D.shown c.args.dir.now) (MakeFolder s) (Refused c.in-Err.error 0) (D.shown c.make_folder.new.self)) c.building_spot-spot.ensures c.in-Err.ensures.called)

pub returns-in-Err-clause-cause : goal.returns-in-Err-clause-cause
returns-in-Err-clause-cause g c =
    let D = g.D.Dir in
    subst (λ (x : StoreError). ChangeCause D.observed x (D.shown c.args.dir.now) (D.shown c.make_folder.new.self)) (sym c.change_refusal.ensures)
    (make_cause (ap (λ (s : Spot). s.area) c.building_spot-spot.ensures) c.in-Err.error c.in-Err.ensures.refusals (λ is. c.in-Err.ensures.cause (ap Err is)) c.in-Err.ensures.called)

pub returns-in-Err-clause-left : goal.returns-in-Err-clause-left
returns-in-Err-clause-left g c t =
    let D = g.D.Dir in
    knows_unmade c.in-Err.error t (subst (λ (s : Spot). DirCall D.observed (D.shown c.args.dir.now) (MakeFolder s) (Refused c.in-Err.error 0) (D.shown c.make_folder.new.self)) c.building_spot-spot.ensures c.in-Err.ensures.called)
