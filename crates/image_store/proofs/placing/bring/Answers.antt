use Rattle.std.proofs.Common.{◌≡◌, true, Some, Ok, Err, IfErr, Result, Bool, ap, sym, subst, ◌∙◌}
use Rattle.dir_trait.specs.Knowledge.{Knows}
use Rattle.dir_trait.proofs.Calls.{with_spots}
use Rattle.image_reading.specs.declared.error.StoreError.{StoreError}
use Rattle.image_store.specs.Requests.{building_spot}
use Rattle.image_store.specs.Work.{seen_importing, holding, WhereImportFilled, Unbrought}
use Rattle.image_store.specs.Causes.{ChangeCause}
use Rattle.image_store.proofs.Changes.{worked_move, placed_by, move_cause, move_taken, move_left}
use Rattle.image_store.specs.Moves.{Moves}
use Rattle.image_store.proofs.Moving.{moved_done, answered_not}
use Rattle.image_store.proofs.placing.bring.Goals as goal

pub returns-in-Ok-clause-worked : goal.returns-in-Ok-clause-worked
returns-in-Ok-clause-worked g c = worked_move c.args.key (Ok tt) (with_spots c.building_spot-from.ensures c.in_ok-to.ensures.spot c.in-Ok.ensures.called)

pub returns-in-Ok-clause-placed : goal.returns-in-Ok-clause-placed
returns-in-Ok-clause-placed g c is t = placed_by c.args.key t (with_spots c.building_spot-from.ensures c.in_ok-to.ensures.spot c.in-Ok.ensures.called)

pub returns-in-Err-clause-worked : goal.returns-in-Err-clause-worked
returns-in-Err-clause-worked g c = worked_move c.args.key (Err c.in-Err.error) (with_spots c.building_spot-from.ensures c.in_ok-to.ensures.spot c.in-Err.ensures.called)

pub returns-in-Err-clause-cause : goal.returns-in-Err-clause-cause
returns-in-Err-clause-cause g c =
    let D = g.D.Dir in
    let old = D.shown c.args.dir.now in
    let new = D.shown c.move_folder.new.self in
    subst (λ (r : Result Bool StoreError). IfErr r (λ e. ChangeCause D.observed e old new)) (sym c.move_answer.ensures)
    (move_cause D.observed c.args.draw old new c.args.key c.in-Err.error c.in-Err.ensures.refusals (λ is. c.in-Err.ensures.cause (ap Err is)) (with_spots c.building_spot-from.ensures c.in_ok-to.ensures.spot c.in-Err.ensures.called))

pub returns-in-Err-clause-taken : goal.returns-in-Err-clause-taken
returns-in-Err-clause-taken g c is t =
    let D = g.D.Dir in
    move_taken D.observed c.args.draw (D.shown c.args.dir.now) (D.shown c.move_folder.new.self) c.args.key c.in-Err.error (with_spots c.building_spot-from.ensures c.in_ok-to.ensures.spot c.in-Err.ensures.called) (sym c.move_answer.ensures ∙ is) t

pub returns-in-Err-clause-left : goal.returns-in-Err-clause-left
returns-in-Err-clause-left g c =
    let D = g.D.Dir in
    let old = D.shown c.args.dir.now in
    let new = D.shown c.move_folder.new.self in
    subst (λ (r : Result Bool StoreError). Unbrought r (D.observed ≡ true → WhereImportFilled c.args.draw old (λ intent hs entries. Knows new (seen_importing intent hs true (Some (holding (building_spot c.args.draw) entries)))))) (sym c.move_answer.ensures)
    (move_left D.observed c.args.draw old new c.args.key c.in-Err.error (with_spots c.building_spot-from.ensures c.in_ok-to.ensures.spot c.in-Err.ensures.called))

pub returns-in-Ok-clause-moves : goal.returns-in-Ok-clause-moves
returns-in-Ok-clause-moves g c t = moved_done (building_spot c.args.draw) c.args.key t (with_spots c.building_spot-from.ensures c.in_ok-to.ensures.spot c.in-Ok.ensures.called)

pub returns-in-Err-clause-moves : goal.returns-in-Err-clause-moves
returns-in-Err-clause-moves g c t =
    let D = g.D.Dir in
    let old = D.shown c.args.dir.now in
    let new = D.shown c.move_folder.new.self in
    subst (λ (r : Result Bool StoreError). Moves (building_spot c.args.draw) c.args.key r old new) (sym c.move_answer.ensures)
    (answered_not (building_spot c.args.draw) c.args.key c.in-Err.error old new t (with_spots c.building_spot-from.ensures c.in_ok-to.ensures.spot c.in-Err.ensures.called))
