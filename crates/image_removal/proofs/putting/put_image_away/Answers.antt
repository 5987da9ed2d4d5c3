use Rattle.std.proofs.Common.{◌≡◌, Ok, Err, ap, sym, subst}
use Rattle.dir_trait.proofs.Calls.{with_spots}
use Rattle.image_reading.specs.declared.error.StoreError.{StoreError}
use Rattle.image_reading.specs.declared.error.StoreError.TheVariants.{Stray}
use Rattle.image_reading.specs.Places.{image_spot}
use Rattle.image_removal.specs.Requests.{away_spot}
use Rattle.image_removal.specs.Causes.{MoveCause}
use Rattle.image_removal.proofs.Causes.{move_cause}
use Rattle.image_removal.proofs.Knowing.{moved_stays}
use Rattle.image_removal.proofs.Lawful.{met_never}
use Rattle.image_removal.proofs.Ends.{worked_move}
use Rattle.image_removal.proofs.putting.put_image_away.Goals as goal

pub returns-in-Ok-clause-worked : goal.returns-in-Ok-clause-worked
returns-in-Ok-clause-worked g c =
    worked_move (image_spot c.args.key) (away_spot c.args.draw) (Ok tt) (with_spots c.in_ok-from.ensures.spot c.away_spot.ensures c.in-Ok.ensures.called)

pub returns-in-Ok-clause-stays : goal.returns-in-Ok-clause-stays
returns-in-Ok-clause-stays g c t s k may =
    moved_stays s c.args.key c.args.draw may (Ok tt) t k (with_spots c.in_ok-from.ensures.spot c.away_spot.ensures c.in-Ok.ensures.called)

pub returns-in-Err-clause-worked : goal.returns-in-Err-clause-worked
returns-in-Err-clause-worked g c =
    worked_move (image_spot c.args.key) (away_spot c.args.draw) (Err c.in-Err.error) (with_spots c.in_ok-from.ensures.spot c.away_spot.ensures c.in-Err.ensures.called)

pub returns-in-Err-clause-cause : goal.returns-in-Err-clause-cause
returns-in-Err-clause-cause g c =
    let D = g.D.Dir in
    subst (λ (e : StoreError). MoveCause D.observed c.args.key c.args.draw e (D.shown c.args.dir.now) (D.shown c.move_folder.new.self)) (sym c.move_refusal.ensures)
    (move_cause c.args.key c.args.draw c.in-Err.error c.in-Err.ensures.refusals (λ is. c.in-Err.ensures.cause (ap Err is))
    (with_spots c.in_ok-from.ensures.spot c.away_spot.ensures c.in-Err.ensures.called))

pub returns-in-Err-clause-stays : goal.returns-in-Err-clause-stays
returns-in-Err-clause-stays g c t s k may =
    moved_stays s c.args.key c.args.draw may (Err c.in-Err.error) t k (with_spots c.in_ok-from.ensures.spot c.away_spot.ensures c.in-Err.ensures.called)

pub returns-in-Err-clause-lawful : goal.returns-in-Err-clause-lawful
returns-in-Err-clause-lawful g c is t conforming =
    let D = g.D.Dir in
    let same : c.move_refusal.result ≡ Stray = cc in
    let cause : MoveCause D.observed c.args.key c.args.draw c.move_refusal.result (D.shown c.args.dir.now) (D.shown c.move_folder.new.self) =
    subst (λ (e : StoreError). MoveCause D.observed c.args.key c.args.draw e (D.shown c.args.dir.now) (D.shown c.move_folder.new.self)) (sym c.move_refusal.ensures)
    (move_cause c.args.key c.args.draw c.in-Err.error c.in-Err.ensures.refusals (λ is. c.in-Err.ensures.cause (ap Err is))
    (with_spots c.in_ok-from.ensures.spot c.away_spot.ensures c.in-Err.ensures.called)) in
    met_never c.args.key c.args.draw (cause.stray same t) conforming
