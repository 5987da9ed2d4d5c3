use Rattle.std.proofs.Common.{◌≡◌, ◌∙◌, Ok, Err, ap, sym, subst}
use Rattle.dir_trait.proofs.Calls.{with_spots}
use Rattle.image_reading.specs.declared.error.StoreError.{StoreError}
use Rattle.image_removal.specs.Requests.{incoming_spot, removed_spot}
use Rattle.image_removal.specs.Causes.{RemovalWorkCause}
use Rattle.image_removal.proofs.Causes.{sweep_cause}
use Rattle.image_removal.proofs.Knowing.{swept_stays}
use Rattle.image_removal.proofs.Ends.{worked_move}
use Rattle.image_reading.specs.declared.error.StoreError.TheVariants.{Stray}
use Rattle.image_removal.proofs.LawfulSweeps.{put_away_never}
use Rattle.image_removal.proofs.putting.put_away.Goals as goal

pub returns-in-Ok-clause-worked : goal.returns-in-Ok-clause-worked
returns-in-Ok-clause-worked g c =
    worked_move (incoming_spot c.args.name) (removed_spot c.args.name) (Ok tt) (with_spots c.incoming_spot.ensures c.removed_spot.ensures c.in-Ok.ensures.called)

pub returns-in-Ok-clause-stays : goal.returns-in-Ok-clause-stays
returns-in-Ok-clause-stays g c t s k may =
    swept_stays s c.args.name may (Ok tt) t k (with_spots c.incoming_spot.ensures c.removed_spot.ensures c.in-Ok.ensures.called)

pub returns-in-Err-clause-worked : goal.returns-in-Err-clause-worked
returns-in-Err-clause-worked g c =
    worked_move (incoming_spot c.args.name) (removed_spot c.args.name) (Err c.in-Err.error) (with_spots c.incoming_spot.ensures c.removed_spot.ensures c.in-Err.ensures.called)

pub returns-in-Err-clause-cause : goal.returns-in-Err-clause-cause
returns-in-Err-clause-cause g c =
    let D = g.D.Dir in
    subst (λ (e : StoreError). RemovalWorkCause D.observed e (D.shown c.args.dir.now) (D.shown c.move_folder.new.self)) (sym c.change_refusal.ensures)
    (sweep_cause c.args.name c.in-Err.error c.in-Err.ensures.refusals (λ is. c.in-Err.ensures.cause (ap Err is)) (with_spots c.incoming_spot.ensures c.removed_spot.ensures c.in-Err.ensures.called))

pub returns-in-Err-clause-stays : goal.returns-in-Err-clause-stays
returns-in-Err-clause-stays g c t s k may =
    swept_stays s c.args.name may (Err c.in-Err.error) t k (with_spots c.incoming_spot.ensures c.removed_spot.ensures c.in-Err.ensures.called)

pub returns-in-Err-clause-lawful : goal.returns-in-Err-clause-lawful
returns-in-Err-clause-lawful g c is t shown conforming =
    let same : c.change_refusal.result ≡ Stray = cc in
    put_away_never c.args.name c.in-Err.error c.in-Err.ensures.refusals (sym c.change_refusal.ensures ∙ same) t (with_spots c.incoming_spot.ensures c.removed_spot.ensures c.in-Err.ensures.called) shown conforming
