use Rattle.std.proofs.Common.{◌≡◌, true, Err, ap, sym, subst, arith, ◌∙◌}
use Rattle.plain_laws.proofs.Results.{if_ok, if_err}
use Rattle.dir_model.specs.declared.area.Area.TheVariants.{Images}
use Rattle.dir_model.specs.declared.request.Reply.TheVariants.{Done}
use Rattle.dir_model.specs.Calls.{CallStep}
use Rattle.dir_model.proofs.Chains.{extends_wider}
use Rattle.dir_rules.specs.declared.seen.Seen.{Seen}
use Rattle.dir_trait.specs.Knowledge.{Knows}
use Rattle.dir_files.specs.AreaLocks.{is_free_of}
use Rattle.dir_files.proofs.Locking.{number_is_new}
use Rattle.folder_building.proofs.Working.{worked_wider}
use Rattle.folder_building.proofs.Following.{GivesBack}
use Rattle.image_reading.specs.declared.error.StoreError.{StoreError}
use Rattle.image_removal.specs.Requests.{puts_away}
use Rattle.image_removal.specs.Calls.{WasCalled}
use Rattle.image_removal.specs.Causes.{MoveCause, ImageRemovalCause, RemovalBusyElsewhere}
use Rattle.image_removal.proofs.Times.{called_self, called_after, called_before}
use Rattle.image_removal.proofs.Causes.{lock_removing, lock_elsewhere, move_never_busy, move_removing}
use Rattle.image_removal.proofs.Locked.{Takes, closes_taken, worked_refused, worked_under, may_lock_images, puts_now, back_bare, same_bare}
use Rattle.image_removal.proofs.Ends.{images_remove, moves_remove}
use Rattle.folder_removal.proofs.Keeping.{kept_more}
use Rattle.image_removal.proofs.Keeping.{kept_taking, kept_moving, kept_closing}
use Rattle.dir_model.specs.declared.spot.Mode.TheVariants.{Exclusive}
use Rattle.image_reading.specs.Places.{image_spot}
use Rattle.image_removal.specs.Requests.{away_spot}
use Rattle.image_reading.specs.declared.error.StoreError.TheVariants.{Stray}
use Rattle.image_removal.proofs.Lawful.{conforming_part, lock_never}
use Rattle.image_removal.proofs.removal.put_away_locked.Goals as goal

pub returns-in-Ok-clause-worked : goal.returns-in-Ok-clause-worked
returns-in-Ok-clause-worked g c =
    let D = g.D.Dir in
    let s : Takes D.observed Images c.in-Ok.gate (D.shown c.args.dir.now) (D.shown c.lock_area.new.dir) = record {
      same = c.lock_area.ensures.same;
      faults = c.lock_area.ensures.faults;
      held = c.in-Ok.ensures.held;
      unopened = c.in-Ok.ensures.unopened;
      extends = c.lock_area.ensures.extends;
    } in
    let b : GivesBack D.observed c.in-Ok.gate (D.shown c.put_image_away-result.new.dir) (D.shown c.unlock_area.new.dir) = record {
      same = c.unlock_area.ensures.same;
      faultless = c.unlock_area.ensures.faultless;
      local = c.unlock_area.ensures.local;
      extends = c.unlock_area.ensures.extends;
    } in
    worked_under (images_remove c.args.key c.args.draw) s (worked_wider (moves_remove c.args.key c.args.draw) c.put_image_away-result.ensures.worked) b

pub returns-in-Ok-clause-cause : goal.returns-in-Ok-clause-cause
returns-in-Ok-clause-cause g c =
    let D = g.D.Dir in
    let old = D.shown c.args.dir.now in
    let mid = D.shown c.lock_area.new.dir in
    let late = D.shown c.put_image_away-result.new.dir in
    let new = D.shown c.unlock_area.new.dir in
    if_err (λ e. MoveCause D.observed c.args.key c.args.draw e mid late) (λ e. ImageRemovalCause D.observed c.args.key c.args.draw e old new) c.put_image_away-result.result
    (λ e m. move_removing c.args.key c.args.draw e c.lock_area.ensures.same c.lock_area.ensures.faults c.lock_area.ensures.extends c.put_image_away-result.ensures.worked.same
    (omega (arith, c.unlock_area.ensures.faultless)) (λ t. extends_wider (closes_taken Images c.in-Ok.gate) (c.unlock_area.ensures.extends t)) m)
    c.put_image_away-result.ensures.cause

pub returns-in-Ok-clause-by_other_process : goal.returns-in-Ok-clause-by_other_process
returns-in-Ok-clause-by_other_process g c =
    let D = g.D.Dir in
    let old = D.shown c.args.dir.now in
    let mid = D.shown c.lock_area.new.dir in
    let late = D.shown c.put_image_away-result.new.dir in
    let new = D.shown c.unlock_area.new.dir in
    if_err (λ e. MoveCause D.observed c.args.key c.args.draw e mid late)
    (λ e. D.observed ≡ true → (s : Seen) → Knows old s → is_free_of Images s ≡ true → RemovalBusyElsewhere e old new) c.put_image_away-result.result
    (λ e m t s k free. move_never_busy old new e m.kind) c.put_image_away-result.ensures.cause

pub returns-in-Ok-clause-moved : goal.returns-in-Ok-clause-moved
returns-in-Ok-clause-moved g c =
    let D = g.D.Dir in
    let old = D.shown c.args.dir.now in
    let mid = D.shown c.lock_area.new.dir in
    let late = D.shown c.put_image_away-result.new.dir in
    let new = D.shown c.unlock_area.new.dir in
    if_ok (λ done. D.observed ≡ true → CallStep mid.process mid.trace (puts_away c.args.key c.args.draw) Done late.trace)
    (λ done. D.observed ≡ true → WasCalled (puts_away c.args.key c.args.draw) Done old.process old.trace new.trace) c.put_image_away-result.result
    (λ done step t. called_after (c.lock_area.ensures.extends t) c.lock_area.ensures.same (called_before (called_self (step t)) (c.unlock_area.ensures.extends t)))
    c.put_image_away-result.ensures.moved

pub returns-in-Ok-clause-stays : goal.returns-in-Ok-clause-stays
returns-in-Ok-clause-stays g c t s k may =
    let h = c.in-Ok.gate in
    back_bare s h Images (number_is_new h k c.in-Ok.ensures.unopened) (λ z fresh known. c.unlock_area.ensures.given_exclusive t z Images fresh known)
    (c.put_image_away-result.ensures.stays t _ (c.in-Ok.ensures.taken t s k (may_lock_images may)) (puts_now s h may))

pub returns-in-Err-clause-worked : goal.returns-in-Err-clause-worked
returns-in-Err-clause-worked g c = worked_refused Images (images_remove c.args.key c.args.draw) c.lock_area.ensures.same c.lock_area.ensures.faults c.in-Err.ensures.refused
    c.lock_area.ensures.extends

pub returns-in-Err-clause-cause : goal.returns-in-Err-clause-cause
returns-in-Err-clause-cause g c =
    let D = g.D.Dir in
    subst (λ (e : StoreError). ImageRemovalCause D.observed c.args.key c.args.draw e (D.shown c.args.dir.now) (D.shown c.lock_area.new.dir)) (sym c.lock_refusal.ensures)
    (lock_removing c.in-Err.error (λ is. c.in-Err.ensures.cause (ap Err is)) (λ is. c.in-Err.ensures.busy (ap Err is)) c.lock_area.ensures.extends)

pub returns-in-Err-clause-by_other_process : goal.returns-in-Err-clause-by_other_process
returns-in-Err-clause-by_other_process g c t s k free =
    let D = g.D.Dir in
    let old = D.shown c.args.dir.now in
    let new = D.shown c.lock_area.new.dir in
    subst (λ (e : StoreError). RemovalBusyElsewhere e old new) (sym c.lock_refusal.ensures)
    (lock_elsewhere old new Images c.in-Err.error (λ is. c.in-Err.ensures.by_other_process (ap Err is) t s k free))

pub returns-in-Err-clause-stays : goal.returns-in-Err-clause-stays
returns-in-Err-clause-stays g c t s k may = same_bare may.bare (c.in-Err.ensures.left t s k (may_lock_images may))

pub returns-in-Ok-clause-kept : goal.returns-in-Ok-clause-kept
returns-in-Ok-clause-kept g c t =
    kept_more (kept_more (kept_taking Images Exclusive (c.lock_area.ensures.extends t)) c.lock_area.ensures.same (kept_moving (image_spot c.args.key) (away_spot c.args.draw) (c.put_image_away-result.ensures.worked.extends t)))
    (c.put_image_away-result.ensures.worked.same ∙ c.lock_area.ensures.same) (kept_closing c.in-Ok.gate (c.unlock_area.ensures.extends t))

pub returns-in-Err-clause-kept : goal.returns-in-Err-clause-kept
returns-in-Err-clause-kept g c t =
    kept_taking Images Exclusive (c.lock_area.ensures.extends t)

pub returns-in-Ok-clause-lawful : goal.returns-in-Ok-clause-lawful
returns-in-Ok-clause-lawful g c is t conforming = c.put_image_away-result.ensures.lawful is t (conforming_part (c.unlock_area.ensures.extends t) conforming)

pub returns-in-Err-clause-lawful : goal.returns-in-Err-clause-lawful
returns-in-Err-clause-lawful g c is t conforming =
    let same : c.lock_refusal.result ≡ Stray = cc in
    lock_never Images c.in-Err.error (sym c.lock_refusal.ensures ∙ same)
