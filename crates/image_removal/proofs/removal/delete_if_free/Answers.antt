use Rattle.std.proofs.Common.{◌≡◌, ℕ, List, true, inl, inr, Err, IfOk, IfErr, Result, ap, sym, subst, ◌∙◌}
use Rattle.plain_laws.proofs.Results.{if_ok, if_err, err_all}
use Rattle.dir_model.specs.declared.area.Area.TheVariants.{Removed}
use Rattle.dir_model.specs.declared.spot.Mode.TheVariants.{Exclusive}
use Rattle.dir_rules.specs.declared.seen.Seen.{Seen}
use Rattle.dir_trait.specs.Knowledge.{Knows}
use Rattle.dir_trait.specs.Effects.{OnlyAsks}
use Rattle.dir_files.specs.AreaLocks.{is_free_of, IsBusy, IsBusyElsewhere}
use Rattle.dir_files.proofs.Locking.{number_is_new}
use Rattle.folder_building.specs.Work.{either}
use Rattle.folder_building.proofs.Working.{worked_wider}
use Rattle.folder_building.proofs.Following.{GivesBack, follows_back}
use Rattle.folder_removal.specs.Removal.{asks_deletion_at}
use Rattle.image_reading.specs.declared.error.StoreError.{StoreError}
use Rattle.image_removal.specs.Requests.{removed_spot, away_spot, looks_at_folder}
use Rattle.image_removal.specs.Causes.{RemovalWorkCause}
use Rattle.image_removal.specs.Removals.{IsGone, IsGoneUnless}
use Rattle.image_removal.proofs.Times.{work_after, work_before}
use Rattle.image_removal.proofs.Causes.{free_cause, free_busy}
use Rattle.image_removal.proofs.Locked.{Takes, follows_take, worked_refused, worked_under, may_lock_removed, holds_now, back_conforms, same_conforms}
use Rattle.image_removal.proofs.Ends.{lock_away, work_away, gone_after, gone_before}
use Rattle.folder_removal.specs.Removal.{KeepsFolders}
use Rattle.folder_removal.proofs.Keeping.{kept_more}
use Rattle.image_removal.proofs.Keeping.{kept_taking, kept_closing}
use Rattle.image_removal.proofs.Lawful.{conforming_part, free_never}
use Rattle.image_removal.proofs.removal.delete_if_free.Goals as goal

pub returns-in-Ok-clause-worked : goal.returns-in-Ok-clause-worked
returns-in-Ok-clause-worked g c =
    let D = g.D.Dir in
    let mid = D.shown c.lock_area.new.dir in
    let late = D.shown c.delete_if_there-result.new.dir in
    let s : Takes D.observed Removed c.in-Ok.gate (D.shown c.args.dir.now) mid = record {
      same = c.lock_area.ensures.same;
      faults = c.lock_area.ensures.faults;
      held = c.in-Ok.ensures.held;
      unopened = c.in-Ok.ensures.unopened;
      extends = c.lock_area.ensures.extends;
    } in
    let b : GivesBack D.observed c.in-Ok.gate late (D.shown c.unlock_area.new.dir) = record {
      same = c.unlock_area.ensures.same;
      faultless = c.unlock_area.ensures.faultless;
      local = c.unlock_area.ensures.local;
      extends = c.unlock_area.ensures.extends;
    } in
    worked_under (lock_away c.args.draw) s (worked_wider (work_away c.args.draw)
    (subst (λ (n : List ℕ). OnlyAsks D.observed (either (looks_at_folder (removed_spot n)) (asks_deletion_at (removed_spot n))) mid late) c.name.ensures.text c.delete_if_there-result.ensures.worked)) b

pub returns-in-Ok-clause-cause : goal.returns-in-Ok-clause-cause
returns-in-Ok-clause-cause g c =
    let D = g.D.Dir in
    let old = D.shown c.args.dir.now in
    let mid = D.shown c.lock_area.new.dir in
    let late = D.shown c.delete_if_there-result.new.dir in
    let new = D.shown c.unlock_area.new.dir in
    let s : Takes D.observed Removed c.in-Ok.gate old mid = record {
      same = c.lock_area.ensures.same;
      faults = c.lock_area.ensures.faults;
      held = c.in-Ok.ensures.held;
      unopened = c.in-Ok.ensures.unopened;
      extends = c.lock_area.ensures.extends;
    } in
    let b : GivesBack D.observed c.in-Ok.gate late new = record {
      same = c.unlock_area.ensures.same;
      faultless = c.unlock_area.ensures.faultless;
      local = c.unlock_area.ensures.local;
      extends = c.unlock_area.ensures.extends;
    } in
    if_err (λ e. RemovalWorkCause D.observed e mid late) (λ e. RemovalWorkCause D.observed e old new) c.delete_if_there-result.result
    (λ e w. work_after (follows_take s) (work_before w (follows_back b))) c.delete_if_there-result.ensures.cause

pub returns-in-Ok-clause-gone : goal.returns-in-Ok-clause-gone
returns-in-Ok-clause-gone g c =
    let D = g.D.Dir in
    let old = D.shown c.args.dir.now in
    let mid = D.shown c.lock_area.new.dir in
    let late = D.shown c.delete_if_there-result.new.dir in
    let new = D.shown c.unlock_area.new.dir in
    if_ok (λ done. D.observed ≡ true → IsGone (removed_spot c.name.result) mid.process mid.trace late.trace)
    (λ done. D.observed ≡ true → IsGoneUnless (IsBusy Removed Exclusive) (away_spot c.args.draw) old.process old.trace new.trace) c.delete_if_there-result.result
    (λ done gone t. inl (gone_after (c.lock_area.ensures.extends t) c.lock_area.ensures.same
    (gone_before (subst (λ (n : List ℕ). IsGone (removed_spot n) mid.process mid.trace late.trace) c.name.ensures.text (gone t)) c.delete_if_there-result.ensures.worked.same
    (c.unlock_area.ensures.extends t))))
    c.delete_if_there-result.ensures.gone

pub returns-in-Ok-clause-by_other_process : goal.returns-in-Ok-clause-by_other_process
returns-in-Ok-clause-by_other_process g c =
    let D = g.D.Dir in
    let old = D.shown c.args.dir.now in
    let mid = D.shown c.lock_area.new.dir in
    let late = D.shown c.delete_if_there-result.new.dir in
    let new = D.shown c.unlock_area.new.dir in
    if_ok (λ done. D.observed ≡ true → IsGone (removed_spot c.name.result) mid.process mid.trace late.trace)
    (λ done. D.observed ≡ true → (s : Seen) → Knows old s → is_free_of Removed s ≡ true → IsGoneUnless (IsBusyElsewhere old.process Removed Exclusive)
    (away_spot c.args.draw) old.process old.trace new.trace) c.delete_if_there-result.result
    (λ done gone t seen k free. inl (gone_after (c.lock_area.ensures.extends t) c.lock_area.ensures.same
    (gone_before (subst (λ (n : List ℕ). IsGone (removed_spot n) mid.process mid.trace late.trace) c.name.ensures.text (gone t)) c.delete_if_there-result.ensures.worked.same
    (c.unlock_area.ensures.extends t))))
    c.delete_if_there-result.ensures.gone

pub returns-in-Ok-clause-stays : goal.returns-in-Ok-clause-stays
returns-in-Ok-clause-stays g c t s k may =
    let h = c.in-Ok.gate in
    back_conforms s h Removed (number_is_new h k c.in-Ok.ensures.unopened) (λ z fresh known. c.unlock_area.ensures.given_exclusive t z Removed fresh known)
    (c.delete_if_there-result.ensures.stays t _ (c.in-Ok.ensures.taken t s k (may_lock_removed may)) (holds_now Removed s h may.bare))

pub returns-in-Err-clause-worked : goal.returns-in-Err-clause-worked
returns-in-Err-clause-worked g c = worked_refused Removed (lock_away c.args.draw) c.lock_area.ensures.same c.lock_area.ensures.faults c.in-Err.ensures.refused c.lock_area.ensures.extends

pub returns-in-Err-clause-cause : goal.returns-in-Err-clause-cause
returns-in-Err-clause-cause g c =
    let D = g.D.Dir in
    let old = D.shown c.args.dir.now in
    let new = D.shown c.lock_area.new.dir in
    subst (λ (r : Result (Unit {0}) StoreError). IfErr r (λ e. RemovalWorkCause D.observed e old new)) (sym c.lock_free.ensures)
    (free_cause D.observed old new c.in-Err.error (λ is. c.in-Err.ensures.cause (ap Err is)))

pub returns-in-Err-clause-gone : goal.returns-in-Err-clause-gone
returns-in-Err-clause-gone g c =
    let D = g.D.Dir in
    let old = D.shown c.args.dir.now in
    let new = D.shown c.lock_area.new.dir in
    let P = D.observed ≡ true → IsGoneUnless (IsBusy Removed Exclusive) (away_spot c.args.draw) old.process old.trace new.trace in
    subst (λ (r : Result (Unit {0}) StoreError). IfOk r (λ done. P)) (sym c.lock_free.ensures) (free_busy P c.in-Err.error (λ is t. inr (c.in-Err.ensures.busy (ap Err is) t)))

pub returns-in-Err-clause-by_other_process : goal.returns-in-Err-clause-by_other_process
returns-in-Err-clause-by_other_process g c =
    let D = g.D.Dir in
    let old = D.shown c.args.dir.now in
    let new = D.shown c.lock_area.new.dir in
    let P = D.observed ≡ true → (s : Seen) → Knows old s → is_free_of Removed s ≡ true → IsGoneUnless (IsBusyElsewhere old.process Removed Exclusive)
    (away_spot c.args.draw) old.process old.trace new.trace in
    subst (λ (r : Result (Unit {0}) StoreError). IfOk r (λ done. P)) (sym c.lock_free.ensures) (free_busy P c.in-Err.error (λ is t s k free. inr (c.in-Err.ensures.by_other_process (ap Err is) t s k free)))

pub returns-in-Err-clause-stays : goal.returns-in-Err-clause-stays
returns-in-Err-clause-stays g c t s k may = same_conforms (c.in-Err.ensures.left t s k (may_lock_removed may))

pub returns-in-Ok-clause-kept : goal.returns-in-Ok-clause-kept
returns-in-Ok-clause-kept g c =
    let D = g.D.Dir in
    if_err (λ e. D.observed ≡ true → KeepsFolders (D.shown c.lock_area.new.dir) (D.shown c.delete_if_there-result.new.dir)) (λ e. D.observed ≡ true → KeepsFolders (D.shown c.args.dir.now) (D.shown c.unlock_area.new.dir)) c.delete_if_there-result.result
    (λ e kept t. kept_more (kept_more (kept_taking Removed Exclusive (c.lock_area.ensures.extends t)) c.lock_area.ensures.same (kept t)) (c.delete_if_there-result.ensures.worked.same ∙ c.lock_area.ensures.same) (kept_closing c.in-Ok.gate (c.unlock_area.ensures.extends t)))
    c.delete_if_there-result.ensures.kept

pub returns-in-Err-clause-kept : goal.returns-in-Err-clause-kept
returns-in-Err-clause-kept g c =
    let D = g.D.Dir in
    err_all (λ e. D.observed ≡ true → KeepsFolders (D.shown c.args.dir.now) (D.shown c.lock_area.new.dir)) c.lock_free.result (λ e t. kept_taking Removed Exclusive (c.lock_area.ensures.extends t))

pub returns-in-Ok-clause-lawful : goal.returns-in-Ok-clause-lawful
returns-in-Ok-clause-lawful g c is t s k may conforming =
    c.delete_if_there-result.ensures.lawful is t _ (c.in-Ok.ensures.taken t s k (may_lock_removed may)) (holds_now Removed s c.in-Ok.gate may.bare) (conforming_part (c.unlock_area.ensures.extends t) conforming)

pub returns-in-Err-clause-lawful : goal.returns-in-Err-clause-lawful
returns-in-Err-clause-lawful g c is t s k may conforming = free_never c.in-Err.error (sym c.lock_free.ensures ∙ is)
