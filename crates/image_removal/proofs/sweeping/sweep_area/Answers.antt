use Rattle.std.proofs.Common.{false, ◌≡◌, [], ◌∷◌, ◌++◌, true, Some, inl, inr, Err, ap, refl, sym, subst}
use Rattle.plain_laws.proofs.Results.{if_ok, if_err, any_ok, any_err}
use Rattle.dir_model.specs.declared.area.Area.{Area}
use Rattle.dir_model.specs.declared.spot.Mode.TheVariants.{Exclusive}
use Rattle.dir_model.specs.Calls.{Extends}
use Rattle.dir_rules.specs.declared.seen.Seen.{Seen}
use Rattle.dir_trait.specs.DirCalls.{HeldBetween}
use Rattle.dir_trait.specs.Knowledge.{Knows}
use Rattle.dir_files.specs.declared.lock_error.LockError.TheVariants as lock
use Rattle.dir_files.specs.AreaLocks.{is_taking_area, with_gate, is_free_of, MayLock, IsBusy, IsBusyElsewhere, IsFreeElsewhere}
use Rattle.dir_files.proofs.Locking.{number_is_new}
use Rattle.folder_building.proofs.Following.{GivesBack, follows_back}
use Rattle.image_removal.specs.declared.pass.SweepLine.TheVariants.{BusyGate}
use Rattle.image_removal.specs.Passes.{area_of_pass}
use Rattle.image_removal.specs.Causes.{RemovalWorkCause}
use Rattle.image_removal.specs.Sweeps.{AddsSweepLines, SweepsUnder, PassEndsEarly, SweepsBetween, TriesBetween, PassedBetween, TriedBetween, BusyNow, BusyApart}
use Rattle.image_removal.specs.Work.{HoldsArea, MayPassStore, KeepsStandingAndRules, StaysBare, Stays}
use Rattle.image_removal.proofs.Times.{work_after, work_before}
use Rattle.image_removal.proofs.Locked.{Takes, follows_take, worked_refused, worked_under, may_lock_pass, holds_now, back_bare, back_conforms, same_bare, same_conforms}
use Rattle.image_removal.proofs.Names.{takes_sweep}
use Rattle.image_removal.proofs.Passing.{under_lock, line_cause}
use Rattle.image_removal.specs.Ended.{EndsStoreListing, EndsStoreListingBetween, EndsStorePassBetween}
use Rattle.image_reading.specs.declared.error.StoreError.TheVariants.{Stray}
use Rattle.image_removal.specs.Causes.{is_fault_refusal}
use Rattle.image_removal.proofs.Lawful.{conforming_part, of_error}
use Rattle.image_removal.proofs.sweeping.sweep_area.Goals as goal

pub returns-in-Ok-clause-worked : goal.returns-in-Ok-clause-worked
returns-in-Ok-clause-worked g c =
    let D = g.D.Dir in
    let s : Takes D.observed c.area.result c.in-Ok.gate (D.shown c.args.dir.now) (D.shown c.lock_area.new.dir) = record {
      same = c.lock_area.ensures.same;
      faults = c.lock_area.ensures.faults;
      held = c.in-Ok.ensures.held;
      unopened = c.in-Ok.ensures.unopened;
      extends = c.lock_area.ensures.extends;
    } in
    let b : GivesBack D.observed c.in-Ok.gate (D.shown c.sweep_listed-result.new.dir) (D.shown c.unlock_area.new.dir) = record {
      same = c.unlock_area.ensures.same;
      faultless = c.unlock_area.ensures.faultless;
      local = c.unlock_area.ensures.local;
      extends = c.unlock_area.ensures.extends;
    } in
    worked_under (λ r is. takes_sweep c.args.pass r (subst (λ (a : Area). is_taking_area a Exclusive r ≡ true) c.area.ensures is)) s c.sweep_listed-result.ensures.worked b

pub returns-in-Ok-clause-cause : goal.returns-in-Ok-clause-cause
returns-in-Ok-clause-cause g c =
    let D = g.D.Dir in
    let old = D.shown c.args.dir.now in
    let mid = D.shown c.lock_area.new.dir in
    let late = D.shown c.sweep_listed-result.new.dir in
    let new = D.shown c.unlock_area.new.dir in
    let s : Takes D.observed c.area.result c.in-Ok.gate old mid = record {
      same = c.lock_area.ensures.same;
      faults = c.lock_area.ensures.faults;
      held = c.in-Ok.ensures.held;
      unopened = c.in-Ok.ensures.unopened;
      extends = c.lock_area.ensures.extends;
    } in
    let b : GivesBack D.observed c.in-Ok.gate late new = record {
      same = c.unlock_area.ensures.same;
      faultless = c.unlock_area.ensures.faultless;
      local = c.unlock_area.ensures.local;
      extends = c.unlock_area.ensures.extends;
    } in
    if_err (λ e. RemovalWorkCause D.observed e mid late) (λ e. RemovalWorkCause D.observed e old new) c.sweep_listed-result.result
    (λ e w. work_after (follows_take s) (work_before w (follows_back b))) c.sweep_listed-result.ensures.cause

pub returns-in-Ok-clause-passed : goal.returns-in-Ok-clause-passed
returns-in-Ok-clause-passed g c =
    let D = g.D.Dir in
    let pass = c.args.pass in
    let h = c.in-Ok.gate in
    let old = D.shown c.args.dir.now in
    let mid = D.shown c.lock_area.new.dir in
    let late = D.shown c.sweep_listed-result.new.dir in
    let new = D.shown c.unlock_area.new.dir in
    let before = c.args.lines.now.items in
    let after = c.sweep_listed-result.new.lines.items in
    if_ok (λ done. D.observed ≡ true → AddsSweepLines (SweepsBetween pass mid late) before after) (λ done. D.observed ≡ true → AddsSweepLines (PassedBetween BusyNow pass old new) before after)
    c.sweep_listed-result.result
    (λ done adds t.
    let x = adds t in (
      x.0,
      x.1,
      inl (under_lock (area_of_pass pass) h (SweepsUnder pass x.0) old mid late new c.lock_area.ensures.same c.sweep_listed-result.ensures.worked.same
          (subst (λ (a : Area). Extends (is_taking_area a Exclusive) old.process old.trace mid.trace) c.area.ensures (c.lock_area.ensures.extends t))
          (subst (λ (a : Area). HeldBetween old mid (IsFreeElsewhere old.process a Exclusive)) c.area.ensures (c.in-Ok.ensures.free t)) x.2 (c.unlock_area.ensures.extends t)),
    ))
    c.sweep_listed-result.ensures.swept

pub returns-in-Ok-clause-by_other_process : goal.returns-in-Ok-clause-by_other_process
returns-in-Ok-clause-by_other_process g c =
    let D = g.D.Dir in
    let pass = c.args.pass in
    let h = c.in-Ok.gate in
    let old = D.shown c.args.dir.now in
    let mid = D.shown c.lock_area.new.dir in
    let late = D.shown c.sweep_listed-result.new.dir in
    let new = D.shown c.unlock_area.new.dir in
    let before = c.args.lines.now.items in
    let after = c.sweep_listed-result.new.lines.items in
    if_ok (λ done. D.observed ≡ true → AddsSweepLines (SweepsBetween pass mid late) before after)
    (λ done. D.observed ≡ true → (s : Seen) → Knows old s → is_free_of (area_of_pass pass) s ≡ true → AddsSweepLines (PassedBetween (BusyApart old.process) pass old new) before after)
    c.sweep_listed-result.result
    (λ done adds t s k free.
    let x = adds t in (
      x.0,
      x.1,
      inl (under_lock (area_of_pass pass) h (SweepsUnder pass x.0) old mid late new c.lock_area.ensures.same c.sweep_listed-result.ensures.worked.same
          (subst (λ (a : Area). Extends (is_taking_area a Exclusive) old.process old.trace mid.trace) c.area.ensures (c.lock_area.ensures.extends t))
          (subst (λ (a : Area). HeldBetween old mid (IsFreeElsewhere old.process a Exclusive)) c.area.ensures (c.in-Ok.ensures.free t)) x.2 (c.unlock_area.ensures.extends t)),
    ))
    c.sweep_listed-result.ensures.swept

pub returns-in-Ok-clause-tried : goal.returns-in-Ok-clause-tried
returns-in-Ok-clause-tried g c =
    let D = g.D.Dir in
    let pass = c.args.pass in
    let h = c.in-Ok.gate in
    let old = D.shown c.args.dir.now in
    let mid = D.shown c.lock_area.new.dir in
    let late = D.shown c.sweep_listed-result.new.dir in
    let new = D.shown c.unlock_area.new.dir in
    if_err (λ e. D.observed ≡ true → TriesBetween pass mid late) (λ e. D.observed ≡ true → TriedBetween pass old new) c.sweep_listed-result.result
    (λ e tries t. inr (under_lock (area_of_pass pass) h (PassEndsEarly pass) old mid late new c.lock_area.ensures.same c.sweep_listed-result.ensures.worked.same
    (subst (λ (a : Area). Extends (is_taking_area a Exclusive) old.process old.trace mid.trace) c.area.ensures (c.lock_area.ensures.extends t))
    (subst (λ (a : Area). HeldBetween old mid (IsFreeElsewhere old.process a Exclusive)) c.area.ensures (c.in-Ok.ensures.free t)) (tries t) (c.unlock_area.ensures.extends t)))
    c.sweep_listed-result.ensures.tried

pub returns-in-Ok-clause-stays : goal.returns-in-Ok-clause-stays
returns-in-Ok-clause-stays g c =
    let D = g.D.Dir in
    let pass = c.args.pass in
    let area = area_of_pass pass in
    let h = c.in-Ok.gate in
    let old = D.shown c.args.dir.now in
    let mid = D.shown c.lock_area.new.dir in
    let late = D.shown c.sweep_listed-result.new.dir in
    let new = D.shown c.unlock_area.new.dir in
    if_ok (λ done. D.observed ≡ true → Stays (HoldsArea area) StaysBare mid late) (λ done. D.observed ≡ true → Stays (MayPassStore area) StaysBare old new) c.sweep_listed-result.result
    (λ done stays t s k may.
    let taken = subst (λ (a : Area). Knows mid (with_gate s h a (Some Exclusive))) c.area.ensures
    (c.in-Ok.ensures.taken t s k (subst (λ (a : Area). MayLock s a Exclusive) (sym c.area.ensures) (may_lock_pass pass may))) in
    back_bare s h area (number_is_new h k c.in-Ok.ensures.unopened) (λ z fresh known. c.unlock_area.ensures.given_exclusive t z area fresh known) (stays t _ taken (holds_now area s h may.bare)))
    c.sweep_listed-result.ensures.stays

pub returns-in-Ok-clause-left : goal.returns-in-Ok-clause-left
returns-in-Ok-clause-left g c =
    let D = g.D.Dir in
    let pass = c.args.pass in
    let area = area_of_pass pass in
    let h = c.in-Ok.gate in
    let old = D.shown c.args.dir.now in
    let mid = D.shown c.lock_area.new.dir in
    let late = D.shown c.sweep_listed-result.new.dir in
    let new = D.shown c.unlock_area.new.dir in
    if_err (λ e. D.observed ≡ true → Stays (HoldsArea area) KeepsStandingAndRules mid late) (λ e. D.observed ≡ true → Stays (MayPassStore area) KeepsStandingAndRules old new) c.sweep_listed-result.result
    (λ e left t s k may.
    let taken = subst (λ (a : Area). Knows mid (with_gate s h a (Some Exclusive))) c.area.ensures
    (c.in-Ok.ensures.taken t s k (subst (λ (a : Area). MayLock s a Exclusive) (sym c.area.ensures) (may_lock_pass pass may))) in
    back_conforms s h area (number_is_new h k c.in-Ok.ensures.unopened) (λ z fresh known. c.unlock_area.ensures.given_exclusive t z area fresh known) (left t _ taken (holds_now area s h may.bare)))
    c.sweep_listed-result.ensures.left

pub returns-in-Err-clause-worked : goal.returns-in-Err-clause-worked
returns-in-Err-clause-worked g c =
    worked_refused c.area.result (λ r is. takes_sweep c.args.pass r (subst (λ (a : Area). is_taking_area a Exclusive r ≡ true) c.area.ensures is)) c.lock_area.ensures.same
    c.lock_area.ensures.faults c.in-Err.ensures.refused c.lock_area.ensures.extends

pub returns-in-Err-clause-cause : goal.returns-in-Err-clause-cause
returns-in-Err-clause-cause g c =
    let D = g.D.Dir in
    line_cause D.observed (D.shown c.args.dir.now) (D.shown c.lock_area.new.dir) c.busy_line.result c.busy_line.ensures.kind (λ is. c.in-Err.ensures.cause (ap Err (c.busy_line.ensures.fault is)))

pub returns-in-Err-clause-passed : goal.returns-in-Err-clause-passed
returns-in-Err-clause-passed g c =
    let D = g.D.Dir in
    let pass = c.args.pass in
    let old = D.shown c.args.dir.now in
    let new = D.shown c.lock_area.new.dir in
    let before = c.args.lines.now.items in
    let after = c.busy_line.new.lines.items in
    if_ok (λ done. (c.in-Err.error ≡ lock.Busy) × (after ≡ before ++ BusyGate (area_of_pass pass) ∷ []))
    (λ done. D.observed ≡ true → AddsSweepLines (PassedBetween BusyNow pass old new) before after) c.busy_line.result
    (λ done b t. (
      BusyGate (area_of_pass pass) ∷ [],
      b.1,
      inr (record {
        busy = subst (λ (a : Area). HeldBetween old new (IsBusy a Exclusive)) c.area.ensures (c.in-Err.ensures.busy (ap Err b.0) t);
        only = subst (λ (a : Area). Extends (is_taking_area a Exclusive) old.process old.trace new.trace) c.area.ensures (c.lock_area.ensures.extends t);
        line_is = refl;
      }),
    ))
    c.busy_line.ensures.busy

pub returns-in-Err-clause-by_other_process : goal.returns-in-Err-clause-by_other_process
returns-in-Err-clause-by_other_process g c =
    let D = g.D.Dir in
    let pass = c.args.pass in
    let old = D.shown c.args.dir.now in
    let new = D.shown c.lock_area.new.dir in
    let before = c.args.lines.now.items in
    let after = c.busy_line.new.lines.items in
    if_ok (λ done. (c.in-Err.error ≡ lock.Busy) × (after ≡ before ++ BusyGate (area_of_pass pass) ∷ []))
    (λ done. D.observed ≡ true → (s : Seen) → Knows old s → is_free_of (area_of_pass pass) s ≡ true → AddsSweepLines (PassedBetween (BusyApart old.process) pass old new) before after)
    c.busy_line.result
    (λ done b t s k free. (
      BusyGate (area_of_pass pass) ∷ [],
      b.1,
      inr (record {
        busy = subst (λ (a : Area). HeldBetween old new (IsBusyElsewhere old.process a Exclusive)) c.area.ensures
            (c.in-Err.ensures.by_other_process (ap Err b.0) t s k (subst (λ (a : Area). is_free_of a s ≡ true) (sym c.area.ensures) free));
        only = subst (λ (a : Area). Extends (is_taking_area a Exclusive) old.process old.trace new.trace) c.area.ensures (c.lock_area.ensures.extends t);
        line_is = refl;
      }),
    ))
    c.busy_line.ensures.busy

pub returns-in-Err-clause-tried : goal.returns-in-Err-clause-tried
returns-in-Err-clause-tried g c =
    let D = g.D.Dir in
    let old = D.shown c.args.dir.now in
    let new = D.shown c.lock_area.new.dir in
    any_err (D.observed ≡ true → TriedBetween c.args.pass old new) c.busy_line.result
    (λ t. inl (subst (λ (a : Area). Extends (is_taking_area a Exclusive) old.process old.trace new.trace) c.area.ensures (c.lock_area.ensures.extends t)))

pub returns-in-Err-clause-stays : goal.returns-in-Err-clause-stays
returns-in-Err-clause-stays g c =
    let D = g.D.Dir in
    let pass = c.args.pass in
    any_ok (D.observed ≡ true → Stays (MayPassStore (area_of_pass pass)) StaysBare (D.shown c.args.dir.now) (D.shown c.lock_area.new.dir)) c.busy_line.result
    (λ t s k may. same_bare may.bare (c.in-Err.ensures.left t s k (subst (λ (a : Area). MayLock s a Exclusive) (sym c.area.ensures) (may_lock_pass pass may))))

pub returns-in-Err-clause-left : goal.returns-in-Err-clause-left
returns-in-Err-clause-left g c =
    let D = g.D.Dir in
    let pass = c.args.pass in
    any_err (D.observed ≡ true → Stays (MayPassStore (area_of_pass pass)) KeepsStandingAndRules (D.shown c.args.dir.now) (D.shown c.lock_area.new.dir)) c.busy_line.result
    (λ t s k may. same_conforms (c.in-Err.ensures.left t s k (subst (λ (a : Area). MayLock s a Exclusive) (sym c.area.ensures) (may_lock_pass pass may))))

pub returns-in-Ok-clause-ended : goal.returns-in-Ok-clause-ended
returns-in-Ok-clause-ended g c =
    let D = g.D.Dir in
    let pass = c.args.pass in
    let h = c.in-Ok.gate in
    let old = D.shown c.args.dir.now in
    let mid = D.shown c.lock_area.new.dir in
    let late = D.shown c.sweep_listed-result.new.dir in
    let new = D.shown c.unlock_area.new.dir in
    if_err (λ e. D.observed ≡ true → EndsStoreListingBetween pass mid late) (λ e. D.observed ≡ true → EndsStorePassBetween pass old new) c.sweep_listed-result.result
    (λ e ends t. inl (under_lock (area_of_pass pass) h (EndsStoreListing pass) old mid late new c.lock_area.ensures.same c.sweep_listed-result.ensures.worked.same
    (subst (λ (a : Area). Extends (is_taking_area a Exclusive) old.process old.trace mid.trace) c.area.ensures (c.lock_area.ensures.extends t))
    (subst (λ (a : Area). HeldBetween old mid (IsFreeElsewhere old.process a Exclusive)) c.area.ensures (c.in-Ok.ensures.free t)) (ends t) (c.unlock_area.ensures.extends t)))
    c.sweep_listed-result.ensures.ended

pub returns-in-Err-clause-ended : goal.returns-in-Err-clause-ended
returns-in-Err-clause-ended g c =
    let D = g.D.Dir in
    let old = D.shown c.args.dir.now in
    let new = D.shown c.lock_area.new.dir in
    any_err (D.observed ≡ true → EndsStorePassBetween c.args.pass old new) c.busy_line.result
    (λ t. inr (subst (λ (a : Area). Extends (is_taking_area a Exclusive) old.process old.trace new.trace) c.area.ensures (c.lock_area.ensures.extends t)))

pub returns-in-Ok-clause-lawful : goal.returns-in-Ok-clause-lawful
returns-in-Ok-clause-lawful g c is t s k may conforming =
    let D = g.D.Dir in
    let pass = c.args.pass in
    let h = c.in-Ok.gate in
    let mid = D.shown c.lock_area.new.dir in
    let taken = subst (λ (a : Area). Knows mid (with_gate s h a (Some Exclusive))) c.area.ensures
    (c.in-Ok.ensures.taken t s k (subst (λ (a : Area). MayLock s a Exclusive) (sym c.area.ensures) (may_lock_pass pass may))) in
    c.sweep_listed-result.ensures.lawful is t _ taken (holds_now (area_of_pass pass) s h may.bare) (conforming_part (c.unlock_area.ensures.extends t) conforming)

pub returns-in-Err-clause-lawful : goal.returns-in-Err-clause-lawful
returns-in-Err-clause-lawful g c is t s k may conforming =
    let e : false ≡ true = of_error (λ e. is_fault_refusal e ≡ true) c.busy_line.result Stray is c.busy_line.ensures.kind in
    cc
