use Rattle.std.proofs.Common.{◌≡◌, ℕ, true, subst, inl, inr, rules}
use Rattle.plain_laws.proofs.Results.{if_ok, if_err, err_same}
use Rattle.dir_model.specs.declared.area.Area.TheVariants.{Removed}
use Rattle.dir_rules.specs.declared.seen.Seen.{Seen}
use Rattle.dir_trait.specs.Knowledge.{Knows}
use Rattle.dir_files.specs.AreaLocks.{is_free_of}
use Rattle.folder_building.proofs.Following.{follows_work}
use Rattle.image_removal.specs.declared.pass.Pass.TheVariants.{PutAway, Delete}
use Rattle.image_removal.specs.Causes.{RemovalWorkCause}
use Rattle.image_removal.specs.Sweeps.{AddsSweepLines, PassedBetween, Tried, TriedBetween, IsStoreSweptBetween, HasTriedBetween, BusyNow, BusyApart}
use Rattle.image_removal.specs.Work.{MayPassStore, MaySweepStore}
use Rattle.image_removal.proofs.Times.{work_after}
use Rattle.image_removal.proofs.Knowing.{conforms_more}
use Rattle.image_removal.proofs.Locked.{first_pass, second_pass, pass_still}
use Rattle.image_removal.proofs.Passing.{tried_none, passed_tried, adds_both, either_conforms}
use Rattle.image_removal.specs.Ended.{EndsStorePass, EndsStorePassBetween, EndsImageSweepBetween}
use Rattle.image_removal.proofs.sweeping.sweep_both.Goals as goal

pub returns-clause-cause : goal.returns-clause-cause
returns-clause-cause g c =
    let D = g.D.Dir in
    let old = D.shown c.args.dir.now in
    let mid = D.shown c.sweep_area.new.dir in
    let new = D.shown c.sweep_area-2.new.dir in
    if_err (λ e. RemovalWorkCause D.observed e mid new) (λ e. RemovalWorkCause D.observed e old new) c.sweep_area-2.result (λ e w. work_after (follows_work c.sweep_area.ensures.worked) w)
    c.sweep_area-2.ensures.cause

pub returns-clause-swept : goal.returns-clause-swept
returns-clause-swept g c =
    let D = g.D.Dir in
    let old = D.shown c.args.dir.now in
    let mid = D.shown c.sweep_area.new.dir in
    let new = D.shown c.sweep_area-2.new.dir in
    let before = c.args.lines.now.items in
    let between = c.sweep_area.new.lines.items in
    let after = c.sweep_area-2.new.lines.items in
    if_ok (λ done. D.observed ≡ true → AddsSweepLines (PassedBetween BusyNow Delete mid new) between after) (λ done. D.observed ≡ true → AddsSweepLines (IsStoreSweptBetween BusyNow old new) before after)
    c.sweep_area-2.result
    (λ done passed t. adds_both BusyNow old mid new c.sweep_area.ensures.worked.same before between after (c.in_ok-sweep_area.ensures.passed t) (passed t)) c.sweep_area-2.ensures.passed

pub returns-clause-swept_unless_another : goal.returns-clause-swept_unless_another
returns-clause-swept_unless_another g c =
    let D = g.D.Dir in
    let old = D.shown c.args.dir.now in
    let mid = D.shown c.sweep_area.new.dir in
    let new = D.shown c.sweep_area-2.new.dir in
    let before = c.args.lines.now.items in
    let between = c.sweep_area.new.lines.items in
    let after = c.sweep_area-2.new.lines.items in
    let same = c.sweep_area.ensures.worked.same in
    if_ok (λ done. D.observed ≡ true → (s : Seen) → Knows mid s → is_free_of Removed s ≡ true → AddsSweepLines (PassedBetween (BusyApart mid.process) Delete mid new) between after)
    (λ done. D.observed ≡ true → (s : Seen) → Knows old s → MaySweepStore s → AddsSweepLines (IsStoreSweptBetween (BusyApart old.process) old new) before after) c.sweep_area-2.result
    (λ done passed t s k may.
    let x = c.in_ok-sweep_area.ensures.stays t s k (first_pass may) in
    adds_both (BusyApart old.process) old mid new same before between after (c.in_ok-sweep_area.ensures.by_other_process t s k may.incoming)
    (subst (λ (me : ℕ). AddsSweepLines (PassedBetween (BusyApart me) Delete mid new) between after) same (passed t x.known x.knows (pass_still (second_pass may) x).free)))
    c.sweep_area-2.ensures.by_other_process

pub returns-clause-tried : goal.returns-clause-tried
returns-clause-tried g c =
    let D = g.D.Dir in
    let old = D.shown c.args.dir.now in
    let mid = D.shown c.sweep_area.new.dir in
    let new = D.shown c.sweep_area-2.new.dir in
    if_err (λ e. D.observed ≡ true → TriedBetween Delete mid new) (λ e. D.observed ≡ true → HasTriedBetween old new) c.sweep_area-2.result
    (λ e tried t.
    let x = c.in_ok-sweep_area.ensures.passed t in
    record {
      between = mid.trace;
      puts_away = passed_tried BusyNow PutAway x.0 old.process old.trace mid.trace x.2;
      deletes = subst (λ (me : ℕ). Tried Delete me mid.trace new.trace) c.sweep_area.ensures.worked.same (tried t);
    })
    c.sweep_area-2.ensures.tried

pub returns-clause-conforms : goal.returns-clause-conforms
returns-clause-conforms g c t s k may =
    let D = g.D.Dir in
    let x = c.in_ok-sweep_area.ensures.stays t s k (first_pass may) in
    conforms_more x (either_conforms (MayPassStore Removed) D.observed (D.shown c.sweep_area.new.dir) (D.shown c.sweep_area-2.new.dir) c.sweep_area-2.result c.sweep_area-2.ensures.stays
    c.sweep_area-2.ensures.left t
    x.known x.knows (pass_still (second_pass may) x))

pub returns-in_err-sweep_area-clause-ended : goal.returns-in_err-sweep_area-clause-ended
returns-in_err-sweep_area-clause-ended g c =
    let D = g.D.Dir in
    let old = D.shown c.args.dir.now in
    let new = D.shown c.sweep_area.new.dir in
    err_same (λ e. D.observed ≡ true → EndsImageSweepBetween old new) c.sweep_area.result c.from_residual.result (λ e h. search (rules, h, c.from_residual.ensures, c.in_err-sweep_area.is))
    (if_err (λ e. D.observed ≡ true → EndsStorePassBetween PutAway old new) (λ e. D.observed ≡ true → EndsImageSweepBetween old new) c.sweep_area.result (λ e ends t. inl (ends t)) c.sweep_area.ensures.ended)

pub returns-clause-ended : goal.returns-clause-ended
returns-clause-ended g c =
    let D = g.D.Dir in
    let old = D.shown c.args.dir.now in
    let mid = D.shown c.sweep_area.new.dir in
    let new = D.shown c.sweep_area-2.new.dir in
    if_err (λ e. D.observed ≡ true → EndsStorePassBetween Delete mid new) (λ e. D.observed ≡ true → EndsImageSweepBetween old new) c.sweep_area-2.result
    (λ e ends t.
    let x = c.in_ok-sweep_area.ensures.passed t in
    inr (record { between = mid.trace; moved = x.0; puts_away = x.2; ends = subst (λ (me : ℕ). EndsStorePass Delete me mid.trace new.trace) c.sweep_area.ensures.worked.same (ends t) }))
    c.sweep_area-2.ensures.ended

pub returns-in_err-sweep_area-clause-tried : goal.returns-in_err-sweep_area-clause-tried
returns-in_err-sweep_area-clause-tried g c =
    let D = g.D.Dir in
    let old = D.shown c.args.dir.now in
    let new = D.shown c.sweep_area.new.dir in
    err_same (λ e. D.observed ≡ true → HasTriedBetween old new) c.sweep_area.result c.from_residual.result (λ e h. search (rules, h, c.from_residual.ensures, c.in_err-sweep_area.is))
    (if_err (λ e. D.observed ≡ true → TriedBetween PutAway old new) (λ e. D.observed ≡ true → HasTriedBetween old new) c.sweep_area.result
    (λ e tried t. record { between = new.trace; puts_away = tried t; deletes = tried_none Delete old.process new.trace }) c.sweep_area.ensures.tried)

pub returns-in_err-sweep_area-clause-lawful : goal.returns-in_err-sweep_area-clause-lawful
returns-in_err-sweep_area-clause-lawful g c is t s k may conforming = c.sweep_area.ensures.lawful (search (rules, is, c.from_residual.ensures, c.in_err-sweep_area.is)) t s k (first_pass may) conforming

pub returns-clause-lawful : goal.returns-clause-lawful
returns-clause-lawful g c is t s k may conforming =
    let x = c.in_ok-sweep_area.ensures.stays t s k (first_pass may) in
    c.sweep_area-2.ensures.lawful is t x.known x.knows (pass_still (second_pass may) x) conforming
