use Rattle.std.proofs.Common.{◌≡◌, ◌∷◌, [], ◌++◌, rules, inr, true, None, Err, sym, ap, subst, ◌∙◌, arith}
use Rattle.plain_laws.proofs.Results.{if_ok, if_err}
use Rattle.dir_model.specs.declared.area.Area.TheVariants.{Embryo}
use Rattle.dir_files.specs.declared.lock_error.LockError.TheVariants as lock
use Rattle.pod_locks.proofs.Traces.{grown_by}
use Rattle.pod_locks.proofs.Calls.{stray_part}
use Rattle.pod_gc.specs.declared.gc_error.GcError.{GcError}
use Rattle.pod_gc.specs.declared.line.Deed.TheVariants.{BusyGate}
use Rattle.pod_gc.specs.Causes.{GcCause}
use Rattle.pod_gc.specs.Told.{AddsShown, AddsPassed}
use Rattle.pod_gc.proofs.Gates.{ready_under, ready_same, worked_gate, worked_locked, lock_cause, adds_gate, adds_gated}
use Rattle.pod_gc.specs.Ended.{EndsListingBetween, EndsPassBetween}
use Rattle.pod_gc.proofs.Ending.{whenever, ends_gate}
use Rattle.pod_gc.specs.declared.gc_error.GcError.TheVariants as fault
use Rattle.pod_gc.specs.Causes.{GcStrayByApp}
use Rattle.pod_gc.specs.Sweeping.{MayPassPods, MaySweepAll}
use Rattle.pod_locks.proofs.Lawful.{by_app_part}
use Rattle.pod_gc.proofs.Gates.{follows_lock}
use Rattle.pod_gc.proofs.Lawful.{memory_never, lock_never, gate_passes, follows_unlock}
use Rattle.pod_gc.proofs.passes.pass_embryo.Goals as goal

pub returns-in-Ok-clause-worked : goal.returns-in-Ok-clause-worked
returns-in-Ok-clause-worked g c =
    let l = c.lock_area.ensures in
    let u = c.unlock_area.ensures in
    worked_gate c.args.times.now c.in-Ok.gate c.in-Ok.ensures.unopened l.same l.faults c.in-Ok.ensures.held l.extends c.pass_listed-result.ensures.worked u.same u.faultless u.local u.extends

pub returns-in-Ok-clause-cause : goal.returns-in-Ok-clause-cause
returns-in-Ok-clause-cause g c =
    let D = g.D.Dir in
    let l = c.lock_area.ensures in
    let u = c.unlock_area.ensures in
    let old = D.shown c.args.dir.now in
    let mid = D.shown c.lock_area.new.dir in
    let late = D.shown c.pass_listed-result.new.dir in
    let new = D.shown c.unlock_area.new.dir in
    if_err (λ e. GcCause D.observed e mid late) (λ e. GcCause D.observed e old new) c.pass_listed-result.result
    (λ e x. record {
      fault = λ is. let rose = x.fault is in omega (arith, rose, l.faults, u.faultless);
      stray = λ is t. stray_part (grown_by (l.extends t)) l.same (grown_by (u.extends t)) (x.stray is t);
    })
    c.pass_listed-result.ensures.cause

pub returns-in-Ok-clause-ready : goal.returns-in-Ok-clause-ready
returns-in-Ok-clause-ready g c t =
    ready_under c.in-Ok.ensures.unopened (c.in-Ok.ensures.taken t) (c.pass_listed-result.ensures.ready t) (λ s f k. c.unlock_area.ensures.given_exclusive t s Embryo f k)

pub returns-in-Err-Busy-clause-worked : goal.returns-in-Err-Busy-clause-worked
returns-in-Err-Busy-clause-worked g c =
    let l = c.lock_area.ensures in
    worked_locked c.args.times.now (g.D.Dir.shown c.args.dir.now) (g.D.Dir.shown c.lock_area.new.dir) l.same l.faults c.in-Err-Busy.ensures.refused l.extends

pub returns-in-Err-clause-worked : goal.returns-in-Err-clause-worked
returns-in-Err-clause-worked g c =
    let l = c.lock_area.ensures in
    worked_locked c.args.times.now (g.D.Dir.shown c.args.dir.now) (g.D.Dir.shown c.lock_area.new.dir) l.same l.faults c.in-Err.ensures.refused l.extends

pub returns-in-Err-clause-cause : goal.returns-in-Err-clause-cause
returns-in-Err-clause-cause g c =
    let D = g.D.Dir in
    subst (λ (x : GcError). GcCause D.observed x (D.shown c.args.dir.now) (D.shown c.lock_area.new.dir)) (sym c.lock_fault.ensures)
    (lock_cause c.in-Err.error (λ is. search (rules, is, c.in-Err.error-is)) (λ is. c.lock_area.ensures.cause (c.in-Err.is ∙ ap Err is)))

pub returns-in-Err-clause-ready : goal.returns-in-Err-clause-ready
returns-in-Err-clause-ready g c t = ready_same (c.in-Err.ensures.left t)

pub returns-in-Ok-clause-answer_holds : goal.returns-in-Ok-clause-answer_holds
returns-in-Ok-clause-answer_holds g c =
    let D = g.D.Dir in
    let times = c.args.times in
    let old = D.shown c.args.dir.now in
    let mid = D.shown c.lock_area.new.dir in
    let late = D.shown c.pass_listed-result.new.dir in
    let new = D.shown c.unlock_area.new.dir in
    let before = c.args.lines.now.items in
    let after = c.pass_listed-result.new.lines.items in
    if_ok (λ done. D.observed ≡ true → AddsShown times Embryo mid late before after) (λ done. D.observed ≡ true → AddsPassed times Embryo old new before after) c.pass_listed-result.result
    (λ done told t. adds_gate old mid late new times c.in-Ok.gate before after c.lock_area.ensures.same c.pass_listed-result.ensures.worked.same (λ s k m. c.in-Ok.ensures.taken t s k m) (c.lock_area.ensures.extends t) (c.in-Ok.ensures.free t) (told t) (c.unlock_area.ensures.extends t))
    c.pass_listed-result.ensures.answer_holds

pub returns-in-Err-Busy-clause-answer_holds : goal.returns-in-Err-Busy-clause-answer_holds
returns-in-Err-Busy-clause-answer_holds g c =
    let D = g.D.Dir in
    let times = c.args.times in
    let old = D.shown c.args.dir.now in
    let new = D.shown c.lock_area.new.dir in
    let before = c.args.lines.now.items in
    let after = c.push.new.lines.items in
    let busy : c.lock_area.result ≡ Err lock.Busy = search (rules, c.in-Err-Busy.is, c.in-Err-Busy.field-0-is) in
    if_ok (λ done. after ≡ before ++ record { place = Embryo; pod = None; deed = BusyGate } ∷ []) (λ done. D.observed ≡ true → AddsPassed times Embryo old new before after) c.push.result
    (λ done adds t. adds_gated times old new before after adds (c.lock_area.ensures.busy busy t) (λ s k free. c.lock_area.ensures.by_other_process busy t s k free) (c.lock_area.ensures.extends t)) c.push.ensures.items

pub returns-in-Ok-clause-ended : goal.returns-in-Ok-clause-ended
returns-in-Ok-clause-ended g c =
    let D = g.D.Dir in
    let times = c.args.times in
    let old = D.shown c.args.dir.now in
    let mid = D.shown c.lock_area.new.dir in
    let late = D.shown c.pass_listed-result.new.dir in
    let new = D.shown c.unlock_area.new.dir in
    if_err (λ e. D.observed ≡ true → EndsListingBetween times Embryo mid late) (λ e. D.observed ≡ true → EndsPassBetween times Embryo old new) c.pass_listed-result.result
    (λ e x t. ends_gate old mid late new times c.in-Ok.gate c.lock_area.ensures.same c.pass_listed-result.ensures.worked.same (λ s k m. c.in-Ok.ensures.taken t s k m) (c.lock_area.ensures.extends t) (c.in-Ok.ensures.free t) (x t) (c.unlock_area.ensures.extends t))
    c.pass_listed-result.ensures.ended

pub returns-in-Err-Busy-clause-ended : goal.returns-in-Err-Busy-clause-ended
returns-in-Err-Busy-clause-ended g c = whenever c.push.result (λ t. inr (c.lock_area.ensures.extends t))

pub returns-in-Err-clause-ended : goal.returns-in-Err-clause-ended
returns-in-Err-clause-ended g c t = inr (c.lock_area.ensures.extends t)

pub returns-in-Ok-clause-lawful : goal.returns-in-Ok-clause-lawful
returns-in-Ok-clause-lawful g c =
    let D = g.D.Dir in
    let l = c.lock_area.ensures in
    let u = c.unlock_area.ensures in
    let old = D.shown c.args.dir.now in
    let mid = D.shown c.lock_area.new.dir in
    let late = D.shown c.pass_listed-result.new.dir in
    let new = D.shown c.unlock_area.new.dir in
    if_err (λ e. GcStrayByApp D.observed e (MayPassPods Embryo c.args.times.now c.args.times.expire) mid late) (λ e. GcStrayByApp D.observed e (MaySweepAll c.args.times.now c.args.times.expire) old new) c.pass_listed-result.result
    (λ e x is. by_app_part (follows_lock {a = old} {b = mid} l.same l.faults l.extends) (follows_unlock {c = late} {d = new} c.in-Ok.gate u.same u.faultless u.extends) (gate_passes c.in-Ok.gate c.in-Ok.ensures.taken) (x is)) c.pass_listed-result.ensures.lawful

pub returns-in-Err-Busy-clause-lawful : goal.returns-in-Err-Busy-clause-lawful
returns-in-Err-Busy-clause-lawful g c =
    let D = g.D.Dir in
    if_err (λ e. e ≡ fault.NoMemory) (λ e. GcStrayByApp D.observed e (MaySweepAll c.args.times.now c.args.times.expire) (D.shown c.args.dir.now) (D.shown c.lock_area.new.dir)) c.push.result (λ e memory is. absurd (memory_never memory is)) c.push.ensures.memory

pub returns-in-Err-clause-lawful : goal.returns-in-Err-clause-lawful
returns-in-Err-clause-lawful g c is = absurd (lock_never c.in-Err.error (sym c.lock_fault.ensures ∙ is))
