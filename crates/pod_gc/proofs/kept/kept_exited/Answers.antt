use Rattle.std.proofs.Common.{◌≡◌, rules, true, false, Some, Err, Result, IfOk, IfErr, refl, sym, ap, subst, arith, ℕ, Ok}
use Rattle.plain_laws.proofs.Results.{if_ok, if_err, ok_both}
use Rattle.dir_model.specs.declared.area.Area.TheVariants as area
use Rattle.dir_model.specs.declared.area.Phase.TheVariants as phase
use Rattle.dir_model.specs.declared.spot.Which.{Which}
use Rattle.folder_building.proofs.Working.{worked_more}
use Rattle.pod_locks.proofs.Calls.{follows_work}
use Rattle.pod_gc.specs.RemovalHolding.{MayRemove}
use Rattle.pod_gc.proofs.Dealing.{all_ok_at}
use Rattle.pod_gc.specs.declared.gc_error.GcError.{GcError}
use Rattle.pod_gc.specs.declared.line.Deed.{Deed}
use Rattle.pod_gc.specs.declared.line.Deed.TheVariants.{Left, Busy}
use Rattle.pod_gc.specs.Causes.{deed_of, GcCause}
use Rattle.pod_gc.specs.Deeds.{DeedCause, SaysThere, DoesNothing, refused_lock, LeavesIfObserved}
use Rattle.pod_gc.proofs.Steps.{set_stopped, step_deed, step_cause, step_rests, step_calm, step_another, said_deed, said_calm, said_refused, said_rests, said_unbusy, cause_after, ready_probed, ready_unprobed, ready_looked, looks_resting}
use Rattle.pod_gc.specs.declared.gc_error.GcError.TheVariants as fault
use Rattle.pod_gc.proofs.Lawful.{step_stray}
use Rattle.pod_gc.proofs.kept.kept_exited.Goals as goal

pub returns-in-Ok-clause-worked : goal.returns-in-Ok-clause-worked
returns-in-Ok-clause-worked g c = worked_more c.probe.ensures.worked c.kept.ensures.worked

pub returns-in-Ok-clause-cause : goal.returns-in-Ok-clause-cause
returns-in-Ok-clause-cause g c =
    let D = g.D.Dir in
    if_err (λ e. GcCause D.observed e (D.shown c.probe.new.dir) (D.shown c.kept.new.dir)) (λ e. GcCause D.observed e (D.shown c.args.dir.now) (D.shown c.kept.new.dir)) c.kept.result (λ e x. cause_after (follows_work c.probe.ensures.worked) x) c.kept.ensures.cause

pub returns-in-Ok-clause-deed : goal.returns-in-Ok-clause-deed
returns-in-Ok-clause-deed g c =
    let D = g.D.Dir in
    said_deed D.observed c.args.pod area.ExitedGarbage phase.ExitedGarbage false (omega arith) refl refl (λ rest. refl) (λ s h. h) (D.shown c.args.dir.now) (D.shown c.probe.new.dir) (D.shown c.kept.new.dir) (follows_work c.probe.ensures.worked) (follows_work c.kept.ensures.worked) (λ t. c.in-Ok.ensures.answer_holds t)
    c.kept.result c.kept.ensures.said

pub returns-in-Ok-clause-rests : goal.returns-in-Ok-clause-rests
returns-in-Ok-clause-rests g c =
    let D = g.D.Dir in
    if_ok (λ deed. SaysThere D.observed c.args.pod area.ExitedGarbage phase.ExitedGarbage deed (D.shown c.probe.new.dir) (D.shown c.kept.new.dir)) (λ deed. DoesNothing deed) c.kept.result (λ deed x. said_rests phase.ExitedGarbage deed x.is) c.kept.ensures.said

pub returns-in-Ok-clause-ready : goal.returns-in-Ok-clause-ready
returns-in-Ok-clause-ready g c t now = ready_looked (ready_probed c.args.pod (c.in-Ok.ensures.free t)) (c.kept.ensures.known t)

pub returns-in-Err-Busy-clause-worked : goal.returns-in-Err-Busy-clause-worked
returns-in-Err-Busy-clause-worked g c = worked_more c.probe.ensures.worked c.kept-in-Err-Busy.ensures.worked

pub returns-in-Err-Busy-clause-cause : goal.returns-in-Err-Busy-clause-cause
returns-in-Err-Busy-clause-cause g c =
    let D = g.D.Dir in
    if_err (λ e. GcCause D.observed e (D.shown c.probe.new.dir) (D.shown c.kept-in-Err-Busy.new.dir)) (λ e. GcCause D.observed e (D.shown c.args.dir.now) (D.shown c.kept-in-Err-Busy.new.dir)) c.kept-in-Err-Busy.result (λ e x. cause_after (follows_work c.probe.ensures.worked) x) c.kept-in-Err-Busy.ensures.cause

pub returns-in-Err-Busy-clause-deed : goal.returns-in-Err-Busy-clause-deed
returns-in-Err-Busy-clause-deed g c =
    let D = g.D.Dir in
    let e = rw c.in-Err-Busy.field-0-is at c.in-Err-Busy.ensures in
    said_deed D.observed c.args.pod area.ExitedGarbage phase.Deleting true (omega arith) refl refl (λ rest. cc) (λ s h. h) (D.shown c.args.dir.now) (D.shown c.probe.new.dir) (D.shown c.kept-in-Err-Busy.new.dir) (follows_work c.probe.ensures.worked) (follows_work c.kept-in-Err-Busy.ensures.worked) (λ t. e.owned _ refl t)
    c.kept-in-Err-Busy.result c.kept-in-Err-Busy.ensures.said

pub returns-in-Err-Busy-clause-rests : goal.returns-in-Err-Busy-clause-rests
returns-in-Err-Busy-clause-rests g c =
    let D = g.D.Dir in
    if_ok (λ deed. SaysThere D.observed c.args.pod area.ExitedGarbage phase.Deleting deed (D.shown c.probe.new.dir) (D.shown c.kept-in-Err-Busy.new.dir)) (λ deed. DoesNothing deed) c.kept-in-Err-Busy.result (λ deed x. said_rests phase.Deleting deed x.is) c.kept-in-Err-Busy.ensures.said

pub returns-in-Err-Busy-clause-ready : goal.returns-in-Err-Busy-clause-ready
returns-in-Err-Busy-clause-ready g c t now =
    let e = rw c.in-Err-Busy.field-0-is at c.in-Err-Busy.ensures in
    ready_looked (ready_unprobed c.args.pod (e.left t)) (c.kept-in-Err-Busy.ensures.known t)

pub returns-in-Err-clause-cause : goal.returns-in-Err-clause-cause
returns-in-Err-clause-cause g c =
    let D = g.D.Dir in
    let old = D.shown c.args.dir.now in
    let new = D.shown c.probe.new.dir in
    subst (λ (x : Result Deed GcError). IfErr x (λ e. GcCause D.observed e old new)) (sym c.deed_of.ensures)
    (step_cause D.observed c.args.pod area.ExitedGarbage Left old new (Err c.in-Err.stop) (set_stopped c.args.pod area.ExitedGarbage (λ s h. h) c.in-Err.ensures.stopped))

pub returns-in-Err-clause-deed : goal.returns-in-Err-clause-deed
returns-in-Err-clause-deed g c =
    let D = g.D.Dir in
    let old = D.shown c.args.dir.now in
    let new = D.shown c.probe.new.dir in
    subst (λ (x : Result Deed GcError). IfOk x (λ deed. D.observed ≡ true → DeedCause c.args.pod area.ExitedGarbage deed old.process old.trace new.trace)) (sym c.deed_of.ensures)
    (step_deed D.observed c.args.pod area.ExitedGarbage Left old new (Err c.in-Err.stop) tt (set_stopped c.args.pod area.ExitedGarbage (λ s h. h) c.in-Err.ensures.stopped) (λ is here. cc))

pub returns-in-Err-clause-rests : goal.returns-in-Err-clause-rests
returns-in-Err-clause-rests g c = subst (λ (x : Result Deed GcError). IfOk x (λ deed. DoesNothing deed)) (sym c.deed_of.ensures) (step_rests Left c.in-Err.stop)

pub returns-in-Err-clause-ready : goal.returns-in-Err-clause-ready
returns-in-Err-clause-ready g c t now = ready_unprobed c.args.pod (c.in-Err.ensures.left t)

pub returns-in-Ok-clause-never_busy : goal.returns-in-Ok-clause-never_busy
returns-in-Ok-clause-never_busy g c =
    let D = g.D.Dir in
    if_ok (λ deed. SaysThere D.observed c.args.pod area.ExitedGarbage phase.ExitedGarbage deed (D.shown c.probe.new.dir) (D.shown c.kept.new.dir)) (λ deed. (which : Which) → deed ≡ Busy which → ⊥) c.kept.result (λ deed x. said_unbusy phase.ExitedGarbage deed x.is) c.kept.ensures.said

pub returns-in-Err-Busy-clause-never_busy : goal.returns-in-Err-Busy-clause-never_busy
returns-in-Err-Busy-clause-never_busy g c =
    let D = g.D.Dir in
    if_ok (λ deed. SaysThere D.observed c.args.pod area.ExitedGarbage phase.Deleting deed (D.shown c.probe.new.dir) (D.shown c.kept-in-Err-Busy.new.dir)) (λ deed. (which : Which) → deed ≡ Busy which → ⊥) c.kept-in-Err-Busy.result (λ deed x. said_unbusy phase.Deleting deed x.is) c.kept-in-Err-Busy.ensures.said

pub returns-in-Err-clause-never_busy : goal.returns-in-Err-clause-never_busy
returns-in-Err-clause-never_busy g c =
    subst (λ (x : Result Deed GcError). IfOk x (λ deed. (which : Which) → deed ≡ Busy which → ⊥)) (sym c.deed_of.ensures)
    (if_ok (λ deed. (which : Which) → refused_lock deed ≡ Some which → ⊥) (λ deed. (which : Which) → deed ≡ Busy which → ⊥) (deed_of (Err c.in-Err.stop) Left) (λ deed calm which is. calm which (ap refused_lock is))
    (step_calm Left (λ which is. cc) (Err c.in-Err.stop) (λ which is. search (rules, is, c.in-Err.stop-is))))

pub returns-in-Ok-clause-by_other_process : goal.returns-in-Ok-clause-by_other_process
returns-in-Ok-clause-by_other_process g c =
    let D = g.D.Dir in
    if_ok (λ deed. SaysThere D.observed c.args.pod area.ExitedGarbage phase.ExitedGarbage deed (D.shown c.probe.new.dir) (D.shown c.kept.new.dir)) (λ deed. (now : ℕ) → LeavesIfObserved D.observed (MayRemove now) c.args.pod area.ExitedGarbage deed (D.shown c.args.dir.now) (D.shown c.kept.new.dir)) c.kept.result
    (λ deed x now. said_calm D.observed (MayRemove now) c.args.pod area.ExitedGarbage phase.ExitedGarbage (D.shown c.args.dir.now) (D.shown c.probe.new.dir) (D.shown c.kept.new.dir) refl refl (Ok deed) x) c.kept.ensures.said

pub returns-in-Err-Busy-clause-by_other_process : goal.returns-in-Err-Busy-clause-by_other_process
returns-in-Err-Busy-clause-by_other_process g c =
    let D = g.D.Dir in
    let e = rw c.in-Err-Busy.field-0-is at c.in-Err-Busy.ensures in
    let old = D.shown c.args.dir.now in
    let mid = D.shown c.probe.new.dir in
    let new = D.shown c.kept-in-Err-Busy.new.dir in
    ok_both (λ deed. SaysThere D.observed c.args.pod area.ExitedGarbage phase.Deleting deed mid new) (λ deed. D.observed ≡ true → DeedCause c.args.pod area.ExitedGarbage deed old.process old.trace new.trace)
    (λ deed. (now : ℕ) → LeavesIfObserved D.observed (MayRemove now) c.args.pod area.ExitedGarbage deed old new) c.kept-in-Err-Busy.result
    (λ deed x cause now. said_refused D.observed now c.args.pod area.ExitedGarbage _ phase.Deleting old mid new (omega arith) c.probe.ensures.worked.same (follows_work c.kept-in-Err-Busy.ensures.worked) (e.named _ refl)
    (λ t s k m. e.by_other_process t s k (looks_resting c.args.pod m)) c.probe.ensures.peeks c.kept-in-Err-Busy.ensures.peeks (Ok deed) x cause) c.kept-in-Err-Busy.ensures.said
    (said_deed D.observed c.args.pod area.ExitedGarbage phase.Deleting true (omega arith) refl refl (λ rest. cc) (λ s h. h) old mid new (follows_work c.probe.ensures.worked) (follows_work c.kept-in-Err-Busy.ensures.worked) (λ t. e.owned _ refl t)
    c.kept-in-Err-Busy.result c.kept-in-Err-Busy.ensures.said)

pub returns-in-Err-clause-by_other_process : goal.returns-in-Err-clause-by_other_process
returns-in-Err-clause-by_other_process g c =
    let D = g.D.Dir in
    let old = D.shown c.args.dir.now in
    let new = D.shown c.probe.new.dir in
    subst (λ (x : Result Deed GcError). IfOk x (λ deed. (now : ℕ) → LeavesIfObserved D.observed (MayRemove now) c.args.pod area.ExitedGarbage deed old new)) (sym c.deed_of.ensures)
    (all_ok_at (deed_of (Err c.in-Err.stop) Left) (λ (now : ℕ) (deed : Deed). LeavesIfObserved D.observed (MayRemove now) c.args.pod area.ExitedGarbage deed old new)
    (λ now. step_another D.observed c.args.pod area.ExitedGarbage Left old new (MayRemove now) (λ which is. cc) (λ p is. cc) (Err c.in-Err.stop) (λ t s k m which is. search (rules, is, c.in-Err.stop-is))))

pub returns-in-Err-clause-never : goal.returns-in-Err-clause-never
returns-in-Err-clause-never g c = subst (λ (x : Result Deed GcError). IfErr x (λ e. e ≡ fault.Stray → ⊥)) (sym c.deed_of.ensures) (step_stray ⊥ Left (Err c.in-Err.stop) c.in-Err.ensures.never)
