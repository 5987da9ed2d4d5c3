use Rattle.std.proofs.Common.{◌≡◌, rules, true, Err, Result, IfOk, IfErr, refl, sym, subst}
use Rattle.plain_laws.proofs.Results.{if_ok, if_err}
use Rattle.dir_model.specs.declared.area.Area.{Area}
use Rattle.dir_model.specs.declared.area.Area.TheVariants as area
use Rattle.folder_building.proofs.Working.{worked_more, worked_wider}
use Rattle.pod_locks.proofs.Calls.{follows_work}
use Rattle.pod_gc.specs.RemovalHolding.{MayRemove}
use Rattle.pod_gc.specs.declared.gc_error.GcError.{GcError}
use Rattle.pod_gc.specs.declared.line.Deed.{Deed}
use Rattle.pod_gc.specs.declared.line.Deed.TheVariants.{Moved}
use Rattle.pod_gc.specs.Requests.{goes_to}
use Rattle.pod_gc.specs.Causes.{GcCause, deed_of}
use Rattle.pod_gc.specs.Deeds.{DeedCause, SaysThere, LetBe, LeavesIfObserved, MarksFirst}
use Rattle.pod_gc.proofs.Dead.{dead_rank, dead_apart, dead_elsewhere}
use Rattle.pod_gc.proofs.Steps.{dead_gone, dead_moves, removes_deal, looks_deal, set_stopped, cause_moved, step_deed, step_cause, step_another, said_dead, said_refused, cause_after, ready_looked, said_unbusy, left_moved, said_unmoved, step_unmoved}
use Rattle.pod_gc.proofs.Untouched.{let_moved, let_refused, step_let_be, peeked_looks, owns_elsewhere}
use Rattle.pod_gc.specs.declared.gc_error.GcError.TheVariants as fault
use Rattle.pod_locks.specs.Causes.{BreaksRules}
use Rattle.pod_gc.specs.Causes.{GcNeverStray}
use Rattle.pod_gc.proofs.Lawful.{step_stray}
use Rattle.pod_gc.proofs.deals.deal_dead.Goals as goal

pub returns-in-Ok-clause-worked : goal.returns-in-Ok-clause-worked
returns-in-Ok-clause-worked g c = worked_wider (removes_deal c.args.pod c.args.now c.args.area) c.put_dead_aside.ensures.worked

pub returns-in-Ok-clause-deed : goal.returns-in-Ok-clause-deed
returns-in-Ok-clause-deed g c t =
    rw c.goes_to.ensures (cause_moved c.args.pod c.args.area (goes_to c.args.area) (dead_moves c.args.area c.requires.dead) refl (c.in-Ok.ensures.done t) (λ is. absurd (dead_apart c.args.area area.Prepared c.requires.dead refl is)) (λ is. c.in-Ok.ensures.free t))

pub returns-in-Ok-clause-by_other_process : goal.returns-in-Ok-clause-by_other_process
returns-in-Ok-clause-by_other_process g c t s k m = left_moved

pub returns-in-Err-Busy-clause-worked : goal.returns-in-Err-Busy-clause-worked
returns-in-Err-Busy-clause-worked g c = worked_more (worked_wider (removes_deal c.args.pod c.args.now c.args.area) c.put_dead_aside.ensures.worked) (worked_wider (looks_deal c.args.pod c.args.now c.args.area (dead_rank c.args.area c.requires.dead)) c.kept.ensures.worked)

pub returns-in-Err-Busy-clause-cause : goal.returns-in-Err-Busy-clause-cause
returns-in-Err-Busy-clause-cause g c =
    let D = g.D.Dir in
    let old = D.shown c.args.dir.now in
    let mid = D.shown c.put_dead_aside.new.dir in
    let new = D.shown c.kept.new.dir in
    if_err (λ e. GcCause D.observed e mid new) (λ e. GcCause D.observed e old new) c.kept.result (λ e x. cause_after (follows_work c.put_dead_aside.ensures.worked) x) c.kept.ensures.cause

pub returns-in-Err-Busy-clause-deed : goal.returns-in-Err-Busy-clause-deed
returns-in-Err-Busy-clause-deed g c =
    let D = g.D.Dir in
    let e = rw c.in-Err-Busy.field-0-is at c.in-Err-Busy.ensures in
    said_dead D.observed c.args.pod c.args.area c.owned_phase.result c.requires.dead c.owned_phase.ensures (D.shown c.args.dir.now) (D.shown c.put_dead_aside.new.dir) (D.shown c.kept.new.dir) (follows_work c.put_dead_aside.ensures.worked) (follows_work c.kept.ensures.worked) (λ t. e.owned _ refl t)
    c.kept.result c.kept.ensures.said

pub returns-in-Err-Busy-clause-by_other_process : goal.returns-in-Err-Busy-clause-by_other_process
returns-in-Err-Busy-clause-by_other_process g c =
    let D = g.D.Dir in
    let e = rw c.in-Err-Busy.field-0-is at c.in-Err-Busy.ensures in
    said_refused D.observed c.args.now c.args.pod c.args.area _ c.owned_phase.result (D.shown c.args.dir.now) (D.shown c.put_dead_aside.new.dir) (D.shown c.kept.new.dir) (dead_rank c.args.area c.requires.dead) c.put_dead_aside.ensures.worked.same (follows_work c.kept.ensures.worked) (e.named _ refl) e.by_other_process (e.peeks _ refl) c.kept.ensures.peeks
    c.kept.result c.kept.ensures.said (returns-in-Err-Busy-clause-deed g c)

pub returns-in-Err-Busy-clause-ready : goal.returns-in-Err-Busy-clause-ready
returns-in-Err-Busy-clause-ready g c t = ready_looked (c.put_dead_aside.ensures.ready t) (c.kept.ensures.known t)

pub returns-in-Err-clause-worked : goal.returns-in-Err-clause-worked
returns-in-Err-clause-worked g c = worked_wider (removes_deal c.args.pod c.args.now c.args.area) c.put_dead_aside.ensures.worked

pub returns-in-Err-clause-cause : goal.returns-in-Err-clause-cause
returns-in-Err-clause-cause g c =
    let D = g.D.Dir in
    let old = D.shown c.args.dir.now in
    let new = D.shown c.put_dead_aside.new.dir in
    subst (λ (x : Result Deed GcError). IfErr x (λ e. GcCause D.observed e old new)) (sym c.deed_of.ensures)
    (step_cause D.observed c.args.pod c.args.area (Moved c.goes_to.result) old new (Err c.in-Err.stop) (set_stopped c.args.pod c.args.area (dead_gone c.args.pod c.args.area c.requires.dead) c.in-Err.ensures.stopped))

pub returns-in-Err-clause-deed : goal.returns-in-Err-clause-deed
returns-in-Err-clause-deed g c =
    let D = g.D.Dir in
    let old = D.shown c.args.dir.now in
    let new = D.shown c.put_dead_aside.new.dir in
    subst (λ (x : Result Deed GcError). IfOk x (λ deed. D.observed ≡ true → DeedCause c.args.pod c.args.area deed old.process old.trace new.trace)) (sym c.deed_of.ensures)
    (step_deed D.observed c.args.pod c.args.area (Moved c.goes_to.result) old new (Err c.in-Err.stop) tt (set_stopped c.args.pod c.args.area (dead_gone c.args.pod c.args.area c.requires.dead) c.in-Err.ensures.stopped) (λ is here. absurd (dead_apart c.args.area area.Prepared c.requires.dead refl here)))

pub returns-in-Err-clause-by_other_process : goal.returns-in-Err-clause-by_other_process
returns-in-Err-clause-by_other_process g c =
    let D = g.D.Dir in
    let old = D.shown c.args.dir.now in
    let new = D.shown c.put_dead_aside.new.dir in
    subst (λ (x : Result Deed GcError). IfOk x (λ deed. LeavesIfObserved D.observed (MayRemove c.args.now) c.args.pod c.args.area deed old new)) (sym c.deed_of.ensures)
    (step_another D.observed c.args.pod c.args.area (Moved c.goes_to.result) old new (MayRemove c.args.now) (λ which is. cc) (λ p is. cc) (Err c.in-Err.stop) (λ t s k m which is. search (rules, is, c.in-Err.stop-is)))

pub returns-in-Ok-clause-left_untouched : goal.returns-in-Ok-clause-left_untouched
returns-in-Ok-clause-left_untouched g c t = rw c.goes_to.ensures (let_moved (c.in-Ok.ensures.aside t))

pub returns-in-Err-Busy-clause-left_untouched : goal.returns-in-Err-Busy-clause-left_untouched
returns-in-Err-Busy-clause-left_untouched g c =
    let D = g.D.Dir in
    let e = rw c.in-Err-Busy.field-0-is at c.in-Err-Busy.ensures in
    let old = D.shown c.args.dir.now in
    let mid = D.shown c.put_dead_aside.new.dir in
    let new = D.shown c.kept.new.dir in
    if_ok (λ deed. SaysThere D.observed c.args.pod c.args.area c.owned_phase.result deed mid new) (λ deed. LetBe D.observed c.args.pod c.args.area deed old new) c.kept.result
    (λ deed x t. let_refused old mid new t (peeked_looks c.args.pod c.args.area old mid e.peeks) c.put_dead_aside.ensures.worked.same (c.kept.ensures.worked.extends t) (said_unbusy c.owned_phase.result deed x.is) t) c.kept.ensures.said

pub returns-in-Err-clause-left_untouched : goal.returns-in-Err-clause-left_untouched
returns-in-Err-clause-left_untouched g c =
    let D = g.D.Dir in
    let old = D.shown c.args.dir.now in
    let new = D.shown c.put_dead_aside.new.dir in
    subst (λ (x : Result Deed GcError). IfOk x (λ deed. LetBe D.observed c.args.pod c.args.area deed old new)) (sym c.deed_of.ensures)
    (step_let_be D.observed c.args.pod c.args.area (Moved c.goes_to.result) old new refl (λ is. cc) (Err c.in-Err.stop)
    (peeked_looks c.args.pod c.args.area old new c.in-Err.ensures.peeks) (λ which is. search (rules, is, c.in-Err.stop-is)) (owns_elsewhere c.args.area (Err c.in-Err.stop) (dead_elsewhere c.args.area c.requires.dead)) (λ is. c.in-Err.ensures.takes_nothing) tt)

pub returns-in-Ok-clause-marked : goal.returns-in-Ok-clause-marked
returns-in-Ok-clause-marked g c here t to is = c.in-Ok.ensures.noted here t

pub returns-in-Err-Busy-clause-marked : goal.returns-in-Err-Busy-clause-marked
returns-in-Err-Busy-clause-marked g c =
    let D = g.D.Dir in
    if_ok (λ deed. SaysThere D.observed c.args.pod c.args.area c.owned_phase.result deed (D.shown c.put_dead_aside.new.dir) (D.shown c.kept.new.dir)) (λ deed. c.args.area ≡ area.Run → D.observed ≡ true → MarksFirst c.args.pod c.args.now deed (D.shown c.args.dir.now) (D.shown c.kept.new.dir)) c.kept.result
    (λ deed x here t to is. absurd (said_unmoved c.owned_phase.result deed x.is to is)) c.kept.ensures.said

pub returns-in-Err-clause-marked : goal.returns-in-Err-clause-marked
returns-in-Err-clause-marked g c =
    let D = g.D.Dir in
    let old = D.shown c.args.dir.now in
    let new = D.shown c.put_dead_aside.new.dir in
    subst (λ (x : Result Deed GcError). IfOk x (λ deed. c.args.area ≡ area.Run → D.observed ≡ true → MarksFirst c.args.pod c.args.now deed old new)) (sym c.deed_of.ensures)
    (if_ok (λ deed. (to : Area) → deed ≡ Moved to → ⊥) (λ deed. c.args.area ≡ area.Run → D.observed ≡ true → MarksFirst c.args.pod c.args.now deed old new) (deed_of (Err c.in-Err.stop) (Moved c.goes_to.result)) (λ deed never here t to is. absurd (never to is)) (step_unmoved (Moved c.goes_to.result) c.in-Err.stop))

pub returns-in-Err-Busy-clause-lawful : goal.returns-in-Err-Busy-clause-lawful
returns-in-Err-Busy-clause-lawful g c =
    let D = g.D.Dir in
    if_err (λ e. e ≡ fault.Stray → ⊥) (λ e. GcNeverStray D.observed e (D.shown c.kept.new.dir)) c.kept.result (λ e never is. absurd (never is)) c.kept.ensures.never

pub returns-in-Err-clause-lawful : goal.returns-in-Err-clause-lawful
returns-in-Err-clause-lawful g c =
    let D = g.D.Dir in
    let new = D.shown c.put_dead_aside.new.dir in
    subst (λ (x : Result Deed GcError). IfErr x (λ e. GcNeverStray D.observed e new)) (sym c.deed_of.ensures)
    (step_stray (BreaksRules D.observed new) (Moved c.goes_to.result) (Err c.in-Err.stop) c.in-Err.ensures.lawful)
