use Rattle.std.proofs.Common.{◌≡◌, true, refl, Result, IfOk, IfErr, sym, subst}
use Rattle.plain_laws.proofs.Results.{if_err, ok_both, ok_all, err_all}
use Rattle.dir_model.specs.declared.area.Area.{Area}
use Rattle.dir_model.specs.declared.area.Phase.{Phase}
use Rattle.dir_model.specs.declared.spot.Mode.TheVariants.{Exclusive}
use Rattle.dir_model.specs.declared.request.Request.TheVariants.{RemoveFolder}
use Rattle.dir_model.specs.declared.request.Reply.TheVariants.{Done}
use Rattle.dir_trait.specs.DirCalls.{ExtendsBy}
use Rattle.dir_trait.specs.Effects.{Given}
use Rattle.folder_building.proofs.Working.{worked_wider}
use Rattle.dir_model.specs.Spots.{pod_spot}
use Rattle.pod_locks.specs.Causes.{StepWasStopped, IsAbsentAt, LockBusyElsewhere, Did, FreeIfObserved}
use Rattle.pod_gc.specs.RemovalHolding.{MayRemove}
use Rattle.dir_model.specs.declared.spot.Which.TheVariants.{Own}
use Rattle.pod_gc.specs.declared.gc_error.GcError.{GcError}
use Rattle.pod_gc.specs.declared.line.Deed.{Deed}
use Rattle.pod_gc.specs.declared.line.Deed.TheVariants.{Moved, Deleted, Kept}
use Rattle.pod_gc.specs.Causes.{GcCause}
use Rattle.pod_gc.specs.Deeds.{DeedCause, LetBe, LeavesIfObserved}
use Rattle.pod_gc.proofs.Steps.{removes_deal, SetBackAt, set_stopped, gone_garbage, cause_deleted, step_deed, step_cause, step_another, step_ends, claims_elsewhere, garbage_unprepared, BusyHere, busy_garbage}
use Rattle.pod_locks.specs.declared.setback.Setback.TheVariants as stop
use Rattle.dir_model.specs.declared.spot.Which.{Which}
use Rattle.pod_gc.specs.Requests.{puts_aside_only, may_be_busy}
use Rattle.pod_gc.proofs.Untouched.{garbage_busy, step_let_be, BusyByOwn}
use Rattle.pod_locks.specs.Causes.{ByApp}
use Rattle.pod_gc.specs.Causes.{GcStrayByApp}
use Rattle.pod_gc.proofs.Lawful.{step_stray}
use Rattle.pod_gc.proofs.deals.deal_garbage.Goals as goal

pub returns-clause-worked : goal.returns-clause-worked
returns-clause-worked g c = worked_wider (removes_deal c.args.pod c.args.now c.args.area) c.delete_at-answer.ensures.worked

pub returns-clause-cause : goal.returns-clause-cause
returns-clause-cause g c =
    let D = g.D.Dir in
    let old = D.shown c.args.dir.now in
    let new = D.shown c.delete_at-answer.new.dir in
    subst (λ (x : Result Deed GcError). IfErr x (λ e. GcCause D.observed e old new)) (sym c.deed_of.ensures)
    (step_cause D.observed c.args.pod c.args.area Deleted old new c.delete_at-answer.result
    (if_err (λ e. StepWasStopped D.observed c.args.pod (IsAbsentAt c.args.pod c.args.area) e old new) (λ e. SetBackAt D.observed c.args.pod c.args.area e old new) c.delete_at-answer.result
    (λ e x. set_stopped c.args.pod c.args.area (gone_garbage c.args.pod c.args.area c.requires.garbage) x) c.delete_at-answer.ensures.stopped))

pub returns-clause-deed : goal.returns-clause-deed
returns-clause-deed g c =
    let D = g.D.Dir in
    let old = D.shown c.args.dir.now in
    let new = D.shown c.delete_at-answer.new.dir in
    subst (λ (x : Result Deed GcError). IfOk x (λ deed. D.observed ≡ true → DeedCause c.args.pod c.args.area deed old.process old.trace new.trace)) (sym c.deed_of.ensures)
    (step_deed D.observed c.args.pod c.args.area Deleted old new c.delete_at-answer.result
    (ok_both (λ done. D.observed ≡ true → Did (RemoveFolder (pod_spot c.args.pod c.args.area)) Done old.process old.trace new.trace) (λ done. FreeIfObserved D.observed c.args.pod c.args.area Own Exclusive old new) (λ done. D.observed ≡ true → DeedCause c.args.pod c.args.area Deleted old.process old.trace new.trace) c.delete_at-answer.result
    (λ done did free t. cause_deleted c.requires.garbage (did t) (free t)) c.delete_at-answer.ensures.done c.delete_at-answer.ensures.free)
    (if_err (λ e. StepWasStopped D.observed c.args.pod (IsAbsentAt c.args.pod c.args.area) e old new) (λ e. SetBackAt D.observed c.args.pod c.args.area e old new) c.delete_at-answer.result
    (λ e x. set_stopped c.args.pod c.args.area (gone_garbage c.args.pod c.args.area c.requires.garbage) x) c.delete_at-answer.ensures.stopped)
    (claims_elsewhere D.observed c.args.pod c.args.area old new c.delete_at-answer.result (garbage_unprepared c.args.area c.requires.garbage)))

pub returns-clause-by_other_process : goal.returns-clause-by_other_process
returns-clause-by_other_process g c =
    let D = g.D.Dir in
    let old = D.shown c.args.dir.now in
    let new = D.shown c.delete_at-answer.new.dir in
    subst (λ (x : Result Deed GcError). IfOk x (λ deed. LeavesIfObserved D.observed (MayRemove c.args.now) c.args.pod c.args.area deed old new)) (sym c.deed_of.ensures)
    (step_another D.observed c.args.pod c.args.area Deleted old new (MayRemove c.args.now) (λ which is. cc) (λ p is. cc) c.delete_at-answer.result
    (if_err (λ e. D.observed ≡ true → Given (MayRemove c.args.now) old (λ s. LockBusyElsewhere c.args.pod c.args.area Exclusive e old new)) (λ e. D.observed ≡ true → Given (MayRemove c.args.now) old (λ s. BusyHere c.args.pod c.args.area e old new)) c.delete_at-answer.result
    (λ e busy t s k m. busy_garbage c.args.pod c.args.area e old new c.requires.garbage (busy t s k m)) c.delete_at-answer.ensures.by_other_process))

pub returns-clause-ends : goal.returns-clause-ends
returns-clause-ends g c = subst (λ (x : Result Deed GcError). IfOk x (λ deed. (p : Phase) → deed ≡ Kept p → ⊥)) (sym c.deed_of.ensures) (step_ends Deleted (λ p is. cc) c.delete_at-answer.result)

pub returns-clause-left_untouched : goal.returns-clause-left_untouched
returns-clause-left_untouched g c =
    let D = g.D.Dir in
    let old = D.shown c.args.dir.now in
    let new = D.shown c.delete_at-answer.new.dir in
    subst (λ (x : Result Deed GcError). IfOk x (λ deed. LetBe D.observed c.args.pod c.args.area deed old new)) (sym c.deed_of.ensures)
    (step_let_be D.observed c.args.pod c.args.area Deleted old new refl (λ is. cc) c.delete_at-answer.result c.delete_at-answer.ensures.looks
    (err_all (λ e. (which : Which) → e ≡ stop.Busy which → may_be_busy c.args.area ≡ true) c.delete_at-answer.result (λ e which is. garbage_busy c.args.area c.requires.garbage))
    (if_err (λ e. (which : Which) → e ≡ stop.Busy which → which ≡ Own) (λ e. BusyByOwn c.args.area e) c.delete_at-answer.result (λ e named which is garbage. named which is) c.delete_at-answer.ensures.named)
    c.delete_at-answer.ensures.takes_nothing
    (ok_all (λ done. (to : Area) → Deleted ≡ Moved to → D.observed ≡ true → ExtendsBy (puts_aside_only c.args.pod c.args.area to) old new) c.delete_at-answer.result (λ done to is t. cc)))

pub returns-clause-lawful : goal.returns-clause-lawful
returns-clause-lawful g c =
    let D = g.D.Dir in
    let old = D.shown c.args.dir.now in
    let new = D.shown c.delete_at-answer.new.dir in
    subst (λ (x : Result Deed GcError). IfErr x (λ e. GcStrayByApp D.observed e (MayRemove c.args.now) old new)) (sym c.deed_of.ensures)
    (step_stray (ByApp D.observed (MayRemove c.args.now) old new) Deleted c.delete_at-answer.result c.delete_at-answer.ensures.lawful)
