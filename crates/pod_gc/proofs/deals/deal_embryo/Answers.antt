use Rattle.std.proofs.Common.{◌≡◌, true, Some, Result, IfOk, IfErr, refl, sym, subst}
use Rattle.plain_laws.proofs.Results.{if_ok, if_err, ok_all}
use Rattle.dir_model.specs.declared.area.Area.{Area}
use Rattle.dir_model.specs.declared.area.Area.TheVariants as area
use Rattle.dir_model.specs.declared.spot.Which.{Which}
use Rattle.dir_model.specs.declared.request.Request.TheVariants.{MoveFolder}
use Rattle.dir_model.specs.declared.request.Reply.TheVariants.{Done}
use Rattle.dir_model.proofs.Chains.{extends_wider}
use Rattle.dir_trait.specs.DirCalls.{ExtendsBy}
use Rattle.dir_model.specs.Spots.{pod_spot}
use Rattle.pod_locks.specs.Causes.{StepWasStopped, IsAbsentAt, Did}
use Rattle.pod_gc.specs.declared.gc_error.GcError.{GcError}
use Rattle.pod_gc.specs.declared.line.Deed.{Deed}
use Rattle.pod_gc.specs.declared.line.Deed.TheVariants.{Moved}
use Rattle.pod_gc.specs.Causes.{GcCause}
use Rattle.pod_gc.specs.Deeds.{DeedCause, refused_lock, LetBe}
use Rattle.pod_gc.proofs.Steps.{SetBackAt, set_stopped, cause_moved, step_deed, step_cause, step_calm, claims_elsewhere}
use Rattle.pod_gc.proofs.Embryos.{ready_embryo}
use Rattle.pod_locks.specs.declared.setback.Setback.TheVariants as stop
use Rattle.pod_locks.specs.Taking.{TakesNothing}
use Rattle.pod_gc.specs.RemovalCauses.{BusyByLooks, MissedUntaken}
use Rattle.pod_gc.proofs.CallKinds.{moves_aside}
use Rattle.pod_gc.specs.Requests.{puts_aside_only, may_be_busy}
use Rattle.pod_gc.proofs.Untouched.{moved_on, owns_elsewhere, step_let_be}
use Rattle.pod_locks.specs.Causes.{BreaksRules}
use Rattle.pod_gc.specs.Causes.{GcNeverStray}
use Rattle.pod_gc.proofs.Lawful.{step_stray}
use Rattle.dir_model.specs.Areas.{is_stage}
use Rattle.pod_locks.specs.Causes as steps
use Rattle.pod_gc.proofs.deals.deal_embryo.Goals as goal

pub returns-clause-cause : goal.returns-clause-cause
returns-clause-cause g c =
    let D = g.D.Dir in
    let old = D.shown c.args.dir.now in
    let new = D.shown c.put_aside-answer.new.dir in
    subst (λ (x : Result Deed GcError). IfErr x (λ e. GcCause D.observed e old new)) (sym c.deed_of.ensures)
    (step_cause D.observed c.args.pod area.Embryo (Moved area.Garbage) old new c.put_aside-answer.result
    (if_err (λ e. StepWasStopped D.observed c.args.pod (IsAbsentAt c.args.pod area.Embryo) e old new) (λ e. SetBackAt D.observed c.args.pod area.Embryo e old new) c.put_aside-answer.result
    (λ e x. set_stopped c.args.pod area.Embryo (λ s h. h) x) c.put_aside-answer.ensures.stopped))

pub returns-clause-deed : goal.returns-clause-deed
returns-clause-deed g c =
    let D = g.D.Dir in
    let old = D.shown c.args.dir.now in
    let new = D.shown c.put_aside-answer.new.dir in
    subst (λ (x : Result Deed GcError). IfOk x (λ deed. D.observed ≡ true → DeedCause c.args.pod area.Embryo deed old.process old.trace new.trace)) (sym c.deed_of.ensures)
    (step_deed D.observed c.args.pod area.Embryo (Moved area.Garbage) old new c.put_aside-answer.result
    (if_ok (λ done. D.observed ≡ true → Did (MoveFolder (pod_spot c.args.pod area.Embryo) (pod_spot c.args.pod area.Garbage)) Done old.process old.trace new.trace) (λ done. D.observed ≡ true → DeedCause c.args.pod area.Embryo (Moved area.Garbage) old.process old.trace new.trace) c.put_aside-answer.result
    (λ done did t. cause_moved c.args.pod area.Embryo area.Garbage refl refl (did t) (λ is. cc) (λ is. cc)) c.put_aside-answer.ensures.done)
    (if_err (λ e. StepWasStopped D.observed c.args.pod (IsAbsentAt c.args.pod area.Embryo) e old new) (λ e. SetBackAt D.observed c.args.pod area.Embryo e old new) c.put_aside-answer.result
    (λ e x. set_stopped c.args.pod area.Embryo (λ s h. h) x) c.put_aside-answer.ensures.stopped)
    (claims_elsewhere D.observed c.args.pod area.Embryo old new c.put_aside-answer.result (λ is. cc)))

pub returns-clause-never_busy : goal.returns-clause-never_busy
returns-clause-never_busy g c =
    subst (λ (x : Result Deed GcError). IfOk x (λ deed. (which : Which) → refused_lock deed ≡ Some which → ⊥)) (sym c.deed_of.ensures)
    (step_calm (Moved area.Garbage) (λ which is. cc) c.put_aside-answer.result c.put_aside-answer.ensures.never_busy)

pub returns-clause-ready : goal.returns-clause-ready
returns-clause-ready g c t now = ready_embryo c.args.pod (c.put_aside-answer.ensures.ready t)

pub returns-clause-left_untouched : goal.returns-clause-left_untouched
returns-clause-left_untouched g c =
    let D = g.D.Dir in
    let old = D.shown c.args.dir.now in
    let new = D.shown c.put_aside-answer.new.dir in
    let calm = c.put_aside-answer.ensures.never_busy in
    subst (λ (x : Result Deed GcError). IfOk x (λ deed. LetBe D.observed c.args.pod area.Embryo deed old new)) (sym c.deed_of.ensures)
    (step_let_be D.observed c.args.pod area.Embryo (Moved area.Garbage) old new refl (λ is. cc) c.put_aside-answer.result
    (if_err (λ e. (which : Which) → e ≡ stop.Busy which → ⊥) (λ e. BusyByLooks D.observed c.args.pod area.Embryo e old new) c.put_aside-answer.result (λ e never which is t. absurd (never which is)) calm)
    (if_err (λ e. (which : Which) → e ≡ stop.Busy which → ⊥) (λ e. (which : Which) → e ≡ stop.Busy which → may_be_busy area.Embryo ≡ true) c.put_aside-answer.result
    (λ e never which is. absurd (never which is)) calm)
    (owns_elsewhere area.Embryo c.put_aside-answer.result refl)
    (if_err (λ e. TakesNothing D.observed old new) (λ e. MissedUntaken D.observed e old new) c.put_aside-answer.result (λ e x is. x) c.put_aside-answer.ensures.takes_nothing)
    (ok_all (λ done. (to : Area) → Moved area.Garbage ≡ Moved to → D.observed ≡ true → ExtendsBy (puts_aside_only c.args.pod area.Embryo to) old new) c.put_aside-answer.result
    (λ done to is t. moved_on c.args.pod area.Embryo area.Garbage (extends_wider (moves_aside c.args.pod area.Embryo area.Garbage) (c.put_aside-answer.ensures.worked.extends t)) to is)))

pub returns-clause-lawful : goal.returns-clause-lawful
returns-clause-lawful g c =
    let D = g.D.Dir in
    let new = D.shown c.put_aside-answer.new.dir in
    subst (λ (x : Result Deed GcError). IfErr x (λ e. GcNeverStray D.observed e new)) (sym c.deed_of.ensures)
    (step_stray (BreaksRules D.observed new) (Moved area.Garbage) c.put_aside-answer.result
    (if_err (λ e. is_stage area.Embryo ≡ true → steps.NeverStray D.observed e new) (λ e. steps.NeverStray D.observed e new) c.put_aside-answer.result (λ e x. x refl) c.put_aside-answer.ensures.lawful))
