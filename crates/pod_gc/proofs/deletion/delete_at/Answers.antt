use Rattle.std.proofs.Common.{◌≡◌, rules, true, refl, ap, subst, arith, ◌∙◌}
use Rattle.plain_laws.proofs.Results.{if_ok, if_err, err_same, err_all, ok_all}
use Rattle.dir_model.specs.declared.spot.Mode.TheVariants.{Exclusive}
use Rattle.dir_model.specs.declared.spot.Which.{Which}
use Rattle.dir_model.specs.declared.spot.Which.TheVariants.{Own}
use Rattle.dir_model.specs.declared.request.Request.TheVariants.{RemoveFolder}
use Rattle.dir_model.specs.declared.request.Reply.TheVariants.{Done}
use Rattle.dir_model.specs.Local.{Local}
use Rattle.dir_model.specs.Spots.{pod_spot}
use Rattle.pod_locks.proofs.Times.{deeds_part}
use Rattle.pod_locks.specs.declared.setback.Setback.TheVariants as stop
use Rattle.pod_locks.specs.Requests.{looks_at}
use Rattle.pod_locks.specs.Holding.{and_taken, MayTakeLock}
use Rattle.pod_locks.specs.Causes.{StepWasStopped, IsAbsentAt, CannotOpenAt, LockBusyElsewhere, FreeIfObserved, Did}
use Rattle.pod_locks.proofs.Traces.{grown_none, grown_more}
use Rattle.pod_locks.proofs.Calls.{follows_work, follows_went, follows_call, stops_part}
use Rattle.pod_locks.proofs.Within.{free_within}
use Rattle.pod_gc.specs.RemovalHolding.{MayRemove}
use Rattle.pod_gc.specs.RemovalCauses.{BusyByLooks}
use Rattle.pod_gc.proofs.Deleting.{own_stopped, takes_own, ready_owned, ready_unowned, worked_owned, worked_unowned}
use Rattle.pod_gc.specs.RemovalCauses.{MissedUntaken}
use Rattle.pod_locks.proofs.Taking.{took_looks, took_closed}
use Rattle.phase_read.proofs.Often.{reads_more}
use Rattle.phase_read.proofs.Often.{unread_call}
use Rattle.pod_gc.proofs.Unread.{unread_took, unread_delete, garbage_rank}
use Rattle.folder_removal.specs.Removal.{KeepsFolders}
use Rattle.folder_removal.proofs.Keeping.{kept_more, kept_call}
use Rattle.pod_gc.proofs.Unread.{kept_looks}
use Rattle.pod_locks.specs.Causes.{StrayByApp}
use Rattle.pod_locks.proofs.Lawful.{by_app_part}
use Rattle.pod_gc.specs.RemovalHolding.{HasOwn}
use Rattle.pod_gc.proofs.RemovalLawful.{owns_taken}
use Rattle.pod_gc.proofs.deletion.delete_at.Goals as goal
use Rattle.dir_trait.specs.Effects.{LeavesOpen, Given}

pub returns-in_err-own-clause-worked : goal.returns-in_err-own-clause-worked
returns-in_err-own-clause-worked g c =
    let D = g.D.Dir in
    let a = D.shown c.args.dir.now in
    let w = subst (λ (l : Local). LeavesOpen D.observed (looks_at c.args.pod c.args.area) l a (D.shown c.take.new.dir)) (ap (and_taken a.local c.args.pod c.args.area Own) c.in_err-own.was) c.take.ensures.went in
    worked_unowned c.args.pod c.args.now c.args.area c.requires.garbage w

pub returns-in_err-own-clause-stopped : goal.returns-in_err-own-clause-stopped
returns-in_err-own-clause-stopped g c =
    let D = g.D.Dir in
    let old = D.shown c.args.dir.now in
    let new = D.shown c.take.new.dir in
    err_same (λ e. StepWasStopped D.observed c.args.pod (IsAbsentAt c.args.pod c.args.area) e old new) c.take.result c.from_residual.result
    (λ e h. search (rules, h, c.from_residual.ensures, c.in_err-own.is))
    (if_err (λ e. StepWasStopped D.observed c.args.pod (CannotOpenAt c.args.pod c.args.area Own) e old new) (λ e. StepWasStopped D.observed c.args.pod (IsAbsentAt c.args.pod c.args.area) e old new) c.take.result
    (λ e x. own_stopped c.args.pod c.args.area x) c.take.ensures.stopped)

pub returns-in_err-own-clause-by_other_process : goal.returns-in_err-own-clause-by_other_process
returns-in_err-own-clause-by_other_process g c =
    let D = g.D.Dir in
    let old = D.shown c.args.dir.now in
    let new = D.shown c.take.new.dir in
    err_same (λ e. D.observed ≡ true → Given (MayRemove c.args.now) old (λ s. LockBusyElsewhere c.args.pod c.args.area Exclusive e old new)) c.take.result c.from_residual.result
    (λ e h. search (rules, h, c.from_residual.ensures, c.in_err-own.is))
    (if_err (λ e. D.observed ≡ true → Given (MayTakeLock c.args.pod c.args.area Own) old (λ s. LockBusyElsewhere c.args.pod c.args.area Exclusive e old new))
    (λ e. D.observed ≡ true → Given (MayRemove c.args.now) old (λ s. LockBusyElsewhere c.args.pod c.args.area Exclusive e old new)) c.take.result
    (λ e busy t s k may. busy t s k (takes_own c.args.pod c.args.area c.requires.garbage may)) c.take.ensures.by_other_process)

pub returns-in_err-own-clause-ready : goal.returns-in_err-own-clause-ready
returns-in_err-own-clause-ready g c t = ready_unowned c.args.pod c.args.area c.requires.garbage (c.in_err-own.ensures.left t)

pub returns-clause-worked : goal.returns-clause-worked
returns-clause-worked g c =
    let D = g.D.Dir in
    let a = D.shown c.args.dir.now in
    let w = subst (λ (l : Local). LeavesOpen D.observed (looks_at c.args.pod c.args.area) l a (D.shown c.take.new.dir)) (ap (and_taken a.local c.args.pod c.args.area Own) c.in_ok-own.was) c.take.ensures.went in
    worked_owned c.args.pod c.args.now c.args.area c.requires.garbage c.in_ok-own.ensures.unopened w c.delete_if_there-result.ensures.worked c.close.ensures.called

pub returns-clause-stopped : goal.returns-clause-stopped
returns-clause-stopped g c =
    let D = g.D.Dir in
    let old = D.shown c.args.dir.now in
    let mid = D.shown c.take.new.dir in
    let late = D.shown c.delete_if_there-result.new.dir in
    let new = D.shown c.close.new.self in
    if_err (λ e. StepWasStopped D.observed c.args.pod (IsAbsentAt c.args.pod c.args.area) e mid late) (λ e. StepWasStopped D.observed c.args.pod (IsAbsentAt c.args.pod c.args.area) e old new) c.delete_if_there-result.result
    (λ e x. stops_part (follows_went c.take.ensures.went) (follows_call c.close.ensures.called) x) c.delete_if_there-result.ensures.stopped

pub returns-clause-by_other_process : goal.returns-clause-by_other_process
returns-clause-by_other_process g c =
    let D = g.D.Dir in
    let old = D.shown c.args.dir.now in
    let new = D.shown c.close.new.self in
    if_err (λ e. (which : Which) → e ≡ stop.Busy which → ⊥) (λ e. D.observed ≡ true → Given (MayRemove c.args.now) old (λ s. LockBusyElsewhere c.args.pod c.args.area Exclusive e old new)) c.delete_if_there-result.result
    (λ e calm t s k may which is. absurd (calm which is)) c.delete_if_there-result.ensures.never_busy

pub returns-clause-done : goal.returns-clause-done
returns-clause-done g c =
    let D = g.D.Dir in
    let old = D.shown c.args.dir.now in
    let mid = D.shown c.take.new.dir in
    let late = D.shown c.delete_if_there-result.new.dir in
    let new = D.shown c.close.new.self in
    if_ok (λ done. D.observed ≡ true → Did (RemoveFolder (pod_spot c.args.pod c.args.area)) Done mid.process mid.trace late.trace)
    (λ done. D.observed ≡ true → Did (RemoveFolder (pod_spot c.args.pod c.args.area)) Done old.process old.trace new.trace) c.delete_if_there-result.result
    (λ done did t. deeds_part ((follows_went c.take.ensures.went).grown t) c.take.ensures.went.same ((follows_call c.close.ensures.called).grown t) (did t)) c.delete_if_there-result.ensures.done

pub returns-clause-ready : goal.returns-clause-ready
returns-clause-ready g c t =
    ready_owned c.args.pod c.args.area c.requires.garbage t c.in_ok-own.ensures.unopened (c.in_ok-own.ensures.held t) (c.delete_if_there-result.ensures.known t) c.close.ensures.called

pub returns-in_err-own-clause-looks : goal.returns-in_err-own-clause-looks
returns-in_err-own-clause-looks g c =
    let D = g.D.Dir in
    err_all (λ e. BusyByLooks D.observed c.args.pod c.args.area e (D.shown c.args.dir.now) (D.shown c.take.new.dir)) c.from_residual.result (λ e which is t. c.take.ensures.went.extends t)

pub returns-clause-looks : goal.returns-clause-looks
returns-clause-looks g c =
    let D = g.D.Dir in
    if_err (λ e. (which : Which) → e ≡ stop.Busy which → ⊥) (λ e. BusyByLooks D.observed c.args.pod c.args.area e (D.shown c.args.dir.now) (D.shown c.close.new.self)) c.delete_if_there-result.result
    (λ e calm which is t. absurd (calm which is)) c.delete_if_there-result.ensures.never_busy

pub returns-in_err-own-clause-takes_nothing : goal.returns-in_err-own-clause-takes_nothing
returns-in_err-own-clause-takes_nothing g c =
    let D = g.D.Dir in
    err_all (λ e. MissedUntaken D.observed e (D.shown c.args.dir.now) (D.shown c.take.new.dir)) c.from_residual.result (λ e is t. took_looks c.args.pod c.args.area (c.take.ensures.went.extends t))

pub returns-clause-takes_nothing : goal.returns-clause-takes_nothing
returns-clause-takes_nothing g c =
    let D = g.D.Dir in
    let mid = D.shown c.take.new.dir in
    let late = D.shown c.delete_if_there-result.new.dir in
    if_err (λ e. MissedUntaken D.observed e mid late) (λ e. MissedUntaken D.observed e (D.shown c.args.dir.now) (D.shown c.close.new.self)) c.delete_if_there-result.result
    (λ e x is t. took_closed t c.args.pod c.args.area c.take.ensures.went c.delete_if_there-result.ensures.worked.same c.close.ensures.called (x is t)) c.delete_if_there-result.ensures.takes_nothing

pub returns-clause-free : goal.returns-clause-free
returns-clause-free g c =
    let D = g.D.Dir in
    ok_all (λ done. FreeIfObserved D.observed c.args.pod c.args.area Own Exclusive (D.shown c.args.dir.now) (D.shown c.close.new.self)) c.delete_if_there-result.result
    (λ done t. free_within grown_none refl (grown_more ((follows_work c.delete_if_there-result.ensures.worked).grown t) ((follows_call c.close.ensures.called).grown t)) (c.in_ok-own.ensures.free t))

pub returns-in_err-own-clause-named : goal.returns-in_err-own-clause-named
returns-in_err-own-clause-named g c =
    err_same (λ e. (which : Which) → e ≡ stop.Busy which → which ≡ Own) c.take.result c.from_residual.result (λ e h. search (rules, h, c.from_residual.ensures, c.in_err-own.is)) c.take.ensures.named

pub returns-clause-named : goal.returns-clause-named
returns-clause-named g c =
    if_err (λ e. (which : Which) → e ≡ stop.Busy which → ⊥) (λ e. (which : Which) → e ≡ stop.Busy which → which ≡ Own) c.delete_if_there-result.result (λ e calm which is. absurd (calm which is)) c.delete_if_there-result.ensures.never_busy

pub returns-in_err-own-clause-reads : goal.returns-in_err-own-clause-reads
returns-in_err-own-clause-reads g c = unread_took c.args.pod c.args.area (garbage_rank c.args.area c.requires.garbage).0 (garbage_rank c.args.area c.requires.garbage).1 c.take.ensures.went

pub returns-clause-reads : goal.returns-clause-reads
returns-clause-reads g c = reads_more 0 (omega arith) (reads_more 0 (omega arith) (unread_took c.args.pod c.args.area (garbage_rank c.args.area c.requires.garbage).0 (garbage_rank c.args.area c.requires.garbage).1 c.take.ensures.went) c.take.ensures.went.same (unread_delete c.args.pod c.args.area (garbage_rank c.args.area c.requires.garbage).0 (garbage_rank c.args.area c.requires.garbage).1 c.delete_if_there-result.ensures.worked)) (c.delete_if_there-result.ensures.worked.same ∙ c.take.ensures.went.same) (unread_call refl c.close.ensures.called)

pub returns-in_err-own-clause-kept : goal.returns-in_err-own-clause-kept
returns-in_err-own-clause-kept g c =
    let D = g.D.Dir in
    err_all (λ e. D.observed ≡ true → KeepsFolders (D.shown c.args.dir.now) (D.shown c.take.new.dir)) c.from_residual.result (λ e t. kept_looks c.args.pod c.args.area (c.take.ensures.went.extends t))

pub returns-clause-kept : goal.returns-clause-kept
returns-clause-kept g c =
    let D = g.D.Dir in
    if_err (λ e. D.observed ≡ true → KeepsFolders (D.shown c.take.new.dir) (D.shown c.delete_if_there-result.new.dir)) (λ e. D.observed ≡ true → KeepsFolders (D.shown c.args.dir.now) (D.shown c.close.new.self)) c.delete_if_there-result.result
    (λ e kept t. kept_more (kept_more (kept_looks c.args.pod c.args.area (c.take.ensures.went.extends t)) c.take.ensures.went.same (kept t)) (c.delete_if_there-result.ensures.worked.same ∙ c.take.ensures.went.same) (kept_call refl (c.close.ensures.called.step t)))
    c.delete_if_there-result.ensures.kept

pub returns-in_err-own-clause-lawful : goal.returns-in_err-own-clause-lawful
returns-in_err-own-clause-lawful g c =
    let D = g.D.Dir in
    let old = D.shown c.args.dir.now in
    let new = D.shown c.take.new.dir in
    err_same (λ e. StrayByApp D.observed e (MayRemove c.args.now) old new) c.take.result c.from_residual.result (λ e h. search (rules, h, c.from_residual.ensures, c.in_err-own.is))
    (if_err (λ e. e ≡ stop.Stray → ⊥) (λ e. StrayByApp D.observed e (MayRemove c.args.now) old new) c.take.result (λ e never is. absurd (never is)) c.take.ensures.never)

pub returns-clause-lawful : goal.returns-clause-lawful
returns-clause-lawful g c =
    let D = g.D.Dir in
    let old = D.shown c.args.dir.now in
    let mid = D.shown c.take.new.dir in
    let late = D.shown c.delete_if_there-result.new.dir in
    let new = D.shown c.close.new.self in
    if_err (λ e. StrayByApp D.observed e (HasOwn c.args.pod c.args.area) mid late) (λ e. StrayByApp D.observed e (MayRemove c.args.now) old new) c.delete_if_there-result.result
    (λ e x is. by_app_part (follows_went c.take.ensures.went) (follows_call c.close.ensures.called) (owns_taken c.args.pod c.args.area c.requires.garbage c.in_ok-own.ensures.unopened c.in_ok-own.ensures.held) (x is)) c.delete_if_there-result.ensures.lawful
