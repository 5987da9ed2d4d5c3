use Rattle.std.proofs.Common.{◌≡◌, inl, rules, true, sym, ap, subst, arith}
use Rattle.plain_laws.proofs.Results.{if_ok, if_err, err_same, err_both}
use Rattle.dir_model.specs.declared.area.Area.{Area}
use Rattle.dir_model.specs.declared.spot.Mode.TheVariants.{Exclusive}
use Rattle.dir_model.specs.declared.request.Request.TheVariants.{RemoveFolder}
use Rattle.dir_model.specs.declared.request.Reply.TheVariants.{Done}
use Rattle.folder_building.proofs.Working.{worked_more}
use Rattle.dir_model.specs.Spots.{pod_spot}
use Rattle.pod_locks.proofs.Traces.{grown_none}
use Rattle.pod_locks.specs.Causes.{StepWasStopped, IsAbsentAt, LockBusyElsewhere, FreeIfObserved, Did}
use Rattle.pod_locks.proofs.Calls.{follows_none, follows_work}
use Rattle.pod_gc.specs.RemovalRequests.{is_garbage_place}
use Rattle.pod_gc.specs.RemovalHolding.{MayRemove, MayRemovePod}
use Rattle.pod_gc.specs.RemovalCauses.{HasDeletedPod, StoppedFound, BusyAny, is_missing, MissedUntaken}
use Rattle.pod_gc.proofs.Rounds.{garbage_stage, aside_place, found_aside, found_part, busy_at, another_ready, deleted_at, deleted_part, ready_any, ready_more, may_pod_kept}
use Rattle.dir_model.specs.declared.spot.Which.{Which}
use Rattle.dir_model.specs.declared.spot.Which.TheVariants.{Own}
use Rattle.pod_locks.specs.declared.setback.Setback.TheVariants as stop
use Rattle.pod_gc.specs.Found.{TakenAwayIfObserved, MissedAtItsArea, MissedThereOrAside, RefusedAtItsArea, RefusedThereOrAside}
use Rattle.pod_gc.proofs.Finding.{taken_by, missed_aside, refused_aside}
use Rattle.phase_read.proofs.Often.{reads_more}
use Rattle.folder_removal.specs.Removal.{KeepsFolders}
use Rattle.folder_removal.proofs.Keeping.{kept_more}
use Rattle.pod_gc.proofs.Unread.{kept_aside}
use Rattle.pod_locks.specs.Causes.{NeverStray, StrayByApp}
use Rattle.pod_locks.proofs.Lawful.{by_app_part}
use Rattle.pod_gc.proofs.attempt.remove_found.Goals as goal
use Rattle.dir_trait.specs.Effects.{Given}

pub delete_at-requires-clause-garbage : goal.delete_at-requires-clause-garbage
delete_at-requires-clause-garbage g c = subst (λ (a : Area). is_garbage_place a ≡ true) (sym c.aside.ensures) (aside_place c.args.phase)

pub returns-in_err-put_away-clause-stopped : goal.returns-in_err-put_away-clause-stopped
returns-in_err-put_away-clause-stopped g c =
    let D = g.D.Dir in
    err_same (λ e. StoppedFound D.observed c.args.pod c.args.phase e (D.shown c.args.dir.now) (D.shown c.put_away.new.dir)) c.put_away.result c.from_residual.result
    (λ e h. search (rules, h, c.from_residual.ensures, c.in_err-put_away.is)) c.put_away.ensures.stopped

pub returns-in_err-put_away-clause-by_other_process : goal.returns-in_err-put_away-clause-by_other_process
returns-in_err-put_away-clause-by_other_process g c =
    let D = g.D.Dir in
    let old = D.shown c.args.dir.now in
    let new = D.shown c.put_away.new.dir in
    err_same (λ e. D.observed ≡ true → Given (MayRemovePod c.args.pod c.args.now) old (λ s. BusyAny c.args.pod e old new)) c.put_away.result c.from_residual.result
    (λ e h. search (rules, h, c.from_residual.ensures, c.in_err-put_away.is)) c.put_away.ensures.by_other_process

pub returns-clause-worked : goal.returns-clause-worked
returns-clause-worked g c = worked_more c.put_away.ensures.worked c.delete_at.ensures.worked

pub returns-clause-stopped : goal.returns-clause-stopped
returns-clause-stopped g c =
    let D = g.D.Dir in
    let old = D.shown c.args.dir.now in
    let mid = D.shown c.put_away.new.dir in
    let new = D.shown c.delete_at.new.dir in
    if_err (λ e. StepWasStopped D.observed c.args.pod (IsAbsentAt c.args.pod c.aside.result) e mid new) (λ e. StoppedFound D.observed c.args.pod c.args.phase e old new) c.delete_at.result
    (λ e x. found_part (follows_work c.put_away.ensures.worked) follows_none (found_aside c.args.phase c.aside.result c.aside.ensures x)) c.delete_at.ensures.stopped

pub returns-clause-by_other_process : goal.returns-clause-by_other_process
returns-clause-by_other_process g c =
    let D = g.D.Dir in
    let old = D.shown c.args.dir.now in
    let mid = D.shown c.put_away.new.dir in
    let new = D.shown c.delete_at.new.dir in
    if_err (λ e. D.observed ≡ true → Given (MayRemove c.args.now) mid (λ s. LockBusyElsewhere c.args.pod c.aside.result Exclusive e mid new)) (λ e. D.observed ≡ true → Given (MayRemovePod c.args.pod c.args.now) old (λ s. BusyAny c.args.pod e old new)) c.delete_at.result
    (λ e busy t. another_ready e new t (follows_work c.put_away.ensures.worked) follows_none (c.put_away.ensures.ready t) (λ s k m. busy_at e c.aside.result Exclusive mid new (garbage_stage c.aside.result (subst (λ (a : Area). is_garbage_place a ≡ true) (sym c.aside.ensures) (aside_place c.args.phase))) (busy t s k m.may))) c.delete_at.ensures.by_other_process

pub returns-clause-removed : goal.returns-clause-removed
returns-clause-removed g c =
    let D = g.D.Dir in
    let old = D.shown c.args.dir.now in
    let mid = D.shown c.put_away.new.dir in
    let new = D.shown c.delete_at.new.dir in
    if_ok (λ done. D.observed ≡ true → Did (RemoveFolder (pod_spot c.args.pod c.aside.result)) Done mid.process mid.trace new.trace) (λ done. D.observed ≡ true → HasDeletedPod c.args.pod old.process old.trace new.trace) c.delete_at.result
    (λ done did t. deleted_part c.args.pod ((follows_work c.put_away.ensures.worked).grown t) c.put_away.ensures.worked.same grown_none
    (deleted_at c.args.pod c.aside.result (subst (λ (a : Area). is_garbage_place a ≡ true) (sym c.aside.ensures) (aside_place c.args.phase)) (did t))) c.delete_at.ensures.done

pub returns-clause-ready : goal.returns-clause-ready
returns-clause-ready g c t = ready_more (c.put_away.ensures.ready t) (ready_any c.args.pod (c.delete_at.ensures.ready t))

pub returns-in_err-put_away-clause-missed : goal.returns-in_err-put_away-clause-missed
returns-in_err-put_away-clause-missed g c =
    let D = g.D.Dir in
    let old = D.shown c.args.dir.now in
    let new = D.shown c.put_away.new.dir in
    err_same (λ e. MissedThereOrAside D.observed c.args.pod c.args.phase e old new) c.put_away.result c.from_residual.result
    (λ e h. search (rules, h, c.from_residual.ensures, c.in_err-put_away.is))
    (if_err (λ e. MissedAtItsArea D.observed c.args.pod c.args.phase e old new) (λ e. MissedThereOrAside D.observed c.args.pod c.args.phase e old new) c.put_away.result (λ e x is t. inl (x is t)) c.put_away.ensures.missed)

pub returns-in_err-put_away-clause-refused : goal.returns-in_err-put_away-clause-refused
returns-in_err-put_away-clause-refused g c =
    let D = g.D.Dir in
    let old = D.shown c.args.dir.now in
    let new = D.shown c.put_away.new.dir in
    err_same (λ e. D.observed ≡ true → Given (MayRemovePod c.args.pod c.args.now) old (λ s. RefusedThereOrAside c.args.pod c.args.phase e old new)) c.put_away.result c.from_residual.result
    (λ e h. search (rules, h, c.from_residual.ensures, c.in_err-put_away.is))
    (if_err (λ e. D.observed ≡ true → Given (MayRemovePod c.args.pod c.args.now) old (λ s. RefusedAtItsArea c.args.pod c.args.phase e old new)) (λ e. D.observed ≡ true → Given (MayRemovePod c.args.pod c.args.now) old (λ s. RefusedThereOrAside c.args.pod c.args.phase e old new)) c.put_away.result
    (λ e busy t s k m which is. inl (busy t s k m which is)) c.put_away.ensures.refused)

pub returns-clause-taken : goal.returns-clause-taken
returns-clause-taken g c =
    let D = g.D.Dir in
    let old = D.shown c.args.dir.now in
    let mid = D.shown c.put_away.new.dir in
    let new = D.shown c.delete_at.new.dir in
    if_ok (λ done. FreeIfObserved D.observed c.args.pod c.aside.result Own Exclusive mid new) (λ done. TakenAwayIfObserved D.observed c.args.pod c.args.phase old new) c.delete_at.result
    (λ done free. taken_by old mid new c.args.phase c.aside.result c.aside.ensures c.put_away.ensures.worked.same c.in_ok-put_away.ensures.put free) c.delete_at.ensures.free

pub returns-clause-missed : goal.returns-clause-missed
returns-clause-missed g c =
    let D = g.D.Dir in
    let old = D.shown c.args.dir.now in
    let mid = D.shown c.put_away.new.dir in
    let new = D.shown c.delete_at.new.dir in
    err_both (λ e. StepWasStopped D.observed c.args.pod (IsAbsentAt c.args.pod c.aside.result) e mid new) (λ e. MissedUntaken D.observed e mid new) (λ e. MissedThereOrAside D.observed c.args.pod c.args.phase e old new) c.delete_at.result
    (λ e x still. missed_aside old mid new c.args.phase c.aside.result c.aside.ensures c.put_away.ensures.worked.same c.in_ok-put_away.ensures.put x.missing (λ is. still (ap is_missing is))) c.delete_at.ensures.stopped c.delete_at.ensures.takes_nothing

pub returns-clause-refused : goal.returns-clause-refused
returns-clause-refused g c =
    let D = g.D.Dir in
    let old = D.shown c.args.dir.now in
    let mid = D.shown c.put_away.new.dir in
    let new = D.shown c.delete_at.new.dir in
    err_both (λ e. (which : Which) → e ≡ stop.Busy which → which ≡ Own) (λ e. D.observed ≡ true → Given (MayRemove c.args.now) mid (λ s. LockBusyElsewhere c.args.pod c.aside.result Exclusive e mid new)) (λ e. D.observed ≡ true → Given (MayRemovePod c.args.pod c.args.now) old (λ s. RefusedThereOrAside c.args.pod c.args.phase e old new)) c.delete_at.result
    (λ e named busy t s k m.
    let x = c.put_away.ensures.ready t s k m in
    refused_aside old mid new c.args.phase c.aside.result c.aside.ensures c.put_away.ensures.worked.same c.in_ok-put_away.ensures.put t named (busy t x.known x.knows (may_pod_kept x.keeps m).may)) c.delete_at.ensures.named c.delete_at.ensures.by_other_process

pub returns-clause-reads : goal.returns-clause-reads
returns-clause-reads g c = reads_more 0 (omega arith) c.put_away.ensures.reads c.put_away.ensures.worked.same c.delete_at.ensures.reads

pub returns-in_err-put_away-clause-kept : goal.returns-in_err-put_away-clause-kept
returns-in_err-put_away-clause-kept g c =
    let D = g.D.Dir in
    err_same (λ e. D.observed ≡ true → KeepsFolders (D.shown c.args.dir.now) (D.shown c.put_away.new.dir)) c.put_away.result c.from_residual.result (λ e h. search (rules, h, c.from_residual.ensures, c.in_err-put_away.is)) c.put_away.ensures.kept

pub returns-clause-kept : goal.returns-clause-kept
returns-clause-kept g c =
    let D = g.D.Dir in
    if_err (λ e. D.observed ≡ true → KeepsFolders (D.shown c.put_away.new.dir) (D.shown c.delete_at.new.dir)) (λ e. D.observed ≡ true → KeepsFolders (D.shown c.args.dir.now) (D.shown c.delete_at.new.dir)) c.delete_at.result
    (λ e kept t. kept_more (kept_aside c.args.pod c.args.phase (c.in_ok-put_away.ensures.put t)) c.put_away.ensures.worked.same (kept t)) c.delete_at.ensures.kept

pub returns-in_err-put_away-clause-lawful : goal.returns-in_err-put_away-clause-lawful
returns-in_err-put_away-clause-lawful g c =
    let D = g.D.Dir in
    let old = D.shown c.args.dir.now in
    let new = D.shown c.put_away.new.dir in
    err_same (λ e. StrayByApp D.observed e (MayRemovePod c.args.pod c.args.now) old new) c.put_away.result c.from_residual.result (λ e h. search (rules, h, c.from_residual.ensures, c.in_err-put_away.is))
    (if_err (λ e. NeverStray D.observed e new) (λ e. StrayByApp D.observed e (MayRemovePod c.args.pod c.args.now) old new) c.put_away.result (λ e never is t s k m conforming. absurd (never is t conforming)) c.put_away.ensures.lawful)

pub returns-clause-lawful : goal.returns-clause-lawful
returns-clause-lawful g c =
    let D = g.D.Dir in
    let old = D.shown c.args.dir.now in
    let mid = D.shown c.put_away.new.dir in
    let new = D.shown c.delete_at.new.dir in
    if_err (λ e. StrayByApp D.observed e (MayRemove c.args.now) mid new) (λ e. StrayByApp D.observed e (MayRemovePod c.args.pod c.args.now) old new) c.delete_at.result
    (λ e x is. by_app_part (follows_work c.put_away.ensures.worked) (follows_none {a = new}) (λ t s k m. let z = c.put_away.ensures.ready t s k m in (z.known, z.knows, (may_pod_kept z.keeps m).may)) (x is)) c.delete_at.ensures.lawful
