use Rattle.std.proofs.Common.{◌≡◌, true, refl, sym, ap, subst, ◌∙◌, IfOk}
use Rattle.plain_laws.proofs.Results.{if_err, err_both, ok_both}
use Rattle.folder_building.proofs.Working.{worked_none}
use Rattle.pod_gc.specs.RemovalHolding.{MayRemove, MayDiscard, MayRemovePod}
use Rattle.pod_gc.specs.RemovalCauses.{StoppedAlone, StoppedFound, BusyInPrepared, BusyAny}
use Rattle.dir_model.specs.declared.area.Phase.{Phase}
use Rattle.dir_model.specs.declared.area.Phase.TheVariants as kind
use Rattle.dir_model.specs.declared.area.Area.TheVariants.{Prepare, Prepared, Run, ExitedGarbage, Garbage}
use Rattle.dir_model.specs.declared.spot.Mode.TheVariants.{Shared, Exclusive}
use Rattle.dir_model.specs.declared.spot.Which.{Which}
use Rattle.dir_model.specs.declared.spot.Which.TheVariants.{Own, Claim}
use Rattle.dir_model.specs.declared.request.Reply.TheVariants.{Done}
use Rattle.dir_model.specs.declared.request.Request.TheVariants.{MoveFolder}
use Rattle.dir_trait.specs.DirCalls.{ExtendsBy}
use Rattle.dir_trait.specs.Effects.{Given}
use Rattle.dir_model.specs.Spots.{pod_spot}
use Rattle.pod_locks.specs.declared.setback.Setback.TheVariants as stop
use Rattle.pod_locks.specs.Causes.{StepWasStopped, IsAbsentAt, LockBusyElsewhere, Did, FreeIfObserved}
use Rattle.pod_locks.specs.Taking.{TakesNothing}
use Rattle.pod_gc.specs.RemovalRequests.{area_of_phase, puts_aside}
use Rattle.pod_gc.specs.Found.{PutAwayIfObserved, MissedAtItsArea, RefusedAtItsArea}
use Rattle.pod_gc.proofs.Finding.{put_aborted, put_exited, put_prepared, put_still, missed_here, refused_own, refused_waiting}
use Rattle.pod_gc.proofs.Rounds.{found_here, found_waiting, busy_at, busy_waiting, ready_here, ready_any, ready_waiting, may_discard}
use Rattle.pod_gc.proofs.Unread.{unread_here}
use Rattle.folder_removal.specs.Removal.{KeepsFolders}
use Rattle.pod_gc.proofs.Unread.{kept_untaken}
use Rattle.pod_gc.proofs.attempt.put_away.Goals as goal

pub returns-in-AbortedPrepare-clause-stopped : goal.returns-in-AbortedPrepare-clause-stopped
returns-in-AbortedPrepare-clause-stopped g c =
    let D = g.D.Dir in
    let old = D.shown c.args.dir.now in
    let new = D.shown c.put_dead_aside.new.dir in
    if_err (λ e. StepWasStopped D.observed c.args.pod (IsAbsentAt c.args.pod Prepare) e old new) (λ e. StoppedFound D.observed c.args.pod c.args.phase e old new) c.put_dead_aside.result
    (λ e x. found_here c.args.phase Prepare (ap area_of_phase c.in-AbortedPrepare.is) x) c.put_dead_aside.ensures.stopped

pub returns-in-AbortedPrepare-clause-by_other_process : goal.returns-in-AbortedPrepare-clause-by_other_process
returns-in-AbortedPrepare-clause-by_other_process g c =
    let D = g.D.Dir in
    let old = D.shown c.args.dir.now in
    let new = D.shown c.put_dead_aside.new.dir in
    if_err (λ e. D.observed ≡ true → Given (MayRemove c.args.now) old (λ s. LockBusyElsewhere c.args.pod Prepare Shared e old new)) (λ e. D.observed ≡ true → Given (MayRemovePod c.args.pod c.args.now) old (λ s. BusyAny c.args.pod e old new)) c.put_dead_aside.result
    (λ e busy t s k m. busy_at e Prepare Shared old new refl (busy t s k m.may)) c.put_dead_aside.ensures.by_other_process

pub returns-in-AbortedPrepare-clause-ready : goal.returns-in-AbortedPrepare-clause-ready
returns-in-AbortedPrepare-clause-ready g c t = ready_any c.args.pod (c.put_dead_aside.ensures.ready t)

pub returns-in-Prepared-clause-stopped : goal.returns-in-Prepared-clause-stopped
returns-in-Prepared-clause-stopped g c =
    let D = g.D.Dir in
    let old = D.shown c.args.dir.now in
    let new = D.shown c.discard_prepared.new.dir in
    if_err (λ e. StoppedAlone D.observed c.args.pod e old new) (λ e. StoppedFound D.observed c.args.pod c.args.phase e old new) c.discard_prepared.result
    (λ e x. found_waiting c.args.phase c.in-Prepared.is x) c.discard_prepared.ensures.stopped

pub returns-in-Prepared-clause-by_other_process : goal.returns-in-Prepared-clause-by_other_process
returns-in-Prepared-clause-by_other_process g c =
    let D = g.D.Dir in
    let old = D.shown c.args.dir.now in
    let new = D.shown c.discard_prepared.new.dir in
    if_err (λ e. D.observed ≡ true → Given (MayDiscard c.args.pod c.args.now) old (λ s. BusyInPrepared c.args.pod e old new)) (λ e. D.observed ≡ true → Given (MayRemovePod c.args.pod c.args.now) old (λ s. BusyAny c.args.pod e old new)) c.discard_prepared.result
    (λ e busy t s k m. busy_waiting e old new (busy t s k (may_discard c.args.pod m))) c.discard_prepared.ensures.by_other_process

pub returns-in-Prepared-clause-ready : goal.returns-in-Prepared-clause-ready
returns-in-Prepared-clause-ready g c t = ready_waiting c.args.pod (c.discard_prepared.ensures.ready t)

pub returns-in-Exited-clause-stopped : goal.returns-in-Exited-clause-stopped
returns-in-Exited-clause-stopped g c =
    let D = g.D.Dir in
    let old = D.shown c.args.dir.now in
    let new = D.shown c.put_dead_aside-in-Exited.new.dir in
    if_err (λ e. StepWasStopped D.observed c.args.pod (IsAbsentAt c.args.pod Run) e old new) (λ e. StoppedFound D.observed c.args.pod c.args.phase e old new) c.put_dead_aside-in-Exited.result
    (λ e x. found_here c.args.phase Run (ap area_of_phase c.in-Exited.is) x) c.put_dead_aside-in-Exited.ensures.stopped

pub returns-in-Exited-clause-by_other_process : goal.returns-in-Exited-clause-by_other_process
returns-in-Exited-clause-by_other_process g c =
    let D = g.D.Dir in
    let old = D.shown c.args.dir.now in
    let new = D.shown c.put_dead_aside-in-Exited.new.dir in
    if_err (λ e. D.observed ≡ true → Given (MayRemove c.args.now) old (λ s. LockBusyElsewhere c.args.pod Run Shared e old new)) (λ e. D.observed ≡ true → Given (MayRemovePod c.args.pod c.args.now) old (λ s. BusyAny c.args.pod e old new)) c.put_dead_aside-in-Exited.result
    (λ e busy t s k m. busy_at e Run Shared old new refl (busy t s k m.may)) c.put_dead_aside-in-Exited.ensures.by_other_process

pub returns-in-Exited-clause-ready : goal.returns-in-Exited-clause-ready
returns-in-Exited-clause-ready g c t = ready_any c.args.pod (c.put_dead_aside-in-Exited.ensures.ready t)

pub returns-in_default-clause-worked : goal.returns-in_default-clause-worked
returns-in_default-clause-worked g c = worked_none

pub returns-in_default-clause-ready : goal.returns-in_default-clause-ready
returns-in_default-clause-ready g c t = ready_here

pub returns-in-AbortedPrepare-clause-put : goal.returns-in-AbortedPrepare-clause-put
returns-in-AbortedPrepare-clause-put g c =
    let D = g.D.Dir in
    let old = D.shown c.args.dir.now in
    let new = D.shown c.put_dead_aside.new.dir in
    subst (λ (p : Phase). IfOk c.put_dead_aside.result (λ done. PutAwayIfObserved D.observed c.args.pod p old new)) (sym c.in-AbortedPrepare.is)
    (ok_both (λ done. D.observed ≡ true → Did (MoveFolder (pod_spot c.args.pod Prepare) (pod_spot c.args.pod Garbage)) Done old.process old.trace new.trace) (λ done. D.observed ≡ true → ExtendsBy (puts_aside c.args.pod Prepare Garbage) old new) (λ done. PutAwayIfObserved D.observed c.args.pod kind.AbortedPrepare old new) c.put_dead_aside.result
    (λ done did only t. put_aborted c.args.pod old.process old.trace new.trace (did t) (only t)) c.put_dead_aside.ensures.done c.put_dead_aside.ensures.aside)

pub returns-in-AbortedPrepare-clause-missed : goal.returns-in-AbortedPrepare-clause-missed
returns-in-AbortedPrepare-clause-missed g c =
    let D = g.D.Dir in
    let old = D.shown c.args.dir.now in
    let new = D.shown c.put_dead_aside.new.dir in
    err_both (λ e. StepWasStopped D.observed c.args.pod (IsAbsentAt c.args.pod Prepare) e old new) (λ e. TakesNothing D.observed old new) (λ e. MissedAtItsArea D.observed c.args.pod c.args.phase e old new) c.put_dead_aside.result
    (λ e x still. missed_here old new c.args.phase Prepare (ap area_of_phase c.in-AbortedPrepare.is) x.missing still) c.put_dead_aside.ensures.stopped c.put_dead_aside.ensures.takes_nothing

pub returns-in-AbortedPrepare-clause-refused : goal.returns-in-AbortedPrepare-clause-refused
returns-in-AbortedPrepare-clause-refused g c =
    let D = g.D.Dir in
    let old = D.shown c.args.dir.now in
    let new = D.shown c.put_dead_aside.new.dir in
    err_both (λ e. (which : Which) → e ≡ stop.Busy which → which ≡ Own) (λ e. D.observed ≡ true → Given (MayRemove c.args.now) old (λ s. LockBusyElsewhere c.args.pod Prepare Shared e old new)) (λ e. D.observed ≡ true → Given (MayRemovePod c.args.pod c.args.now) old (λ s. RefusedAtItsArea c.args.pod c.args.phase e old new)) c.put_dead_aside.result
    (λ e named busy t s k m. refused_own old new c.args.phase Prepare (ap area_of_phase c.in-AbortedPrepare.is) (λ q. let clash : kind.AbortedPrepare ≡ kind.Prepared = sym c.in-AbortedPrepare.is ∙ q in cc) named (busy t s k m.may)) c.put_dead_aside.ensures.named c.put_dead_aside.ensures.by_other_process

pub returns-in-Exited-clause-put : goal.returns-in-Exited-clause-put
returns-in-Exited-clause-put g c =
    let D = g.D.Dir in
    let old = D.shown c.args.dir.now in
    let new = D.shown c.put_dead_aside-in-Exited.new.dir in
    subst (λ (p : Phase). IfOk c.put_dead_aside-in-Exited.result (λ done. PutAwayIfObserved D.observed c.args.pod p old new)) (sym c.in-Exited.is)
    (ok_both (λ done. D.observed ≡ true → Did (MoveFolder (pod_spot c.args.pod Run) (pod_spot c.args.pod ExitedGarbage)) Done old.process old.trace new.trace) (λ done. D.observed ≡ true → ExtendsBy (puts_aside c.args.pod Run ExitedGarbage) old new) (λ done. PutAwayIfObserved D.observed c.args.pod kind.Exited old new) c.put_dead_aside-in-Exited.result
    (λ done did only t. put_exited c.args.pod old.process old.trace new.trace (did t) (only t)) c.put_dead_aside-in-Exited.ensures.done c.put_dead_aside-in-Exited.ensures.aside)

pub returns-in-Exited-clause-missed : goal.returns-in-Exited-clause-missed
returns-in-Exited-clause-missed g c =
    let D = g.D.Dir in
    let old = D.shown c.args.dir.now in
    let new = D.shown c.put_dead_aside-in-Exited.new.dir in
    err_both (λ e. StepWasStopped D.observed c.args.pod (IsAbsentAt c.args.pod Run) e old new) (λ e. TakesNothing D.observed old new) (λ e. MissedAtItsArea D.observed c.args.pod c.args.phase e old new) c.put_dead_aside-in-Exited.result
    (λ e x still. missed_here old new c.args.phase Run (ap area_of_phase c.in-Exited.is) x.missing still) c.put_dead_aside-in-Exited.ensures.stopped c.put_dead_aside-in-Exited.ensures.takes_nothing

pub returns-in-Exited-clause-refused : goal.returns-in-Exited-clause-refused
returns-in-Exited-clause-refused g c =
    let D = g.D.Dir in
    let old = D.shown c.args.dir.now in
    let new = D.shown c.put_dead_aside-in-Exited.new.dir in
    err_both (λ e. (which : Which) → e ≡ stop.Busy which → which ≡ Own) (λ e. D.observed ≡ true → Given (MayRemove c.args.now) old (λ s. LockBusyElsewhere c.args.pod Run Shared e old new)) (λ e. D.observed ≡ true → Given (MayRemovePod c.args.pod c.args.now) old (λ s. RefusedAtItsArea c.args.pod c.args.phase e old new)) c.put_dead_aside-in-Exited.result
    (λ e named busy t s k m. refused_own old new c.args.phase Run (ap area_of_phase c.in-Exited.is) (λ q. let clash : kind.Exited ≡ kind.Prepared = sym c.in-Exited.is ∙ q in cc) named (busy t s k m.may)) c.put_dead_aside-in-Exited.ensures.named c.put_dead_aside-in-Exited.ensures.by_other_process

pub returns-in-Prepared-clause-put : goal.returns-in-Prepared-clause-put
returns-in-Prepared-clause-put g c =
    let D = g.D.Dir in
    let old = D.shown c.args.dir.now in
    let new = D.shown c.discard_prepared.new.dir in
    subst (λ (p : Phase). IfOk c.discard_prepared.result (λ done. PutAwayIfObserved D.observed c.args.pod p old new)) (sym c.in-Prepared.is)
    (ok_both (λ done. D.observed ≡ true → Did (MoveFolder (pod_spot c.args.pod Prepared) (pod_spot c.args.pod Garbage)) Done old.process old.trace new.trace) (λ done. (only : D.observed ≡ true → ExtendsBy (puts_aside c.args.pod Prepared Garbage) old new) × FreeIfObserved D.observed c.args.pod Prepared Claim Exclusive old new) (λ done. PutAwayIfObserved D.observed c.args.pod kind.Prepared old new) c.discard_prepared.result
    (λ done did more t. put_prepared c.args.pod old.process old.trace new.trace (did t) (more.0 t) (more.1 t)) c.discard_prepared.ensures.done
    (ok_both (λ done. D.observed ≡ true → ExtendsBy (puts_aside c.args.pod Prepared Garbage) old new) (λ done. FreeIfObserved D.observed c.args.pod Prepared Claim Exclusive old new) (λ done. (only : D.observed ≡ true → ExtendsBy (puts_aside c.args.pod Prepared Garbage) old new) × FreeIfObserved D.observed c.args.pod Prepared Claim Exclusive old new) c.discard_prepared.result
    (λ done only free. (only, free)) c.discard_prepared.ensures.aside c.discard_prepared.ensures.claimed))

pub returns-in-Prepared-clause-missed : goal.returns-in-Prepared-clause-missed
returns-in-Prepared-clause-missed g c =
    let D = g.D.Dir in
    let old = D.shown c.args.dir.now in
    let new = D.shown c.discard_prepared.new.dir in
    err_both (λ e. StoppedAlone D.observed c.args.pod e old new) (λ e. TakesNothing D.observed old new) (λ e. MissedAtItsArea D.observed c.args.pod c.args.phase e old new) c.discard_prepared.result
    (λ e x still. missed_here old new c.args.phase Prepared (ap area_of_phase c.in-Prepared.is) x.missing still) c.discard_prepared.ensures.stopped c.discard_prepared.ensures.takes_nothing

pub returns-in-Prepared-clause-refused : goal.returns-in-Prepared-clause-refused
returns-in-Prepared-clause-refused g c =
    let D = g.D.Dir in
    let old = D.shown c.args.dir.now in
    let new = D.shown c.discard_prepared.new.dir in
    err_both (λ e. e ≡ stop.Busy Own → FreeIfObserved D.observed c.args.pod Prepared Claim Exclusive old new) (λ e. D.observed ≡ true → Given (MayDiscard c.args.pod c.args.now) old (λ s. BusyInPrepared c.args.pod e old new)) (λ e. D.observed ≡ true → Given (MayRemovePod c.args.pod c.args.now) old (λ s. RefusedAtItsArea c.args.pod c.args.phase e old new)) c.discard_prepared.result
    (λ e free busy t s k m. subst (λ (p : Phase). RefusedAtItsArea c.args.pod p e old new) (sym c.in-Prepared.is) (refused_waiting old new (λ is. free is t) (busy t s k (may_discard c.args.pod m)))) c.discard_prepared.ensures.under_claim c.discard_prepared.ensures.by_other_process

pub returns-in_default-clause-put : goal.returns-in_default-clause-put
returns-in_default-clause-put g c t =
    let old = g.D.Dir.shown c.args.dir.now in
    put_still c.args.pod old.process old.trace old.trace c.args.phase (λ is. c.in_default.not-AbortedPrepare is) (λ is. c.in_default.not-Prepared is) (λ is. c.in_default.not-Exited is) refl

pub returns-in_default-clause-reads : goal.returns-in_default-clause-reads
returns-in_default-clause-reads g c = unread_here c.args.pod (g.D.Dir.shown c.args.dir.now)

pub returns-in-AbortedPrepare-clause-kept : goal.returns-in-AbortedPrepare-clause-kept
returns-in-AbortedPrepare-clause-kept g c =
    let D = g.D.Dir in
    if_err (λ e. TakesNothing D.observed (D.shown c.args.dir.now) (D.shown c.put_dead_aside.new.dir)) (λ e. D.observed ≡ true → KeepsFolders (D.shown c.args.dir.now) (D.shown c.put_dead_aside.new.dir)) c.put_dead_aside.result (λ e still t. kept_untaken (still t)) c.put_dead_aside.ensures.takes_nothing

pub returns-in-Prepared-clause-kept : goal.returns-in-Prepared-clause-kept
returns-in-Prepared-clause-kept g c =
    let D = g.D.Dir in
    if_err (λ e. TakesNothing D.observed (D.shown c.args.dir.now) (D.shown c.discard_prepared.new.dir)) (λ e. D.observed ≡ true → KeepsFolders (D.shown c.args.dir.now) (D.shown c.discard_prepared.new.dir)) c.discard_prepared.result (λ e still t. kept_untaken (still t)) c.discard_prepared.ensures.takes_nothing

pub returns-in-Exited-clause-kept : goal.returns-in-Exited-clause-kept
returns-in-Exited-clause-kept g c =
    let D = g.D.Dir in
    if_err (λ e. TakesNothing D.observed (D.shown c.args.dir.now) (D.shown c.put_dead_aside-in-Exited.new.dir)) (λ e. D.observed ≡ true → KeepsFolders (D.shown c.args.dir.now) (D.shown c.put_dead_aside-in-Exited.new.dir)) c.put_dead_aside-in-Exited.result (λ e still t. kept_untaken (still t)) c.put_dead_aside-in-Exited.ensures.takes_nothing
