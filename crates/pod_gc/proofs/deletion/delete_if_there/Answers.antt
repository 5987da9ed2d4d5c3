use Rattle.std.proofs.Common.{◌≡◌, true, false, Err, refl, sym, ap, subst, ◌∙◌}
use Rattle.plain_laws.proofs.Results.{if_ok, if_err, err_both}
use Rattle.dir_model.specs.declared.request.Request.TheVariants.{RemoveFolder}
use Rattle.dir_model.specs.declared.request.Reply.TheVariants.{Done}
use Rattle.folder_building.proofs.Working.{worked_more, worked_wider}
use Rattle.dir_model.specs.Spots.{pod_spot}
use Rattle.pod_locks.proofs.Times.{deeds_part, at_part}
use Rattle.pod_locks.proofs.Traces.{grown_none}
use Rattle.pod_locks.specs.declared.setback.Setback.{Setback}
use Rattle.pod_locks.specs.Causes.{StepWasStopped, IsAbsentAt, Did}
use Rattle.pod_locks.proofs.Calls.{follows_work}
use Rattle.dir_model.specs.State.{DirState, stands}
use Rattle.dir_model.specs.declared.spot.Spot.{Spot}
use Rattle.dir_trait.specs.DirCalls.{HeldBetween}
use Rattle.dir_trait.specs.Effects.{Given}
use Rattle.pod_gc.proofs.Looking.{worked_look, missing_stops, failed_stops, look_calm, look_no_stray}
use Rattle.pod_gc.proofs.Deleting.{look_kinds, stood_stops, known_later, known_looked}
use Rattle.pod_gc.specs.RemovalCauses.{StoppedDeleting, MissedUntaken}
use Rattle.pod_locks.proofs.Taking.{took_looks}
use Rattle.folder_removal.specs.Removal.{KeepsFolders}
use Rattle.folder_removal.proofs.Keeping.{kept_more}
use Rattle.pod_gc.proofs.Unread.{kept_looks}
use Rattle.folder_removal.specs.Known.{StrayKnowing}
use Rattle.pod_locks.specs.Causes.{StrayByApp}
use Rattle.pod_gc.specs.RemovalHolding.{HasOwn}
use Rattle.pod_gc.proofs.RemovalLawful.{deletion_by_app}
use Rattle.dir_model.specs.State.{spot_eq}
use Rattle.pod_gc.proofs.deletion.delete_if_there.Goals as goal

pub returns-in-Ok-true-clause-worked : goal.returns-in-Ok-true-clause-worked
returns-in-Ok-true-clause-worked g c =
    let l = c.look.ensures in
    worked_more (worked_wider (look_kinds c.args.pod c.args.area) (worked_look c.args.pod c.args.area (g.D.Dir.shown c.args.dir.now) (g.D.Dir.shown c.look.new.dir) c.of_pod.ensures l.same l.faults l.local l.extends)) c.delete_standing.ensures.worked

pub returns-in-Ok-true-clause-stopped : goal.returns-in-Ok-true-clause-stopped
returns-in-Ok-true-clause-stopped g c =
    let D = g.D.Dir in
    let l = c.look.ensures in
    let old = D.shown c.args.dir.now in
    let mid = D.shown c.look.new.dir in
    let new = D.shown c.delete_standing.new.dir in
    let told = rw c.in-Ok-true.field-0-test at c.in-Ok-true.ensures in
    let w = worked_look c.args.pod c.args.area old mid c.of_pod.ensures l.same l.faults l.local l.extends in
    if_err (λ e. StoppedDeleting D.observed (pod_spot c.args.pod c.args.area) e mid new) (λ e. StepWasStopped D.observed c.args.pod (IsAbsentAt c.args.pod c.args.area) e old new) c.delete_standing.result
    (λ e x. stood_stops w.same w.faults (follows_work w).grown
    (λ t. subst (λ (spot : Spot). HeldBetween old mid (λ (s : DirState). stands s.namespace spot ≡ true)) c.of_pod.ensures (told.there t)) x) c.delete_standing.ensures.stopped

pub returns-in-Ok-true-clause-done : goal.returns-in-Ok-true-clause-done
returns-in-Ok-true-clause-done g c =
    let D = g.D.Dir in
    let l = c.look.ensures in
    let old = D.shown c.args.dir.now in
    let mid = D.shown c.look.new.dir in
    let new = D.shown c.delete_standing.new.dir in
    let w = worked_look c.args.pod c.args.area old mid c.of_pod.ensures l.same l.faults l.local l.extends in
    if_ok (λ done. D.observed ≡ true → Did (RemoveFolder (pod_spot c.args.pod c.args.area)) Done mid.process mid.trace new.trace)
    (λ done. D.observed ≡ true → Did (RemoveFolder (pod_spot c.args.pod c.args.area)) Done old.process old.trace new.trace) c.delete_standing.result
    (λ done did t. deeds_part ((follows_work w).grown t) w.same grown_none (did t)) c.delete_standing.ensures.done

pub returns-in-Ok-true-clause-known : goal.returns-in-Ok-true-clause-known
returns-in-Ok-true-clause-known g c t = known_later (c.look.ensures.known t) (c.delete_standing.ensures.known t)

pub returns-in-Ok-false-clause-worked : goal.returns-in-Ok-false-clause-worked
returns-in-Ok-false-clause-worked g c =
    let l = c.look.ensures in
    worked_wider (look_kinds c.args.pod c.args.area) (worked_look c.args.pod c.args.area (g.D.Dir.shown c.args.dir.now) (g.D.Dir.shown c.look.new.dir) c.of_pod.ensures l.same l.faults l.local l.extends)

pub returns-in-Ok-false-clause-stopped : goal.returns-in-Ok-false-clause-stopped
returns-in-Ok-false-clause-stopped g c =
    let e = rw c.in-Ok-false.field-0-test at c.in-Ok-false.ensures in
    missing_stops c.args.pod c.args.area (g.D.Dir.shown c.args.dir.now) (g.D.Dir.shown c.look.new.dir) c.of_pod.ensures e.there

pub returns-in-Ok-false-clause-known : goal.returns-in-Ok-false-clause-known
returns-in-Ok-false-clause-known g c t = known_looked (c.look.ensures.known t)

pub returns-in-Err-clause-worked : goal.returns-in-Err-clause-worked
returns-in-Err-clause-worked g c =
    let l = c.look.ensures in
    worked_wider (look_kinds c.args.pod c.args.area) (worked_look c.args.pod c.args.area (g.D.Dir.shown c.args.dir.now) (g.D.Dir.shown c.look.new.dir) c.of_pod.ensures l.same l.faults l.local l.extends)

pub returns-in-Err-clause-stopped : goal.returns-in-Err-clause-stopped
returns-in-Err-clause-stopped g c =
    let D = g.D.Dir in
    subst (λ (x : Setback). StepWasStopped D.observed c.args.pod (IsAbsentAt c.args.pod c.args.area) x (D.shown c.args.dir.now) (D.shown c.look.new.dir)) (sym c.look_setback.ensures)
    (failed_stops c.in-Err.error (λ is. c.look.ensures.cause (c.in-Err.is ∙ ap Err is)))

pub returns-in-Err-clause-never_busy : goal.returns-in-Err-clause-never_busy
returns-in-Err-clause-never_busy g c which is = look_calm c.in-Err.error which (sym c.look_setback.ensures ∙ is)

pub returns-in-Err-clause-known : goal.returns-in-Err-clause-known
returns-in-Err-clause-known g c t = known_looked (c.look.ensures.known t)

pub returns-in-Ok-true-clause-takes_nothing : goal.returns-in-Ok-true-clause-takes_nothing
returns-in-Ok-true-clause-takes_nothing g c =
    let D = g.D.Dir in
    if_err (λ e. StoppedDeleting D.observed (pod_spot c.args.pod c.args.area) e (D.shown c.look.new.dir) (D.shown c.delete_standing.new.dir)) (λ e. MissedUntaken D.observed e (D.shown c.args.dir.now) (D.shown c.delete_standing.new.dir)) c.delete_standing.result
    (λ e x is t. let clash : true ≡ false = sym is ∙ x.there in cc) c.delete_standing.ensures.stopped

pub returns-in-Ok-false-clause-takes_nothing : goal.returns-in-Ok-false-clause-takes_nothing
returns-in-Ok-false-clause-takes_nothing g c is t =
    let l = c.look.ensures in
    let w = worked_look c.args.pod c.args.area (g.D.Dir.shown c.args.dir.now) (g.D.Dir.shown c.look.new.dir) c.of_pod.ensures l.same l.faults l.local l.extends in
    took_looks c.args.pod c.args.area (w.extends t)

pub returns-in-Err-clause-takes_nothing : goal.returns-in-Err-clause-takes_nothing
returns-in-Err-clause-takes_nothing g c is t =
    let l = c.look.ensures in
    let w = worked_look c.args.pod c.args.area (g.D.Dir.shown c.args.dir.now) (g.D.Dir.shown c.look.new.dir) c.of_pod.ensures l.same l.faults l.local l.extends in
    took_looks c.args.pod c.args.area (w.extends t)

pub returns-in-Ok-true-clause-stood : goal.returns-in-Ok-true-clause-stood
returns-in-Ok-true-clause-stood g c =
    let D = g.D.Dir in
    let old = D.shown c.args.dir.now in
    let mid = D.shown c.look.new.dir in
    let new = D.shown c.delete_standing.new.dir in
    let told = rw c.in-Ok-true.field-0-test at c.in-Ok-true.ensures in
    if_err (λ e. StoppedDeleting D.observed (pod_spot c.args.pod c.args.area) e mid new)
    (λ e. e ≡ Setback.Stray → D.observed ≡ true → HeldBetween old new (λ s. stands s.namespace (pod_spot c.args.pod c.args.area) ≡ true)) c.delete_standing.result
    (λ e x is t. at_part grown_none refl ((follows_work c.delete_standing.ensures.worked).grown t)
    (subst (λ (spot : Spot). HeldBetween old mid (λ (s : DirState). stands s.namespace spot ≡ true)) c.of_pod.ensures (told.there t))) c.delete_standing.ensures.stopped

pub returns-in-Err-clause-stood : goal.returns-in-Err-clause-stood
returns-in-Err-clause-stood g c is = absurd (look_no_stray c.in-Err.error (sym c.look_setback.ensures ∙ is))

pub returns-in-Ok-true-clause-kept : goal.returns-in-Ok-true-clause-kept
returns-in-Ok-true-clause-kept g c =
    let D = g.D.Dir in
    let l = c.look.ensures in
    let w = worked_look c.args.pod c.args.area (D.shown c.args.dir.now) (D.shown c.look.new.dir) c.of_pod.ensures l.same l.faults l.local l.extends in
    if_err (λ e. D.observed ≡ true → KeepsFolders (D.shown c.look.new.dir) (D.shown c.delete_standing.new.dir)) (λ e. D.observed ≡ true → KeepsFolders (D.shown c.args.dir.now) (D.shown c.delete_standing.new.dir)) c.delete_standing.result
    (λ e kept t. kept_more (kept_looks c.args.pod c.args.area (w.extends t)) w.same (kept t)) c.delete_standing.ensures.kept

pub returns-in-Ok-false-clause-kept : goal.returns-in-Ok-false-clause-kept
returns-in-Ok-false-clause-kept g c t =
    let D = g.D.Dir in
    let l = c.look.ensures in
    let w = worked_look c.args.pod c.args.area (D.shown c.args.dir.now) (D.shown c.look.new.dir) c.of_pod.ensures l.same l.faults l.local l.extends in
    kept_looks c.args.pod c.args.area (w.extends t)

pub returns-in-Err-clause-kept : goal.returns-in-Err-clause-kept
returns-in-Err-clause-kept g c t =
    let D = g.D.Dir in
    let l = c.look.ensures in
    let w = worked_look c.args.pod c.args.area (D.shown c.args.dir.now) (D.shown c.look.new.dir) c.of_pod.ensures l.same l.faults l.local l.extends in
    kept_looks c.args.pod c.args.area (w.extends t)

pub returns-in-Ok-true-clause-lawful : goal.returns-in-Ok-true-clause-lawful
returns-in-Ok-true-clause-lawful g c =
    let D = g.D.Dir in
    let l = c.look.ensures in
    let old = D.shown c.args.dir.now in
    let mid = D.shown c.look.new.dir in
    let new = D.shown c.delete_standing.new.dir in
    let told = rw c.in-Ok-true.field-0-test at c.in-Ok-true.ensures in
    let w = worked_look c.args.pod c.args.area old mid c.of_pod.ensures l.same l.faults l.local l.extends in
    err_both (λ e. StoppedDeleting D.observed (pod_spot c.args.pod c.args.area) e mid new × (D.observed ≡ true → KeepsFolders mid new))
    (λ e. e ≡ Setback.Stray → D.observed ≡ true → Given (HasOwn c.args.pod c.args.area) mid (λ s. StrayKnowing (pod_spot c.args.pod c.args.area) mid.process new.trace))
    (λ e. StrayByApp D.observed e (HasOwn c.args.pod c.args.area) old new) c.delete_standing.result
    (λ e x knew. deletion_by_app c.args.pod c.args.area (spot_eq c.of_pod.result) c.requires.garbage (follows_work w)
    (λ t. subst (λ (spot : Spot). HeldBetween old mid (λ (s : DirState). stands s.namespace spot ≡ true)) c.of_pod.ensures (told.there t)) (λ t. l.extends t) (λ t. l.known t) x.0 x.1 knew)
    (err_both (λ e. StoppedDeleting D.observed (pod_spot c.args.pod c.args.area) e mid new) (λ e. D.observed ≡ true → KeepsFolders mid new) (λ e. StoppedDeleting D.observed (pod_spot c.args.pod c.args.area) e mid new × (D.observed ≡ true → KeepsFolders mid new)) c.delete_standing.result
    (λ e x kept. (x, kept)) c.delete_standing.ensures.stopped c.delete_standing.ensures.kept)
    c.delete_standing.ensures.knew

pub returns-in-Err-clause-lawful : goal.returns-in-Err-clause-lawful
returns-in-Err-clause-lawful g c is = absurd (look_no_stray c.in-Err.error (sym c.look_setback.ensures ∙ is))
