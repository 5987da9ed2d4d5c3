use Rattle.std.proofs.Common.{rules, ◌≡◌, ◌≤◌, true, arith, sym, subst}
use Rattle.plain_laws.proofs.Results.{if_ok, if_err, err_same, any_ok, any_err}
use Rattle.dir_model.specs.Local.{IsActive, Local}
use Rattle.folder_building.proofs.Working.{worked_more}
use Rattle.stage1.specs.Notes.{IsMarked}
use Rattle.stage1.specs.Beginnings.{StartedMain, MainStartCut, AppHasBegun, IsInterrupted}
use Rattle.stage1.specs.Refusals.{SpawnCause, NoteCause, RunCause}
use Rattle.stage1.proofs.Noted.{stays_more}
use Rattle.stage1.proofs.Causes.{by_note, by_spawn, run_after}
use Rattle.stage1.proofs.OneApp.{broken_none, broken_early, broken_late, has_begun}
use Rattle.stage1.proofs.Times.{keeps_marked_only, keeps_begun}
use Rattle.stage1.proofs.beginning.begin_app.Goals as goal

pub returns-in_err-mark_started-clause-cause : goal.returns-in_err-mark_started-clause-cause
returns-in_err-mark_started-clause-cause g c =
    let D = g.D.Dir in
    let s = g.S.Spawner.shown c.args.spawner.now in
    let old = D.shown c.args.dir.now in
    let new = D.shown c.mark_started.new.dir in
    err_same (λ f. RunCause D.observed f old new s s) c.mark_started.result c.from_residual.result (λ e h. search (rules, h, c.from_residual.ensures, c.in_err-mark_started.is))
    (if_err (λ f. NoteCause D.observed f old new) (λ f. RunCause D.observed f old new s s) c.mark_started.result (λ f is. by_note D.observed f old new s s is) c.mark_started.ensures.cause)

pub returns-in_err-mark_started-clause-broken : goal.returns-in_err-mark_started-clause-broken
returns-in_err-mark_started-clause-broken g c =
    let S = g.S.Spawner in
    let s = S.shown c.args.spawner.now in
    any_err (IsInterrupted S.observed c.args.app.now s s) c.from_residual.result (broken_none c.args.app.now)

pub returns-in_err-status-clause-cause : goal.returns-in_err-status-clause-cause
returns-in_err-status-clause-cause g c =
    let D = g.D.Dir in
    let S = g.S.Spawner in
    let s = S.shown c.args.spawner.now in
    let s' = S.shown c.prelude.new.spawner in
    let old = D.shown c.args.dir.now in
    let new = D.shown c.mark_started.new.dir in
    let same : s.faults ≤ s.faults = omega arith in
    err_same (λ f. RunCause D.observed f old new s s') c.prelude.result c.from_residual-in_err-status.result (λ e h. search (rules, h, c.from_residual-in_err-status.ensures, c.in_err-status.is))
    (if_err (λ f. SpawnCause f s s') (λ f. RunCause D.observed f old new s s') c.prelude.result (λ f is. run_after f old new new s s s' c.mark_started.ensures.worked same (by_spawn D.observed f new new s s' is)) c.prelude.ensures.cause)

pub returns-in_err-status-clause-broken : goal.returns-in_err-status-clause-broken
returns-in_err-status-clause-broken g c =
    let S = g.S.Spawner in
    any_err (IsInterrupted S.observed c.args.app.now (S.shown c.args.spawner.now) (S.shown c.prelude.new.spawner)) c.from_residual-in_err-status.result (broken_early c.args.app.now c.in_err-status.ensures.cut)

pub go_on-requires-clause-active : goal.go_on-requires-clause-active
go_on-requires-clause-active g c = subst (λ (m : Local). IsActive m) (sym c.mark_started.ensures.worked.local) c.requires.active

pub returns-clause-worked : goal.returns-clause-worked
returns-clause-worked g c = worked_more c.mark_started.ensures.worked c.go_on.ensures.worked

pub returns-clause-stays : goal.returns-clause-stays
returns-clause-stays g c t = stays_more (c.mark_started.ensures.stays t) (c.go_on.ensures.stays t)

pub returns-clause-cause : goal.returns-clause-cause
returns-clause-cause g c =
    let D = g.D.Dir in
    let S = g.S.Spawner in
    let s = S.shown c.args.spawner.now in
    let s' = S.shown c.prelude.new.spawner in
    let s'' = S.shown c.go_on.new.spawner in
    let old = D.shown c.args.dir.now in
    let mid = D.shown c.mark_started.new.dir in
    let new = D.shown c.go_on.new.dir in
    if_err (λ f. RunCause D.observed f mid new s' s'') (λ f. RunCause D.observed f old new s s'') c.go_on.result (λ f is. run_after f old mid new s s' s'' c.mark_started.ensures.worked c.in_ok-status.ensures.ran.asked.faults is) c.go_on.ensures.cause

pub returns-clause-begun : goal.returns-clause-begun
returns-clause-begun g c =
    let S = g.S.Spawner in
    let app = c.args.app.now in
    let status = c.in_ok-status.status in
    let s = S.shown c.args.spawner.now in
    let s' = S.shown c.prelude.new.spawner in
    let s'' = S.shown c.go_on.new.spawner in
    if_ok (λ stand. StartedMain S.observed app status stand s' s'') (λ stand. AppHasBegun S.observed app stand s s'') c.go_on.result (λ stand w. has_begun app status s' c.in_ok-status.ensures.ran stand w) c.go_on.ensures.went

pub returns-clause-broken : goal.returns-clause-broken
returns-clause-broken g c =
    let S = g.S.Spawner in
    let app = c.args.app.now in
    let status = c.in_ok-status.status in
    let s = S.shown c.args.spawner.now in
    let s' = S.shown c.prelude.new.spawner in
    let s'' = S.shown c.go_on.new.spawner in
    if_err (λ f. MainStartCut S.observed app status s' s'') (λ f. IsInterrupted S.observed app s s'') c.go_on.result (λ f w. broken_late app status s' c.in_ok-status.ensures.ran w) c.go_on.ensures.cut

pub returns-clause-may : goal.returns-clause-may
returns-clause-may g c =
    let D = g.D.Dir in
    let root = c.args.app.now.root in
    any_ok (D.observed ≡ true → IsMarked (D.shown c.go_on.new.dir) root) c.go_on.result (λ t. (c.go_on.ensures.stays t).may root (c.in_ok-mark_started.ensures.may t))

pub returns-in_err-mark_started-clause-keeps : goal.returns-in_err-mark_started-clause-keeps
returns-in_err-mark_started-clause-keeps g c t = keeps_marked_only c.args.app.now c.from_residual.result (c.mark_started.ensures.keeps t)

pub returns-in_err-status-clause-keeps : goal.returns-in_err-status-clause-keeps
returns-in_err-status-clause-keeps g c t = keeps_marked_only c.args.app.now c.from_residual-in_err-status.result (c.mark_started.ensures.keeps t)

pub returns-clause-keeps : goal.returns-clause-keeps
returns-clause-keeps g c t = keeps_begun c.args.app.now c.go_on.result (c.mark_started.ensures.keeps t) (c.go_on.ensures.keeps t)
