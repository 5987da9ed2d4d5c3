use Rattle.std.proofs.Common.{arith, ◌≡◌, true, sym, ap, subst, ◌∙◌, List, length, take}
use Rattle.dir_model.specs.Local.{IsActive, Local}
use Rattle.folder_building.proofs.Working.{worked_none, worked_more}
use Rattle.stage1.specs.declared.start.AppStart.{AppStart}
use Rattle.stage1.specs.declared.stand.Stand.{Stand}
use Rattle.std.proofs.lemmas.List.{take_all}
use Rattle.plain_laws.proofs.Results.{if_ok, if_err, any_ok, any_err}
use Rattle.stage1.specs.Beginnings.{AreMarked, AreStartedIn, AreStatusesWritten, running}
use Rattle.stage1.specs.Cutting.{IsCutShort}
use Rattle.stage1.specs.Endings.{HaveEnded, AreEndsBroken, WereWaitedFor}
use Rattle.stage1.specs.Refusals.{RunCause}
use Rattle.stage1.specs.Runs.{HaveRun}
use Rattle.stage1.proofs.Pairs.{may_still}
use Rattle.stage1.proofs.Noted.{stays_none, stays_more}
use Rattle.stage1.proofs.Causes.{run_after, run_before}
use Rattle.stage1.proofs.Whole.{have_run, cut_nothing, cut_begun, cut_ended}
use Rattle.stage1.proofs.Rests.{begun_each, broken_each}
use Rattle.stage1.specs.Keeping.{NotesAtMost, all_end_times}
use Rattle.stage1.proofs.Keeping.{keeps_none}
use Rattle.stage1.proofs.Times.{keeps_both}
use Rattle.stage1.proofs.running.run_apps.Goals as goal

pub returns-in_err-stands-clause-went : goal.returns-in_err-stands-clause-went
returns-in_err-stands-clause-went g c = worked_none

pub returns-in_err-stands-clause-worked : goal.returns-in_err-stands-clause-worked
returns-in_err-stands-clause-worked g c spot at = worked_none

pub returns-in_err-stands-clause-stays : goal.returns-in_err-stands-clause-stays
returns-in_err-stands-clause-stays g c t = stays_none

pub returns-in_err-stands-clause-cut : goal.returns-in_err-stands-clause-cut
returns-in_err-stands-clause-cut g c =
    let S = g.S.Spawner in
    let s = S.shown c.args.spawner.now in
    any_err (IsCutShort S.observed c.args.apps.now s s) c.from_residual.result (cut_nothing c.args.apps.now)

pub end_all-requires : goal.end_all-requires
end_all-requires g c =
    let D = g.D.Dir in
    let S = g.S.Spawner in
    let apps = c.args.apps.now in
    let stands = c.begin_apps.new.stands.items in
    let mid = D.shown c.begin_apps.new.dir in
    let s' = S.shown c.begin_apps.new.spawner in
    let each = begun_each apps stands c.in-Ok.ensures.begun in
    let same = c.deref.ensures.value in
    let full : take (length stands) apps ≡ apps = take_all (length stands) apps (omega (arith, each)) in
    record {
      active = subst (λ (m : Local). IsActive m) (sym c.begin_apps.ensures.went.local) c.requires.active;
      place = c.requires.place;
      each = each ∙ ap length (sym same);
      may = λ t. subst (λ (l : List AppStart). AreMarked mid l) full (c.begin_apps.ensures.may t);
      started = λ t. subst (λ (x : List Stand). AreStartedIn s'.calls apps x) (sym same) (subst (λ (l : List AppStart). AreStartedIn s'.calls l stands) full (c.begin_apps.ensures.started t));
      wrote = λ t. subst (λ (x : List Stand). AreStatusesWritten mid apps x) (sym same) (subst (λ (l : List AppStart). AreStatusesWritten mid l stands) full (c.begin_apps.ensures.wrote t));
    }

pub wait_rest-requires : goal.wait_rest-requires
wait_rest-requires g c =
    let D = g.D.Dir in
    let S = g.S.Spawner in
    let apps = c.args.apps.now in
    let stands = c.begin_apps.new.stands.items in
    let mid = D.shown c.begin_apps.new.dir in
    let s' = S.shown c.begin_apps.new.spawner in
    let same = c.deref-in-Err.ensures.value in
    let each = broken_each apps stands c.in-Err.ensures.broken in
    record {
      active = subst (λ (m : Local). IsActive m) (sym c.begin_apps.ensures.went.local) c.requires.active;
      place = c.requires.place;
      each = omega (arith, each, ap length same);
      may = λ t. subst (λ (x : List Stand). AreMarked mid (take (length x) apps)) (sym same) (c.begin_apps.ensures.may t);
      started = λ t. subst (λ (x : List Stand). AreStartedIn s'.calls (take (length x) apps) x) (sym same) (c.begin_apps.ensures.started t);
    }

pub returns-in-Ok-clause-went : goal.returns-in-Ok-clause-went
returns-in-Ok-clause-went g c = worked_more c.begin_apps.ensures.went c.end_all.ensures.went

pub returns-in-Ok-clause-worked : goal.returns-in-Ok-clause-worked
returns-in-Ok-clause-worked g c spot at = worked_more (c.begin_apps.ensures.worked spot at) (c.end_all.ensures.worked spot at)

pub returns-in-Ok-clause-stays : goal.returns-in-Ok-clause-stays
returns-in-Ok-clause-stays g c t = stays_more (c.begin_apps.ensures.stays t) (c.end_all.ensures.stays t)

pub returns-in-Ok-clause-cause : goal.returns-in-Ok-clause-cause
returns-in-Ok-clause-cause g c =
    let D = g.D.Dir in
    let S = g.S.Spawner in
    let old = D.shown c.args.dir.now in
    let mid = D.shown c.begin_apps.new.dir in
    let new = D.shown c.end_all.new.dir in
    let s = S.shown c.args.spawner.now in
    let s' = S.shown c.begin_apps.new.spawner in
    let s'' = S.shown c.end_all.new.spawner in
    if_err (λ f. RunCause D.observed f mid new s' s'') (λ f. RunCause D.observed f old new s s'') c.end_all.result (λ f is. run_after f old mid new s s' s'' c.begin_apps.ensures.went c.in-Ok.ensures.begun.asked.faults is) c.end_all.ensures.cause

pub returns-in-Ok-clause-ran : goal.returns-in-Ok-clause-ran
returns-in-Ok-clause-ran g c =
    let S = g.S.Spawner in
    let apps = c.args.apps.now in
    let stands = c.begin_apps.new.stands.items in
    let s = S.shown c.args.spawner.now in
    let s' = S.shown c.begin_apps.new.spawner in
    let s'' = S.shown c.end_all.new.spawner in
    if_ok (λ statuses. HaveEnded S.observed apps c.deref.result.now statuses.items s' s'') (λ statuses. HaveRun S.observed apps statuses.items s s'') c.end_all.result
    (λ statuses e. have_run apps stands statuses.items c.in-Ok.ensures.begun (subst (λ (x : List Stand). HaveEnded S.observed apps x statuses.items s' s'') c.deref.ensures.value e)) c.end_all.ensures.ended

pub returns-in-Ok-clause-marked : goal.returns-in-Ok-clause-marked
returns-in-Ok-clause-marked g c =
    let D = g.D.Dir in
    let apps = c.args.apps.now in
    let stands = c.begin_apps.new.stands.items in
    let full : take (length stands) apps ≡ apps = take_all (length stands) apps (let each = begun_each apps stands c.in-Ok.ensures.begun in omega (arith, each)) in
    any_ok (D.observed ≡ true → AreMarked (D.shown c.end_all.new.dir) apps) c.end_all.result
    (λ t. may_still (c.end_all.ensures.stays t) apps (subst (λ (l : List AppStart). AreMarked (D.shown c.begin_apps.new.dir) l) full (c.begin_apps.ensures.may t)))

pub returns-in-Ok-clause-cut : goal.returns-in-Ok-clause-cut
returns-in-Ok-clause-cut g c =
    let S = g.S.Spawner in
    let apps = c.args.apps.now in
    let stands = c.begin_apps.new.stands.items in
    let s = S.shown c.args.spawner.now in
    let s' = S.shown c.begin_apps.new.spawner in
    let s'' = S.shown c.end_all.new.spawner in
    if_err (λ f. AreEndsBroken S.observed apps c.deref.result.now s' s'') (λ f. IsCutShort S.observed apps s s'') c.end_all.result
    (λ f e. cut_ended apps stands c.in-Ok.ensures.begun (subst (λ (x : List Stand). AreEndsBroken S.observed apps x s' s'') c.deref.ensures.value e)) c.end_all.ensures.broken

pub returns-clause-went : goal.returns-clause-went
returns-clause-went g c = worked_more c.begin_apps.ensures.went c.wait_rest.ensures.went

pub returns-clause-worked : goal.returns-clause-worked
returns-clause-worked g c spot at = worked_more (c.begin_apps.ensures.worked spot at) (c.wait_rest.ensures.worked spot at)

pub returns-clause-stays : goal.returns-clause-stays
returns-clause-stays g c t = stays_more (c.begin_apps.ensures.stays t) (c.wait_rest.ensures.stays t)

pub returns-clause-cause : goal.returns-clause-cause
returns-clause-cause g c =
    let D = g.D.Dir in
    let S = g.S.Spawner in
    run_before c.in-Err.fault (D.shown c.args.dir.now) (D.shown c.begin_apps.new.dir) (D.shown c.wait_rest.new.dir) (S.shown c.args.spawner.now) (S.shown c.begin_apps.new.spawner) (S.shown c.wait_rest.new.spawner) c.in-Err.ensures.cause c.wait_rest.ensures.went c.wait_rest.ensures.waited.asked.faults

pub returns-clause-cut : goal.returns-clause-cut
returns-clause-cut g c =
    let S = g.S.Spawner in
    let s' = S.shown c.begin_apps.new.spawner in
    let s'' = S.shown c.wait_rest.new.spawner in
    let stands = c.begin_apps.new.stands.items in
    cut_begun c.args.apps.now stands c.in-Err.ensures.broken (subst (λ (x : List Stand). WereWaitedFor S.observed (running x) s' s'') c.deref-in-Err.ensures.value c.wait_rest.ensures.waited)

pub returns-in_err-stands-clause-keeps : goal.returns-in_err-stands-clause-keeps
returns-in_err-stands-clause-keeps g c t = keeps_none

pub returns-in-Ok-clause-keeps : goal.returns-in-Ok-clause-keeps
returns-in-Ok-clause-keeps g c t =
    let D = g.D.Dir in
    let apps = c.args.apps.now in
    keeps_both apps c.begin_apps.new.stands.items (c.begin_apps.ensures.keeps t)
    (subst (λ (x : List Stand). NotesAtMost (all_end_times apps x) (D.shown c.begin_apps.new.dir) (D.shown c.end_all.new.dir)) c.deref.ensures.value (c.end_all.ensures.keeps t))

pub returns-clause-keeps : goal.returns-clause-keeps
returns-clause-keeps g c t =
    let D = g.D.Dir in
    let apps = c.args.apps.now in
    keeps_both apps c.begin_apps.new.stands.items (c.begin_apps.ensures.keeps t)
    (subst (λ (x : List Stand). NotesAtMost (all_end_times apps x) (D.shown c.begin_apps.new.dir) (D.shown c.wait_rest.new.dir)) c.deref-in-Err.ensures.value (c.wait_rest.ensures.keeps t))
