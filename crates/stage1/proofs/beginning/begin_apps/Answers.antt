use Rattle.std.proofs.Common.{rules, arith, ◌≡◌, ◌+◌, ℕ, List, [], ◌∷◌, ◌++◌, length, length-append, length-take, take, drop, refl, sym, ap, subst, ◌∙◌}
use Rattle.std.proofs.lemmas.List.{take_all}
use Rattle.plain_laws.proofs.Results.{if_err, err_same, any_err}
use Rattle.plain_laws.proofs.Lists.{take_next}
use Rattle.dir_model.proofs.Lists.{all_push}
use Rattle.dir_model.specs.declared.spot.Spot.{Spot}
use Rattle.dir_model.specs.Local.{IsActive, Local}
use Rattle.folder_building.proofs.Working.{worked_none, worked_more}
use Rattle.spawner.specs.Conditions.{StillRuns}
use Rattle.stage1.specs.declared.start.AppStart.{AppStart}
use Rattle.stage1.specs.declared.stand.Stand.{Stand}
use Rattle.stage1.specs.Notes.{notes_at, IsMarked}
use Rattle.stage1.specs.Beginnings.{IsInRun, AreMarked, AreStartedIn, AreStatusesWritten, HaveBegun, AreInterrupted}
use Rattle.stage1.specs.Refusals.{RunCause}
use Rattle.stage1.proofs.Noted.{stays_none, stays_more, worked_any}
use Rattle.stage1.proofs.Causes.{run_after}
use Rattle.stage1.proofs.Pairs.{at_place, parted_at, are_started_still, started_push, are_written_still, written_push, may_still, begun_none, begun_more, started_none, written_none}
use Rattle.stage1.specs.Keeping.{NotesAtMost, all_begun_times}
use Rattle.stage1.proofs.Keeping.{keeps_none}
use Rattle.stage1.proofs.Times.{keeps_push, keeps_broken}
use Rattle.stage1.proofs.beginning.begin_apps.Goals as goal
use Rattle.dir_trait.specs.Effects.{OnlyAsks}

pub apps-init : goal.apps-init
apps-init g c = record {
  went = worked_none;
  worked = λ spot at. worked_none;
  stays = λ t. stays_none;
  many = search rules;
  each = ap length c.requires.none;
  room = c.requires.room;
  begun = begun_none [] c.args.stands.now.items refl c.requires.none;
  may = λ t. tt;
  started = λ t. started_none (g.S.Spawner.shown c.args.spawner.now).calls [] c.args.stands.now.items refl c.requires.none;
  wrote = λ t. written_none (g.D.Dir.shown c.args.dir.now) [] c.args.stands.now.items refl c.requires.none;
  keeps = λ t. keeps_none;
}

pub begin_app-requires-clause-active : goal.begin_app-requires-clause-active
begin_app-requires-clause-active g c = subst (λ (m : Local). IsActive m) (sym c.apps.invariant.went.local) c.requires.active

pub begin_app-requires-clause-place : goal.begin_app-requires-clause-place
begin_app-requires-clause-place g c = at_place IsInRun c.args.apps.now c.apps.app-index c.app-item.result c.apps-test.true c.app-item.is c.requires.place

pub begin_app-requires-clause-runs : goal.begin_app-requires-clause-runs
begin_app-requires-clause-runs g c t =
    let old = g.D.Dir.shown c.args.dir.now in
    let app = c.app-item.result in
    (c.apps.invariant.stays t).runs app.root.spot.name (at_place (λ (a : AppStart). StillRuns old a.root.spot.name) c.args.apps.now c.apps.app-index app c.apps-test.true c.app-item.is (c.requires.runs t))

pub push_within-requires : goal.push_within-requires
push_within-requires g c = omega (arith, c.apps.invariant.many, c.apps.invariant.room, c.apps-test.true)

pub apps-preserved : goal.apps-preserved
apps-preserved g c =
    let D = g.D.Dir in
    let S = g.S.Spawner in
    let i = c.apps.app-index in
    let inv = c.apps.invariant in
    let apps = c.args.apps.now in
    let app = c.app-item.result in
    let stand = c.in_ok-stand.stand in
    let stands = c.apps.stands.items in
    let new = D.shown c.begin_app.new.dir in
    let last = S.shown c.begin_app.new.spawner in
    let one = c.in_ok-stand.ensures in
    let next = take_next apps i app c.apps-test.true c.app-item.is in
    let pushed = c.push_within.ensures.pushed in
    record {
      went = worked_more inv.went (worked_any c.begin_app.ensures.worked);
      worked = λ spot at. worked_more (inv.worked spot at) (subst (λ (s : Spot). OnlyAsks D.observed (notes_at s) (D.shown c.apps.dir) new) (at_place (λ (a : AppStart). a.root.spot ≡ spot) apps i app c.apps-test.true c.app-item.is at) c.begin_app.ensures.worked);
      stays = λ t. stays_more (inv.stays t) (c.begin_app.ensures.stays t);
      many = omega (arith, inv.many, c.push_within.ensures.longer);
      each = ap length pushed ∙ omega (arith, length-append stands (stand ∷ []), inv.each);
      room = omega (arith, inv.room, c.push_within.ensures.room);
      begun =
          subst (λ (l : List AppStart). HaveBegun S.observed l c.push_within.new.stands.items (S.shown c.args.spawner.now) last) (sym next)
          (subst (λ (l : List Stand). HaveBegun S.observed (take i apps ++ app ∷ []) l (S.shown c.args.spawner.now) last) (sym pushed) (begun_more (take i apps) stands app stand inv.begun one.begun));
      may = λ t. subst (λ (l : List AppStart). AreMarked new l) (sym next) (all_push (λ (a : AppStart). IsMarked new a.root) (take i apps) app (may_still (c.begin_app.ensures.stays t) (take i apps) (inv.may t)) (one.may t));
      started = λ t.
          subst (λ (l : List AppStart). AreStartedIn last.calls l c.push_within.new.stands.items) (sym next)
          (subst (λ (l : List Stand). AreStartedIn last.calls (take i apps ++ app ∷ []) l) (sym pushed)
          (started_push last.calls (take i apps) stands app stand (are_started_still (S.shown c.apps.spawner).calls last.calls (one.begun.asked.kept t) (take i apps) stands (inv.started t)) (one.started t)));
      wrote = λ t.
          subst (λ (l : List AppStart). AreStatusesWritten new l c.push_within.new.stands.items) (sym next)
          (subst (λ (l : List Stand). AreStatusesWritten new (take i apps ++ app ∷ []) l) (sym pushed)
          (written_push new (take i apps) stands app stand (are_written_still (c.begin_app.ensures.stays t) (take i apps) stands (inv.wrote t)) (one.wrote t)));
      keeps = λ t.
          let many : length (take i apps) ≡ length stands = omega (arith, length-take i apps, c.apps-test.true, inv.each) in
          subst (λ (l : List AppStart). NotesAtMost (all_begun_times l c.push_within.new.stands.items) (D.shown c.args.dir.now) new) (sym next)
          (subst (λ (l : List Stand). NotesAtMost (all_begun_times (take i apps ++ app ∷ []) l) (D.shown c.args.dir.now) new) (sym pushed)
          (keeps_push (take i apps) stands app stand many (inv.keeps t) (one.keeps t)));
    }

pub returns-in_err-stand-clause-went : goal.returns-in_err-stand-clause-went
returns-in_err-stand-clause-went g c = worked_more c.apps.invariant.went (worked_any c.begin_app.ensures.worked)

pub returns-in_err-stand-clause-worked : goal.returns-in_err-stand-clause-worked
returns-in_err-stand-clause-worked g c spot at =
    let D = g.D.Dir in
    worked_more (c.apps.invariant.worked spot at) (subst (λ (s : Spot). OnlyAsks D.observed (notes_at s) (D.shown c.apps.dir) (D.shown c.begin_app.new.dir)) (at_place (λ (a : AppStart). a.root.spot ≡ spot) c.args.apps.now c.apps.app-index c.app-item.result c.apps-test.true c.app-item.is at) c.begin_app.ensures.worked)

pub returns-in_err-stand-clause-stays : goal.returns-in_err-stand-clause-stays
returns-in_err-stand-clause-stays g c t = stays_more (c.apps.invariant.stays t) (c.begin_app.ensures.stays t)

pub returns-in_err-stand-clause-cause : goal.returns-in_err-stand-clause-cause
returns-in_err-stand-clause-cause g c =
    let D = g.D.Dir in
    let S = g.S.Spawner in
    let old = D.shown c.args.dir.now in
    let mid = D.shown c.apps.dir in
    let new = D.shown c.begin_app.new.dir in
    let s = S.shown c.args.spawner.now in
    let s' = S.shown c.apps.spawner in
    let s'' = S.shown c.begin_app.new.spawner in
    err_same (λ f. RunCause D.observed f old new s s'') c.begin_app.result c.from_residual.result (λ e h. search (rules, h, c.from_residual.ensures, c.in_err-stand.is))
    (if_err (λ f. RunCause D.observed f mid new s' s'') (λ f. RunCause D.observed f old new s s'') c.begin_app.result (λ f is. run_after f old mid new s s' s'' c.apps.invariant.went c.apps.invariant.begun.asked.faults is) c.begin_app.ensures.cause)

pub returns-in_err-stand-clause-broken : goal.returns-in_err-stand-clause-broken
returns-in_err-stand-clause-broken g c =
    let S = g.S.Spawner in
    let i = c.apps.app-index in
    let apps = c.args.apps.now in
    let app = c.app-item.result in
    any_err (AreInterrupted S.observed apps c.apps.stands.items (S.shown c.args.spawner.now) (S.shown c.begin_app.new.spawner)) c.from_residual.result
    (record { done = take i apps; next = app; rest = drop (i + 1) apps; parted = parted_at apps i app c.apps-test.true c.app-item.is; between = S.shown c.apps.spawner; begun = c.apps.invariant.begun; broken = c.in_err-stand.ensures.broken })

pub returns-in_err-stand-clause-may : goal.returns-in_err-stand-clause-may
returns-in_err-stand-clause-may g c t =
    let new = g.D.Dir.shown c.begin_app.new.dir in
    let apps = c.args.apps.now in
    subst (λ (n : ℕ). AreMarked new (take n apps)) (sym c.apps.invariant.each) (may_still (c.begin_app.ensures.stays t) (take c.apps.app-index apps) (c.apps.invariant.may t))

pub returns-in_err-stand-clause-started : goal.returns-in_err-stand-clause-started
returns-in_err-stand-clause-started g c t =
    let S = g.S.Spawner in
    let last = S.shown c.begin_app.new.spawner in
    let apps = c.args.apps.now in
    let stands = c.apps.stands.items in
    subst (λ (n : ℕ). AreStartedIn last.calls (take n apps) stands) (sym c.apps.invariant.each)
    (are_started_still (S.shown c.apps.spawner).calls last.calls (c.in_err-stand.ensures.broken.asked.kept t) (take c.apps.app-index apps) stands (c.apps.invariant.started t))

pub returns-in_err-stand-clause-wrote : goal.returns-in_err-stand-clause-wrote
returns-in_err-stand-clause-wrote g c t =
    let new = g.D.Dir.shown c.begin_app.new.dir in
    let apps = c.args.apps.now in
    let stands = c.apps.stands.items in
    subst (λ (n : ℕ). AreStatusesWritten new (take n apps) stands) (sym c.apps.invariant.each) (are_written_still (c.begin_app.ensures.stays t) (take c.apps.app-index apps) stands (c.apps.invariant.wrote t))

pub returns-clause-went : goal.returns-clause-went
returns-clause-went g c = c.apps.invariant.went

pub returns-clause-begun : goal.returns-clause-begun
returns-clause-begun g c =
    let S = g.S.Spawner in
    subst (λ (l : List AppStart). HaveBegun S.observed l c.apps.stands.items (S.shown c.args.spawner.now) (S.shown c.apps.spawner)) (take_all c.apps.app-index c.args.apps.now c.apps-test.false) c.apps.invariant.begun

pub returns-clause-may : goal.returns-clause-may
returns-clause-may g c t = subst (λ (n : ℕ). AreMarked (g.D.Dir.shown c.apps.dir) (take n c.args.apps.now)) (sym c.apps.invariant.each) (c.apps.invariant.may t)

pub returns-clause-started : goal.returns-clause-started
returns-clause-started g c t = subst (λ (n : ℕ). AreStartedIn (g.S.Spawner.shown c.apps.spawner).calls (take n c.args.apps.now) c.apps.stands.items) (sym c.apps.invariant.each) (c.apps.invariant.started t)

pub returns-clause-wrote : goal.returns-clause-wrote
returns-clause-wrote g c t = subst (λ (n : ℕ). AreStatusesWritten (g.D.Dir.shown c.apps.dir) (take n c.args.apps.now) c.apps.stands.items) (sym c.apps.invariant.each) (c.apps.invariant.wrote t)

pub returns-in_err-stand-clause-keeps : goal.returns-in_err-stand-clause-keeps
returns-in_err-stand-clause-keeps g c t =
    let D = g.D.Dir in
    let i = c.apps.app-index in
    let apps = c.args.apps.now in
    let app = c.app-item.result in
    let stands = c.apps.stands.items in
    let many : length (take i apps) ≡ length stands = omega (arith, length-take i apps, c.apps-test.true, c.apps.invariant.each) in
    subst (λ (l : List AppStart). NotesAtMost (all_begun_times l stands) (D.shown c.args.dir.now) (D.shown c.begin_app.new.dir)) (sym (parted_at apps i app c.apps-test.true c.app-item.is))
    (keeps_broken (take i apps) stands app (drop (i + 1) apps) c.begin_app.result many (c.apps.invariant.keeps t) (c.begin_app.ensures.keeps t))

pub returns-clause-keeps : goal.returns-clause-keeps
returns-clause-keeps g c t =
    let D = g.D.Dir in
    subst (λ (l : List AppStart). NotesAtMost (all_begun_times l c.apps.stands.items) (D.shown c.args.dir.now) (D.shown c.apps.dir)) (take_all c.apps.app-index c.args.apps.now c.apps-test.false) (c.apps.invariant.keeps t)
