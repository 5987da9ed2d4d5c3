use Rattle.std.proofs.Common.{arith, ◌≡◌, ◌<◌, ◌+◌, List, [], ◌∷◌, ◌++◌, length, length-take, take, get_or, sym, subst}
use Rattle.std.proofs.lemmas.List.{take_all}
use Rattle.plain_laws.proofs.Lists.{take_next}
use Rattle.dir_model.specs.declared.spot.Spot.{Spot}
use Rattle.dir_model.specs.Local.{IsActive, Local}
use Rattle.folder_building.proofs.Working.{worked_none, worked_more}
use Rattle.stage1.specs.declared.start.AppStart.{AppStart}
use Rattle.stage1.specs.declared.stand.Stand.{Stand}
use Rattle.stage1.specs.declared.stand.Stand.TheVariants.{Running}
use Rattle.stage1.specs.Notes.{notes_at, IsMarked}
use Rattle.stage1.specs.Beginnings.{IsInRun, running}
use Rattle.stage1.specs.Endings.{WereWaitedFor}
use Rattle.stage1.proofs.Noted.{stays_none, stays_more, worked_any}
use Rattle.stage1.proofs.OneApp.{no_child}
use Rattle.stage1.proofs.Pairs.{at_place, started_still}
use Rattle.stage1.proofs.Ends.{were_none, were_more, stand_at, front_at, started_front}
use Rattle.stage1.specs.Keeping.{NotesAtMost, all_end_times}
use Rattle.stage1.proofs.Keeping.{keeps_none}
use Rattle.stage1.proofs.Times.{keeps_end_push, keeps_front}
use Rattle.stage1.proofs.ending.wait_rest.Goals as goal
use Rattle.dir_trait.specs.Effects.{OnlyAsks}

pub stands-init : goal.stands-init
stands-init g c = record { went = worked_none; worked = λ spot at. worked_none; stays = λ t. stays_none; waited = were_none; keeps = λ t. keeps_none }

pub wait_still-requires : goal.wait_still-requires
wait_still-requires g c =
    let D = g.D.Dir in
    let S = g.S.Spawner in
    let i = c.stands.place in
    let inv = c.stands.invariant in
    let apps = c.args.apps.now in
    let stands = c.args.stands.now in
    let app = c.index-apps-place.result in
    let old = D.shown c.args.dir.now in
    let s = S.shown c.args.spawner.now in
    let s' = S.shown c.stands.spawner in
    let stand = get_or stands i (Running no_child) in
    let within : i < length apps = omega (arith, c.stands-test.true, c.requires.each) in
    record {
      active = subst (λ (m : Local). IsActive m) (sym inv.went.local) c.requires.active;
      place = at_place IsInRun apps i app within c.index-apps-place.is c.requires.place;
      may = λ t. (inv.stays t).may app.root (front_at (λ (a : AppStart). IsMarked old a.root) apps (length stands) i app c.stands-test.true within c.index-apps-place.is (c.requires.may t));
      started = λ t. started_still s.calls s'.calls (inv.waited.asked.kept t) app stand (started_front s.calls apps stands i app stand c.stands-test.true within c.index-apps-place.is (stand_at stands i c.stands-test.true) (c.requires.started t));
    }

pub stands-preserved : goal.stands-preserved
stands-preserved g c =
    let D = g.D.Dir in
    let S = g.S.Spawner in
    let i = c.stands.place in
    let inv = c.stands.invariant in
    let apps = c.args.apps.now in
    let stands = c.args.stands.now in
    let app = c.index-apps-place.result in
    let mid = D.shown c.stands.dir in
    let new = D.shown c.wait_still.new.dir in
    let s = S.shown c.args.spawner.now in
    let s'' = S.shown c.wait_still.new.spawner in
    let stand = get_or stands i (Running no_child) in
    let within : i < length apps = omega (arith, c.stands-test.true, c.requires.each) in
    record {
      went = worked_more inv.went (worked_any c.wait_still.ensures.worked);
      worked = λ spot at. worked_more (inv.worked spot at) (subst (λ (x : Spot). OnlyAsks D.observed (notes_at x) mid new) (at_place (λ (a : AppStart). a.root.spot ≡ spot) apps i app within c.index-apps-place.is at) c.wait_still.ensures.worked);
      stays = λ t. stays_more (inv.stays t) (c.wait_still.ensures.stays t);
      waited = subst (λ (l : List Stand). WereWaitedFor S.observed (running l) s s'') (sym (take_next stands i stand c.stands-test.true (stand_at stands i c.stands-test.true))) (were_more (take i stands) (stand ∷ []) inv.waited c.wait_still.ensures.waited);
      keeps = λ t.
          let old = D.shown c.args.dir.now in
          let many : length (take i apps) ≡ length (take i stands) = omega (arith, length-take i apps, length-take i stands, within, c.stands-test.true) in
          subst (λ (l : List AppStart). NotesAtMost (all_end_times l (take (i + 1) stands)) old new) (sym (take_next apps i app within c.index-apps-place.is))
          (subst (λ (l : List Stand). NotesAtMost (all_end_times (take i apps ++ app ∷ []) l) old new) (sym (take_next stands i stand c.stands-test.true (stand_at stands i c.stands-test.true)))
          (keeps_end_push (take i apps) (take i stands) app stand many (inv.keeps t) (c.wait_still.ensures.keeps t)));
    }

pub returns-clause-went : goal.returns-clause-went
returns-clause-went g c = c.stands.invariant.went

pub returns-clause-waited : goal.returns-clause-waited
returns-clause-waited g c =
    let S = g.S.Spawner in
    subst (λ (l : List Stand). WereWaitedFor S.observed (running l) (S.shown c.args.spawner.now) (S.shown c.stands.spawner)) (take_all c.stands.place c.args.stands.now c.stands-test.false) c.stands.invariant.waited

pub returns-clause-keeps : goal.returns-clause-keeps
returns-clause-keeps g c t = keeps_front c.stands.place c.args.apps.now c.args.stands.now (c.stands.invariant.keeps t)
