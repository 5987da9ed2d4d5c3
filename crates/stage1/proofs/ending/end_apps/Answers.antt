use Rattle.std.proofs.Common.{arith, ◌≡◌, ◌≤◌, ◌<◌, ◌+◌, ℕ, List, [], ◌∷◌, ◌++◌, length, length-take, take, drop, get_or, sym, ap, subst}
use Rattle.std.proofs.lemmas.List.{take_all}
use Rattle.plain_laws.proofs.Lists.{take_next}
use Rattle.dir_model.specs.declared.spot.Spot.{Spot}
use Rattle.dir_model.specs.Local.{IsActive, Local}
use Rattle.folder_building.proofs.Working.{worked_none, worked_more}
use Rattle.stage1.specs.declared.start.AppStart.{AppStart}
use Rattle.stage1.specs.declared.stand.Stand.{Stand}
use Rattle.stage1.specs.declared.stand.Stand.TheVariants.{Running}
use Rattle.stage1.specs.Notes.{notes_at, IsMarked}
use Rattle.stage1.specs.Beginnings.{IsInRun}
use Rattle.stage1.specs.Endings.{HaveEnded}
use Rattle.stage1.specs.Runs.{AreWrittenAll}
use Rattle.stage1.proofs.Noted.{stays_none, stays_more, worked_any}
use Rattle.stage1.proofs.Causes.{run_after}
use Rattle.stage1.proofs.OneApp.{no_child}
use Rattle.stage1.proofs.Pairs.{at_place, parted_at, started_at, started_still, written_at, written_still}
use Rattle.stage1.proofs.Ends.{ended_last, ended_more, ended_none, all_written_still, all_written_push, all_written_none, stand_at}
use Rattle.stage1.specs.Keeping.{NotesAtMost, all_end_times}
use Rattle.stage1.proofs.Keeping.{keeps_none}
use Rattle.stage1.proofs.Times.{keeps_end_push, keeps_front}
use Rattle.stage1.proofs.ending.end_apps.Goals as goal
use Rattle.dir_trait.specs.Effects.{OnlyAsks}

pub apps-init : goal.apps-init
apps-init g c = record {
  went = worked_none;
  worked = λ spot at. worked_none;
  stays = λ t. stays_none;
  ended = ended_none g.S.Spawner.observed (g.S.Spawner.shown c.args.spawner.now) c.new-statuses.result.items c.new-statuses.ensures.items;
  wrote = λ t. all_written_none (g.D.Dir.shown c.args.dir.now) c.new-statuses.result.items c.new-statuses.ensures.items;
  keeps = λ t. keeps_none;
}

pub add_end-requires : goal.add_end-requires
add_end-requires g c =
    let D = g.D.Dir in
    let S = g.S.Spawner in
    let i = c.apps.place in
    let inv = c.apps.invariant in
    let apps = c.args.apps.now in
    let stands = c.args.stands.now in
    let app = c.index-apps-place.result in
    let old = D.shown c.args.dir.now in
    let s = S.shown c.args.spawner.now in
    let s' = S.shown c.apps.spawner in
    let stand = get_or stands i (Running no_child) in
    let within : i < length stands = omega (arith, c.apps-test.true, c.requires.each) in
    record {
      active = subst (λ (m : Local). IsActive m) (sym inv.went.local) c.requires.active;
      place = at_place IsInRun apps i app c.apps-test.true c.index-apps-place.is c.requires.place;
      may = λ t. (inv.stays t).may app.root (at_place (λ (a : AppStart). IsMarked old a.root) apps i app c.apps-test.true c.index-apps-place.is (c.requires.may t));
      started = λ t. started_still s.calls s'.calls ((ended_last S.observed s s' (take i apps) (take i stands) c.apps.statuses.items inv.ended).kept t) app stand (started_at s.calls apps stands i app stand c.apps-test.true c.index-apps-place.is (stand_at stands i within) (c.requires.started t));
      wrote = λ t. written_still (inv.stays t) app stand (written_at old apps stands i app stand c.apps-test.true c.index-apps-place.is (stand_at stands i within) (c.requires.wrote t));
    }

pub apps-preserved : goal.apps-preserved
apps-preserved g c =
    let D = g.D.Dir in
    let S = g.S.Spawner in
    let i = c.apps.place in
    let inv = c.apps.invariant in
    let apps = c.args.apps.now in
    let stands = c.args.stands.now in
    let app = c.index-apps-place.result in
    let mid = D.shown c.apps.dir in
    let new = D.shown c.add_end.new.dir in
    let s = S.shown c.args.spawner.now in
    let s' = S.shown c.apps.spawner in
    let s'' = S.shown c.add_end.new.spawner in
    let stand = get_or stands i (Running no_child) in
    let within : i < length stands = omega (arith, c.apps-test.true, c.requires.each) in
    let next = take_next apps i app c.apps-test.true c.index-apps-place.is in
    let next_stand = take_next stands i stand within (stand_at stands i within) in
    let added = c.in_default.ensures.added in
    let statuses = c.apps.statuses.items in
    let after = c.add_end.new.statuses.items in
    record {
      went = worked_more inv.went (worked_any c.add_end.ensures.worked);
      worked = λ spot at. worked_more (inv.worked spot at) (subst (λ (x : Spot). OnlyAsks D.observed (notes_at x) mid new) (at_place (λ (a : AppStart). a.root.spot ≡ spot) apps i app c.apps-test.true c.index-apps-place.is at) c.add_end.ensures.worked);
      stays = λ t. stays_more (inv.stays t) (c.add_end.ensures.stays t);
      ended =
          subst (λ (l : List AppStart). HaveEnded S.observed l (take (i + 1) stands) after s s'') (sym next)
          (subst (λ (l : List Stand). HaveEnded S.observed (take i apps ++ app ∷ []) l after s s'') (sym next_stand)
          (subst (λ (l : List ℕ). HaveEnded S.observed (take i apps ++ app ∷ []) (take i stands ++ stand ∷ []) l s s'') (sym added.added)
          (ended_more S.observed s s' s'' (take i apps) (take i stands) statuses app stand added.status inv.ended added.ends)));
      wrote = λ t.
          let w = c.in_default.ensures.wrote t in
          subst (λ (l : List AppStart). AreWrittenAll new l after) (sym next)
          (subst (λ (l : List ℕ). AreWrittenAll new (take i apps ++ app ∷ []) l) (sym w.added)
          (all_written_push new (take i apps) statuses app w.status (all_written_still (c.add_end.ensures.stays t) (take i apps) statuses (inv.wrote t)) w.wrote));
      keeps = λ t.
          let many : length (take i apps) ≡ length (take i stands) = omega (arith, length-take i apps, length-take i stands, c.apps-test.true, within) in
          subst (λ (l : List AppStart). NotesAtMost (all_end_times l (take (i + 1) stands)) (D.shown c.args.dir.now) new) (sym next)
          (subst (λ (l : List Stand). NotesAtMost (all_end_times (take i apps ++ app ∷ []) l) (D.shown c.args.dir.now) new) (sym next_stand)
          (keeps_end_push (take i apps) (take i stands) app stand many (inv.keeps t) (c.add_end.ensures.keeps t)));
    }

pub returns-in-Err-clause-went : goal.returns-in-Err-clause-went
returns-in-Err-clause-went g c = worked_more c.apps.invariant.went (worked_any c.add_end.ensures.worked)

pub returns-in-Err-clause-worked : goal.returns-in-Err-clause-worked
returns-in-Err-clause-worked g c spot at =
    let D = g.D.Dir in
    worked_more (c.apps.invariant.worked spot at) (subst (λ (x : Spot). OnlyAsks D.observed (notes_at x) (D.shown c.apps.dir) (D.shown c.add_end.new.dir)) (at_place (λ (a : AppStart). a.root.spot ≡ spot) c.args.apps.now c.apps.place c.index-apps-place.result c.apps-test.true c.index-apps-place.is at) c.add_end.ensures.worked)

pub returns-in-Err-clause-stays : goal.returns-in-Err-clause-stays
returns-in-Err-clause-stays g c t = stays_more (c.apps.invariant.stays t) (c.add_end.ensures.stays t)

pub returns-in-Err-clause-cause : goal.returns-in-Err-clause-cause
returns-in-Err-clause-cause g c =
    let D = g.D.Dir in
    let S = g.S.Spawner in
    let i = c.apps.place in
    let s = S.shown c.args.spawner.now in
    let s' = S.shown c.apps.spawner in
    run_after c.in-Err.fault (D.shown c.args.dir.now) (D.shown c.apps.dir) (D.shown c.add_end.new.dir) s s' (S.shown c.add_end.new.spawner) c.apps.invariant.went
    (ended_last S.observed s s' (take i c.args.apps.now) (take i c.args.stands.now) c.apps.statuses.items c.apps.invariant.ended).faults c.in-Err.ensures.cause

pub returns-in-Err-clause-cut : goal.returns-in-Err-clause-cut
returns-in-Err-clause-cut g c =
    let S = g.S.Spawner in
    let i = c.apps.place in
    let apps = c.args.apps.now in
    let stands = c.args.stands.now in
    let app = c.index-apps-place.result in
    let stand = get_or stands i (Running no_child) in
    let within : i < length stands = omega (arith, c.apps-test.true, c.requires.each) in
    let many : length (take i stands) ≡ i = omega (arith, length-take i stands, within) in
    record {
      done = take i apps;
      app = app;
      rest = drop (i + 1) apps;
      ended = take i stands;
      stand = stand;
      others = drop (i + 1) stands;
      apps = parted_at apps i app c.apps-test.true c.index-apps-place.is;
      stood = parted_at stands i stand within (stand_at stands i within);
      counted = ap (λ (n : ℕ). n + 1) (sym many);
      statuses = c.apps.statuses.items;
      between = S.shown c.apps.spawner;
      before = c.apps.invariant.ended;
      cut = c.in-Err.ensures.cut;
    }

pub returns-in-Err-clause-turns : goal.returns-in-Err-clause-turns
returns-in-Err-clause-turns g c = omega (arith, c.apps-test.true, c.requires.each)

pub returns-clause-went : goal.returns-clause-went
returns-clause-went g c = c.apps.invariant.went

pub returns-clause-ended : goal.returns-clause-ended
returns-clause-ended g c =
    let S = g.S.Spawner in
    let s = S.shown c.args.spawner.now in
    let s' = S.shown c.apps.spawner in
    let i = c.apps.place in
    let apps = c.args.apps.now in
    let stands = c.args.stands.now in
    let many : length stands ≤ i = omega (arith, c.apps-test.false, c.requires.each) in
    subst (λ (l : List AppStart). HaveEnded S.observed l stands c.apps.statuses.items s s') (take_all i apps c.apps-test.false)
    (subst (λ (l : List Stand). HaveEnded S.observed (take i apps) l c.apps.statuses.items s s') (take_all i stands many) c.apps.invariant.ended)

pub returns-clause-wrote : goal.returns-clause-wrote
returns-clause-wrote g c t =
    subst (λ (l : List AppStart). AreWrittenAll (g.D.Dir.shown c.apps.dir) l c.apps.statuses.items) (take_all c.apps.place c.args.apps.now c.apps-test.false) (c.apps.invariant.wrote t)

pub returns-in-Err-clause-keeps_cut : goal.returns-in-Err-clause-keeps_cut
returns-in-Err-clause-keeps_cut g c t =
    let D = g.D.Dir in
    let i = c.apps.place in
    let apps = c.args.apps.now in
    let stands = c.args.stands.now in
    let app = c.index-apps-place.result in
    let old = D.shown c.args.dir.now in
    let new = D.shown c.add_end.new.dir in
    let stand = get_or stands i (Running no_child) in
    let within : i < length stands = omega (arith, c.apps-test.true, c.requires.each) in
    let many : length (take i apps) ≡ length (take i stands) = omega (arith, length-take i apps, length-take i stands, c.apps-test.true, within) in
    subst (λ (l : List AppStart). NotesAtMost (all_end_times l (take (i + 1) stands)) old new) (sym (take_next apps i app c.apps-test.true c.index-apps-place.is))
    (subst (λ (l : List Stand). NotesAtMost (all_end_times (take i apps ++ app ∷ []) l) old new) (sym (take_next stands i stand within (stand_at stands i within)))
    (keeps_end_push (take i apps) (take i stands) app stand many (c.apps.invariant.keeps t) (c.add_end.ensures.keeps t)))

pub returns-clause-keeps : goal.returns-clause-keeps
returns-clause-keeps g c t = keeps_front c.apps.place c.args.apps.now c.args.stands.now (c.apps.invariant.keeps t)
