use Rattle.std.proofs.Common.{refl, sym, subst}
use Rattle.plain_laws.proofs.Results.{if_ok, if_err}
use Rattle.folder_building.proofs.Working.{worked_none}
use Rattle.stage1.specs.declared.stand.Stand.{Stand}
use Rattle.stage1.specs.Beginnings.{IsStartedIn, IsStatusWritten}
use Rattle.stage1.specs.Endings.{AppHasEnded, IsEndCut, EndsFromStand, EndsCut}
use Rattle.stage1.proofs.Asked.{asks_none}
use Rattle.stage1.proofs.Noted.{stays_none}
use Rattle.stage1.specs.Keeping.{NotesAtMost, end_times}
use Rattle.stage1.proofs.Keeping.{keeps_none}
use Rattle.stage1.proofs.ending.end_app.Goals as goal

pub end_running-requires-clause-started : goal.end_running-requires-clause-started
end_running-requires-clause-started g c t = subst (λ (x : Stand). IsStartedIn (g.S.Spawner.shown c.args.spawner.now).calls c.args.app.now x) c.in-Running.is (c.requires.started t)

pub returns-in-Running-clause-ended : goal.returns-in-Running-clause-ended
returns-in-Running-clause-ended g c =
    let S = g.S.Spawner in
    let app = c.args.app.now in
    let old = S.shown c.args.spawner.now in
    let new = S.shown c.end_running.new.spawner in
    if_ok (λ status. AppHasEnded S.observed app c.in-Running.child status old new) (λ status. EndsFromStand S.observed app c.args.stand status old new) c.end_running.result
    (λ status e. subst (λ (x : Stand). EndsFromStand S.observed app x status old new) (sym c.in-Running.is) e) c.end_running.ensures.ended

pub returns-in-Running-clause-cut : goal.returns-in-Running-clause-cut
returns-in-Running-clause-cut g c =
    let S = g.S.Spawner in
    let app = c.args.app.now in
    let old = S.shown c.args.spawner.now in
    let new = S.shown c.end_running.new.spawner in
    if_err (λ f. IsEndCut S.observed app c.in-Running.child old new) (λ f. EndsCut S.observed app c.args.stand old new) c.end_running.result
    (λ f e. subst (λ (x : Stand). EndsCut S.observed app x old new) (sym c.in-Running.is) e) c.end_running.ensures.cut

pub returns-in-Ended-clause-worked : goal.returns-in-Ended-clause-worked
returns-in-Ended-clause-worked g c = worked_none

pub returns-in-Ended-clause-stays : goal.returns-in-Ended-clause-stays
returns-in-Ended-clause-stays g c t = stays_none

pub returns-in-Ended-clause-ended : goal.returns-in-Ended-clause-ended
returns-in-Ended-clause-ended g c =
    let S = g.S.Spawner in
    let s = S.shown c.args.spawner.now in
    subst (λ (x : Stand). EndsFromStand S.observed c.args.app.now x c.in-Ended.status s s) (sym c.in-Ended.is) (refl, asks_none)

pub returns-in-Ended-clause-wrote : goal.returns-in-Ended-clause-wrote
returns-in-Ended-clause-wrote g c t = subst (λ (x : Stand). IsStatusWritten (g.D.Dir.shown c.args.dir.now) c.args.app.now x) c.in-Ended.is (c.requires.wrote t)

pub returns-in-Running-clause-keeps : goal.returns-in-Running-clause-keeps
returns-in-Running-clause-keeps g c t =
    let D = g.D.Dir in
    subst (λ (x : Stand). NotesAtMost (end_times c.args.app.now x) (D.shown c.args.dir.now) (D.shown c.end_running.new.dir)) (sym c.in-Running.is) (c.end_running.ensures.keeps t)

pub returns-in-Ended-clause-keeps : goal.returns-in-Ended-clause-keeps
returns-in-Ended-clause-keeps g c t = keeps_none
