use Rattle.std.proofs.Common.{[], ◌∷◌, refl, sym, subst}
use Rattle.stage1.specs.declared.stand.Stand.{Stand}
use Rattle.stage1.specs.Beginnings.{IsStartedIn, running}
use Rattle.stage1.specs.Endings.{WereWaitedFor}
use Rattle.stage1.proofs.Asked.{asks_none}
use Rattle.stage1.proofs.OneEnd.{waited_either}
use Rattle.stage1.specs.Keeping.{NotesAtMost, end_times}
use Rattle.stage1.proofs.Keeping.{keeps_none}
use Rattle.stage1.proofs.ending.wait_still.Goals as goal

pub wait_app-status-requires-clause-started : goal.wait_app-status-requires-clause-started
wait_app-status-requires-clause-started g c t = subst (λ (x : Stand). IsStartedIn (g.S.Spawner.shown c.args.spawner.now).calls c.args.app.now x) c.in-Running.is (c.requires.started t)

pub returns-in-Running-clause-waited : goal.returns-in-Running-clause-waited
returns-in-Running-clause-waited g c =
    let S = g.S.Spawner in
    let s = S.shown c.args.spawner.now in
    let s' = S.shown c.wait_app-status.new.spawner in
    subst (λ (x : Stand). WereWaitedFor S.observed (running (x ∷ [])) s s') (sym c.in-Running.is) (waited_either c.in-Running.child c.wait_app-status.result c.wait_app-status.ensures.asked c.wait_app-status.ensures.waited)

pub returns-in-Ended-clause-waited : goal.returns-in-Ended-clause-waited
returns-in-Ended-clause-waited g c =
    let S = g.S.Spawner in
    let s = S.shown c.args.spawner.now in
    subst (λ (x : Stand). WereWaitedFor S.observed (running (x ∷ [])) s s) (sym c.in-Ended.is) (record { calls = []; waits = tt; none = λ other. refl; asked = asks_none })

pub returns-in-Running-clause-keeps : goal.returns-in-Running-clause-keeps
returns-in-Running-clause-keeps g c t =
    let D = g.D.Dir in
    subst (λ (x : Stand). NotesAtMost (end_times c.args.app.now x) (D.shown c.args.dir.now) (D.shown c.wait_app-status.new.dir)) (sym c.in-Running.is) (c.wait_app-status.ensures.keeps t)

pub returns-in-Ended-clause-keeps : goal.returns-in-Ended-clause-keeps
returns-in-Ended-clause-keeps g c t = keeps_none
