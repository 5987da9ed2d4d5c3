use Rattle.stage1.proofs.Causes.{by_spawn}
use Rattle.folder_building.proofs.Working.{worked_none}
use Rattle.stage1.proofs.Noted.{stays_none}
use Rattle.stage1.proofs.OneEnd.{waited_done, waited_refused}
use Rattle.stage1.proofs.Keeping.{keeps_none}
use Rattle.stage1.proofs.ending.wait_app.Goals as goal

pub wait_for-requires : goal.wait_for-requires
wait_for-requires g c = record { may = λ t s. record { root = c.args.app.now.root; started = (c.requires.started s).last; runs = (c.requires.may t).may.runs } }

pub returns-in-Err-note_status-clause-waited : goal.returns-in-Err-note_status-clause-waited
returns-in-Err-note_status-clause-waited g c = waited_done c.args.child c.in-Ok.status c.in-Ok.ensures.asked

pub returns-in-Err-clause-worked : goal.returns-in-Err-clause-worked
returns-in-Err-clause-worked g c = worked_none

pub returns-in-Err-clause-stays : goal.returns-in-Err-clause-stays
returns-in-Err-clause-stays g c t = stays_none

pub returns-in-Err-clause-cause : goal.returns-in-Err-clause-cause
returns-in-Err-clause-cause g c =
    let D = g.D.Dir in
    let S = g.S.Spawner in
    let d = D.shown c.args.dir.now in
    by_spawn D.observed c.in-Err.fault d d (S.shown c.args.spawner.now) (S.shown c.wait_for.new.spawner) c.in-Err.ensures.cause

pub returns-in-Err-clause-waited : goal.returns-in-Err-clause-waited
returns-in-Err-clause-waited g c = waited_refused c.args.child c.in-Err.ensures.refused

pub returns-in-Err-clause-keeps : goal.returns-in-Err-clause-keeps
returns-in-Err-clause-keeps g c t = keeps_none
